use Rattle.std.proofs.Common.{◌≡◌, ℕ, Bool, true, ◌&&◌, ◌==◌, sym, ◌∙◌, ap, subst}
use Rattle.std.proofs.lemmas.Bool.{eq-eqb}
use Rattle.dine_token.specs.Log.{is_dirty}
use Rattle.dine_rules.specs.Holdings.{fork_at, hand_at, token_at}
use Rattle.dine_rules.specs.Letters.{forks_in}
use Rattle.dine_rules.specs.Links.{queue_to}
use Rattle.dine_rules.specs.World.{place_of, state_of}
use Rattle.dine_states.specs.Waits.{keeps_by}
use Rattle.dine_states.proofs.Reading.{few_coming, few_forks, few_tokens}
use Rattle.dine_states.proofs.Waiting.{none_of, owed}
use Rattle.dine_states.proofs.waits.cause_at.Goals as goal

pub returns-then-holds_fork : goal.returns-then-holds_fork
returns-then-holds_fork c state is kept =
    let plan = c.args.plan.now in
    let end = c.args.end in
    let st = state_of state end.site in
    owed (fork_at plan end.site st end.place) (token_at plan end.site st end.place) (is_dirty (hand_at end.site st end.place)) (few_tokens plan state end is.reached c.requires)
    (sym (c.holds_fork.ensures state is) ∙ c.if-holds_fork.true) kept

pub returns-then-is_fork_coming : goal.returns-then-is_fork_coming
returns-then-is_fork_coming c state is kept = sym (c.is_fork_coming.ensures state is) ∙ c.if-is_fork_coming.true

pub returns-then-holds_token : goal.returns-then-holds_token
returns-then-holds_token c state is kept =
    let plan = c.args.plan.now in
    let end = c.args.end in
    let st = state_of state end.site in
    ap (λ (b : Bool). b && fork_at plan end.site st end.place == 0) (sym (c.holds_token.ensures state is) ∙ c.if-holds_token.true)
    ∙ eq-eqb (fork_at plan end.site st end.place) 0 (none_of (fork_at plan end.site st end.place) (few_forks plan state end is.reached c.requires) (sym (c.holds_fork.ensures state is) ∙ c.if-holds_fork.false))

pub new-requires-clause-site : goal.new-requires-clause-site
new-requires-clause-site c = c.requires.neighbour_site

pub new-requires-clause-edge : goal.new-requires-clause-edge
new-requires-clause-edge c = c.requires.edge

pub new-requires-clause-end : goal.new-requires-clause-end
new-requires-clause-end c = c.requires.neighbour_end

pub returns : goal.returns
returns c state is kept =
    let plan = c.args.plan.now in
    let end = c.args.end in
    let st = state_of state end.site in
    let other = c.new.result in
    let found = c.cause_across.ensures state is
    (none_of (fork_at plan end.site st end.place) (few_forks plan state end is.reached c.requires) (sym (c.holds_fork.ensures state is) ∙ c.if-holds_fork.false))
    (none_of (forks_in (queue_to plan state end.site end.place)) (few_coming plan state end is.reached c.requires) (sym (c.is_fork_coming.ensures state is) ∙ c.if-is_fork_coming.false))
    (none_of (token_at plan end.site st end.place) (few_tokens plan state end is.reached c.requires) (sym (c.holds_token.ensures state is) ∙ c.if-holds_token.false)) in
    subst (λ (o : ℕ). keeps_by plan state end.site end.place o (place_of plan o end.edge) c.cause_across.result ≡ true) c.new.ensures.site
    (subst (λ (j : ℕ). keeps_by plan state end.site end.place other.site j c.cause_across.result ≡ true) (sym c.new.ensures.is.only_at ∙ ap (place_of plan other.site) c.new.ensures.edge) found)
