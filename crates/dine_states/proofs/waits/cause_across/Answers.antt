use Rattle.std.proofs.Common.{◌==◌, not, sym, ◌∙◌, ap}
use Rattle.std.proofs.lemmas.Bool.{eq-eqb, eqb-true}
use Rattle.dine_token.specs.Log.{is_dirty}
use Rattle.dine_rules.specs.Holdings.{fork_at, hand_at, token_at}
use Rattle.dine_rules.specs.Letters.{requests_in}
use Rattle.dine_rules.specs.Links.{queue_to}
use Rattle.dine_rules.specs.Local.{is_eating}
use Rattle.dine_rules.specs.World.{state_of}
use Rattle.dine_states.proofs.JointStates.{fork_there, request_sent}
use Rattle.dine_states.proofs.Reading.{and_both, few_tokens}
use Rattle.dine_states.proofs.Waiting.{none_of}
use Rattle.dine_states.proofs.waits.cause_across.Goals as goal

pub returns-then-not-holds_token : goal.returns-then-not-holds_token
returns-then-not-holds_token c state is no_fork none_coming no_token =
    let plan = c.args.plan.now in
    let other = c.args.other in
    let none = none_of (token_at plan other.site (state_of state other.site) other.place) (few_tokens plan state other is.reached c.requires.other) (sym (c.holds_token.ensures state is) ∙ c.if-not-holds_token.true) in
    eq-eqb (requests_in (queue_to plan state other.site other.place)) 1 (request_sent plan state is.reached c.args.end other c.requires.end c.requires.other c.requires.edge c.requires.site no_fork none_coming no_token none)

pub returns-then-is_eating : goal.returns-then-is_eating
returns-then-is_eating c state is no_fork none_coming no_token =
    let plan = c.args.plan.now in
    let other = c.args.other in
    and_both (token_at plan other.site (state_of state other.site) other.place == 1) (is_eating (state_of state other.site).phase) (sym (c.holds_token.ensures state is) ∙ c.if-not-holds_token.false) (sym (c.is_eating.ensures plan state is) ∙ c.if-is_eating.true)

pub returns-then-is_dirty : goal.returns-then-is_dirty
returns-then-is_dirty c state is no_fork none_coming no_token =
    let plan = c.args.plan.now in
    let other = c.args.other in
    let st = state_of state other.site in
    let token = sym (c.holds_token.ensures state is) ∙ c.if-not-holds_token.false in
    let fork = fork_there plan state is.reached c.args.end other c.requires.end c.requires.other c.requires.edge c.requires.site no_fork none_coming (eqb-true _ _ token) in
    and_both _ (not (is_eating st.phase)) (and_both _ (is_dirty (hand_at other.site st other.place)) (and_both _ (fork_at plan other.site st other.place == 1) token (eq-eqb (fork_at plan other.site st other.place) 1 fork))
    (sym (c.is_dirty.ensures state is fork) ∙ c.if-is_dirty.true)) (ap not (sym (c.is_eating.ensures plan state is) ∙ c.if-is_eating.false))

pub returns : goal.returns
returns c state is no_fork none_coming no_token =
    let plan = c.args.plan.now in
    let other = c.args.other in
    let st = state_of state other.site in
    let token = sym (c.holds_token.ensures state is) ∙ c.if-not-holds_token.false in
    let fork = fork_there plan state is.reached c.args.end other c.requires.end c.requires.other c.requires.edge c.requires.site no_fork none_coming (eqb-true _ _ token) in
    and_both _ (not (is_dirty (hand_at other.site st other.place))) (and_both _ (fork_at plan other.site st other.place == 1) token (eq-eqb (fork_at plan other.site st other.place) 1 fork))
    (ap not (sym (c.is_dirty.ensures state is fork) ∙ c.if-is_dirty.false))
