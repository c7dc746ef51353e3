use Rattle.std.proofs.Common.{Bool, ◌&&◌, ◌||◌, ◌==◌, not, sym, ◌∙◌, ap}
use Rattle.std.proofs.lemmas.Bool.{eqb-true}
use Rattle.dine_token.specs.Log.{is_dirty}
use Rattle.dine_rules.specs.Holdings.{hand_at, token_at}
use Rattle.dine_rules.specs.World.{state_of}
use Rattle.dine_states.proofs.Reading.{few_tokens}
use Rattle.dine_states.proofs.Waiting.{zero_unless}
use Rattle.dine_states.proofs.waits.is_ready.Goals as goal

pub returns-then-not-holds_fork : goal.returns-then-not-holds_fork
returns-then-not-holds_fork c state is =
    let plan = c.args.plan.now in
    let end = c.args.end in
    let st = state_of state end.site in
    sym (ap (λ (b : Bool). b && (not (is_dirty (hand_at end.site st end.place)) || token_at plan end.site st end.place == 0)) (sym (c.holds_fork.ensures state is) ∙ c.if-not-holds_fork.true))

pub returns-then-not-is_dirty : goal.returns-then-not-is_dirty
returns-then-not-is_dirty c state is =
    let plan = c.args.plan.now in
    let end = c.args.end in
    let st = state_of state end.site in
    let here = sym (c.holds_fork.ensures state is) ∙ c.if-not-holds_fork.false in
    sym (ap (λ (b : Bool). b && (not (is_dirty (hand_at end.site st end.place)) || token_at plan end.site st end.place == 0)) here
    ∙ ap (λ (b : Bool). not b || token_at plan end.site st end.place == 0) (sym (c.is_dirty.ensures state is (eqb-true _ _ here)) ∙ c.if-not-is_dirty.true))

pub returns : goal.returns
returns c state is =
    let plan = c.args.plan.now in
    let end = c.args.end in
    let st = state_of state end.site in
    let here = sym (c.holds_fork.ensures state is) ∙ c.if-not-holds_fork.false in
    ap not (c.holds_token.ensures state is) ∙ zero_unless (token_at plan end.site st end.place) (few_tokens plan state end is.reached c.requires)
    ∙ sym (ap (λ (b : Bool). b && (not (is_dirty (hand_at end.site st end.place)) || token_at plan end.site st end.place == 0)) here
    ∙ ap (λ (b : Bool). not b || token_at plan end.site st end.place == 0) (sym (c.is_dirty.ensures state is (eqb-true _ _ here)) ∙ c.if-not-is_dirty.false))
