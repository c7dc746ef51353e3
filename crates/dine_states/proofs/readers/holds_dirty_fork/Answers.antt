use Rattle.std.proofs.Common.{Bool, ◌&&◌, sym, ◌∙◌, ap}
use Rattle.std.proofs.lemmas.Bool.{eqb-true}
use Rattle.dine_token.specs.Log.{is_dirty}
use Rattle.dine_rules.specs.Holdings.{hand_at}
use Rattle.dine_rules.specs.World.{state_of}
use Rattle.dine_states.proofs.readers.holds_dirty_fork.Goals as goal

pub returns-then-not-holds_fork : goal.returns-then-not-holds_fork
returns-then-not-holds_fork c state is =
    let end = c.args.end in
    sym (ap (λ (b : Bool). b && is_dirty (hand_at end.site (state_of state end.site) end.place)) (sym (c.holds_fork.ensures state is) ∙ c.if-not-holds_fork.true))

pub returns : goal.returns
returns c state is =
    let end = c.args.end in
    let here = sym (c.holds_fork.ensures state is) ∙ c.if-not-holds_fork.false in
    c.is_dirty.ensures state is (eqb-true _ _ here) ∙ sym (ap (λ (b : Bool). b && is_dirty (hand_at end.site (state_of state end.site) end.place)) here)
