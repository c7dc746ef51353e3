use Rattle.std.proofs.Common.{inl, inr, refl, sym, ◌∙◌}
use Rattle.dine_states.proofs.waits.add_wait.Goals as goal

pub returns-then-is_ready : goal.returns-then-is_ready
returns-then-is_ready c state is = inl (sym (c.is_ready.ensures state is) ∙ c.if-is_ready.true, refl)

pub returns : goal.returns
returns c state is =
    let kept = sym (c.is_ready.ensures state is) ∙ c.if-is_ready.false in
    inr (kept, (c.wait_at.result, c.in_ok-push.ensures.items, c.wait_at.ensures.place, c.wait_at.ensures.is state is kept))
