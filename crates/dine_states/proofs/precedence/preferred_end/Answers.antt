use Rattle.std.proofs.Common.{sym, ◌∙◌, ap}
use Rattle.std.specs.Option.{option_map}
use Rattle.dine_states.proofs.Forks.{clean_case, high_case, low_case, none_read, preferred_read}
use Rattle.dine_states.proofs.precedence.preferred_end.Goals as goal

pub returns-in_err-fork : goal.returns-in_err-fork
returns-in_err-fork c plan world is =
    c.from_residual.ensures ∙ none_read plan world c.args.edge (sym (c.fork.ensures plan world is) ∙ ap (option_map (λ x. x.now)) c.in_err-fork.was)

pub returns-then-not-is_dirty : goal.returns-then-not-is_dirty
returns-then-not-is_dirty c plan world is =
    let fork = c.in_ok-fork.fork.now in
    preferred_read plan world c.args.edge fork _ (sym (c.fork.ensures plan world is) ∙ ap (option_map (λ x. x.now)) c.in_ok-fork.was)
    (c.at-at.ensures.at ∙ clean_case fork (sym c.is_dirty.ensures.dirty ∙ c.if-not-is_dirty.true))

pub returns-then-at-lower : goal.returns-then-at-lower
returns-then-at-lower c plan world is =
    let fork = c.in_ok-fork.fork.now in
    preferred_read plan world c.args.edge fork _ (sym (c.fork.ensures plan world is) ∙ ap (option_map (λ x. x.now)) c.in_ok-fork.was)
    (ap (λ p. p.1) c.ends-lower.ensures.ends ∙ low_case fork (sym c.is_dirty.ensures.dirty ∙ c.if-not-is_dirty.false) (sym c.at-at.ensures.at ∙ c.if-at-lower.true ∙ ap (λ p. p.0) c.ends-lower.ensures.ends))

pub returns-else-at-lower : goal.returns-else-at-lower
returns-else-at-lower c plan world is =
    let fork = c.in_ok-fork.fork.now in
    preferred_read plan world c.args.edge fork _ (sym (c.fork.ensures plan world is) ∙ ap (option_map (λ x. x.now)) c.in_ok-fork.was)
    (ap (λ p. p.0) c.ends-lower.ensures.ends ∙ high_case fork (sym c.is_dirty.ensures.dirty ∙ c.if-not-is_dirty.false) (λ h. c.if-at-lower.false (c.at-at.ensures.at ∙ h ∙ sym (ap (λ p. p.0) c.ends-lower.ensures.ends))))
