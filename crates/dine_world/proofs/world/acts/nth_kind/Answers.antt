use Rattle.std.proofs.Common.{arith, sym, ◌∙◌}
use Rattle.dine_site.proofs.shared.lists.Options.{none_from}
use Rattle.dine_set.proofs.shared.NthPosition.{nth_position-None}
use Rattle.dine_world.proofs.world.acts.nth_kind.Goals as goal

pub overflow_sub-n : goal.overflow_sub-n
overflow_sub-n c = omega (arith, c.len.ensures.value, nth_position-None (λ b. b) c.args.n c.args.nonempty_inboxes (sym c.nth.ensures.value ∙ none_from c.nth.result c.in_default.not-Some))
