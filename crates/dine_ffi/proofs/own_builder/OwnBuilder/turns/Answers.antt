use Rattle.std.proofs.Common.{ap, ◌∙◌}
use Rattle.dine_ffi.specs.Builders.{ends_in, names_in}
use Rattle.dine_ffi.proofs.Built.{ends_after_turns, names_after_turns, still_kept}
use Rattle.dine_ffi.proofs.own_builder.OwnBuilder.turns.Goals as goal

pub invariant_of-self : goal.invariant_of-self
invariant_of-self c = still_kept c.self.inside c.turns.new.self (ap names_in c.turns.ensures.changed ∙ names_after_turns c.args.site c.args.k c.args.turns c.self.inside.builder) (ap ends_in c.turns.ensures.changed ∙ ends_after_turns c.args.site c.args.k c.args.turns c.self.inside.builder) c.self.invariant
