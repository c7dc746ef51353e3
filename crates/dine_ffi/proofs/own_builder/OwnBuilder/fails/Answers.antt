use Rattle.std.proofs.Common.{ap, ◌∙◌}
use Rattle.dine_ffi.specs.Builders.{ends_in, names_in}
use Rattle.dine_ffi.proofs.Built.{ends_after_failure, names_after_failure, still_kept}
use Rattle.dine_ffi.proofs.own_builder.OwnBuilder.fails.Goals as goal

pub invariant_of-self : goal.invariant_of-self
invariant_of-self c = still_kept c.self.inside c.fails.new.self (ap names_in c.fails.ensures.changed ∙ names_after_failure c.args.site c.args.k c.self.inside.builder) (ap ends_in c.fails.ensures.changed ∙ ends_after_failure c.args.site c.args.k c.self.inside.builder) c.self.invariant
