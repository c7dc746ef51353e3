use Rattle.std.proofs.Common.{ap, ◌∙◌}
use Rattle.dine_ffi.specs.Builders.{ends_in, names_in}
use Rattle.dine_ffi.proofs.Built.{ends_after_value, still_kept}
use Rattle.dine_ffi.proofs.own_builder.OwnBuilder.value.Goals as goal

pub invariant_of-self : goal.invariant_of-self
invariant_of-self c = still_kept c.self.inside c.value.new.self (ap names_in c.value.ensures.changed) (ap ends_in c.value.ensures.changed ∙ ends_after_value c.args.edge c.from.result c.self.inside.builder) c.self.invariant
