use Rattle.std.proofs.Common.{ap, ◌∙◌}
use Rattle.dine_ffi.specs.Builders.{ends_in, names_in}
use Rattle.dine_ffi.proofs.Built.{names_after_resigning, still_kept}
use Rattle.dine_ffi.proofs.own_builder.OwnBuilder.resign.Goals as goal

pub invariant_of-self : goal.invariant_of-self
invariant_of-self c = still_kept c.self.inside c.resign.new.self (ap names_in c.resign.ensures.changed ∙ names_after_resigning c.args.site c.self.inside.builder) (ap ends_in c.resign.ensures.changed) c.self.invariant
