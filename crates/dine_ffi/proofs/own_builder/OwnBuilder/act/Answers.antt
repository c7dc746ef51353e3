use Rattle.std.proofs.Common.{ap, ◌∙◌}
use Rattle.dine_ffi.specs.Builders.{ends_in, names_in}
use Rattle.dine_ffi.proofs.Built.{ends_after_act, names_after_act, still_kept}
use Rattle.dine_ffi.proofs.own_builder.OwnBuilder.act.Goals as goal

pub invariant_of-self : goal.invariant_of-self
invariant_of-self c = still_kept c.self.inside c.act.new.self (ap names_in c.act.ensures.changed ∙ names_after_act c.args.site c.args.k c.act_of.result c.self.inside.builder) (ap ends_in c.act.ensures.changed ∙ ends_after_act c.args.site c.args.k c.act_of.result c.self.inside.builder) c.self.invariant
