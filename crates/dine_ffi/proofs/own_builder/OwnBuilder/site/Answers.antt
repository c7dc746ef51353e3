use mir.Syntax.{w64}
use mir.Val.{SFits}
use Rattle.std.proofs.Common.{rules, ℤ, sym, ap, subst, inl}
use Rattle.std.proofs.lemmas.Int.{to_z-of_z}
use Rattle.dine_draft.specs.declared.plan_fault.PlanFault.TheVariants as fault
use Rattle.dine_ffi.specs.Builders.{AddsSiteOrRefuses}
use Rattle.dine_ffi.proofs.Built.{site_is_refused}
use Rattle.dine_ffi.proofs.own_builder.OwnBuilder.site.Goals as goal

pub returns-in_default : goal.returns-in_default
returns-in_default c =
    let result = c.plan_status.result in
    let fits : SFits w64 result = search rules in
    subst (λ (r : ℤ). AddsSiteOrRefuses c.args.name.now c.args.jobs r c.args.self.now c.args.self.now) (sym (to_z-of_z w64 result fits))
    (site_is_refused c.args.name.now c.args.jobs (fault.BadName c.site_count.result) result c.args.self.now c.plan_status.ensures.refused
    (inl (c.in_default.ensures.cases.0, ap fault.BadName c.site_count.ensures)) c.plan_status.ensures.status)
