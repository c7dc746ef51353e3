use Rattle.std.proofs.Common.{◌++◌, ◌∷◌, [], List, Some, true, ap, sym, ◌∙◌}
use Rattle.std.proofs.lemmas.List.{append_assoc}
use Rattle.std.proofs.lemmas.Option.{same_Some}
use Rattle.crossbeam_channel.specs.Claims.{view}
use Rattle.crossbeam_channel.specs.Ends.{receives_on}
use Rattle.dine_link.specs.declared.bell_rule.Part.{Part}
use Rattle.dine_link.specs.declared.deed.Deed.{Deed}
use Rattle.dine_link.specs.declared.deed.Deed.TheVariants.{Heard, Slept}
use Rattle.dine_link.specs.Bells.{SeenBell, after_refused_wait}
use Rattle.dine_link.specs.private.BellRule.{reported_by}
use Rattle.dine_link.proofs.BellSteps.{hears, still_own, below_degree, reports}
use Rattle.dine_link.proofs.bell.Bell.wait_for.Goals as goal

pub recv_as-requires-clause-rule : goal.recv_as-requires-clause-rule
recv_as-requires-clause-rule g c = (hears _ _, λ queue views h at. tt)

pub invariant_of-self : goal.invariant_of-self
invariant_of-self g c = record { seated = c.recv_as.ensures.channel.0; own = still_own _ c.recv_as.result c.self.inside.degree _ _ c.recv_as.ensures.rule c.self.invariant.own }

pub invariant_of-self-in_default-recv_as : goal.invariant_of-self-in_default-recv_as
invariant_of-self-in_default-recv_as g c = record { seated = c.recv_as.ensures.channel.0; own = still_own _ c.recv_as.result c.self.inside.degree _ _ c.recv_as.ensures.rule c.self.invariant.own }

pub returns-clause-reported : goal.returns-clause-reported
returns-clause-reported g c = reports c.self.inside c.in-Ok.number (view c.recv_as.new.pass) c.args.self.now (c.self.view_is ∙ c.in_default-fall_asleep.ensures.reported ∙ c.in_default.ensures.reported) c.self.invariant.own c.in-Ok.ensures.rule.1

pub returns-clause-below : goal.returns-clause-below
returns-clause-below g c = below_degree c.self.inside.degree c.in-Ok.number (view c.self.inside.pass) c.self.invariant.own c.in-Ok.ensures.rule.0

pub returns-in_default-recv_as-clause-reported : goal.returns-in_default-recv_as-clause-reported
returns-in_default-recv_as-clause-reported g c =
    let bell = c.self.inside in
    let knows : Part → SeenBell = λ v. record { identity = receives_on bell.receiver; degree = bell.degree; reported = reported_by v; found_empty = bell.empty_checks.at; refused = true } in
    ap knows c.in_default-recv_as.ensures.rule.0 ∙ ap after_refused_wait (c.self.view_is ∙ c.in_default-fall_asleep.ensures.reported ∙ c.in_default.ensures.reported)

pub returns-clause-noted : goal.returns-clause-noted
returns-clause-noted g c = record {
  slept = Some c.args.wants;
  with_these = λ own is. sym (same_Some c.args.wants own is);
  deeds = c.after-2.ensures ∙ ap (λ (ds : List Deed). ds ++ Heard c.in-Ok.number ∷ []) c.in_default-fall_asleep.ensures.slept ∙ append_assoc c.args.log.now.deeds (Slept c.args.wants ∷ []) (Heard c.in-Ok.number ∷ []);
}
