-- What was gathered has the rows of the plan, and a fault is the one that `run` returned.
use Rattle.std.proofs.Common.{◌≡◌, ◌≢◌, ◌∙◌, refl, Result, Ok, Err, IfErr, IsErrAnd, length, vec_items, vec_len, ap, subst, sym, arith}
use Rattle.std.specs.Global.{Vec}
use Rattle.dine_graph.specs.Plan.{SeenPlan, site_count}
use Rattle.dine_site_thread.specs.declared.manner.Manner.{Manner}
use Rattle.dine_site_thread.specs.declared.manner.Manner.TheVariants.{Patient}
use Rattle.dine.specs.declared.run_text.TheConstants.{RUN_PATIENCE}
use Rattle.dine_threads.specs.Gathered.{AreOutsOf}
use Rattle.dine_threads.specs.declared.options.RunOptions.{RunOptions}
use Rattle.dine_threads.specs.Headline.{FaultIs}
use Rattle.dine_threads.specs.declared.gathered.RunFault.{RunFault}
use Rattle.dine_threads.specs.declared.gathered.RunFault.TheVariants as run
use Rattle.dine.specs.FaultLines.{fault_of_run}
use Rattle.dine.specs.PlanDiners.{SeenPlanDiner, plan_diner}
use Rattle.dine.specs.Run.{NamesSite, IsFaultOfRun, diners_of}
use Rattle.dine.specs.declared.fault_lines.Fault.{Fault}
use Rattle.dine.specs.declared.fault_lines.Fault.TheVariants as fault
use Rattle.dine.proofs.RunLemmas.{diner_count, diner_expects, diner_has_room, due_rows}
use Rattle.dine.proofs.run_text.run_over.Goals as goal

-- a fault of `run` with the diners of a plan names a site of the plan
names : (plan : SeenPlan) (diners : Vec SeenPlanDiner) (returned : RunFault SeenPlanDiner) → vec_len diners ≡ site_count plan
    → FaultIs plan_diner (Patient RUN_PATIENCE) plan diners returned → fault_of_run returned ≢ fault.OutOfMemory → NamesSite plan (fault_of_run returned)
names plan diners (run.DinersDiffer given back) many is other = absurd (is.2 many)
names plan diners run.Memory many is other = absurd (other refl)
names plan diners (run.Thread site) many is other = is.1
names plan diners (run.Broken site joined) many is other = omega (arith, is.2.count, is.3.within)

names_made : {T : Type 0} (r : Result T Fault) (plan : SeenPlan) (diners : Vec SeenPlanDiner) (returned : RunFault SeenPlanDiner) → IsErrAnd r (λ made. made ≡ fault_of_run returned) → vec_len diners ≡ site_count plan
    → FaultIs plan_diner (Patient RUN_PATIENCE) plan diners returned → r ≢ Err fault.OutOfMemory → IfErr r (NamesSite plan)
names_made (Ok x) plan diners returned same many is other = tt
names_made (Err made) plan diners returned same many is other = subst (NamesSite plan) (sym same) (names plan diners returned many is (λ memory. other (ap Err (same ∙ memory))))

-- and it is a fault of such a run
of_run : {T : Type 0} (r : Result T Fault) (plan : SeenPlan) (diners : Vec SeenPlanDiner) (returned : RunFault SeenPlanDiner) → IsErrAnd r (λ made. made ≡ fault_of_run returned) → diners.items ≡ diners_of plan
    → FaultIs plan_diner (Patient RUN_PATIENCE) plan diners returned → IfErr r (IsFaultOfRun plan)
of_run (Ok x) plan diners returned same of_plan is = tt
of_run (Err made) plan diners returned same of_plan is = record { diners = diners; of_plan = of_plan; returned = returned; may_return = is; is_same = same }

pub run_with-requires-clause-room : goal.run_with-requires-clause-room
run_with-requires-clause-room g c κs within many s diner at = diner_has_room c.args.plan.now c.in_ok-diners.diners.items c.in_ok-diners.ensures.diners s diner at

pub run_with-requires-clause-expected : goal.run_with-requires-clause-expected
run_with-requires-clause-expected g c κs within many s diner at = diner_expects c.args.plan.now c.in_ok-diners.diners.items c.in_ok-diners.ensures.diners s diner at

pub table_text-requires : goal.table_text-requires
table_text-requires g c =
    let gathered = c.in_ok-gathered.gathered in
    let manner = ap (λ (options : RunOptions). options.manner) c.patience-options.ensures in
    let sites = subst (λ (m : Manner). AreOutsOf plan_diner m c.args.plan.now c.in_ok-diners.diners.items (vec_items gathered.sites)) manner c.in_ok-gathered.ensures.ok.sites in
    due_rows c.args.plan.now (vec_items gathered.forks) (vec_items gathered.sites) (vec_items gathered.links) c.in_ok-diners.diners.items c.in_ok-diners.ensures.diners c.open_diners.ensures.plan c.in_ok-gathered.ensures.ok.whole.headline sites c.in_ok-gathered.ensures.ok.finished c.values_are_those_of_the_logs.ensures.added_up

pub returns-in_err-gathered-clause-fault : goal.returns-in_err-gathered-clause-fault
returns-in_err-gathered-clause-fault g c other =
    let plan = c.args.plan.now in
    let diners = c.in_ok-diners.diners in
    let many : vec_len diners ≡ site_count plan = omega (arith, diners.ok.0, ap length c.in_ok-diners.ensures.diners, diner_count plan) in
    let manner = ap (λ (options : RunOptions). options.manner) c.patience-options.ensures in
    let fault = subst (λ (m : Manner). FaultIs plan_diner m plan diners c.in_err-gathered.field-0.0) manner c.in_err-gathered.ensures.fault in
    names_made c.from_residual-in_err-gathered.result plan diners c.in_err-gathered.field-0.0 c.from_residual-in_err-gathered.ensures.1 many fault other

pub returns-in_err-gathered-clause-cause : goal.returns-in_err-gathered-clause-cause
returns-in_err-gathered-clause-cause g c _ =
    let manner = ap (λ (options : RunOptions). options.manner) c.patience-options.ensures in
    let fault = subst (λ (m : Manner). FaultIs plan_diner m c.args.plan.now c.in_ok-diners.diners c.in_err-gathered.field-0.0) manner c.in_err-gathered.ensures.fault in
    of_run c.from_residual-in_err-gathered.result c.args.plan.now c.in_ok-diners.diners c.in_err-gathered.field-0.0 c.from_residual-in_err-gathered.ensures.1 c.in_ok-diners.ensures.diners fault
