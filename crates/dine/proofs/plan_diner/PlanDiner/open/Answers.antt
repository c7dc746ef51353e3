use Rattle.std.proofs.Common.{◌≡◌, ◌+◌, ◌-◌, ◌<◌, ◌∷◌, ◌++◌, ℕ, Bool, false, List, [], map, length, take, get_or, slice_index_or, sym, ◌∙◌, ap, arith, rules}
use Rattle.std.proofs.Math.Nat.{add-sub_cancel}
use Rattle.std.proofs.lemmas.List.{take_more, map-append, get_or-map, length-map}
use Rattle.dine_graph.specs.Job.{seen_plan_job}
use Rattle.dine_graph.specs.Plan.{SeenJob, jobs_of, no_job, job_count}
use Rattle.dine.specs.PlanDiners.{fails_of}
use Rattle.dine.specs.declared.plan_diner.Chore.{Chore}
use Rattle.dine.proofs.plan_diner.PlanDiner.open.Goals as goal

-- the mark of one job more
marks_more : (jobs : List SeenJob) (done : ℕ) (job : SeenJob) → done < length jobs → job ≡ slice_index_or jobs (done + 1 - 1) no_job
    → take (done + 1) (map (λ (j : SeenJob). j.fails) jobs) ≡ take done (map (λ (j : SeenJob). j.fails) jobs) ++ job.fails ∷ []
marks_more jobs done job within is =
    let fails : SeenJob → Bool = λ (j : SeenJob). j.fails in
    let mark : get_or (map fails jobs) done false ≡ job.fails =
    get_or-map fails jobs done no_job false within ∙ ap (λ (i : ℕ). fails (slice_index_or jobs i no_job)) (sym (add-sub_cancel done 1)) ∙ ap fails (sym is) in
    take_more (map fails jobs) done false (omega (arith, length-map jobs fails)) ∙ ap (λ (m : Bool). take done (map fails jobs) ++ m ∷ []) mark

pub loop-done-preserved : goal.loop-done-preserved
loop-done-preserved c =
    let fails : Chore → Bool = λ (chore : Chore). chore.fails in
    let marks : List Bool = fails_of c.args.plan.now c.args.site in
    let within : c.loop-done.done < job_count c.args.plan.now c.args.site = omega (arith, c.loop-done-test.true, c.jobs-jobs.ensures.count) in
    record {
      marks = ap (map fails) c.push_reserved.ensures.items ∙ map-append fails c.loop-done.chores.items _ ∙ ap (λ (l : List Bool). l ++ c.job-job.result.fails ∷ []) c.loop-done.invariant.marks
          ∙ sym (marks_more (jobs_of c.args.plan.now c.args.site) c.loop-done.done (seen_plan_job c.job-job.result) within c.job-job.ensures.job);
      count = search rules;
      room = search rules;
    }
