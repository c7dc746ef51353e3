-- What the run says of each site's diner, said of its job.
use Rattle.std.proofs.Common.{◌≡◌, ℕ, List, IfOk, Ok, Err, Result, Some, length, map, refl, slice_get, sym, ◌∙◌, ap, subst, inl, inr, arith, vec_len}
use Rattle.std.proofs.lemmas.Result.{IfErr-weaker}
use Rattle.std.proofs.lemmas.Simd.{map-map}
use Rattle.dine_graph.specs.Plan.{SeenPlan, site_count}
use Rattle.dine_rules.specs.declared.events.EventKind.{EventKind}
use Rattle.dine_site_thread.specs.CallLogs.{SeenCallLog}
use Rattle.dine_link.specs.Links.{SeenLink}
use Rattle.dine_site_thread.specs.declared.manner.Manner.{Manner}
use Rattle.dine_token.specs.Fork.{SeenFork}
use Rattle.dine_threads.specs.Runs.{IsWholeRun}
use Rattle.dine_threads.specs.declared.gathered.SiteOut.{SiteOut}
use Rattle.dine_jobs.specs.JobFaults.{AreAsMany, HasCause, HasJobsBack}
use Rattle.dine_jobs.specs.JobRuns.{AreDoneBy}
use Rattle.dine_jobs.specs.declared.done.JobsCause.{JobsCause}
use Rattle.dine_jobs.specs.declared.done.SiteDone.{SiteDone}
use Rattle.dine_jobs.specs.declared.job_diner.JobDiner.{JobDiner}
use Rattle.dine_jobs.proofs.Causes.{cause_holds, in_plan, jobs_back_of}
use Rattle.dine_jobs.proofs.Sites.{done_by, meals_left}
use Rattle.dine_jobs.proofs.runs.run_given.Goals as goal

-- what three facts of a value give together
all_ok : {X E : Type 0} {O P Q S : X → Type 0} (r : Result X E) → ((x : X) → O x → P x → Q x → S x) → IfOk r O → IfOk r P → IfOk r Q → IfOk r S
all_ok (Ok x) all o p q = all x o p q
all_ok (Err e) all o p q = tt

-- a whole run, with its meals, forks and journals written in another way
same_run : (manner : Manner) (plan : SeenPlan) (links : List SeenLink) {ates ates' : List ℕ} {forks forks' : List SeenFork} {journals journals' : List (List EventKind)} → ates ≡ ates' → forks ≡ forks' → journals ≡ journals'
    → IsWholeRun manner plan ates links forks journals → IsWholeRun manner plan ates' links forks' journals'
same_run manner plan links {ates' = ates'} {forks = forks} {forks' = forks'} {journals = journals} a f j run =
    subst (IsWholeRun manner plan ates' links forks') j (subst (λ x. IsWholeRun manner plan ates' links x journals) f (subst (λ x. IsWholeRun manner plan x links forks journals) a run))

pub run_with_doorbells-ran-requires-clause-room : goal.run_with_doorbells-ran-requires-clause-room
run_with_doorbells-ran-requires-clause-room g c κs within = λ many s diner at. omega (arith, ap (λ (log : SeenCallLog). log.room) (c.in-Ok-Ok.ensures.logs s diner at))

pub open_diners-requires-clause-sized : goal.open_diners-requires-clause-sized
open_diners-requires-clause-sized g c κs within = ap (λ values. vec_len values.cells) c.in-Ok-new.ensures.ok ∙ c.in-Ok.ensures.cells ∙ c.requires.values

pub run_with_doorbells-ran-requires-clause-expected : goal.run_with_doorbells-ran-requires-clause-expected
run_with_doorbells-ran-requires-clause-expected g c κs within = λ many s diner at. (sym (c.in-Ok-Ok.ensures.sites s diner at), sym c.requires.plan, c.in-Ok-Ok.ensures.expected s diner at)

pub returns-in-Ok-ran-clause-ok : goal.returns-in-Ok-ran-clause-ok
returns-in-Ok-ran-clause-ok g c =
    let Diner = JobDiner g.row.T.Denot g.row.J.Denot g.row.K.Denot g.row.J-Fault.Denot g.J.Job g.K.Given in
    let Left = SiteDone g.row.J.Denot g.row.J-Fault.Denot in
    let left : SiteOut Diner → Left = λ out. record { site = record { 0 = out.diner.site }; job = out.diner.job; log = out.diner.log; failures = out.diner.failures; journal = out.journal; checks = out.checks } in
    let journal : Left → List EventKind = λ site. site.journal.items in
    let manner = c.args.options.manner in
    let plan = c.args.plan.now in
    let jobs = c.args.jobs.items in
    let diners = c.in-Ok-Ok.diners.items in
    let run = c.in-Ok-ran.ensures.ok in
    let outs = c.in-Ok-ran.gathered.sites.items in
    let links = c.in-Ok-ran.gathered.links.items in
    let cells = ap (λ values. vec_len values.cells) c.in-Ok-new.ensures.ok ∙ c.in-Ok.ensures.cells ∙ c.requires.values in
    let many : length diners ≡ site_count plan = omega (arith, c.in-Ok-Ok.ensures.many, c.in-Ok-Ok.diners.ok.0) in
    let ran = λ (d : Diner) (first : g.row.J.Denot) (at : slice_get jobs d.site ≡ Some first). d.ran first (ap (λ given. slice_get given d.site) (sym c.requires.given) ∙ at) in
    let all = done_by g.J.Job.after c.args.options.manner plan jobs (λ (d : Diner). d.job) (λ (d : Diner). d.log) (λ (d : Diner). d.failures) (λ (d : Diner). d.site) ran (λ (d : Diner). d.failed) _ (λ d. refl) (λ d. refl)
    diners outs c.in-Ok-Ok.ensures.logs c.in-Ok-Ok.ensures.sites many run.sites run.finished in
    let meals = meals_left g.J.Job.after c.args.options.manner plan jobs (λ (d : Diner). d.job) (λ (d : Diner). d.log) (λ (d : Diner). d.failures) (λ (d : Diner). d.site) ran (λ (d : Diner). d.failed) _ (λ d. refl) (λ d. refl)
    diners outs c.in-Ok-Ok.ensures.logs c.in-Ok-Ok.ensures.sites many run.sites in
    all_ok c.finish.result
    (λ done values_back values_belong is. record {
      many = (c.requires.values, c.requires.jobs);
      values_back = values_back ∙ cells;
      values_belong = values_belong;
      sites = subst (AreDoneBy g.J.Job.after c.args.options.manner plan jobs) (sym is.0) all;
      links = links;
      whole = same_run manner plan links (meals ∙ ap (map (λ (site : Left). length site.log.calls)) (sym is.0)) (ap (λ forks. forks.items) (sym is.1)) (sym (ap (map journal) is.0 ∙ map-map journal left outs)) run.whole;
    })
    c.finish.ensures.values
    c.finish.ensures.edges
    c.finish.ensures.left

pub returns-in-Ok-ran-clause-fault : goal.returns-in-Ok-ran-clause-fault
returns-in-Ok-ran-clause-fault g c =
    IfErr-weaker c.finish.result _ _ (λ fault kept. subst (λ cause. HasCause c.args.plan.now c.args.values c.args.jobs cause fault) (sym kept) (c.requires.values, c.requires.jobs)) c.finish.ensures.kept

pub returns-clause-fault : goal.returns-clause-fault
returns-clause-fault g c =
    let plan = c.args.plan.now in
    let left = c.fault_of_shared-2.result in
    let many : AreAsMany plan c.args.values c.args.jobs = (c.requires.values, c.requires.jobs) in
    let cells = ap (λ values. vec_len values.cells) c.in-Ok-new.ensures.ok ∙ c.in-Ok.ensures.cells ∙ c.requires.values in
    let is = c.in-Err-ran.ensures.fault in
    let tells : JobsCause → Type 0 = λ cause. HasCause plan c.args.values c.args.jobs cause left in
    elim c.fault_of_shared-2.ensures [
      | inl kept ↦ subst tells (sym kept) many
      | inr failed ↦
          let back = jobs_back_of _ c.args.options.manner plan c.in-Ok-Ok.diners left.jobs c.in-Err-ran.fault is (λ site joined same. ap vec_len failed.2 ∙ c.jobs_of.ensures site joined same) in
          subst tells (sym (failed.0 ∙ c.cause_of-cause.ensures)) (cause_holds plan c.args.values c.args.jobs left many (failed.1 ∙ cells) c.from.result
          (λ site fault same. in_plan _ c.args.options.manner plan c.in-Ok-Ok.diners c.in-Err-ran.fault is site fault (sym c.from.ensures ∙ same))
          (subst (λ cause. HasJobsBack plan cause left.jobs) (sym c.from.ensures) back))
    ]
