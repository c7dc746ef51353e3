-- One diner more.
use Rattle.std.proofs.Common.{◌≡◌, ◌∙◌, length, map, slice_get, refl, sym, ap, subst, arith, vec_items}
use Rattle.std.specs.Vec.Iter.{into_iter_items}
use Rattle.std.proofs.lemmas.List.{length-map}
use Rattle.dine_graph.specs.Plan.{job_count}
use Rattle.dine_site_thread.specs.CallLogs.{SeenCallLog, no_calls}
use Rattle.dine_threads.proofs.shared.lists.Zips.{mapped_split}
use Rattle.dine_threads.proofs.shared.all_sites.Collected.{each_more}
use Rattle.dine_jobs.specs.JobRuns.{HasRun, failed_numbers, numbers_of}
use Rattle.dine_jobs.specs.declared.job_diner.JobDiner.{JobDiner}
use Rattle.dine_jobs.proofs.Lists.{at_place, there_at}
use Rattle.dine_jobs.proofs.job_diner.open_diners.Goals as goal

pub invariant_of-push_reserved-clause-room : goal.invariant_of-push_reserved-clause-room
invariant_of-push_reserved-clause-room g c =
    omega (arith, c.in_ok-failures.ensures.len, c.in_ok-failures.ensures.capacity, ap (λ (log : SeenCallLog). log.room) c.in_ok-log.ensures, c.jobs.ensures.count, c.jobs-in-loop-site.ensures.count)

pub invariant_of-push_reserved-clause-failed : goal.invariant_of-push_reserved-clause-failed
invariant_of-push_reserved-clause-failed g c =
    ap numbers_of c.in_ok-failures.ensures.items ∙ sym (ap (λ (log : SeenCallLog). failed_numbers log.calls) c.in_ok-log.ensures)

pub invariant_of-push_reserved-clause-ran : goal.invariant_of-push_reserved-clause-ran
invariant_of-push_reserved-clause-ran g c first at =
    let job_of : JobDiner g.row.T.Denot g.row.J.Denot g.row.K.Denot g.row.J-Fault.Denot g.J.Job g.K.Given → g.row.J.Denot = λ diner. diner.job in
    let opened = vec_items c.loop-site.diners in
    let next = rw c.unwrap-job.ensures at c.next.ensures.cases in
    let many = length-map opened job_of ∙ sym c.loop-site.diners.ok.0 ∙ c.loop-site.invariant.number in
    let same = at_place (map job_of opened) (into_iter_items c.loop-site.waiting) (into_iter_items c.next.new.self) (vec_items c.args.jobs) c.unwrap-job.result first c.loop-site.site c.loop-site.invariant.jobs next.0 many (ap (λ jobs. slice_get jobs c.loop-site.site) c.requires.given ∙ at) in
    ∣ subst (λ calls. HasRun g.J.Job.after first calls c.unwrap-job.result) (sym (ap (λ (log : SeenCallLog). log.calls) c.in_ok-log.ensures)) same ∣₁

pub loop-site-preserved : goal.loop-site-preserved
loop-site-preserved g c =
    let Diner = JobDiner g.row.T.Denot g.row.J.Denot g.row.K.Denot g.row.J-Fault.Denot g.J.Job g.K.Given in
    let plan = c.args.plan.now in
    let was = c.loop-site.invariant in
    let old = vec_items c.loop-site.diners in
    let new = vec_items c.push_reserved.new.self in
    let grown = c.push_reserved.ensures.items in
    let next = rw c.unwrap-job.ensures at c.next.ensures.cases in
    let number : c.loop-site.site ≡ length old = omega (arith, was.number, c.loop-site.diners.ok.0) in
    let job_of : Diner → g.row.J.Denot = λ d. d.job in
    let there = there_at (map job_of old) (into_iter_items c.loop-site.waiting) (into_iter_items c.next.new.self) (vec_items c.args.jobs) c.unwrap-job.result (length old) was.jobs next.0 (length-map old job_of) in
    record {
      number = omega (arith, was.number, c.push_reserved.ensures.len);
      room = omega (arith, was.room, c.push_reserved.ensures.capacity);
      jobs = mapped_split (λ (d : Diner). d.job) old new _ c.unwrap-job.result (into_iter_items c.loop-site.waiting) (into_iter_items c.next.new.self) (vec_items c.args.jobs) grown next.0 refl was.jobs;
      sites = each_more (λ s (d : Diner). d.site ≡ s) old new _ grown was.sites number;
      expected = each_more (λ s (d : Diner). g.J.Job.expects d.job plan s) old new _ grown was.expected (c.requires.expected _ c.unwrap-job.result there);
      logs = each_more (λ s (d : Diner). d.log ≡ no_calls (job_count plan s)) old new _ grown was.logs (c.in_ok-log.ensures ∙ ap no_calls (c.jobs.ensures.count ∙ ap (job_count plan) number));
    }
