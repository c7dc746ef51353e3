use Rattle.std.proofs.Common.{map, map-id, ap, sym, ◌∙◌, arith}
use Rattle.std.specs.List.{list_any}
use Rattle.std.proofs.lemmas.Iterator.Adapters.{YieldsList-from_vec}
use Rattle.std.proofs.lemmas.Iterator.Consumers.{YieldsList-end}
use Rattle.toml.specs.View.{view}
use Rattle.dine_graph.specs.Job.{seen_job}
use Rattle.dine_reader.specs.PlanOf.{job_in}
use Rattle.dine_reader.specs.RefusalTests.{job_is_wrong}
use Rattle.dine_reader.proofs.ReadLemmas.{each_last, any_last}
use Rattle.dine_reader.proofs.jobs.jobs_in.Goals as goal

pub loop-table-preserved : goal.loop-table-preserved
loop-table-preserved c =
    let was = c.loop-table.invariant in
    let before = c.loop-table.yielded in
    let table = c.in-Some.table in (
      ap (map seen_job) c.in_ok-push.ensures.items ∙ each_last seen_job job_in view c.loop-table.jobs.items c.job_in-job.result.0 before table was.0 c.job_in-job.ensures.job,
      any_last job_is_wrong view c.loop-table.wrong c.job_in-job.result.1 before table was.1 c.job_in-job.ensures.wrong,
    )

pub returns-clause-jobs : goal.returns-clause-jobs
returns-clause-jobs c =
    let given = c.args.tables in
    let same = c.into_iter-table-iterator.ensures.into_iter_gives in
    let all = YieldsList-end (YieldsList-from_vec {s = c.into_iter-table-iterator.result} given.items same.0 (omega (arith, same.1, given.ok.0)))
    c.loop-table.yielded _ c.loop-table.yielded_by _ c.next.new.self c.in-None.is c.next.ensures.steps in
    c.loop-table.invariant.0 ∙ ap (λ tables. map job_in (map view tables)) (sym (map-id c.loop-table.yielded) ∙ all.0)

pub returns-clause-wrong : goal.returns-clause-wrong
returns-clause-wrong c =
    let given = c.args.tables in
    let same = c.into_iter-table-iterator.ensures.into_iter_gives in
    let all = YieldsList-end (YieldsList-from_vec {s = c.into_iter-table-iterator.result} given.items same.0 (omega (arith, same.1, given.ok.0)))
    c.loop-table.yielded _ c.loop-table.yielded_by _ c.next.new.self c.in-None.is c.next.ensures.steps in
    c.loop-table.invariant.1 ∙ ap (λ tables. list_any job_is_wrong (map view tables)) (sym (map-id c.loop-table.yielded) ∙ all.0)
