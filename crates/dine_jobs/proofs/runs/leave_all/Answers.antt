-- One site more, and what is left at the end.
use Rattle.std.proofs.Common.{◌≡◌, ◌++◌, [], List, map, ap, ◌∙◌, arith, vec_items}
use Rattle.std.specs.Vec.Iter.{into_iter_items}
use Rattle.std.proofs.lemmas.List.{nil_from_length}
use Rattle.dine_threads.proofs.shared.all_sites.Collected.{moved_as, none_left}
use Rattle.dine_threads.specs.declared.gathered.SiteOut.{SiteOut}
use Rattle.dine_jobs.specs.declared.job_diner.JobDiner.{JobDiner}
use Rattle.dine_jobs.specs.declared.done.SiteDone.{SiteDone}
use Rattle.dine_jobs.proofs.runs.leave_all.Goals as goal

pub loop-out-preserved : goal.loop-out-preserved
loop-out-preserved g c =
    let left : SiteOut (JobDiner g.row.T.Denot g.row.J.Denot g.row.K.Denot g.row.J-Fault.Denot g.J.Job g.K.Given) → SiteDone g.row.J.Denot g.row.J-Fault.Denot =
    λ out. record { site = record { 0 = out.diner.site }; job = out.diner.job; log = out.diner.log; failures = out.diner.failures; journal = out.journal; checks = out.checks } in
    let was = c.loop-out.invariant in
    record {
      room = omega (arith, was.room, c.push_reserved.ensures.len, c.push_reserved.ensures.capacity, c.in-Some.ensures.steps.1);
      split = moved_as (vec_items c.loop-out.sites) (vec_items c.push_reserved.new.self) c.leave.result (left c.in-Some.out) (map left (into_iter_items c.loop-out.out-iterator)) (map left (into_iter_items c.next.new.self)) _ c.push_reserved.ensures.items c.leave.ensures (ap (map left) c.in-Some.ensures.steps.0) was.split;
    }

pub loop-out-init : goal.loop-out-init
loop-out-init g c =
    let left : SiteOut (JobDiner g.row.T.Denot g.row.J.Denot g.row.K.Denot g.row.J-Fault.Denot g.J.Job g.K.Given) → SiteDone g.row.J.Denot g.row.J-Fault.Denot =
    λ out. record { site = record { 0 = out.diner.site }; job = out.diner.job; log = out.diner.log; failures = out.diner.failures; journal = out.journal; checks = out.checks } in
    let none : vec_items c.args.sites ≡ [] = nil_from_length (vec_items c.args.sites) (omega (arith, c.requires.empty, c.args.sites.ok.0)) in
    let gives = c.into_iter-out-iterator.ensures.into_iter_gives in
    record {
      room = omega (arith, c.requires.empty, c.requires.room, gives.1);
      split = ap (λ (made : List _). made ++ map left (into_iter_items c.into_iter-out-iterator.result)) none ∙ ap (map left) gives.0;
    }

pub returns : goal.returns
returns g c =
    let left : SiteOut (JobDiner g.row.T.Denot g.row.J.Denot g.row.K.Denot g.row.J-Fault.Denot g.J.Job g.K.Given) → SiteDone g.row.J.Denot g.row.J-Fault.Denot =
    λ out. record { site = record { 0 = out.diner.site }; job = out.diner.job; log = out.diner.log; failures = out.diner.failures; journal = out.journal; checks = out.checks } in
    let rest = into_iter_items c.loop-out.out-iterator in
    let none : rest ≡ [] = nil_from_length rest (omega (arith, c.in-None.ensures.steps.0, c.loop-out.out-iterator.rest.ok.0)) in
    none_left (vec_items c.loop-out.sites) (map left rest) _ (ap (map left) none) c.loop-out.invariant.split
