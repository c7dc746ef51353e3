-- One job more, and what is left at the end.
use Rattle.std.proofs.Common.{◌≡◌, ◌++◌, [], List, map, ap, ◌∙◌, arith, vec_items}
use Rattle.std.specs.Vec.Iter.{into_iter_items}
use Rattle.std.proofs.lemmas.List.{nil_from_length}
use Rattle.dine_threads.proofs.shared.all_sites.Collected.{moved_as, none_left}
use Rattle.dine_jobs.specs.declared.done.SiteDone.{SiteDone}
use Rattle.dine_jobs.proofs.done.jobs_left.Goals as goal

pub loop-left-preserved : goal.loop-left-preserved
loop-left-preserved g c =
    let job : SiteDone g.row.J.Denot g.row.F.Denot → g.row.J.Denot = λ left. left.job in
    let was = c.loop-left.invariant in
    record {
      room = omega (arith, was.room, c.push_reserved.ensures.len, c.push_reserved.ensures.capacity, c.in-Some.ensures.steps.1);
      split = moved_as (vec_items c.loop-left.jobs) (vec_items c.push_reserved.new.self) c.into_job.result (job c.in-Some.left) (map job (into_iter_items c.loop-left.left-iterator)) (map job (into_iter_items c.next.new.self)) _ c.push_reserved.ensures.items c.into_job.ensures (ap (map job) c.in-Some.ensures.steps.0) was.split;
    }

pub loop-left-init : goal.loop-left-init
loop-left-init g c =
    let job : SiteDone g.row.J.Denot g.row.F.Denot → g.row.J.Denot = λ left. left.job in
    let none : vec_items c.args.jobs ≡ [] = nil_from_length (vec_items c.args.jobs) (omega (arith, c.requires.empty, c.args.jobs.ok.0)) in
    let gives = c.into_iter-left-iterator.ensures.into_iter_gives in
    record {
      room = omega (arith, c.requires.empty, c.requires.room, gives.1);
      split = ap (λ (made : List _). made ++ map job (into_iter_items c.into_iter-left-iterator.result)) none ∙ ap (map job) gives.0;
    }

pub returns : goal.returns
returns g c =
    let job : SiteDone g.row.J.Denot g.row.F.Denot → g.row.J.Denot = λ left. left.job in
    let rest = into_iter_items c.loop-left.left-iterator in
    let none : rest ≡ [] = nil_from_length rest (omega (arith, c.in-None.ensures.steps.0, c.loop-left.left-iterator.rest.ok.0)) in
    none_left (vec_items c.loop-left.jobs) (map job rest) _ (ap (map job) none) c.loop-left.invariant.split
