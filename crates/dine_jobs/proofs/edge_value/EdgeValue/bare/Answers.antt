-- One value more, and what is left at the end.
use Rattle.std.proofs.Common.{◌≡◌, ◌++◌, [], List, map, ap, ◌∙◌, arith, vec_items}
use Rattle.std.specs.Vec.Iter.{into_iter_items}
use Rattle.std.proofs.lemmas.List.{nil_from_length}
use Rattle.dine_threads.proofs.shared.all_sites.Collected.{moved_as, none_left}
use Rattle.dine_jobs.specs.declared.edge_value.EdgeValue.{EdgeValue}
use Rattle.dine_jobs.proofs.edge_value.EdgeValue.bare.Goals as goal

pub loop-it-preserved : goal.loop-it-preserved
loop-it-preserved g c =
    let value : EdgeValue g.row.T.Denot → g.row.T.Denot = λ it. it.value in
    let was = c.loop-it.invariant in
    record {
      room = omega (arith, was.room, c.push_reserved.ensures.len, c.push_reserved.ensures.capacity, c.in-Some.ensures.steps.1);
      split = moved_as (vec_items c.loop-it.plain) (vec_items c.push_reserved.new.self) c.alone.result (value c.in-Some.it) (map value (into_iter_items c.loop-it.it-iterator)) (map value (into_iter_items c.next.new.self)) _ c.push_reserved.ensures.items c.alone.ensures (ap (map value) c.in-Some.ensures.steps.0) was.split;
    }

pub loop-it-init : goal.loop-it-init
loop-it-init g c =
    let value : EdgeValue g.row.T.Denot → g.row.T.Denot = λ it. it.value in
    let none : vec_items c.args.plain ≡ [] = nil_from_length (vec_items c.args.plain) (omega (arith, c.requires.empty, c.args.plain.ok.0)) in
    let gives = c.into_iter-it-iterator.ensures.into_iter_gives in
    record {
      room = omega (arith, c.requires.empty, c.requires.room, gives.1);
      split = ap (λ (made : List _). made ++ map value (into_iter_items c.into_iter-it-iterator.result)) none ∙ ap (map value) gives.0;
    }

pub returns : goal.returns
returns g c =
    let value : EdgeValue g.row.T.Denot → g.row.T.Denot = λ it. it.value in
    let rest = into_iter_items c.loop-it.it-iterator in
    let none : rest ≡ [] = nil_from_length rest (omega (arith, c.in-None.ensures.steps.0, c.loop-it.it-iterator.rest.ok.0)) in
    none_left (vec_items c.loop-it.plain) (map value rest) _ (ap (map value) none) c.loop-it.invariant.split
