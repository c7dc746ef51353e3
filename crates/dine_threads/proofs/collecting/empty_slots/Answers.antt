use Rattle.std.proofs.Common.{◌≡◌, None, replicate, ◌++◌, ◌∷◌, [], vec_items, ap, ◌∙◌, arith}
use Rattle.std.proofs.lemmas.List.{nil_from_length, replicate_more}
use Rattle.dine_graph.specs.Plan.{edge_count}
use Rattle.dine_threads.proofs.collecting.empty_slots.Goals as goal

pub loop-preserved : goal.loop-preserved
loop-preserved g c =
    let was = c.loop.invariant in
    record {
      len = omega (arith, was.len, c.push_reserved.ensures.len);
      room = omega (arith, was.room, c.push_reserved.ensures.capacity);
      items = c.push_reserved.ensures.items ∙ ap (λ slots. slots ++ None ∷ []) was.items ∙ replicate_more c.loop.counter None;
    }

pub loop-init : goal.loop-init
loop-init g c = record {
  len = c.in_ok-slots.ensures.len;
  room = omega (arith, c.in_ok-slots.ensures.capacity, c.edges.ensures.count);
  items = nil_from_length (vec_items c.in_ok-slots.slots) (omega (arith, c.in_ok-slots.ensures.len, c.in_ok-slots.slots.ok.0));
}

pub push_reserved-requires : goal.push_reserved-requires
push_reserved-requires g c = omega (arith, c.loop.invariant.len, c.loop.invariant.room, c.loop-test.true)

pub returns : goal.returns
returns g c =
    let all : c.loop.counter ≡ edge_count c.args.plan.now = omega arith in
    c.loop.invariant.items ∙ ap (λ n. replicate n None) all
