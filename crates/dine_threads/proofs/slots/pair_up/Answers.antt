use Rattle.std.proofs.Common.{◌≡◌, ◌≢◌, ℕ, ◌<◌, Some, IsSome, slice_get, vec_items, refl, sym, ap, ◌∙◌, subst, inl, inr, arith}
use Rattle.std.proofs.lemmas.Option.{slice_get_within}
use Rattle.dine_graph.specs.Plan.{edge_count, edges_of, lo_of, hi_of}
use Rattle.dine_rules.specs.JoinedEnds.{AreEndsOfEdge}
use Rattle.dine_rules.specs.Local.{edge_at}
use Rattle.dine_threads.specs.private.Spots.{slot_at, low_spot, high_spot, IsPairAt}
use Rattle.dine_threads.specs.declared.slots.EdgePair.{EdgePair}
use Rattle.dine_threads.specs.declared.slots.Spot.{Spot}
use Rattle.dine_threads.proofs.all_sites.Edges.{at_low, at_high, found_spot, high_full, later_differs, low_full, slice_get-push}
use Rattle.dine_threads.proofs.lists.Writes.{spots_apart}
use Rattle.dine_threads.proofs.slots.pair_up.Goals as goal

pub ends-lower-requires : goal.ends-lower-requires
ends-lower-requires g c = omega (arith, c.loop-edge-test.true, c.edges-edge-end.ensures.count)

pub push_reserved-requires : goal.push_reserved-requires
push_reserved-requires g c = omega (arith, c.loop-edge.invariant.len, c.loop-edge.invariant.room, c.loop-edge-test.true, c.edges-edge-end.ensures.count)

pub loop-edge-init : goal.loop-edge-init
loop-edge-init g c = record {
  len = c.requires.none;
  room = c.requires.room;
  low = λ e later within. refl;
  high = λ e later within. refl;
  paired = λ e both at. absurd (omega (arith, slice_get_within (vec_items c.args.pairs.now) e both at, c.requires.none, c.args.pairs.now.ok.0));
}

pub returns : goal.returns
returns g c = record {
  count = omega (arith, c.loop-edge.invariant.len, c.loop-edge-test.false, c.edges-edge-end.ensures.count);
  each = c.loop-edge.invariant.paired;
}

pub unwrap-low-requires : goal.unwrap-low-requires
unwrap-low-requires g c =
    let plan = c.args.plan.now in
    let n = c.loop-edge.edge in
    let is_plan = c.edges-edge-end.ensures.plan in
    let within : n < edge_count plan = omega (arith, c.loop-edge-test.true, c.edges-edge-end.ensures.count) in
    let law = c.edges_have_a_place_at_each_end.ensures in
    let ends = law.ends plan n is_plan within in
    let at = law.edge plan n is_plan within in
    let lower : c.ends-lower.result.0 ≡ lo_of plan n = ap (λ (p : ℕ × ℕ). p.0) c.ends-lower.ensures.ends in
    let low = found_spot plan c.ends-lower.result.0 (lo_of plan n) n (low_spot plan n).at c.place.result lower (at_low plan n ends at) c.place.ensures.only in
    subst IsSome (sym (c.remove_at.ensures.value ∙ ap (slot_at (vec_items c.loop-edge.rows)) low ∙ c.loop-edge.invariant.low n (omega arith) within))
    (low_full plan c.args.rows.now.items c.requires.full is_plan n within ends.within)

pub unwrap-high-requires : goal.unwrap-high-requires
unwrap-high-requires g c =
    let plan = c.args.plan.now in
    let n = c.loop-edge.edge in
    let is_plan = c.edges-edge-end.ensures.plan in
    let within : n < edge_count plan = omega (arith, c.loop-edge-test.true, c.edges-edge-end.ensures.count) in
    let law = c.edges_have_a_place_at_each_end.ensures in
    let ends = law.ends plan n is_plan within in
    let at = law.edge plan n is_plan within in
    let lower : c.ends-lower.result.0 ≡ lo_of plan n = ap (λ (p : ℕ × ℕ). p.0) c.ends-lower.ensures.ends in
    let higher : c.ends-lower.result.1 ≡ hi_of plan n = ap (λ (p : ℕ × ℕ). p.1) c.ends-lower.ensures.ends in
    let low = found_spot plan c.ends-lower.result.0 (lo_of plan n) n (low_spot plan n).at c.place.result lower (at_low plan n ends at) c.place.ensures.only in
    let high = found_spot plan c.ends-lower.result.1 (hi_of plan n) n (high_spot plan n).at c.place-in-loop-edge.result higher (at_high plan n ends at) c.place-in-loop-edge.ensures.only in
    let differ : high_spot plan n ≢ low_spot plan n = λ same. (let order = is_plan.ordered n within in let sites = ap (λ (s : Spot). s.site) same in omega (arith, order, sites)) in
    let kept = c.remove_at.ensures.others (high_spot plan n) (subst (λ s. high_spot plan n ≢ s) (sym low) differ) in
    subst IsSome (sym (c.remove_at-in-loop-edge.ensures.value ∙ ap (slot_at (vec_items c.remove_at.new.rows)) high ∙ kept ∙ c.loop-edge.invariant.high n (omega arith) within))
    (high_full plan c.args.rows.now.items c.requires.full is_plan n within ends.within_there)

pub loop-edge-preserved : goal.loop-edge-preserved
loop-edge-preserved g c =
    let plan = c.args.plan.now in
    let n = c.loop-edge.edge in
    let was = c.loop-edge.invariant in
    let is_plan = c.edges-edge-end.ensures.plan in
    let within : n < edge_count plan = omega (arith, c.loop-edge-test.true, c.edges-edge-end.ensures.count) in
    let law = c.edges_have_a_place_at_each_end.ensures in
    let ends : (e : ℕ) → e < edge_count plan → AreEndsOfEdge plan (low_spot plan e).site (low_spot plan e).at (high_spot plan e).site (high_spot plan e).at = λ e e_within. law.ends plan e is_plan e_within in
    let at : (e : ℕ) → e < edge_count plan → edge_at plan (low_spot plan e).site (low_spot plan e).at ≡ e = λ e e_within. law.edge plan e is_plan e_within in
    let lower : c.ends-lower.result.0 ≡ lo_of plan n = ap (λ (p : ℕ × ℕ). p.0) c.ends-lower.ensures.ends in
    let higher : c.ends-lower.result.1 ≡ hi_of plan n = ap (λ (p : ℕ × ℕ). p.1) c.ends-lower.ensures.ends in
    let low = found_spot plan c.ends-lower.result.0 (lo_of plan n) n (low_spot plan n).at c.place.result lower (at_low plan n (ends n within) (at n within)) c.place.ensures.only in
    let high = found_spot plan c.ends-lower.result.1 (hi_of plan n) n (high_spot plan n).at c.place-in-loop-edge.result higher (at_high plan n (ends n within) (at n within)) c.place-in-loop-edge.ensures.only in
    let before = vec_items c.loop-edge.rows in
    let half = vec_items c.remove_at.new.rows in
    let after = vec_items c.remove_at-in-loop-edge.new.rows in
    let keeps : (spot : Spot) (e : ℕ) → e ≢ n → slice_get (edges_of plan spot.site) spot.at ≡ Some e → slot_at after spot ≡ slot_at before spot = λ spot e differ stands.
    c.remove_at-in-loop-edge.ensures.others spot (subst (λ s. spot ≢ s) (sym high) (spots_apart plan spot (high_spot plan n) e n stands (at_high plan n (ends n within) (at n within)) differ))
    ∙ c.remove_at.ensures.others spot (subst (λ s. spot ≢ s) (sym low) (spots_apart plan spot (low_spot plan n) e n stands (at_low plan n (ends n within) (at n within)) differ)) in
    let differ : high_spot plan n ≢ low_spot plan n = λ same. (let order = is_plan.ordered n within in let sites = ap (λ (s : Spot). s.site) same in omega (arith, order, sites)) in
    let kept = c.remove_at.ensures.others (high_spot plan n) (subst (λ s. high_spot plan n ≢ s) (sym low) differ) in
    let new : EdgePair _ = record { low = c.unwrap-low.result; high = c.unwrap-high.result } in
    let here : IsPairAt plan c.args.rows.now.items n new = record {
      low = sym (was.low n (omega arith) within) ∙ sym (c.remove_at.ensures.value ∙ ap (slot_at before) low) ∙ c.unwrap-low.ensures;
      high = sym (was.high n (omega arith) within) ∙ sym (c.remove_at-in-loop-edge.ensures.value ∙ ap (slot_at half) high ∙ kept) ∙ c.unwrap-high.ensures;
    } in
    record {
      len = omega arith;
      room = omega arith;
      low = λ e later e_within. keeps (low_spot plan e) e (later_differs e n later) (at_low plan e (ends e e_within) (at e e_within)) ∙ was.low e (omega arith) e_within;
      high = λ e later e_within. keeps (high_spot plan e) e (later_differs e n later) (at_high plan e (ends e e_within) (at e e_within)) ∙ was.high e (omega arith) e_within;
      paired = λ e both stands.
          elim (slice_get-push (vec_items c.loop-edge.pairs) new both e (subst (λ xs. slice_get xs e ≡ Some both) c.push_reserved.ensures.items stands)) [
            | inl earlier ↦ was.paired e both earlier
            | inr last ↦ (let number : n ≡ e = omega (arith, last.0, was.len, c.loop-edge.pairs.ok.0) in subst (λ b. IsPairAt plan c.args.rows.now.items e b) last.1 (subst (λ k. IsPairAt plan c.args.rows.now.items k new) number here))
          ];
    }
