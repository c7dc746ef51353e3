-- The two places of an edge, and what stands there.
use Rattle.std.proofs.Common.{◌≡◌, ◌≢◌, ◌⊎◌, ℕ, zero, suc, ◌+◌, ◌<◌, ◌≤◌, Some, IsSome, Option, List, [], ◌∷◌, ◌++◌, not, length, get_or, slice_get, refl, sym, ap, ◌∙◌, subst, inl, inr, arith}
use Rattle.std.specs.Global.{Vec}
use Rattle.std.proofs.lemmas.Option.{slice_get-get_or, same_Some, none-some}
use Rattle.std.specs.List.{range_with_len}
use Rattle.std.proofs.lemmas.List.Filters.{length-filter_both}
use Rattle.std.proofs.lemmas.List.FromFn.{length-range_with_len}
use Rattle.dine_graph.specs.declared.limits.TheConstants.{MAX_EDGES}
use Rattle.dine_graph.specs.Plan.{SeenPlan, IsPlan, edge_count, edges_of, is_one_of, lo_of, hi_of}
use Rattle.dine_rules.specs.JoinedEnds.{AreEndsOfEdge}
use Rattle.dine_rules.specs.Local.{edge_at}
use Rattle.dine_rules.specs.World.{place_of}
use Rattle.dine_threads.specs.private.Spots.{AreFull, low_spot, high_spot, slot_at}
use Rattle.dine_threads.specs.declared.slots.Spot.{Spot}
use Rattle.dine_threads.proofs.lists.Writes.{same_spot}

-- a later number is another
pub later_differs : (e n : ℕ) → n + 1 ≤ e → e ≢ n
later_differs e n later same = omega (arith, later, same)

-- an element of a list with one more is one of the list, or the last one
pub slice_get-push : {X : Type 0} (xs : List X) (x y : X) (k : ℕ) → slice_get (xs ++ x ∷ []) k ≡ Some y → (slice_get xs k ≡ Some y) ⊎ ((k ≡ length xs) × (x ≡ y))
slice_get-push [] x y zero at = inr (refl, same_Some x y at)
slice_get-push [] x y (suc k) at = absurd (none-some y at)
slice_get-push (z ∷ xs) x y zero at = inl at
slice_get-push (z ∷ xs) x y (suc k) at = elim (slice_get-push xs x y k at) [
  | inl before ↦ inl before
  | inr last ↦ inr (ap suc last.0, last.1)
]

module _ (plan : SeenPlan) (edge : ℕ) (ends : AreEndsOfEdge plan (lo_of plan edge) (place_of plan (lo_of plan edge) edge) (hi_of plan edge) (place_of plan (hi_of plan edge) edge)) (at : edge_at plan (lo_of plan edge) (place_of plan (lo_of plan edge) edge) ≡ edge) where
  -- the edge stands at its place at the lower end, and at that at the higher
  pub at_low : slice_get (edges_of plan (low_spot plan edge).site) (low_spot plan edge).at ≡ Some edge
  at_low = slice_get-get_or (edges_of plan (lo_of plan edge)) (place_of plan (lo_of plan edge) edge) 0 ends.within ∙ ap Some at

  pub at_high : slice_get (edges_of plan (high_spot plan edge).site) (high_spot plan edge).at ≡ Some edge
  at_high = slice_get-get_or (edges_of plan (hi_of plan edge)) (place_of plan (hi_of plan edge) edge) 0 ends.within_there ∙ ap Some (ends.same_edge ∙ at)

-- where each site has a full row, something stands at both places
module _ {P : Type 0} (plan : SeenPlan) (rows : List (Vec (Option P))) (full : AreFull plan rows) (is_plan : IsPlan plan) (edge : ℕ) (within : edge < edge_count plan) where
  pub low_full : (low_spot plan edge).at < length (edges_of plan (low_spot plan edge).site) → IsSome (slot_at rows (low_spot plan edge))
  low_full inside = (full (lo_of plan edge) (omega (arith, is_plan.ordered edge within, is_plan.within edge within))).full (low_spot plan edge).at inside

  pub high_full : (high_spot plan edge).at < length (edges_of plan (high_spot plan edge).site) → IsSome (slot_at rows (high_spot plan edge))
  high_full inside = (full (hi_of plan edge) (is_plan.within edge within)).full (high_spot plan edge).at inside

-- the place that was found for an edge is that place
pub found_spot : (plan : SeenPlan) (s t edge place result : ℕ) → s ≡ t → slice_get (edges_of plan t) place ≡ Some edge → ((i : ℕ) → slice_get (edges_of plan s) i ≡ Some edge → i ≡ result)
    → ◌≡◌ {A = Spot} (record { site = s; at = result }) (record { site = t; at = place })
found_spot plan s t edge place result same at only =
    same_spot (record { site = s; at = result }) (record { site = t; at = place }) same (sym (only place (subst (λ x. slice_get (edges_of plan x) place ≡ Some edge) (sym same) at)))

-- a site has few edges
pub few_edges : (plan : SeenPlan) (s : ℕ) → IsPlan plan → length (edges_of plan s) ≤ MAX_EDGES
few_edges plan s is_plan =
    let both = length-filter_both (λ e. is_one_of (get_or plan.edges e (0, 0)) s) (λ e. not (is_one_of (get_or plan.edges e (0, 0)) s)) (λ _. refl) (range_with_len 0 (length plan.edges)) in
    omega (arith, both, length-range_with_len 0 (length plan.edges), is_plan.few_edges)
