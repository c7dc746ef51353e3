-- No site has more edges than there are other sites.
use Rattle.std.proofs.Common.{◌≡◌, ℕ, ◌<◌, ◌≤◌, eqb, true, List, length, map, get_or, sym, ◌∙◌, ap, ap₂, inl, inr, arith}
use Rattle.std.specs.List.{list_any, range_with_len}
use Rattle.std.proofs.lemmas.Bool.{cases_lt, eqb-true, ne_eqb}
use Rattle.std.proofs.lemmas.List.FromFn.{get_or-map-range_with_len, length-map-range_with_len}
use Rattle.std.proofs.lemmas.List.Folds.{Any-from_list_any}
use Rattle.std.proofs.lemmas.Map.Keys.{IsDistinct-from_apart}
use Rattle.std.proofs.lemmas.Map.Steps.{length-le_from_distinct_below}
use Rattle.dine_graph.specs.Plan.{SeenPlan, IsPlan, site_count, edges_of, ends_of}
use Rattle.dine_rules.specs.Local.{edge_at, neighbour_at}
use Rattle.dine_rules.specs.World.{place_of}
use Rattle.dine_rules.proofs.shared.links.Across.{across, place_of-edge_at}
use Rattle.dine_rules.proofs.shared.one_place.Placed.{placed}

module _ (plan : SeenPlan) (s : ℕ) (is_plan : IsPlan plan) where
  same_edges : (e f : ℕ) → e < length plan.edges → f < length plan.edges → ends_of plan e ≡ ends_of plan f → e ≡ f
  same_edges e f is_e is_f same = elim (cases_lt e f) [
    | inl before ↦ absurd (is_plan.edges_differ e f before is_f same)
    | inr past ↦ elim (cases_lt f e) [
      | inl behind ↦ absurd (is_plan.edges_differ f e behind is_e (sym same))
      | inr equal ↦ omega (arith, past, equal)
    ]
  ]

  same_ends : (i j : ℕ) → i < length (edges_of plan s) → j < length (edges_of plan s) → neighbour_at plan s i ≡ neighbour_at plan s j → ends_of plan (edge_at plan s i) ≡ ends_of plan (edge_at plan s j)
  same_ends i j h k same =
      let v = placed plan s i is_plan h in
      let w = placed plan s j is_plan k in
      elim v.sides [
        | inl a ↦ elim w.sides [
          | inl b ↦ ap₂ {C = ℕ × ℕ} (λ x y. (x, y)) (a.0 ∙ sym b.0) (sym a.1 ∙ same ∙ b.1)
          | inr b ↦ absurd (omega (arith, a.0, a.1, b.0, b.1, same, v.ordered, w.ordered))
        ]
        | inr a ↦ elim w.sides [
          | inl b ↦ absurd (omega (arith, a.0, a.1, b.0, b.1, same, v.ordered, w.ordered))
          | inr b ↦ ap₂ {C = ℕ × ℕ} (λ x y. (x, y)) (sym a.1 ∙ same ∙ b.1) (a.0 ∙ sym b.0)
        ]
      ]

  -- two places have two neighbours
  neighbours_differ : (i j : ℕ) → i < length (edges_of plan s) → j < length (edges_of plan s) → neighbour_at plan s i ≡ neighbour_at plan s j → i ≡ j
  neighbours_differ i j h k same =
      let e : edge_at plan s i ≡ edge_at plan s j =
      same_edges (edge_at plan s i) (edge_at plan s j) (placed plan s i is_plan h).edge_within (placed plan s j is_plan k).edge_within (same_ends i j h k same) in
      sym (place_of-edge_at plan s i h) ∙ ap (place_of plan s) e ∙ place_of-edge_at plan s j k

  abbrev neighbours : List ℕ
  neighbours = map (neighbour_at plan s) (range_with_len 0 (length (edges_of plan s)))

  neighbour_is : (i d : ℕ) → i < length (edges_of plan s) → get_or neighbours i d ≡ neighbour_at plan s i
  neighbour_is i d h = get_or-map-range_with_len (neighbour_at plan s) 0 (length (edges_of plan s)) i i d h (omega arith)

  as_many : length neighbours ≡ length (edges_of plan s)
  as_many = length-map-range_with_len (neighbour_at plan s) 0 (length (edges_of plan s))

  all_sites : (q : ℕ) → list_any (eqb q) neighbours ≡ true → q < site_count plan
  all_sites q h =
      let found = Any-from_list_any (eqb q) neighbours h in
      let within : found.0 < length (edges_of plan s) = omega (arith, found.2, as_many) in
      omega (arith, eqb-true q found.1 found.4, sym found.3 ∙ neighbour_is found.0 found.1 within, (across plan s found.0 is_plan within).is_site)

  -- a site has at most 64 edges
  pub degree_few : length (edges_of plan s) ≤ 64
  degree_few =
      let apart = IsDistinct-from_apart eqb neighbours (λ i j d before within.
      let j_within : j < length (edges_of plan s) = omega (arith, within, as_many) in
      let i_within : i < length (edges_of plan s) = omega (arith, before, j_within) in
      ne_eqb (get_or neighbours i d) (get_or neighbours j d) (λ same. omega (arith, before, neighbours_differ i j i_within j_within (sym (neighbour_is i d i_within) ∙ same ∙ neighbour_is j d j_within)))) in
      omega (arith, length-le_from_distinct_below neighbours (site_count plan) apart all_sites, as_many, is_plan.few_sites)
