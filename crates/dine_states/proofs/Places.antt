-- The end of an edge at a site, by what a plan returns of it.
use Rattle.std.proofs.Common.{◌≡◌, ◌⊎◌, ℕ, ◌<◌, ◌==◌, ◌||◌, Bool, true, false, Option, Some, None, List, get_or, position, slice_get, refl, sym, ◌∙◌, ap, inl, inr, arith}
use Rattle.std.specs.Option.{unwrap_or}
use Rattle.std.proofs.lemmas.Bool.{eqb-true, false≢true}
use Rattle.std.proofs.lemmas.List.Quantifiers.{position-Some}
use Rattle.std.proofs.lemmas.Option.{get_or_from_slice_get, slice_get-get_or, slice_get_within}
use Rattle.dine_graph.specs.Plan.{SeenPlan, IsPlan, edge_count, edges_of, hi_of, is_end, lo_of, other_of, site_count}
use Rattle.dine_rules.specs.Local.{edge_at}
use Rattle.dine_states.specs.Ends.{IsEnd}
use Rattle.dine_states.specs.declared.ends.End.{End}
use Rattle.dine_states.proofs.Orders.{same}
use Rattle.dine_states.proofs.Stuck.{none_passes}

-- the one index of a number in a list is its position
place_found : (xs : List ℕ) (e place : ℕ) → slice_get xs place ≡ Some e → ((i : ℕ) → slice_get xs i ≡ Some e → i ≡ place) → unwrap_or (position (λ x. x == e) xs) 0 ≡ place
place_found xs e place there only = by_case (position (λ x. x == e) xs) refl where
  by_case : (found : Option ℕ) → position (λ x. x == e) xs ≡ found → unwrap_or found 0 ≡ place
  by_case (Some k) is = let w = position-Some (λ x. x == e) xs k e is in only k (slice_get-get_or xs k e w.0 ∙ ap (λ (x : ℕ). Some x) (eqb-true (get_or xs k e) e w.1))
  by_case None is = absurd (false≢true (sym (none_passes (λ x. x == e) xs place e is (slice_get_within xs place e there)) ∙ ap (λ x. x == e) (get_or_from_slice_get xs place e e there) ∙ same e))

either : (a b s : ℕ) → ((a == s) || (b == s)) ≡ true → (s ≡ a) ⊎ (s ≡ b)
either a b s h = by_case (a == s) refl h where
  by_case : (x : Bool) → (a == s) ≡ x → (x || (b == s)) ≡ true → (s ≡ a) ⊎ (s ≡ b)
  by_case true is h = inl (sym (eqb-true a s is))
  by_case false is h = inr (sym (eqb-true b s h))

-- an end of an edge is a site
end_within : (plan : SeenPlan) (edge s : ℕ) → IsPlan plan → edge < edge_count plan → is_end plan s edge ≡ true → s < site_count plan
end_within plan edge s is_plan within is = elim (either (lo_of plan edge) (hi_of plan edge) s is) [
  | inl low ↦ omega (arith, low, is_plan.ordered edge within, is_plan.within edge within)
  | inr high ↦ omega (arith, high, is_plan.within edge within)
]

pub new_end : (plan : SeenPlan) (end : End) → IsPlan plan → end.site < site_count plan → end.edge < edge_count plan → is_end plan end.site end.edge ≡ true
    → slice_get (edges_of plan end.site) end.place ≡ Some end.edge → ((i : ℕ) → slice_get (edges_of plan end.site) i ≡ Some end.edge → i ≡ end.place)
    → end.neighbour ≡ other_of plan end.edge end.site → is_end plan end.neighbour end.edge ≡ true → IsEnd plan end
new_end plan end is_plan site edge is there only other across =
    let at : edge_at plan end.site end.place ≡ end.edge = get_or_from_slice_get (edges_of plan end.site) end.place end.edge 0 there in record {
      is_plan = is_plan;
      site = site;
      edge = edge;
      place = slice_get_within (edges_of plan end.site) end.place end.edge there;
      is_at = at;
      only_at = place_found (edges_of plan end.site) end.edge end.place there only;
      at_end = either (lo_of plan end.edge) (hi_of plan end.edge) end.site is;
      neighbour = other ∙ sym (ap (λ (e : ℕ). other_of plan e end.site) at);
      neighbour_site = end_within plan end.edge end.neighbour is_plan edge across;
      neighbour_end = across;
    }
