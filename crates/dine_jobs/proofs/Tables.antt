-- What the meal of a site has at its places.
use Rattle.std.proofs.Common.{◌≡◌, ◌<◌, ℕ, zero, suc, List, [], ◌∷◌, Some, map, get_or, slice_get, sym, ap, ◌∙◌, subst}
use Rattle.std.proofs.lemmas.Option.{get_or_from_slice_get, none-some, same_Some, slice_get_within}
use Rattle.dine_token.specs.Fork.{SeenFork}
use Rattle.dine_token.specs.Meal.{SeenMeal}
use Rattle.dine_graph.specs.Plan.{SeenPlan, edge_count, edges_of}
use Rattle.dine_graph.proofs.shared.PlaceLemmas.{positions_within}
use Rattle.dine_site_thread.specs.WholeMeals.{IsWholeIn, edge_of}

-- what stands at a place, of a list that is made of another
there_mapped : {X Y : Type 0} (f : X → Y) (xs : List X) (k : ℕ) (x : X) → slice_get xs k ≡ Some x → slice_get (map f xs) k ≡ Some (f x)
there_mapped f [] k x at = absurd (none-some x at)
there_mapped f (y ∷ ys) zero x at = ap (λ z. Some (f z)) (same_Some y x at)
there_mapped f (y ∷ ys) (suc k) x at = there_mapped f ys k x at

-- each fork of a whole meal is of an edge of the plan
pub forks_within : (plan : SeenPlan) (meal : SeenMeal) → IsWholeIn plan meal → (i : ℕ) (fork : SeenFork) → slice_get meal.forks i ≡ Some fork → fork.edge < edge_count plan
forks_within plan meal whole i fork at =
    let edges = edges_of plan meal.site in
    let there : slice_get edges i ≡ Some fork.edge = ap (λ es. slice_get es i) (sym whole.edges) ∙ there_mapped edge_of meal.forks i fork at in
    let is : get_or edges i 0 ≡ fork.edge = get_or_from_slice_get edges i fork.edge 0 there in
    subst (λ e. e < edge_count plan) is (positions_within plan.edges meal.site i 0 (slice_get_within edges i fork.edge there))
