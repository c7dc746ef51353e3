-- The meal that a core began has the forks of all edges of its site.
use Rattle.std.proofs.Common.{◌<◌, length, map, sym, ap, ◌∙◌, arith}
use Rattle.std.proofs.lemmas.Grind.{same_number_lists}
use Rattle.std.proofs.lemmas.List.{length-map}
use Rattle.dine_token.specs.Fork.{no_fork}
use Rattle.dine_token.specs.Meal.{SeenMeal}
use Rattle.dine_graph.specs.Plan.{SeenPlan, edges_of}
use Rattle.dine_rules.specs.Local.{LocalState}
use Rattle.dine_rules.specs.Streams.{KeepsStreams}
use Rattle.dine_site.specs.Core.{SeenCore, Refines}
use Rattle.dine_site.specs.Places.{IsMealOf, no_place}
use Rattle.dine_site.specs.declared.site.places.Place.{Place}
use Rattle.dine_site.proofs.shared.lists.Lists.{get_or-map_at}
use Rattle.dine_site_thread.specs.WholeMeals.{IsWholeIn, edge_of}

pub whole_meal : (plan : SeenPlan) (state : LocalState) (core : SeenCore) (meal : SeenMeal) → Refines plan state core → KeepsStreams plan core.site state → IsMealOf core meal → IsWholeIn plan meal
whole_meal plan state core meal stands keeps is = record {
  is_plan = stands.is_plan;
  is_site = omega (arith, is.site, stands.is_site);
  edges =
      let mapped = length-map meal.forks edge_of in
      same_number_lists (map edge_of meal.forks) (edges_of plan core.site) (omega (arith, mapped, is.count, stands.degree, keeps.every_place))
      (λ k h.
      let within : k < length meal.forks = omega (arith, h, mapped) in
      let placed : k < length core.places = omega (arith, within, is.count) in
      get_or-map_at edge_of meal.forks k 0 no_fork within ∙ (is.forks k no_fork placed).fits.edge ∙ ap (λ (place : Place). place.edge) (stands.places k no_place placed))
      ∙ ap (edges_of plan) (sym is.site);
}
