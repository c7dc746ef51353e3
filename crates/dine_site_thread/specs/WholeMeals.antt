-- The meal with which a diner is called. That it is the meal that the core began just before is read in the source.
use Rattle.std.specs.Prelude.{◌≡◌, ℕ, ◌<◌, Some, map, slice_get}
use Rattle.dine_graph.specs.Plan.{SeenPlan, IsPlan, edges_of, site_count}
use Rattle.dine_token.specs.Log.{meals_of}
use Rattle.dine_token.specs.Fork.{SeenFork, location}
use Rattle.dine_token.specs.Meal.{SeenMeal}

-- each fork of the meal is at the site that eats, and its log has k meals of that site, this one included
abbrev pub IsOwnMeal : SeenMeal → Type 0
IsOwnMeal meal = (i : ℕ) (fork : SeenFork) → slice_get meal.forks i ≡ Some fork → (location fork ≡ meal.site) × (meals_of meal.site fork.log ≡ meal.k)

-- the edge of a fork
abbrev pub edge_of : SeenFork → ℕ
edge_of fork = fork.edge

-- the meal is one of a site of the plan, with the forks of all edges of that site, in order
pub record IsWholeIn (plan : SeenPlan) (meal : SeenMeal) : Type 0 where
  pub is_plan : IsPlan plan
  pub is_site : meal.site < site_count plan
  pub edges : map edge_of meal.forks ≡ edges_of plan meal.site

-- the meal is whole in a plan in which the diner expects to eat at the site of the meal
abbrev pub IsWhole : {D : Type 0} → (D → SeenPlan → ℕ → Type 0) → D → SeenMeal → Type 0
IsWhole expects diner meal = (plan : SeenPlan) × IsWholeIn plan meal × expects diner plan meal.site
