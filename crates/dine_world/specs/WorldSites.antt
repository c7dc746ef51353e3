-- A site of the world, with its meal, and the links around it. Public clauses use these definitions only by
-- `IsWorldOf`.
use Rattle.std.specs.Prelude.{◌≡◌, ℕ, ◌&&◌, Bool, List, [], map, slice_get, slice_index_or, Option, Some, None, is_some, option_and_then, if◌then◌else◌}
use Rattle.dine_token.specs.Meal.{SeenMeal}
use Rattle.dine_graph.specs.Plan.{SeenPlan, SeenJob, jobs_of}
use Rattle.dine_rules.specs.declared.letters.Letter.{Letter}
use Rattle.dine_rules.specs.declared.events.EventKind.{EventKind}
use Rattle.dine_rules.specs.declared.events.EventKind.TheVariants as event
use Rattle.dine_world.specs.declared.world.sites.WorldSite.{WorldSite}
use Rattle.dine_rules.specs.Local.{LocalState, is_eating}
use Rattle.dine_rules.specs.Steps.{shape_of}
use Rattle.dine_site.specs.Core.{SeenCore, Refines, forks_in_hand}
use Rattle.dine_site.specs.NextEvent.{has_place, passes}
use Rattle.dine_site.specs.Places.{place_at}
use Rattle.dine_site.specs.LinkNumbers.{link_to}
use Rattle.dine_site.specs.Standing.{all_places}

-- the letters of a link
abbrev pub letters_in : List (List Letter) → ℕ → List Letter
letters_in links n = slice_index_or links n []

-- the first letter in the link to the site at place i
abbrev pub next_in : List (List Letter) → SeenCore → ℕ → Option Letter
next_in links core i = option_and_then (λ (letters : List Letter). slice_get letters 0) (slice_get links (link_to core.site (place_at core i)))

-- what each event needs besides its place: a Take needs a letter, and each other event passes the test of its core
abbrev pub can_there : List (List Letter) → SeenCore → EventKind → Bool
can_there links core (event.Take i) = is_some (next_in links core i)
can_there links core kind = passes core kind

-- the site can do the event: its place is there, and what it needs
abbrev pub can_do : List (List Letter) → SeenCore → EventKind → Bool
can_do links core kind = has_place core (shape_of kind) && can_there links core kind

-- the meal of a site that eats, by the whole lists
abbrev pub meal_of : SeenPlan → ℕ → LocalState → Option SeenMeal
meal_of plan s state = if is_eating state.phase
    then Some (record { site = s; k = state.ate; forks = forks_in_hand plan s state (all_places state) })
    else None

-- which jobs of a site fail, in order
abbrev pub outcomes_of : SeenPlan → ℕ → List Bool
outcomes_of plan s = map (λ (job : SeenJob). job.fails) (jobs_of plan s)

-- A site of the world represents a state: its core does, its meal is that of the state, and its meals fail as the jobs
-- of the plan do.
pub record IsSiteOf (plan : SeenPlan) (state : LocalState) (world_site : WorldSite) : Type 0 where
  pub core : Refines plan state world_site.core
  pub meal : world_site.meal ≡ meal_of plan world_site.core.site state
  pub outcomes : world_site.outcomes ≡ outcomes_of plan world_site.core.site
