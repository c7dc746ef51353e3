-- The fork of an edge in a world, at a site, in a meal or in a link; and how it is taken out.
use Rattle.std.specs.Prelude.{◌≡◌, ℕ, ◌+◌, ◌*◌, ◌<◌, false, List, [], ◌∷◌, length, slice_get, slice_index_or, slice_set, Option, Some, None, option_and_then}
use Rattle.std.specs.Option.{option_or}
use Rattle.dine_token.specs.Fork.{SeenFork}
use Rattle.dine_token.specs.Meal.{SeenMeal}
use Rattle.dine_rules.specs.declared.letters.Letter.{Letter}
use Rattle.dine_rules.specs.declared.letters.Letter.TheVariants.{Fork, Request, Done, Close}
use Rattle.dine_rules.specs.declared.phase.Phase.TheVariants.{Thinking}
use Rattle.dine_site.specs.declared.site.places.ForkSlot.{ForkSlot}
use Rattle.dine_site.specs.declared.site.places.ForkSlot.TheVariants.{Away, Here, InMeal}
use Rattle.dine_world.specs.declared.world.sites.WorldSite.{WorldSite}
use Rattle.dine_world.specs.declared.world.EdgeEnds.{EdgeEnds}
use Rattle.dine_site.specs.Core.{SeenCore}
use Rattle.dine_site.specs.Places.{place_at, after_give, after_end}
use Rattle.dine_world.specs.WorldSites.{letters_in}

-- a default, for a core that is not there
abbrev pub absent_core : SeenCore
absent_core = record { site = 0; due = 0; acts = []; resigns = false; phase = Thinking; ate = 0; must_quit = false; has_quit = false; places = [] }

-- A core that does not eat, as a site. Its forks are needed and not how its meals turn out, so it has no outcomes.
abbrev pub at_rest : SeenCore → WorldSite
at_rest core = record { core = core; meal = None; outcomes = [] }

-- a default, for a site that is not there
abbrev pub absent_site : WorldSite
absent_site = at_rest absent_core

-- the site with this number
abbrev pub site_at : List WorldSite → ℕ → WorldSite
site_at sites s = slice_index_or sites s absent_site

-- a default, for the ends of an edge that is not there
abbrev pub no_ends : EdgeEnds
no_ends = record { lower = 0; lower_place = 0; higher = 0; higher_place = 0 }

-- the two ends of an edge, with its place at each
abbrev pub edge_ends : List EdgeEnds → ℕ → EdgeEnds
edge_ends edges e = slice_index_or edges e no_ends

-- the fork of place i, in hand or in the meal, by what its slot has
abbrev pub fork_in_slot : Option SeenMeal → ℕ → ForkSlot → Option SeenFork
fork_in_slot meal i Away = None
fork_in_slot meal i (Here fork) = Some fork
fork_in_slot meal i (InMeal meals) = option_and_then (λ (meal : SeenMeal). slice_get meal.forks i) meal

-- the fork of place i of a site, in hand or in its meal
abbrev pub fork_at_site : WorldSite → ℕ → Option SeenFork
fork_at_site world_site i = fork_in_slot world_site.meal i (place_at world_site.core i).fork

-- the first fork among the letters
abbrev pub first_fork : List Letter → Option SeenFork
first_fork [] = None
first_fork (Fork fork ∷ letters) = Some fork
first_fork (Request edge ∷ letters) = first_fork letters
first_fork (Done ∷ letters) = first_fork letters
first_fork (Close ∷ letters) = first_fork letters

-- the letters after the first fork among them
abbrev pub behind_fork : List Letter → List Letter
behind_fork [] = []
behind_fork (Fork fork ∷ letters) = letters
behind_fork (Request edge ∷ letters) = behind_fork letters
behind_fork (Done ∷ letters) = behind_fork letters
behind_fork (Close ∷ letters) = behind_fork letters

-- the fork of an edge: at its lower end, in the link to that end, at its higher end, or in the link to that end
abbrev pub fork_of_edge : List WorldSite → List (List Letter) → EdgeEnds → ℕ → Option SeenFork
fork_of_edge sites links ends e = option_or (option_or (option_or (fork_at_site (site_at sites ends.lower) ends.lower_place) (first_fork (letters_in links (2 * e + 1))))
    (fork_at_site (site_at sites ends.higher) ends.higher_place)) (first_fork (letters_in links (2 * e)))

-- the place is there, and is that of the edge
pub record IsPlaceOf (sites : List WorldSite) (s i e : ℕ) : Type 0 where
  pub site : s < length sites
  pub place : i < length (site_at sites s).core.places
  pub edge : (place_at (site_at sites s).core i).edge ≡ e

-- the ends of the edge are there, and so are its links
pub record IsEdgeAt (sites : List WorldSite) (links : List (List Letter)) (ends : EdgeEnds) (e : ℕ) : Type 0 where
  pub ordered : ends.lower < ends.higher
  pub lower : IsPlaceOf sites ends.lower ends.lower_place e
  pub higher : IsPlaceOf sites ends.higher ends.higher_place e
  pub within : 2 * e + 1 < length links

-- the fork of each edge is somewhere
pub record HasAllForks (sites : List WorldSite) (links : List (List Letter)) (edges : List EdgeEnds) : Type 0 where
  pub ends : (e : ℕ) → e < length edges → IsEdgeAt sites links (edge_ends edges e) e
  pub forks : (e : ℕ) → e < length edges → (fork : SeenFork) × (fork_of_edge sites links (edge_ends edges e) e ≡ Some fork)

-- the forks are those of all edges, in order
pub record AreForksOf (sites : List WorldSite) (links : List (List Letter)) (edges : List EdgeEnds) (forks : List SeenFork) : Type 0 where
  pub count : length forks ≡ length edges
  pub each : (e : ℕ) → e < length edges → slice_get forks e ≡ fork_of_edge sites links (edge_ends edges e) e

-- The core after the end of this meal, if there is one. Only its forks are needed, so it is as if the meal did not
-- fail.
abbrev pub meal_ended_by : Option SeenMeal → SeenCore → SeenCore
meal_ended_by None core = core
meal_ended_by (Some meal) core = after_end false meal.forks core

-- the core of the site after the end of its meal, if it eats
abbrev pub core_ended : WorldSite → SeenCore
core_ended world_site = meal_ended_by world_site.meal world_site.core

-- the site after the end of its meal, if it eats
abbrev pub meal_ended : WorldSite → WorldSite
meal_ended world_site = at_rest (core_ended world_site)

-- the sites, after the fork of place i of one was taken out
abbrev pub without_fork_at : ℕ → ℕ → List WorldSite → List WorldSite
without_fork_at s i sites = let world_site = site_at sites s in slice_set sites s (record world_site { core = after_give i world_site.core })

-- the links, after the letters of one were taken up to its first fork
abbrev pub without_fork : ℕ → List (List Letter) → List (List Letter)
without_fork n links = slice_set links n (behind_fork (letters_in links n))
