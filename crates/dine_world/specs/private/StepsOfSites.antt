-- The steps of one site of a world, and what they do to the links around it.
use Rattle.std.specs.Prelude.{◌≡◌, ℕ, ◌-◌, ◌<◌, not, Bool, false, true, List, [], ◌∷◌, ◌++◌, length, drop, slice_index_or, slice_set, Option, Some, None, is_some, MatchOption}
use Rattle.dine_graph.specs.Plan.{SeenPlan}
use Rattle.dine_rules.specs.declared.letters.Letter.{Letter}
use Rattle.dine_rules.specs.declared.events.EventKind.{EventKind}
use Rattle.dine_world.specs.declared.world.sites.WorldSite.{WorldSite}
use Rattle.dine_rules.specs.Local.{LocalState, is_eating}
use Rattle.dine_rules.specs.Holdings.{EatsWithAll}
use Rattle.dine_rules.specs.declared.events.Shape.{Shape}
use Rattle.dine_rules.specs.declared.events.Shape.TheVariants.{Takes, Puts, Alone}
use Rattle.dine_rules.specs.Steps.{Step, after, shape_of, step_by, with_put}
use Rattle.dine_rules.specs.Streams.{KeepsStreams}
use Rattle.dine_site.specs.Core.{SeenCore}
use Rattle.dine_site.specs.Places.{IsMealOf, place_at, breach_at}
use Rattle.dine_site.specs.LinkNumbers.{link_to, link_from}
use Rattle.dine_world.specs.WorldSites.{IsSiteOf, letters_in, next_in}

-- there is a letter, and it is allowed at place i
abbrev pub meets_no_breach : SeenCore → ℕ → Option Letter → Bool
meets_no_breach core i None = false
meets_no_breach core i (Some l) = not (is_some (breach_at core.site core.ate (place_at core i) l))

-- the letter that is taken is allowed
abbrev pub TakesAllowed : List (List Letter) → SeenCore → Shape → Type 0
TakesAllowed links core (Takes i) = meets_no_breach core i (next_in links core i) ≡ true
TakesAllowed links core (Puts i) = Unit {0}
TakesAllowed links core Alone = Unit {0}

-- meal k failed, by the outcomes of the meals in order, k from 1
abbrev pub has_failed : List Bool → ℕ → Bool
has_failed outcomes k = slice_index_or outcomes (k - 1) false

-- the step for an event of the site, by the outcomes of its meals and by the next letter in the link
abbrev pub step_in : List Bool → List (List Letter) → SeenCore → EventKind → Option Step
step_in outcomes links core = step_by (has_failed outcomes core.ate) (next_in links core)

-- the links, after this letter was put at the end of one
abbrev pub with_letter : List (List Letter) → ℕ → Letter → List (List Letter)
with_letter links n l = slice_set links n (letters_in links n ++ l ∷ [])

-- the links, after the first letter of one was taken
abbrev pub without_next : List (List Letter) → ℕ → List (List Letter)
without_next links n = slice_set links n (drop 1 (letters_in links n))

-- the step puts a letter at place i, and it is the last one in the link that leads away
abbrev pub PutsAt : SeenPlan → LocalState → SeenCore → ℕ → Step → List (List Letter) → List (List Letter) → Type 0
PutsAt plan state core i one old new = (l : Letter) × (after plan core.site state one ≡ with_put i l state) × (new ≡ with_letter old (link_from core.site (place_at core i)) l)

-- what a step of this shape does to the links
abbrev pub MovesLetters : SeenPlan → LocalState → SeenCore → Shape → Step → List (List Letter) → List (List Letter) → Type 0
MovesLetters plan state core (Takes i) one old new = new ≡ without_next old (link_to core.site (place_at core i))
MovesLetters plan state core (Puts i) one old new = PutsAt plan state core i one old new
MovesLetters plan state core Alone one old new = new ≡ old

-- The site did the step: it represents the state after it, and its letter was put on a link or taken from one.
pub record SiteStep (plan : SeenPlan) (state : LocalState) (kind : EventKind) (one : Step) (old new : WorldSite) (links new_links : List (List Letter)) : Type 0 where
  pub site : new.core.site ≡ old.core.site
  pub stands : IsSiteOf plan (after plan old.core.site state one) new
  pub letters : MovesLetters plan state old.core (shape_of kind) one links new_links

-- the same for each state that keeps the streams and that the site represents
abbrev pub SiteSteps : EventKind → WorldSite → WorldSite → List (List Letter) → List (List Letter) → Type 0
SiteSteps kind old new links new_links = (plan : SeenPlan) (state : LocalState) (one : Step) → KeepsStreams plan old.core.site state → EatsWithAll plan old.core.site state
    → IsSiteOf plan state old → step_in old.outcomes links old.core kind ≡ Some one → SiteStep plan state kind one old new links new_links

-- if the core eats, the meal is its meal; else there is none
abbrev pub HasOwnMeal : WorldSite → Type 0
HasOwnMeal world_site = MatchOption world_site.meal (is_eating world_site.core.phase ≡ false) (λ meal. (is_eating world_site.core.phase ≡ true) × IsMealOf world_site.core meal)

-- the link that leads away at place i is there, with fewer than four letters in it
abbrev pub HasRoomAt : List (List Letter) → SeenCore → ℕ → Type 0
HasRoomAt links core i = (link_from core.site (place_at core i) < length links) × (length (letters_in links (link_from core.site (place_at core i))) < 4)

-- if an event of this shape puts a letter, its link has capacity
abbrev pub HasRoomFor : List (List Letter) → SeenCore → Shape → Type 0
HasRoomFor links core (Takes i) = Unit {0}
HasRoomFor links core (Puts i) = HasRoomAt links core i
HasRoomFor links core Alone = Unit {0}

-- the site does not eat, and there is no meal
pub record IsNotEating (world_site : WorldSite) : Type 0 where
  pub not_eating : is_eating world_site.core.phase ≡ false
  pub no_meal : world_site.meal ≡ None
