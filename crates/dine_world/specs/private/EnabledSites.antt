-- Which sites of the world may have an enabled event, and the first event of a site.
use Rattle.std.specs.Prelude.{◌≡◌, ℕ, ◌<◌, Bool, false, true, List, length, find, slice_get, slice_index_or, slice_set, Option, Some, None, option_and_then}
use Rattle.std.specs.List.{range_with_len}
use Rattle.dine_rules.specs.declared.letters.Letter.{Letter}
use Rattle.dine_rules.specs.declared.events.EventKind.{EventKind}
use Rattle.dine_world.specs.declared.world.sites.WorldSite.{WorldSite}
use Rattle.dine_rules.specs.declared.events.Shape.{Shape}
use Rattle.dine_rules.specs.declared.events.Shape.TheVariants.{Takes, Puts, Alone}
use Rattle.dine_rules.specs.World.{kinds_at}
use Rattle.dine_site.specs.Core.{SeenCore}
use Rattle.dine_site.specs.Places.{neighbour_of, place_at}
use Rattle.dine_world.specs.WorldSites.{can_do}
use Rattle.dine_world.specs.Worlds.{SeenWorld, can_happen}

-- no event of the site can happen
abbrev pub IsStill : SeenWorld → ℕ → Type 0
IsStill seen s = (kind : EventKind) → can_happen seen (record { site = s; kind = kind }) ≡ false

-- The set has each site that is not still, and may have others.
pub record HasAllEnabled (seen : SeenWorld) (may_be_enabled : List Bool) : Type 0 where
  pub size : length may_be_enabled ≡ 64
  pub others : (s : ℕ) → slice_index_or may_be_enabled s false ≡ false → IsStill seen s

-- an event of this shape puts no letter, or puts one at a place of the site, and the number of the neighbour there is
-- less than 64
abbrev pub HasReceiver : SeenCore → Shape → Type 0
HasReceiver core (Takes i) = Unit {0}
HasReceiver core (Puts i) = (i < length core.places) × (neighbour_of core.site (place_at core i) < 64)
HasReceiver core Alone = Unit {0}

-- the site that gets the letter, if the event puts one
abbrev pub receiver_of : SeenCore → Shape → Option ℕ
receiver_of core (Takes i) = None
receiver_of core (Puts i) = Some (neighbour_of core.site (place_at core i))
receiver_of core Alone = None

-- the set with the site, if there is one
abbrev pub with_site : Option ℕ → List Bool → List Bool
with_site None sites = sites
with_site (Some s) sites = slice_set sites s true

-- the set with the site that gets the letter, if the event puts one
abbrev pub with_receiver : SeenCore → Shape → List Bool → List Bool
with_receiver core shape sites = with_site (receiver_of core shape) sites

-- the first event that a site may do, in the fixed order, with these letters in the links
abbrev pub first_kind : List (List Letter) → SeenCore → Option EventKind
first_kind links core = find (can_do links core) (kinds_at (range_with_len 0 (length core.places)))

-- the same for the site with this number, if there is one
abbrev pub first_kind_at : SeenWorld → ℕ → Option EventKind
first_kind_at seen s = option_and_then (λ (world_site : WorldSite). first_kind seen.links world_site.core) (slice_get seen.sites s)
