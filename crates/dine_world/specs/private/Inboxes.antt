-- For each site, the places with a letter in the link to the site.
use Rattle.std.specs.Prelude.{◌≡◌, ℕ, ◌<◌, ◌/◌, ◌%◌, ◌==◌, Bool, false, true, List, [], length, slice_get, slice_index_or, slice_set, Option, Some, None, is_some, option_and_then}
use Rattle.dine_rules.specs.declared.letters.Letter.{Letter}
use Rattle.dine_rules.specs.declared.events.EventKind.TheVariants as event
use Rattle.dine_world.specs.declared.world.EdgeEnds.{EdgeEnds}
use Rattle.dine_rules.specs.declared.events.Shape.{Shape}
use Rattle.dine_rules.specs.declared.events.Shape.TheVariants.{Takes, Puts, Alone}
use Rattle.dine_site.specs.Core.{SeenCore}
use Rattle.dine_site.specs.LinkNumbers.{link_from, link_to}
use Rattle.dine_site.specs.Places.{place_at}
use Rattle.dine_world.specs.Worlds.{SeenWorld, can_happen}

-- Each site has a set of 64. It has exactly the places at which the site can take a letter.
pub record HasInboxes (seen : SeenWorld) (nonempty_inboxes : List (List Bool)) : Type 0 where
  pub every_site : length nonempty_inboxes ≡ length seen.sites
  pub size : (s : ℕ) → s < length seen.sites → length (slice_index_or nonempty_inboxes s []) ≡ 64
  pub places : (s i : ℕ) → slice_index_or (slice_index_or nonempty_inboxes s []) i false ≡ can_happen seen (record { site = s; kind = event.Take i })

-- the link has a letter
abbrev pub has_letter : List (List Letter) → ℕ → Bool
has_letter links n = is_some (option_and_then (λ (letters : List Letter). slice_get letters 0) (slice_get links n))

-- a default, for the ends of an edge that is not there; no clause uses them
abbrev pub no_ends : EdgeEnds
no_ends = record { lower = 0; lower_place = 0; higher = 0; higher_place = 0 }

-- the higher end of an edge or the lower, with its place there
abbrev pub end_of : Bool → EdgeEnds → ℕ × ℕ
end_of true ends = (ends.higher, ends.higher_place)
end_of false ends = (ends.lower, ends.lower_place)

-- the site to which the link leads, and its place there: even links lead to the higher end
abbrev pub end_of_link : List EdgeEnds → ℕ → ℕ × ℕ
end_of_link edges n = end_of (n % 2 == 0) (slice_index_or edges (n / 2) no_ends)

-- the link that a letter is taken from, or put into, by an event of this shape
abbrev pub changed_link : SeenCore → Shape → Option ℕ
changed_link core (Takes i) = Some (link_to core.site (place_at core i))
changed_link core (Puts i) = Some (link_from core.site (place_at core i))
changed_link core Alone = None

-- the link leads to one of 64 places of a site that has a set
abbrev pub LeadsToSet : List EdgeEnds → List (List Bool) → Option ℕ → Type 0
LeadsToSet edges nonempty_inboxes None = Unit {0}
LeadsToSet edges nonempty_inboxes (Some n) = (n / 2 < length edges) × ((end_of_link edges n).0 < length nonempty_inboxes) × ((end_of_link edges n).1 < 64)

-- the sets, after it was noted at the place to which the link leads whether the link has a letter
abbrev pub inboxes_after : List (List Letter) → List EdgeEnds → Option ℕ → List (List Bool) → List (List Bool)
inboxes_after links edges None nonempty_inboxes = nonempty_inboxes
inboxes_after links edges (Some n) nonempty_inboxes =
    let end = end_of_link edges n in
    slice_set nonempty_inboxes end.0 (slice_set (slice_index_or nonempty_inboxes end.0 []) end.1 (has_letter links n))
