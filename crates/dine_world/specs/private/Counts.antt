-- How many events each site of the world can do, and which of the counts that are kept are right.
use Rattle.std.specs.Prelude.{◌≡◌, ℕ, Bool, false, List, [], filter, length, slice_get, slice_index_or}
use Rattle.std.specs.List.{range_with_len}
use Rattle.std.specs.Option.{option_map_or}
use Rattle.dine_rules.specs.declared.letters.Letter.{Letter}
use Rattle.dine_rules.specs.declared.events.EventKind.{EventKind}
use Rattle.dine_world.specs.declared.world.sites.WorldSite.{WorldSite}
use Rattle.dine_rules.specs.World.{kinds_at}
use Rattle.dine_site.specs.Core.{SeenCore}
use Rattle.dine_site.specs.NextEvent.{can_by_itself, own_kinds}
use Rattle.dine_world.specs.WorldSites.{can_do}
use Rattle.dine_world.specs.Worlds.{SeenWorld}

-- the events that a site can do, with these letters in the links, in the fixed order
abbrev pub kinds_now : List (List Letter) → SeenCore → List EventKind
kinds_now links core = filter (can_do links core) (kinds_at (range_with_len 0 (length core.places)))

-- the events that the site with this number can do, or none if there is no such site
abbrev pub kinds_now_at : SeenWorld → ℕ → List EventKind
kinds_now_at seen s = option_map_or (λ (world_site : WorldSite). kinds_now seen.links world_site.core) (slice_get seen.sites s) []

-- the events that a site can do without a letter
abbrev pub own_kinds_now : SeenCore → List EventKind
own_kinds_now core = filter (can_by_itself core) (own_kinds (range_with_len 0 (length core.places)))

-- There is a count for each site. If the site is not in the set, it is the number of events that the site can do.
pub record HasCounts (seen : SeenWorld) (counts : List ℕ) (outdated_counts : List Bool) : Type 0 where
  pub every_site : length counts ≡ length seen.sites
  pub size : length outdated_counts ≡ 64
  pub others : (s : ℕ) → slice_index_or outdated_counts s false ≡ false → slice_index_or counts s 0 ≡ length (kinds_now_at seen s)
