-- The numbers of the links of the world.
use Rattle.std.specs.Prelude.{ℕ, ◌+◌, ◌*◌, ◌==◌, if◌then◌else◌}
use Rattle.dine_site.specs.declared.site.places.Place.{Place}

-- the number of the link that leads to end s of an edge with this lower end: link 2e leads to the higher end of edge e,
-- link 2e + 1 to its lower end
abbrev pub link_number_to : ℕ → ℕ → ℕ → ℕ
link_number_to s edge lower = 2 * edge + (if lower == s then 1 else 0)

-- the number of the link that leads away from end s of an edge with this lower end
abbrev pub link_number_from : ℕ → ℕ → ℕ → ℕ
link_number_from s edge lower = 2 * edge + (if lower == s then 0 else 1)

-- the number of the link that leads to the site at a place
abbrev pub link_to : ℕ → Place → ℕ
link_to s place = link_number_to s place.edge place.ends.0

-- the number of the link that leads away from the site at a place
abbrev pub link_from : ℕ → Place → ℕ
link_from s place = link_number_from s place.edge place.ends.0
