-- How the places of a site are kept: the list of them, and for each test the set of those that pass it.
use Rattle.std.specs.Prelude.{◌≡◌, ◌≤◌, List, length}
use Rattle.dine_set.specs.Marks.{marks_of}
use Rattle.dine_site.specs.declared.site.marked.MarkedPlaces.TheInside.{Inside}
use Rattle.dine_site.specs.declared.site.places.Place.{Place}
use Rattle.dine_site.specs.Places.{is_away_at, is_dirty_at, has_token_at, is_open_at, has_put_done_at, has_taken_done_at}

-- the places that the fields of the marked places represent
abbrev pub places_in : Inside → List Place
places_in places = places.items.items

-- There are at most 64 places, and each set has those that pass its test.
pub record IsMarked (places : Inside) : Type 0 where
  pub few : length places.items.items ≤ 64
  pub away : places.away ≡ marks_of is_away_at places.items.items
  pub dirty : places.dirty ≡ marks_of is_dirty_at places.items.items
  pub tokens : places.tokens ≡ marks_of has_token_at places.items.items
  pub unclosed : places.unclosed ≡ marks_of is_open_at places.items.items
  pub done_put : places.done_put ≡ marks_of has_put_done_at places.items.items
  pub done_taken : places.done_taken ≡ marks_of has_taken_done_at places.items.items
