-- What the steps of a core need of one of its places.
use Rattle.std.specs.Prelude.{ℕ, Bool, false, Option, Some, None}
use Rattle.dine_token.specs.Fork.{SeenFork, IsEnd}
use Rattle.dine_site.specs.declared.site.places.Place.{Place}
use Rattle.dine_site.specs.declared.site.places.ForkSlot.{ForkSlot}
use Rattle.dine_site.specs.declared.site.places.ForkSlot.TheVariants.{Away, Here, InMeal}
use Rattle.dine_site.specs.Places.{OnHere, neighbour_of}

-- the slot with the fork in hand, or away if there is none
abbrev pub slot_from : Option SeenFork → ForkSlot
slot_from None = Away
slot_from (Some fork) = Here fork

-- a place before the first step, with its fork and its token, if they are there
abbrev pub fresh_place : ℕ → ℕ × ℕ → ℕ × ℕ → Bool → Option SeenFork → Option ℕ → Place
fresh_place edge ends due neighbour_resigns fork token = record { edge = edge; ends = ends; due = due; neighbour_resigns = neighbour_resigns; fork = slot_from fork; token = token; done_put = false; done_taken = false; close_put = false; close_taken = false }

-- if a fork is in hand in the slot, the number is one of its ends
abbrev pub EndsOf : ForkSlot → ℕ → Type 0
EndsOf Away end = Unit {0}
EndsOf (Here fork) end = IsEnd fork end
EndsOf (InMeal meals) end = Unit {0}

-- the fork is in hand, and the site is an end of it
abbrev pub IsLiftable : ℕ → Place → Type 0
IsLiftable s place = OnHere (λ fork. IsEnd fork (neighbour_of s place)) place.fork
