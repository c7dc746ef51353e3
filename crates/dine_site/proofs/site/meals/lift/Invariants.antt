use Rattle.std.proofs.Common.{◌≡◌, ◌++◌, map, take, drop, vec_capacity}
use Rattle.dine_site.specs.Places.{place_in_meal, forks_of}
use Rattle.dine_site.proofs.site.meals.lift.Given as goal

-- the forks of the places before this one are in hand, and the other places are as they came
abbrev pub invariant-loop-place : goal.invariant-loop-place
invariant-loop-place l = (l.places ≡ map (place_in_meal l.site) (take l.place-index l.fn.places) ++ drop l.place-index l.fn.places)
    × (l.hands.items ≡ forks_of (take l.place-index l.fn.places)) × (vec_capacity l.hands ≡ vec_capacity l.fn.hands)
