use Rattle.std.proofs.Common.{◌≡◌, take, drop, vec_capacity}
use Rattle.dine_site.specs.Places.{forks_of, tokens_of}
use Rattle.dine_site.proofs.site.meals.collect.Given as goal

-- what the places before this one had is handed out, and the other places are as they came
abbrev pub invariant-loop-place : goal.invariant-loop-place
invariant-loop-place l = (drop l.place-index l.places ≡ drop l.place-index l.fn.places)
    × (l.parts.forks.items ≡ forks_of (take l.place-index l.fn.places)) × (l.parts.tokens.items ≡ tokens_of (take l.place-index l.fn.places))
    × (vec_capacity l.parts.forks ≡ vec_capacity l.fn.parts.forks) × (vec_capacity l.parts.tokens ≡ vec_capacity l.fn.parts.tokens)
