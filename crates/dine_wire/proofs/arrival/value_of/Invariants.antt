use Rattle.std.proofs.Common.{◌≡◌, ◌+◌, ◌*◌, ◌-◌, ◌<◌, ◌^◌}
use Rattle.dine_token.specs.declared.limits.TheConstants.{MAX_NUMBER}
use Rattle.dine_rules.specs.Values.{after_meals}
use Rattle.dine_wire.proofs.arrival.value_of.Given as goal

-- the value after i meals, which has space for the meals that are left
abbrev pub invariant-loop-i : goal.invariant-loop-i
invariant-loop-i l = (l.value ≡ after_meals l.initial.plan l.initial.site (l.initial.ate + 1) l.i l.fn.value) × (l.value + MAX_NUMBER * (l.initial.meals - l.i) < 2 ^ 64)
