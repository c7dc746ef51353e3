use Rattle.std.proofs.Common.{◌≡◌, ◌++◌, map, take, drop}
use Rattle.dine_token.specs.Fork.{after_meal}
use Rattle.dine_token.proofs.meal.Meal.begin.Given as goal

-- the forks before this one have the meal, and the others are as they were
abbrev pub invariant-loop-hand : goal.invariant-loop-hand
invariant-loop-hand l = l.hand-items ≡ map (after_meal l.site l.k l.act) (take l.hand-index l.fn.hands.items) ++ drop l.hand-index l.fn.hands.items
