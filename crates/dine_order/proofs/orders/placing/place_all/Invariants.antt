use Rattle.std.proofs.Common.{◌-◌, length, map}
use Rattle.dine_rules.specs.Bound.{bound_of}
use Rattle.dine_rules.specs.Shown.{plan_shown}
use Rattle.dine_order.specs.private.Searching.{IsSearching}
use Rattle.dine_order.proofs.orders.placing.place_all.Given as goal

abbrev pub invariant-loop-event : goal.invariant-loop-event
invariant-loop-event g l = IsSearching (plan_shown l.plan (map g.J.AsSlice.items l.journals)) (map g.J.AsSlice.items l.journals) l.placed.items l.counts l.untried l.world

-- no more events than the bound of the plan are placed
abbrev pub decreases-loop-event : goal.decreases-loop-event
decreases-loop-event g l = bound_of (plan_shown l.plan (map g.J.AsSlice.items l.journals)) - length l.placed.items
