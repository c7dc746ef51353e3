-- How a plan that sites share is kept.
use Rattle.std.specs.Arc.{arc_value}
use Rattle.dine_graph.specs.Plan.{SeenPlan}
use Rattle.dine_ffi.specs.declared.own_plan.OwnPlan.TheInside.{Inside}

-- the plan that the fields represent
abbrev pub seen_own_plan : Inside → SeenPlan
seen_own_plan own = arc_value own.plan
