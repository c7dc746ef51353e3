use Rattle.std.proofs.Common.{◌≡◌, List, count_by, map}
use Rattle.dine_graph.specs.Plan.{SeenPlan}
use Rattle.dine_rules.specs.declared.events.Event.{Event}
use Rattle.dine_order.specs.private.Searching.{IsSearching}
use Rattle.dine_order.proofs.orders.placing.place_next.Given as goal

-- nothing was done, and the sites that were taken out are not ready
abbrev pub invariant-loop-site : goal.invariant-loop-site
invariant-loop-site g l = record {
  same : l.world ≡ l.initial.world;
  search : (plan : SeenPlan) (placed : List Event) → IsSearching plan (map g.J.AsSlice.items l.journals) placed l.counts l.initial.untried l.initial.world → IsSearching plan (map g.J.AsSlice.items l.journals) placed l.counts l.untried l.world;
}

-- each site that is taken out leaves fewer
abbrev pub decreases-loop-site : goal.decreases-loop-site
decreases-loop-site g l = count_by (λ b. b) l.untried
