-- What a site starts with.
use Rattle.dine_site.specs.Core.{SeenCore}
use Rattle.dine_site.specs.Standing.{IsFreshFor}
use Rattle.dine_graph.specs.Plan.{SeenPlan}
use Rattle.dine_site_thread.specs.declared.diner.Diner as diners

-- For some plan, the core is fresh (`IsFreshFor`), and the diner expects to eat in this plan, at the site of the core.
abbrev pub MayStart : {D : Type 0} → diners.Ghosts D → D → SeenCore → Type 0
MayStart eater diner core = (plan : SeenPlan) × IsFreshFor plan core × eater.expects diner plan core.site
