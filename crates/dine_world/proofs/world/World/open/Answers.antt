use Rattle.std.proofs.Common.{Bool, List, Vec, Global, [], ◌≡◌, ◌∙◌, ap, subst, IfOk}
use Rattle.dine_graph.specs.Plan.{SeenPlan}
use Rattle.dine_rules.specs.Outcomes.{with_outcomes}
use Rattle.dine_rules.specs.World.{start}
use Rattle.dine_rules.proofs.shared.journals.OtherOutcomes.{own-outcomes}
use Rattle.dine_world.specs.Worlds.{IsWorldOf, lists_of}
use Rattle.dine_world.proofs.world.World.open.Goals as goal

-- with no lists the plan stays
pub returns : goal.returns
returns c =
    let plan : SeenPlan = c.args.plan.now in
    let none : c.as_slice.result.now ≡ [] = c.as_slice.ensures.value ∙ c.new-none.ensures.items in
    let own : with_outcomes plan (lists_of c.as_slice.result.now) ≡ plan = ap (λ (fails : List (Vec Bool Global)). with_outcomes plan (lists_of fails)) none ∙ own-outcomes plan in
    subst (λ (p : SeenPlan). IfOk c.open_by.result (IsWorldOf p (start p))) own c.open_by.ensures
