use Rattle.std.proofs.Common.{List, Bool, refl, sym, ◌∙◌, ap}
use Rattle.dine_graph.specs.Plan.{SeenPlan}
use Rattle.dine_rules.specs.Outcomes.{with_outcomes}
use Rattle.dine_world.specs.WorldSites.{outcomes_of}
use Rattle.dine_world.specs.Worlds.{lists_of}
use Rattle.dine_world.proofs.all_sites.GivenOutcomes.{stands_other}
use Rattle.dine_world.proofs.world.opening.site_of.Goals as goal

pub returns-clause-start : goal.returns-clause-start
returns-clause-start c =
    let fails : List (List Bool) = lists_of c.args.fails.now in
    let other : SeenPlan = with_outcomes c.args.plan.now fails in
    record {
      core = stands_other c.args.plan.now fails c.args.site c.in_ok-core.core c.in_ok-core.ensures.start;
      meal = refl;
      outcomes = c.in_ok-outcomes.ensures ∙ ap (outcomes_of other) (sym c.in_ok-core.ensures.site);
    }
