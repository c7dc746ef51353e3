use Rattle.std.proofs.Common.{unwrap_or, ap, ◌∙◌}
use Rattle.dine_graph.specs.Plan.{SeenJob}
use Rattle.dine_world.proofs.all_sites.GivenOutcomes.{outcome_given}
use Rattle.dine_world.proofs.world.opening.has_failed.Goals as goal

pub returns : goal.returns
returns c =
    c.unwrap_or.ensures ∙ ap (unwrap_or c.given.result) (ap (λ (job : SeenJob). job.fails) c.job.ensures.job)
    ∙ outcome_given c.args.plan.now c.args.fails.now c.args.site c.args.k c.given.result c.requires.from_one c.requires.job_in c.given.ensures
