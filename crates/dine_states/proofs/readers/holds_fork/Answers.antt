use Rattle.std.proofs.Common.{ℕ, ◌==◌, ◌∙◌, ap}
use Rattle.dine_rules.specs.Holdings.{fork_at}
use Rattle.dine_rules.specs.World.{state_of}
use Rattle.dine_world.specs.Whereabouts.{forks_at, forks_to}
use Rattle.dine_states.proofs.Reading.{at_read, end_of}
use Rattle.dine_states.proofs.readers.holds_fork.Goals as goal

pub returns : goal.returns
returns c state is =
    let plan = c.args.plan.now in
    let end = c.args.end in
    c.is_at.ensures ∙ at_read plan end.edge (forks_at plan state end.edge) (forks_to plan state end.edge) c.where_is_fork.result end.site (c.where_is_fork.ensures plan state is) (end_of plan end c.requires)
    ∙ ap (λ (i : ℕ). fork_at plan end.site (state_of state end.site) i == 1) c.requires.only_at
