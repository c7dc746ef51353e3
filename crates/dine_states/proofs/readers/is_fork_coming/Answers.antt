use Rattle.std.proofs.Common.{ℕ, ◌==◌, ◌∙◌, ap}
use Rattle.dine_rules.specs.Letters.{forks_in}
use Rattle.dine_rules.specs.Links.{queue_to}
use Rattle.dine_world.specs.Whereabouts.{forks_at, forks_to}
use Rattle.dine_states.proofs.Reading.{end_of, going_read}
use Rattle.dine_states.proofs.readers.is_fork_coming.Goals as goal

pub returns : goal.returns
returns c state is =
    let plan = c.args.plan.now in
    let end = c.args.end in
    c.is_going_to.ensures ∙ going_read plan end.edge (forks_at plan state end.edge) (forks_to plan state end.edge) c.where_is_fork.result end.site (c.where_is_fork.ensures plan state is) (end_of plan end c.requires)
    ∙ ap (λ (i : ℕ). forks_in (queue_to plan state end.site i) == 1) c.requires.only_at
