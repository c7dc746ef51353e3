use Rattle.std.proofs.Common.{ℕ, ◌==◌, ◌∙◌, ap}
use Rattle.dine_rules.specs.Holdings.{token_at}
use Rattle.dine_rules.specs.World.{state_of}
use Rattle.dine_world.specs.Whereabouts.{tokens_at, tokens_to}
use Rattle.dine_states.proofs.Reading.{at_read, end_of}
use Rattle.dine_states.proofs.readers.holds_token.Goals as goal

pub returns : goal.returns
returns c state is =
    let plan = c.args.plan.now in
    let end = c.args.end in
    c.is_at.ensures ∙ at_read plan end.edge (tokens_at plan state end.edge) (tokens_to plan state end.edge) c.where_is_token.result end.site (c.where_is_token.ensures plan state is) (end_of plan end c.requires)
    ∙ ap (λ (i : ℕ). token_at plan end.site (state_of state end.site) i == 1) c.requires.only_at
