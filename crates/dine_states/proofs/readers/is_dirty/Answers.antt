use Rattle.std.proofs.Common.{nat_lt, Some, None, ◌∙◌}
use Rattle.std.proofs.lemmas.Bool.{cond-true, lt-ltb}
use Rattle.std.proofs.lemmas.Option.{same_Some}
use Rattle.dine_graph.specs.Plan.{edge_count}
use Rattle.dine_world.specs.Whereabouts.{is_fork_dirty}
use Rattle.dine_states.proofs.Reading.{dirty_read, one_fork}
use Rattle.dine_states.proofs.readers.is_dirty.Goals as goal

pub returns-in-Some : goal.returns-in-Some
returns-in-Some c state is here =
    let plan = c.args.plan.now in
    let end = c.args.end in
    same_Some c.in-Some.dirty (is_fork_dirty plan state end.edge) (c.in-Some.ensures plan state is ∙ cond-true (nat_lt end.edge (edge_count plan)) (Some (is_fork_dirty plan state end.edge)) None (lt-ltb end.edge (edge_count plan) c.requires.edge))
    ∙ dirty_read plan state end c.requires (one_fork plan state end.edge is.reached c.requires.edge) here
