use Rattle.dine_run.proofs.Ordered.{Known, forks_of_order, forks_of_plan, world_is}
use Rattle.dine_run.proofs.laws.orders_give_the_gathered_forks.Goals as goal

pub returns : goal.returns
returns c =
    let places = c.edges_have_a_place_at_each_end.ensures in
    let known : Known = record {
      ends = places.ends;
      edge = places.edge;
      fixed = c.journals_fix_the_world.ensures;
      held = c.fork_logs_are_of_the_one_fork.ensures.held;
    } in
    record {
      forks = λ plan ates links forks journals events world is_plan headline journals_are holds reached.
          forks_of_order known plan ates links forks is_plan headline journals journals_are events world holds reached;
      by_the_plan = λ plan ates links forks journals events world is_plan headline journals_are holds reached.
          forks_of_plan known plan ates links forks is_plan headline journals journals_are events world holds reached;
      states = λ plan ates links forks journals events world is_plan headline journals_are holds reached.
          world_is known plan ates links forks is_plan headline journals journals_are events world holds reached;
    }
