use Rattle.dine_rules.specs.Holdings.{fork_at}
use Rattle.dine_rules.specs.Local.{edge_at, traffic_at}
use Rattle.dine_wire.proofs.shared.CarriedGrowth.{last_is_kept, none_is_kept}
use Rattle.dine_wire.proofs.laws.the_last_fork_is_kept.Goals as goal

pub returns : goal.returns
returns c = record {
  away = λ plan s i state keeps within. last_is_kept plan s (edge_at plan s i) (fork_at plan s state i) (traffic_at state i) (keeps.places i within).forks_counted;
  here = λ plan s i state keeps within. none_is_kept plan s (edge_at plan s i) (fork_at plan s state i) (traffic_at state i) (keeps.places i within).forks_counted;
}
