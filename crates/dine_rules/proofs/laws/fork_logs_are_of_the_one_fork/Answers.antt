use Rattle.dine_rules.proofs.shared.ends_of_runs.ForkLogs.{log_in_hand, log_in_link}
use Rattle.dine_rules.proofs.shared.links.WorldStreams.{reached_kept}
use Rattle.dine_rules.proofs.laws.fork_logs_are_of_the_one_fork.Goals as goal

pub returns : goal.returns
returns c = record {
  held = λ plan events world s i is_plan reached is_site within. log_in_hand plan is_plan world (reached_kept plan events world is_plan reached) s i is_site within;
  sent = λ plan events world s i is_plan reached is_site within. log_in_link plan is_plan world (reached_kept plan events world is_plan reached) s i is_site within;
}
