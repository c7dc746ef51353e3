use Rattle.dine_rules.proofs.shared.ends_of_runs.Finishing.{whole_run_halts, halted_is_complete}
use Rattle.dine_rules.proofs.shared.ends_of_runs.ForkLogs.{log_lawful, log_whole}
use Rattle.dine_rules.proofs.shared.links.WorldStreams.{reached_kept}
use Rattle.dine_rules.proofs.laws.forks_are_lawful_and_whole.Goals as goal

pub returns : goal.returns
returns c = record {
  lawful = λ plan events world edge is_plan reached within. log_lawful plan is_plan world (reached_kept plan events world is_plan reached) edge within;
  whole = λ plan events world edge is_plan reached within. log_whole plan is_plan world (reached_kept plan events world is_plan reached) edge within;
  run_lawful = λ plan choices edge is_plan within. let w = whole_run_halts plan is_plan choices in log_lawful plan is_plan _ (reached_kept plan w.events _ is_plan w.reaches) edge within;
  run_whole = λ plan choices edge is_plan within. let w = whole_run_halts plan is_plan choices in log_whole plan is_plan _ (reached_kept plan w.events _ is_plan w.reaches) edge within (halted_is_complete plan is_plan _ w);
}
