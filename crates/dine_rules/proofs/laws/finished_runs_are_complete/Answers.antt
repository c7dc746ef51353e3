use Rattle.dine_rules.proofs.shared.ends_of_runs.Finishing.{finish_halts, whole_run_halts, halted_is_complete}
use Rattle.dine_rules.proofs.laws.finished_runs_are_complete.Goals as goal

pub returns : goal.returns
returns c = record {
  halts = λ plan events world is_plan reached. (finish_halts plan is_plan (record { world = world; events = 0 }) events reached).none;
  complete = λ plan events world is_plan reached. halted_is_complete plan is_plan _ (finish_halts plan is_plan (record { world = world; events = 0 }) events reached);
  whole_run_halts = λ plan choices is_plan. (whole_run_halts plan is_plan choices).none;
  whole_run_complete = λ plan choices is_plan. halted_is_complete plan is_plan _ (whole_run_halts plan is_plan choices);
}
