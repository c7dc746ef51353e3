use Rattle.dine_waking.proofs.Bounded.{run_ends}
use Rattle.dine_waking.proofs.laws.runs_can_end.Goals as goal

pub returns : goal.returns
returns c plan n run is_plan leads = let w = run_ends plan is_plan n run leads in (w.n, w.end, w.leads, w.ended)
