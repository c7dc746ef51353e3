use Rattle.dine_waking.proofs.Bounded.{reached_keeps}
use Rattle.dine_waking.proofs.laws.runs_go_through_reached_worlds.Goals as goal

pub returns : goal.returns
returns c plan is_open n run is_plan leads = let keeps = reached_keeps plan is_plan is_open n run leads in (keeps.events, keeps.reached)
