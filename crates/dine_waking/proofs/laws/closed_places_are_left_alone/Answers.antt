use Rattle.dine_waking.proofs.Bounded.{reached_keeps}
use Rattle.dine_waking.proofs.Closed.{closed_is_silent, closed_not_rung}
use Rattle.dine_waking.proofs.laws.closed_places_are_left_alone.Goals as goal

pub returns : goal.returns
returns c = record {
  silent = λ plan is_open n run s i is_plan leads is_site within closed. closed_is_silent plan is_plan run (reached_keeps plan is_plan is_open n run leads) s i is_site within closed;
  not_rung = λ plan is_open n run s i is_plan leads is_site within closed. closed_not_rung plan is_plan run (reached_keeps plan is_plan is_open n run leads) s i is_site within closed;
}
