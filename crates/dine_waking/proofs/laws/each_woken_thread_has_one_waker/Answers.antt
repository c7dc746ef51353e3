use Rattle.dine_waking.proofs.Bounded.{reached_keeps}
use Rattle.dine_waking.proofs.Progress.{finds_woken}
use Rattle.dine_waking.proofs.laws.each_woken_thread_has_one_waker.Goals as goal

pub returns : goal.returns
returns c = record {
  found = λ plan is_open n run s i is_plan leads is_site wakes. finds_woken plan is_plan run (reached_keeps plan is_plan is_open n run leads) s is_site i wakes;
  woken = λ plan is_open n run s i is_plan leads is_site within woken. ((reached_keeps plan is_plan is_open n run leads).waking s i is_site within).comes woken;
}
