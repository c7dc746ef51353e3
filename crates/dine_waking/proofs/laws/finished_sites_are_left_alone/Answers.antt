use Rattle.dine_waking.proofs.Bounded.{reached_keeps}
use Rattle.dine_waking.proofs.Ended.{finished_is_silent, rung_has_not_finished}
use Rattle.dine_waking.proofs.laws.finished_sites_are_left_alone.Goals as goal

pub returns : goal.returns
returns c = record {
  silent = λ plan is_open n run s is_plan leads is_site finished. finished_is_silent plan is_plan run (reached_keeps plan is_plan is_open n run leads) s is_site finished;
  not_rung = λ plan is_open n run s i kind is_plan leads is_site rings. rung_has_not_finished plan is_plan run (reached_keeps plan is_plan is_open n run leads) s i kind is_site rings;
}
