use Rattle.dine_waking.proofs.Bounded.{reached_keeps}
use Rattle.dine_waking.proofs.Capacity.{bell_is_small, rung_has_room}
use Rattle.dine_waking.proofs.laws.no_bell_is_full.Goals as goal

pub returns : goal.returns
returns c = record {
  few = λ plan is_open n run s is_plan leads is_site. bell_is_small plan is_plan run (reached_keeps plan is_plan is_open n run leads) s is_site;
  room = λ plan is_open n run s i kind is_plan leads is_site rings. rung_has_room plan is_plan run (reached_keeps plan is_plan is_open n run leads) s i kind is_site rings;
}
