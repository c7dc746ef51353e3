use Rattle.dine_waking.proofs.Bounded.{reached_keeps}
use Rattle.dine_waking.proofs.Rang.{rang_for_request, rang_waits}
use Rattle.dine_waking.proofs.laws.manners.a_ring_for_a_request_asks.Goals as goal

pub returns : goal.returns
returns c = record {
  asks = λ plan is_open n old new s is_plan leads is_site ring is. rang_for_request plan is_plan old new s (reached_keeps plan is_plan is_open n old leads) is_site ring is;
  waits = λ plan is_open n old new s is_plan leads is_site ring is. rang_waits plan is_plan old new s (reached_keeps plan is_plan is_open n old leads) is_site ring is;
}
