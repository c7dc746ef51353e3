use Rattle.dine_waking.proofs.Accounts.{account}
use Rattle.dine_waking.proofs.Bounded.{reached_keeps}
use Rattle.dine_waking.proofs.laws.each_letter_is_rung_for.Goals as goal

pub returns : goal.returns
returns c plan is_open n run s i is_plan leads is_site within = account plan run s i ((reached_keeps plan is_plan is_open n run leads).sites s is_site) within
