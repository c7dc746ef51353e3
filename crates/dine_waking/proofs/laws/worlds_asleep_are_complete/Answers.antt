use Rattle.dine_rules.proofs.shared.links.WorldStreams.{reached_kept}
use Rattle.dine_waking.proofs.Asleep.{all_asleep_is_complete}
use Rattle.dine_waking.proofs.Progress.{complete_finished}
use Rattle.dine_waking.proofs.laws.worlds_asleep_are_complete.Goals as goal

pub returns : goal.returns
returns c = record {
  complete = all_asleep_is_complete;
  finished = λ plan events world s is_plan reached all is_site.
      complete_finished plan world s is_plan is_site ((reached_kept plan events world is_plan reached).keeps s is_site) (all_asleep_is_complete plan events world is_plan reached all);
}
