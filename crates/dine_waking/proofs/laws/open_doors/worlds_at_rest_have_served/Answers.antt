use Rattle.dine_waking.proofs.Resting.{all_at_rest_think}
use Rattle.dine_waking.proofs.laws.open_doors.worlds_at_rest_have_served.Goals as goal

pub returns : goal.returns
returns c = record { thinks = λ plan events world s is_plan reached all is_site. all_at_rest_think plan events world is_plan reached all s is_site }
