use Rattle.dine_rules.proofs.shared.links.NextLetters.{reached_no_breach}
use Rattle.dine_rules.proofs.laws.next_letters_meet_no_breach.Goals as goal

pub returns : goal.returns
returns c = reached_no_breach
