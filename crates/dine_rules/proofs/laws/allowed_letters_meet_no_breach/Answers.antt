use Rattle.dine_rules.proofs.shared.one_site.BreachLaw.{breach_law}
use Rattle.dine_rules.proofs.laws.allowed_letters_meet_no_breach.Goals as goal

pub returns : goal.returns
returns c = breach_law
