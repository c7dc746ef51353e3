use Rattle.dine_rules.proofs.one_site.FirstBreach.{none_applies, told_applies, told_is_first}
use Rattle.dine_rules.proofs.laws.first_breach_is_first.Goals as goal

pub returns : goal.returns
returns c = record { applies = told_applies; first = told_is_first; none = none_applies }
