use Rattle.dine_rules.proofs.shared.precedence.Acyclic.{precedence_acyclic}
use Rattle.dine_rules.proofs.laws.precedence_is_acyclic.Goals as goal

pub returns : goal.returns
returns c = precedence_acyclic
