use Rattle.dine_rules.proofs.journals.Quitting.{journal_shows}
use Rattle.dine_rules.proofs.laws.journals.journals_show_a_failure_by_quitting.Goals as goal

pub returns : goal.returns
returns c = λ plan s journal state k failed is. journal_shows plan s journal state is k failed
