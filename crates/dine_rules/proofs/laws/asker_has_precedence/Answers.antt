use Rattle.dine_rules.proofs.one_site.Askers.{asker_first, asker_next}
use Rattle.dine_rules.proofs.laws.asker_has_precedence.Goals as goal

pub returns : goal.returns
returns c = record { at_most_one = asker_first; none_if_dirty = asker_next }
