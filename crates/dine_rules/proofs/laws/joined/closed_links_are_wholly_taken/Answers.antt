use Rattle.dine_rules.proofs.shared.two_ends.TwoEnds.{all_taken_with_close}
use Rattle.dine_rules.proofs.laws.joined.closed_links_are_wholly_taken.Goals as goal

pub returns : goal.returns
returns c = λ from_lower taken put lawful prefix closed. all_taken_with_close taken put lawful.close_last prefix closed
