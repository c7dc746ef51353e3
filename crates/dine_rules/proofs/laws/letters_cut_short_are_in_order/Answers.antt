use Rattle.dine_rules.proofs.one_site.CutShort.{closed_in_order, front_in_order}
use Rattle.dine_rules.proofs.laws.letters_cut_short_are_in_order.Goals as goal

pub returns : goal.returns
returns c = record { front = front_in_order; closed = closed_in_order }
