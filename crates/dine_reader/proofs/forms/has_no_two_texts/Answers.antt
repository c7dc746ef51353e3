use Rattle.std.proofs.Common.{not, ap}
use Rattle.dine_reader.specs.RefusalTests.{is_wrong}
use Rattle.dine_reader.proofs.forms.has_no_two_texts.Goals as goal

pub returns-in-Some : goal.returns-in-Some
unfolding is_wrong
returns-in-Some c =
    rw (← rw c.in-Some.is at c.get.ensures) (ap not c.is_two_texts.ensures)

pub returns-in-None : goal.returns-in-None
unfolding is_wrong
returns-in-None c =
    rw (← rw c.in-None.is at c.get.ensures)
