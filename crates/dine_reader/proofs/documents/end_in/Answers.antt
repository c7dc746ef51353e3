use Rattle.std.proofs.Common.{◌∙◌}
use Rattle.dine_reader.specs.Document.{end_in}
use Rattle.dine_reader.proofs.documents.end_in.Goals as goal

pub returns-in-None : goal.returns-in-None
unfolding end_in
returns-in-None c = rw (← rw c.in-None.is at c.get.ensures)

pub returns-in-Some-get : goal.returns-in-Some-get
unfolding end_in
returns-in-Some-get c =
    c.text_in.ensures ∙ rw (← rw c.in-Some.is at c.get.ensures, ← rw c.in-Some-get.is at c.get-in-Some.ensures)

pub returns-in-None-get : goal.returns-in-None-get
unfolding end_in
returns-in-None-get c = rw (← rw c.in-Some.is at c.get.ensures, ← rw c.in-None-get.is at c.get-in-Some.ensures)
