use Rattle.dine_reader.proofs.shared.DocumentLemmas.{items_in-as_array}
use Rattle.dine_reader.proofs.documents.items_in.Goals as goal

pub returns-in-Some : goal.returns-in-Some
returns-in-Some c = rw c.as_slice.ensures.value (items_in-as_array _ _ (rw c.in-Some.is at c.as_array.ensures))

pub returns-in-None : goal.returns-in-None
returns-in-None c = rw (← rw c.in-None.is at c.as_array.ensures)
