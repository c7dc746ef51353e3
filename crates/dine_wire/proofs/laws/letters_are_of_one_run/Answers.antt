use Rattle.dine_wire.proofs.shared.LettersOfRuns.{is_of_other, is_own, of_run-other, of_run-own}
use Rattle.dine_wire.proofs.laws.letters_are_of_one_run.Goals as goal

pub returns : goal.returns
returns c = record { own = is_own; others = is_of_other; of_run = of_run-own; of_others = of_run-other }
