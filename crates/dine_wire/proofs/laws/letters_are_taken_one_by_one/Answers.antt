use Rattle.std.proofs.Common.{ℕ, List, [], ◌∷◌, ◌++◌, sym, ◌∙◌, ap}
use Rattle.dine_wire.specs.Runs.{is_of_run}
use Rattle.dine_wire.proofs.shared.CarriedGrowth.{bytes_grow, grows_by_put, grows_by_take}
use Rattle.dine_wire.proofs.shared.LettersOfRuns.{is_own, of_run-other, of_run-own}
use Rattle.dine_wire.proofs.laws.letters_are_taken_one_by_one.Goals as goal

pub returns : goal.returns
returns c = record {
  start = λ plan s edge k fork h. absurd cc;
  put = grows_by_put;
  take = λ plan run s edge traffic l bytes goes arrives. grows_by_take plan s edge traffic l goes arrives.of_kept;
  bytes = λ plan run s edge traffic l bytes arrived small took arrives.
      bytes_grow plan s edge run traffic.taken bytes l arrives.are
      ∙ ap (λ (b : List (List ℕ)). b ++ bytes ∷ []) took
      ∙ sym (of_run-own run arrived bytes (ap (is_of_run run) arrives.are ∙ is_own run edge l small));
  others = λ run edge traffic bytes arrived took other. took ∙ sym (of_run-other run arrived bytes other);
}
