-- The chain of the logs put and taken at one place.
use Rattle.std.proofs.Common.{◌≡◌, ℕ, ◌+◌, ◌-◌, ◌≤◌, Bool, true, false, List, [], ◌∷◌, ◌++◌, length, get_or, slice_get, Some, sym, ◌∙◌, ap, inl, inr, arith}
use Rattle.std.proofs.lemmas.List.{length_push}
use Rattle.std.proofs.lemmas.Option.{slice_get_within, slice_get-get_or}
use Rattle.dine_token.specs.declared.log_entry.Entry.{Entry}
use Rattle.dine_token.specs.declared.log_entry.Entry.TheVariants.{Move}
use Rattle.dine_token.specs.Log.{is_dirty, meals_of}
use Rattle.dine_rules.specs.Holdings.{meals_from, with_meals_to}
use Rattle.dine_rules.specs.Streams.{CarriesOn, CarriesOnTaken}
use Rattle.dine_rules.proofs.shared.lists.Counting.{slice_get-push, slice_get-before}
use Rattle.dine_rules.proofs.shared.one_place.Hands.{with_meals, hand-eaten}

-- the chain of an end, over the logs put and taken
pub record Chained (s to : ℕ) (from_lower : Bool) (put taken : List (List Entry)) : Type 0 where
  pub first : from_lower ≡ true → (log : List Entry) → slice_get put 0 ≡ Some log → CarriesOn s to [] log
  pub next : from_lower ≡ true → (k : ℕ) (log : List Entry) → slice_get put (k + 1) ≡ Some log → CarriesOnTaken s to taken k log
  pub answers : from_lower ≡ false → (k : ℕ) (log : List Entry) → slice_get put k ≡ Some log → CarriesOnTaken s to taken k log

-- the last log is that of the last one taken, which came clean
pub record IsLastTaken (last : List Entry) (taken : List (List Entry)) : Type 0 where
  pub none : length taken ≡ 0 → last ≡ []
  pub at : (k : ℕ) (before : List Entry) → slice_get taken k ≡ Some before → k + 1 ≡ length taken → last ≡ before
  pub clean : 1 ≤ length taken → is_dirty last ≡ false

pub IsLastTaken-push : (taken : List (List Entry)) (log : List Entry) → is_dirty log ≡ false → IsLastTaken log (taken ++ log ∷ [])
IsLastTaken-push taken log clean = record {
  none = λ h. absurd (omega (arith, length_push taken log));
  at = λ k before h n. elim (slice_get-push taken log before k h) [
    | inl w ↦ absurd (omega (arith, length_push taken log, slice_get_within taken k before w))
    | inr w ↦ w.1
  ];
  clean = λ _. clean;
}

carried : (s to ate : ℕ) (last before log : List Entry) → last ≡ before → with_meals_to s ate last ++ Move to ∷ [] ≡ log
    → log ≡ before ++ meals_from s (meals_of s before + 1) (ate - meals_of s last) ++ Move to ∷ []
carried s to ate last before log same is = sym is ∙ ap (λ (l : List Entry). with_meals s (ate - meals_of s last) l ++ Move to ∷ []) same

pub Chained-give : (s to ate : ℕ) (from_lower : Bool) (put taken : List (List Entry)) (last : List Entry) → Chained s to from_lower put taken → IsLastTaken last taken
    → (from_lower ≡ true → length put ≡ length taken) → (from_lower ≡ false → length put + 1 ≡ length taken) → is_dirty (with_meals_to s ate last) ≡ true
    → Chained s to from_lower (put ++ (with_meals_to s ate last ++ Move to ∷ []) ∷ []) taken
Chained-give s to ate from_lower put taken last chained is_last from_low from_high dirty = record {
  first = λ low log h. elim (slice_get-push put (with_meals_to s ate last ++ Move to ∷ []) log 0 h) [
    | inl w ↦ chained.first low log w
    | inr w ↦ record { meals = ate - meals_of s last; is = carried s to ate last [] log (is_last.none (omega (arith, w.0, from_low low))) w.1 }
  ];
  next = λ low k log h. elim (slice_get-push put (with_meals_to s ate last ++ Move to ∷ []) log (k + 1) h) [
    | inl w ↦ chained.next low k log w
    | inr w ↦ eaten k log (omega (arith, w.0, from_low low)) w.1
  ];
  answers = λ high k log h. elim (slice_get-push put (with_meals_to s ate last ++ Move to ∷ []) log k h) [
    | inl w ↦ chained.answers high k log w
    | inr w ↦ eaten k log (omega (arith, w.0, from_high high)) w.1
  ];
} where
  eaten : (k : ℕ) (log : List Entry) → k + 1 ≡ length taken → with_meals_to s ate last ++ Move to ∷ [] ≡ log → CarriesOnTaken s to taken k log
  eaten k log is_end is =
      let here : slice_get taken k ≡ Some (get_or taken k []) = slice_get-get_or taken k [] (omega arith) in
      record {
        before = get_or taken k [];
        is_taken = here;
        carries = record {
          meals = ate - meals_of s last;
          some = hand-eaten s ate last (is_last.clean (omega arith)) dirty;
          is = carried s to ate last (get_or taken k []) log (is_last.at k (get_or taken k []) here is_end) is;
        };
      }

-- what was taken stays taken
carried_still : (s to : ℕ) (taken : List (List Entry)) (more : List Entry) (k : ℕ) (log : List Entry) → CarriesOnTaken s to taken k log → CarriesOnTaken s to (taken ++ more ∷ []) k log
carried_still s to taken more k log w = record { before = w.before; is_taken = slice_get-before taken (more ∷ []) w.before k w.is_taken; carries = w.carries }

pub Chained-take : (s to : ℕ) (from_lower : Bool) (put taken : List (List Entry)) (log : List Entry) → Chained s to from_lower put taken
    → Chained s to from_lower put (taken ++ log ∷ [])
Chained-take s to from_lower put taken more chained = record {
  first = chained.first;
  next = λ low k log h. carried_still s to taken more k log (chained.next low k log h);
  answers = λ high k log h. carried_still s to taken more k log (chained.answers high k log h);
}
