-- How long a lawful log can be.
use Rattle.std.proofs.Common.{◌≡◌, ℕ, ◌+◌, ◌*◌, ◌<◌, ◌≤◌, true, false, List, [], ◌∷◌, ◌++◌, length, refl, sym, ◌∙◌, ap, subst, inl, inr, arith, append_assoc, length-append}
use Rattle.std.proofs.lemmas.Bool.{cases_Bool, false≢true, true_from_ne_false}
use Rattle.std.proofs.lemmas.List.{length_push}
use Rattle.dine_token.specs.declared.log_entry.Entry.{Entry}
use Rattle.dine_token.specs.declared.log_entry.Entry.TheVariants.{Meal, Move}
use Rattle.dine_token.specs.Log.{is_dirty, location_of, numbers_of, meals_of, destinations_of, moves_of}
use Rattle.dine_token.specs.Lawful.{due_at, IsLawful}
use Rattle.dine_token.proofs.shared.Logs.{push_induction, is_dirty-push_move, clean_ends_in_move, location_of-push_move, numbers_of-append, meals_of-push_own, meals_of-push_other, meals_of-push_move, count_from-front, destinations_of-append, destinations_of-push_meal, in_turn-front}
use Rattle.dine_token.proofs.shared.Lawfulness.{at_an_end, due_at-lower, due_at-higher}

-- a front of a lawful log is lawful
pub IsLawful-front : (ends due : ℕ × ℕ) (xs ys : List Entry) → IsLawful ends due (xs ++ ys) → IsLawful ends due xs
IsLawful-front ends due xs ys lawful = record {
  alternates = in_turn-front ends.1 ends.0 (moves_of (xs ++ ys)) (destinations_of xs) (destinations_of ys) (sym (destinations_of-append xs ys) ∙ lawful.alternates);
  eaten_where_held = λ before after site k h. lawful.eaten_where_held before (after ++ ys) site k (longer before (Meal site k ∷ after) h);
  used_before_sent = λ before after one next h. lawful.used_before_sent before (after ++ ys) one next (longer before (Move one ∷ Move next ∷ after) h);
  lower_numbered = count_from-front 1 (meals_of ends.0 (xs ++ ys)) (numbers_of ends.0 xs) (numbers_of ends.0 ys) (sym (numbers_of-append ends.0 xs ys) ∙ lawful.lower_numbered);
  higher_numbered = count_from-front 1 (meals_of ends.1 (xs ++ ys)) (numbers_of ends.1 xs) (numbers_of ends.1 ys) (sym (numbers_of-append ends.1 xs ys) ∙ lawful.higher_numbered);
  lower_within = fewer ends.0 due.0 lawful.lower_within;
  higher_within = fewer ends.1 due.1 lawful.higher_within;
  sent_to_hungry = λ before after to h. lawful.sent_to_hungry before (after ++ ys) to (longer before (Move to ∷ after) h);
} where
  longer : (before rest : List Entry) → xs ≡ before ++ rest → xs ++ ys ≡ before ++ (rest ++ ys)
  longer before rest h = ap (λ (l : List Entry). l ++ ys) h ∙ append_assoc before rest ys

  fewer : (end most : ℕ) → meals_of end (xs ++ ys) ≤ most → meals_of end xs ≤ most
  fewer end most h = omega (arith, ap length (numbers_of-append end xs ys), length-append (numbers_of end xs) (numbers_of end ys))

-- entries are meals of the two ends and Moves, and at most one Move has no meal behind it
pub record IsCounted (ends : ℕ × ℕ) (log : List Entry) : Type 0 where
  pub all : length log ≡ meals_of ends.0 log + meals_of ends.1 log + moves_of log
  pub used : is_dirty log ≡ true → moves_of log ≤ meals_of ends.0 log + meals_of ends.1 log
  pub sent : moves_of log ≤ meals_of ends.0 log + meals_of ends.1 log + 1

counted_meal : (ends due : ℕ × ℕ) (log : List Entry) (site k : ℕ) → ends.0 < ends.1 → IsLawful ends due (log ++ Meal site k ∷ []) → IsCounted ends log → IsCounted ends (log ++ Meal site k ∷ [])
counted_meal ends due log site k ordered lawful counted =
    let before = IsLawful-front ends due log (Meal site k ∷ []) lawful in
    let here : site ≡ location_of ends.0 log = lawful.eaten_where_held log [] site k refl in
    let moves : moves_of (log ++ Meal site k ∷ []) ≡ moves_of log = ap length (destinations_of-push_meal log site k) in
    let longer : length (log ++ Meal site k ∷ []) ≡ length log + 1 = length_push log (Meal site k) in
    let meals : meals_of ends.0 (log ++ Meal site k ∷ []) + meals_of ends.1 (log ++ Meal site k ∷ []) ≡ meals_of ends.0 log + meals_of ends.1 log + 1 =
    elim (at_an_end ends due log before) [
      | inl w ↦ lower (here ∙ w.0)
      | inr w ↦ higher (here ∙ w.0)
    ] in
    record { all = omega (arith, counted.all); used = λ h. omega (arith, counted.sent); sent = omega (arith, counted.sent) }
  where
    own : (end : ℕ) → site ≡ end → meals_of end (log ++ Meal site k ∷ []) ≡ meals_of end log + 1
    own end same = let P : ℕ → Type 0 = λ e. meals_of e (log ++ Meal site k ∷ []) ≡ meals_of e log + 1 in subst P same (meals_of-push_own site log k)

    lower : site ≡ ends.0 → meals_of ends.0 (log ++ Meal site k ∷ []) + meals_of ends.1 (log ++ Meal site k ∷ []) ≡ meals_of ends.0 log + meals_of ends.1 log + 1
    lower same = omega (arith, own ends.0 same, meals_of-push_other ends.1 site log k (λ e. omega arith))

    higher : site ≡ ends.1 → meals_of ends.0 (log ++ Meal site k ∷ []) + meals_of ends.1 (log ++ Meal site k ∷ []) ≡ meals_of ends.0 log + meals_of ends.1 log + 1
    higher same = omega (arith, own ends.1 same, meals_of-push_other ends.0 site log k (λ e. omega arith))

counted_move : (ends due : ℕ × ℕ) (log : List Entry) (to : ℕ) → IsLawful ends due (log ++ Move to ∷ []) → IsCounted ends log → IsCounted ends (log ++ Move to ∷ [])
counted_move ends due log to lawful counted =
    let moves : moves_of (log ++ Move to ∷ []) ≡ moves_of log + 1 = ap length (destinations_of-append log (Move to ∷ [])) ∙ length_push (destinations_of log) to in
    let longer : length (log ++ Move to ∷ []) ≡ length log + 1 = length_push log (Move to) in
    let lower = meals_of-push_move ends.0 log to in
    let higher = meals_of-push_move ends.1 log to in
    let clean = is_dirty-push_move log to in
    let used : moves_of log ≤ meals_of ends.0 log + meals_of ends.1 log = counted.used (true_from_ne_false (is_dirty log) not_clean) in
    record { all = omega (arith, counted.all); used = λ h. absurd (false≢true (sym clean ∙ h)); sent = omega arith }
  where
    not_clean : is_dirty log ≡ false → ⊥
    not_clean h =
        let w = clean_ends_in_move log h in
        lawful.used_before_sent w.0 [] w.1 to (ap (λ (l : List Entry). l ++ Move to ∷ []) w.2 ∙ append_assoc w.0 (Move w.1 ∷ []) (Move to ∷ []))

pub counted_lawful : (ends due : ℕ × ℕ) → ends.0 < ends.1 → (log : List Entry) → IsLawful ends due log → IsCounted ends log
counted_lawful ends due ordered = push_induction (λ log. IsLawful ends due log → IsCounted ends log) (λ _. record { all = refl; used = λ _. omega arith; sent = omega arith }) more where
  more : (log : List Entry) (entry : Entry) → (IsLawful ends due log → IsCounted ends log) → IsLawful ends due (log ++ entry ∷ []) → IsCounted ends (log ++ entry ∷ [])
  more log (Meal site k) so_far lawful = counted_meal ends due log site k ordered lawful (so_far (IsLawful-front ends due log (Meal site k ∷ []) lawful))
  more log (Move to) so_far lawful = counted_move ends due log to lawful (so_far (IsLawful-front ends due log (Move to ∷ []) lawful))

-- if a lawful log is clean, an end has a meal left
clean_has_left : (ends due : ℕ × ℕ) (log : List Entry) → ends.0 < ends.1 → IsLawful ends due log → is_dirty log ≡ false → meals_of ends.0 log + meals_of ends.1 log < due.0 + due.1
clean_has_left ends due log ordered lawful clean = elim (at_an_end ends due log lawful) [ inl w ↦ lower w.0 | inr w ↦ higher w.0 ] where
  last : (before : List Entry) × (to : ℕ) × (log ≡ before ++ Move to ∷ [])
  last = clean_ends_in_move log clean

  left : (end : ℕ) → location_of ends.0 log ≡ end → meals_of end log < due_at ends due end
  left end here =
      let to_end : last.1 ≡ end = sym (ap (λ (l : List Entry). location_of ends.0 l) last.2 ∙ location_of-push_move ends.0 last.0 last.1) ∙ here in
      let P : ℕ → Type 0 = λ e. meals_of e last.0 < due_at ends due e in
      let hungry : meals_of end last.0 < due_at ends due end = subst P to_end (lawful.sent_to_hungry last.0 [] last.1 last.2) in
      let same : meals_of end log ≡ meals_of end last.0 = ap (λ (l : List Entry). meals_of end l) last.2 ∙ meals_of-push_move end last.0 last.1 in
      omega arith

  lower : location_of ends.0 log ≡ ends.0 → meals_of ends.0 log + meals_of ends.1 log < due.0 + due.1
  lower here = omega (arith, left ends.0 here, due_at-lower ends due ends.0 refl, lawful.higher_within)

  higher : location_of ends.0 log ≡ ends.1 → meals_of ends.0 log + meals_of ends.1 log < due.0 + due.1
  higher here = omega (arith, left ends.1 here, due_at-higher ends due ends.1 ordered refl, lawful.lower_within)

-- a lawful log has at most twice as many entries as meals are due
pub length-lawful : (ends due : ℕ × ℕ) (log : List Entry) → ends.0 < ends.1 → IsLawful ends due log → length log ≤ 2 * (due.0 + due.1)
length-lawful ends due log ordered lawful =
    let counted = counted_lawful ends due ordered log lawful in
    elim (cases_Bool (is_dirty log)) [
      | inl dirty ↦ omega (arith, counted.all, counted.used dirty, lawful.lower_within, lawful.higher_within)
      | inr clean ↦ omega (arith, counted.all, counted.sent, clean_has_left ends due log ordered lawful clean)
    ]

-- and at most as many Moves as meals are due
pub moves-lawful : (ends due : ℕ × ℕ) (log : List Entry) → ends.0 < ends.1 → IsLawful ends due log → moves_of log ≤ due.0 + due.1
moves-lawful ends due log ordered lawful =
    let counted = counted_lawful ends due ordered log lawful in
    elim (cases_Bool (is_dirty log)) [
      | inl dirty ↦ omega (arith, counted.used dirty, lawful.lower_within, lawful.higher_within)
      | inr clean ↦ omega (arith, counted.sent, clean_has_left ends due log ordered lawful clean)
    ]
