-- A lawful log stays lawful through a meal that may be eaten and a Move that may be made, and it is bounded.
use Rattle.std.proofs.Common.{◌≡◌, ◌⊎◌, ℕ, suc, ◌+◌, ◌<◌, ◌≤◌, true, false, eqb, List, [], ◌∷◌, ◌++◌, length, refl, sym, ◌∙◌, ap, subst, inl, inr, arith}
use Rattle.std.proofs.lemmas.Bool.{cases_eq, eq-eqb, ne_eqb, false≢true, cond-true, cond-false}
use Rattle.std.proofs.lemmas.List.{length_push}
use Rattle.dine_token.specs.declared.log_entry.Entry.{Entry}
use Rattle.dine_token.specs.declared.log_entry.Entry.TheVariants.{Meal, Move}
use Rattle.dine_token.specs.Log.{is_dirty, location_of, numbers_of, meals_of, destinations_of, moves_of}
use Rattle.dine_token.specs.Lawful.{in_turn, count_from, due_at, IsLawful}
use Rattle.dine_token.proofs.shared.Logs.{split_push, is_dirty-push_move, numbers_of-push_own, numbers_of-push_other, numbers_of-push_move, meals_of-push_other, meals_of-push_move, count_from-push, destinations_of-append, destinations_of-push_meal, turn, in_turn-push, turn_cases, location_of-turn}

-- the empty log is lawful
pub IsLawful-none : (ends due : ℕ × ℕ) → IsLawful ends due []
IsLawful-none ends due = record {
  alternates = refl;
  eaten_where_held = λ before after site k h. absurd (no_split before _ _ h);
  used_before_sent = λ before after one next h. no_split before _ _ h;
  lower_numbered = refl;
  higher_numbered = refl;
  lower_within = omega arith;
  higher_within = omega arith;
  sent_to_hungry = λ before after to h. absurd (no_split before _ _ h);
} where
  no_split : (before : List Entry) (e : Entry) (after : List Entry) → [] ≡ before ++ e ∷ after → ⊥
  no_split [] e after h = cc
  no_split (b ∷ before) e after h = cc

-- a fork in the turn of its ends is at one of them, and the next Move goes to the other
pub at_an_end : (ends due : ℕ × ℕ) (log : List Entry) → IsLawful ends due log
    → ((location_of ends.0 log ≡ ends.0) × (turn ends.1 ends.0 (moves_of log) ≡ ends.1)) ⊎ ((location_of ends.0 log ≡ ends.1) × (turn ends.1 ends.0 (moves_of log) ≡ ends.0))
at_an_end ends due log lawful =
    let place = location_of-turn ends.0 ends.1 log lawful.alternates in
    elim (turn_cases ends.0 ends.1 (moves_of log)) [ inl w ↦ inl (place ∙ w.0, w.1) | inr w ↦ inr (place ∙ w.0, w.1) ]

-- ---- how many meals are due to an end

pub due_at-lower : (ends due : ℕ × ℕ) (end : ℕ) → end ≡ ends.0 → due_at ends due end ≡ due.0
due_at-lower ends due end same = cond-true (eqb end ends.0) due.0 due.1 (eq-eqb end ends.0 same)

pub due_at-higher : (ends due : ℕ × ℕ) (end : ℕ) → ends.0 < ends.1 → end ≡ ends.1 → due_at ends due end ≡ due.1
due_at-higher ends due end ordered same = cond-false (eqb end ends.0) due.0 due.1 (ne_eqb end ends.0 (λ e. omega arith))

-- ---- one more meal

-- numbers that count up, with the next one at the end, count up
counted_push : (xs : List ℕ) (k : ℕ) → xs ≡ count_from 1 (length xs) → length xs + 1 ≡ k → xs ++ k ∷ [] ≡ count_from 1 (length (xs ++ k ∷ []))
counted_push xs k counted next =
    let longer : length (xs ++ k ∷ []) ≡ suc (length xs) = omega (arith, length_push xs k) in
    let number : k ≡ 1 + length xs = omega arith in
    ap (λ (l : List ℕ). l ++ k ∷ []) counted ∙ ap (λ (j : ℕ). count_from 1 (length xs) ++ j ∷ []) number
    ∙ sym (count_from-push 1 (length xs)) ∙ ap (λ (n : ℕ). count_from 1 n) (sym longer)

numbers_of-push_at : (end site : ℕ) (log : List Entry) (k : ℕ) → site ≡ end → numbers_of end (log ++ Meal site k ∷ []) ≡ numbers_of end log ++ k ∷ []
numbers_of-push_at end site log k same =
    let P : ℕ → Type 0 = λ e. numbers_of e (log ++ Meal site k ∷ []) ≡ numbers_of e log ++ k ∷ [] in
    subst P same (numbers_of-push_own site log k)

-- a list of numbers that counts up, under another name
counted_along : (xs ys : List ℕ) → xs ≡ ys → ys ≡ count_from 1 (length ys) → xs ≡ count_from 1 (length xs)
counted_along xs ys same counted = let P : List ℕ → Type 0 = λ l. l ≡ count_from 1 (length l) in subst P (sym same) counted

-- the numbers of an end's meals after a meal of some site
numbered_meal : (end site : ℕ) (log : List Entry) (k : ℕ) → numbers_of end log ≡ count_from 1 (meals_of end log) → meals_of site log + 1 ≡ k
    → numbers_of end (log ++ Meal site k ∷ []) ≡ count_from 1 (meals_of end (log ++ Meal site k ∷ []))
numbered_meal end site log k numbered next = elim (cases_eq site end) [
  | inl same ↦
      let next_here : meals_of end log + 1 ≡ k = ap (λ (e : ℕ). meals_of e log + 1) (sym same) ∙ next in
      counted_along _ _ (numbers_of-push_at end site log k same) (counted_push (numbers_of end log) k numbered next_here)
  | inr other ↦ counted_along _ _ (numbers_of-push_other end site log k other) numbered
]

within_meal : (end site : ℕ) (log : List Entry) (k due : ℕ) → meals_of end log ≤ due → meals_of site log + 1 ≡ k → (site ≡ end → k ≤ due)
    → meals_of end (log ++ Meal site k ∷ []) ≤ due
within_meal end site log k due within next small = elim (cases_eq site end) [
  | inl same ↦
      let next_here : meals_of end log + 1 ≡ k = ap (λ (e : ℕ). meals_of e log + 1) (sym same) ∙ next in
      let longer : meals_of end (log ++ Meal site k ∷ []) ≡ meals_of end log + 1 = ap length (numbers_of-push_at end site log k same) ∙ length_push (numbers_of end log) k in
      let fits : k ≤ due = small same in
      omega arith
  | inr other ↦ let contents : meals_of end (log ++ Meal site k ∷ []) ≡ meals_of end log = meals_of-push_other end site log k other in omega arith
]

pub IsLawful-push_meal : (ends due : ℕ × ℕ) (log : List Entry) (site k : ℕ) → ends.0 < ends.1 → IsLawful ends due log → location_of ends.0 log ≡ site → meals_of site log + 1 ≡ k → k ≤ due_at ends due site
    → IsLawful ends due (log ++ Meal site k ∷ [])
IsLawful-push_meal ends due log site k ordered lawful held next within = record {
  alternates =
      let same = destinations_of-push_meal log site k in
      same ∙ lawful.alternates ∙ ap (λ (l : List ℕ). in_turn ends.1 ends.0 (length l)) (sym same);
  eaten_where_held = λ before after s j h. elim (split_push log before after (Meal site k) (Meal s j) h) [
    | inl w ↦ let same : site ≡ s = cc w.2 in let here : location_of ends.0 log ≡ location_of ends.0 before = ap (λ (l : List Entry). location_of ends.0 l) w.1 in cc
    | inr w ↦ lawful.eaten_where_held before w.0 s j w.2
  ];
  used_before_sent = λ before after one to h. elim (split_push log before (Move to ∷ after) (Meal site k) (Move one) h) [
    | inl w ↦ cc w.2
    | inr w ↦ two_moves before after one to w.0 w.1 w.2
  ];
  lower_numbered = numbered_meal ends.0 site log k lawful.lower_numbered next;
  higher_numbered = numbered_meal ends.1 site log k lawful.higher_numbered next;
  lower_within = within_meal ends.0 site log k due.0 lawful.lower_within next (λ same. omega (arith, due_at-lower ends due site same));
  higher_within = within_meal ends.1 site log k due.1 lawful.higher_within next (λ same. omega (arith, due_at-higher ends due site ordered same));
  sent_to_hungry = λ before after to h. elim (split_push log before after (Meal site k) (Move to) h) [
    | inl w ↦ absurd (cc w.2)
    | inr w ↦ lawful.sent_to_hungry before w.0 to w.2
  ];
} where
  two_moves : (before after : List Entry) (one to : ℕ) (rest : List Entry) → Move to ∷ after ≡ rest ++ Meal site k ∷ [] → log ≡ before ++ Move one ∷ rest → ⊥
  two_moves before after one to [] ends_so starts_so = cc
  two_moves before after one to (entry ∷ rest) ends_so starts_so =
      let first : Move to ≡ entry = cc in
      lawful.used_before_sent before rest one to (starts_so ∙ ap (λ (e : Entry). before ++ Move one ∷ e ∷ rest) (sym first))

-- ---- one more Move

pub IsLawful-push_move : (ends due : ℕ × ℕ) (log : List Entry) (to : ℕ) → IsLawful ends due log → is_dirty log ≡ true → to ≡ turn ends.1 ends.0 (moves_of log) → meals_of to log < due_at ends due to
    → IsLawful ends due (log ++ Move to ∷ [])
IsLawful-push_move ends due log to lawful dirty next hungry = record {
  alternates =
      let more : destinations_of (log ++ Move to ∷ []) ≡ destinations_of log ++ to ∷ [] = destinations_of-append log (Move to ∷ []) in
      let longer : moves_of (log ++ Move to ∷ []) ≡ suc (moves_of log) = ap length more ∙ omega (arith, length_push (destinations_of log) to) in
      more ∙ ap (λ (l : List ℕ). l ++ to ∷ []) lawful.alternates ∙ ap (λ (e : ℕ). in_turn ends.1 ends.0 (moves_of log) ++ e ∷ []) next
      ∙ sym (in_turn-push ends.1 ends.0 (moves_of log)) ∙ ap (λ (n : ℕ). in_turn ends.1 ends.0 n) (sym longer);
  eaten_where_held = λ before after s j h. elim (split_push log before after (Move to) (Meal s j) h) [
    | inl w ↦ absurd (cc w.2)
    | inr w ↦ lawful.eaten_where_held before w.0 s j w.2
  ];
  used_before_sent = λ before after one other h. elim (split_push log before (Move other ∷ after) (Move to) (Move one) h) [
    | inl w ↦ cc w.0
    | inr w ↦ two_moves before after one other w.0 w.1 w.2
  ];
  lower_numbered = counted_along _ _ (numbers_of-push_move ends.0 log to) lawful.lower_numbered;
  higher_numbered = counted_along _ _ (numbers_of-push_move ends.1 log to) lawful.higher_numbered;
  lower_within = omega (arith, meals_of-push_move ends.0 log to, lawful.lower_within);
  higher_within = omega (arith, meals_of-push_move ends.1 log to, lawful.higher_within);
  sent_to_hungry = λ before after other h. elim (split_push log before after (Move to) (Move other) h) [
    | inl w ↦
        let same : to ≡ other = cc w.2 in
        let P : ℕ → Type 0 = λ e. meals_of e before < due_at ends due e in
        let Q : List Entry → Type 0 = λ l. meals_of to l < due_at ends due to in
        subst P same (subst Q w.1 hungry)
    | inr w ↦ lawful.sent_to_hungry before w.0 other w.2
  ];
} where
  two_moves : (before after : List Entry) (one other : ℕ) (rest : List Entry) → Move other ∷ after ≡ rest ++ Move to ∷ [] → log ≡ before ++ Move one ∷ rest → ⊥
  two_moves before after one other [] ends_so starts_so =
      let clean : is_dirty log ≡ false = ap is_dirty starts_so ∙ is_dirty-push_move before one in
      false≢true (sym clean ∙ dirty)
  two_moves before after one other (entry ∷ rest) ends_so starts_so =
      let first : Move other ≡ entry = cc in
      lawful.used_before_sent before rest one other (starts_so ∙ ap (λ (e : Entry). before ++ Move one ∷ e ∷ rest) (sym first))
