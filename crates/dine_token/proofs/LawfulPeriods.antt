-- The periods of a lawful log: the last is where the fork is, the numbers of the meals say how many entries are before
-- each, and only the first and the last may have no meal.
use Rattle.std.proofs.Common.{◌≡◌, ◌⊎◌, ℕ, ◌+◌, ◌<◌, ◌≤◌, suc, List, [], ◌∷◌, ◌++◌, length, refl, sym, ◌∙◌, ap, subst, inl, inr, arith, append_assoc, add-one, take, drop, get_or}
use Rattle.std.specs.List.{All}
use Rattle.std.proofs.Math.Seq.{split_at, drop-cons}
use Rattle.std.proofs.lemmas.List.{length_push, length-take-le, take_more}
use Rattle.std.proofs.lemmas.List.Elements.{All-push}
use Rattle.dine_token.specs.declared.log_entry.Entry.{Entry}
use Rattle.dine_token.specs.declared.log_entry.Entry.TheVariants.{Meal, Move}
use Rattle.dine_token.specs.declared.log_period.Period.{Period}
use Rattle.dine_token.specs.Log.{location_of, numbers_of, meals_of, destinations_of, moves_of}
use Rattle.dine_token.specs.Lawful.{count_from, IsLawful}
use Rattle.dine_token.specs.Periods.{periods_of, entries_of}
use Rattle.dine_token.proofs.shared.Logs.{split_push, push_induction, location_of-push_meal, location_of-push_move, location_of-turn, numbers_of-push_own, count_from-push, meals_of-push_own, meals_of-push_move, destinations_of-append, turn}
use Rattle.dine_token.proofs.shared.Lawfulness.{at_an_end}
use Rattle.dine_token.proofs.shared.Bounds.{IsLawful-front, counted_lawful}
use Rattle.dine_token.proofs.Periods.{period, one_more, last_one_more, last_one_more-append, periods_of-push_move, periods_of-push_meal, length-periods_of, entries_of-opened, entries_of-one_more}

-- before a period are the Moves between the periods before it, and the meals of both ends so far: 1 less than the
-- numbers of the next meals
abbrev pub IsPlaced : List Period → Type 0
IsPlaced periods = (before after : List Period) (one next : Period) → periods ≡ before ++ one ∷ next ∷ after
    → length (entries_of (before ++ one ∷ [])) + 2 ≡ length before + next.first + (one.first + one.count)

placed_start : (p : Period) → IsPlaced (p ∷ [])
placed_start p [] after one next h = absurd cc
placed_start p (b ∷ []) after one next h = absurd cc
placed_start p (b ∷ c ∷ before) after one next h = absurd cc

placed_more : (front : List Period) (last : Period) → IsPlaced (front ++ last ∷ []) → IsPlaced (front ++ one_more last ∷ [])
placed_more front last placed before after one next h = elim (split_push front before (next ∷ after) (one_more last) one h) [
  | inl w ↦ absurd (cc w.0)
  | inr w ↦ from w.0 w.1 w.2
] where
  from : (rest : List Period) → next ∷ after ≡ rest ++ one_more last ∷ [] → front ≡ before ++ one ∷ rest → length (entries_of (before ++ one ∷ [])) + 2 ≡ length before + next.first + (one.first + one.count)
  from [] ends_so starts_so =
      let same : next ≡ one_more last = cc in
      placed before [] one last (ap (λ (l : List Period). l ++ last ∷ []) starts_so ∙ append_assoc before (one ∷ []) (last ∷ []))
      ∙ ap (λ (p : Period). length before + p.first + (one.first + one.count)) (sym same)
  from (r ∷ rest) ends_so starts_so =
      let same : next ≡ r = cc in
      placed before (rest ++ last ∷ []) one r (ap (λ (l : List Period). l ++ last ∷ []) starts_so ∙ append_assoc before (one ∷ r ∷ rest) (last ∷ []))
      ∙ ap (λ (p : Period). length before + p.first + (one.first + one.count)) (sym same)

placed_opened : (front : List Period) (last new : Period) → IsPlaced (front ++ last ∷ []) → length (entries_of (front ++ last ∷ [])) + 2 ≡ length front + new.first + (last.first + last.count)
    → IsPlaced (front ++ last ∷ [] ++ new ∷ [])
placed_opened front last new placed fits before after one next h = elim (split_push (front ++ last ∷ []) before (next ∷ after) new one h) [
  | inl w ↦ absurd (cc w.0)
  | inr w ↦ from w.0 w.1 w.2
] where
  none : (rest : List Period) → [] ≡ rest ++ last ∷ [] → ⊥
  none [] e = cc
  none (r ∷ rest) e = cc

  at_last : front ++ last ∷ [] ≡ before ++ one ∷ [] → length (entries_of (before ++ one ∷ [])) + 2 ≡ length before + new.first + (one.first + one.count)
  at_last starts_so =
      let P : List Period → Period → Type 0 = λ ahead p. length (entries_of (ahead ++ p ∷ [])) + 2 ≡ length ahead + new.first + (p.first + p.count) in
      let Q : List Period → Type 0 = λ ahead. P ahead last in
      elim (split_push front before [] last one starts_so) [
        | inl w ↦ subst (P before) w.2 (subst Q w.1 fits)
        | inr w ↦ absurd (none w.0 w.1)
      ]

  from : (rest : List Period) → next ∷ after ≡ rest ++ new ∷ [] → front ++ last ∷ [] ≡ before ++ one ∷ rest → length (entries_of (before ++ one ∷ [])) + 2 ≡ length before + next.first + (one.first + one.count)
  from [] ends_so starts_so =
      let same : next ≡ new = cc in
      at_last starts_so ∙ ap (λ (p : Period). length before + p.first + (one.first + one.count)) (sym same)
  from (r ∷ rest) ends_so starts_so =
      let same : next ≡ r = cc in
      placed before rest one r starts_so ∙ ap (λ (p : Period). length before + p.first + (one.first + one.count)) (sym same)

-- what the periods of a lawful log are, if each end has at most `most` meals
pub record HasPeriods (start most : ℕ) (log : List Entry) : Type 0 where
  pub front : List Period
  pub last : Period
  pub is : periods_of start log ≡ front ++ last ∷ []
  pub here : last.site ≡ location_of start log
  pub next : last.first + last.count ≡ meals_of last.site log + 1
  pub from_one : 1 ≤ last.first
  pub whole : entries_of (periods_of start log) ≡ log
  pub placed : IsPlaced (front ++ last ∷ [])
  pub small : All (λ (p : Period). p.first + p.count ≤ most + 1) front

start_has_periods : (start most : ℕ) → HasPeriods start most []
start_has_periods start most = record {
  front = [];
  last = period start 1 0;
  is = refl;
  here = refl;
  next = refl;
  from_one = omega arith;
  whole = refl;
  placed = placed_start (period start 1 0);
  small = λ i p within. absurd (omega (arith, within));
}

-- the last of numbers that count up
last_number : (xs : List ℕ) (k : ℕ) → xs ++ k ∷ [] ≡ count_from 1 (length (xs ++ k ∷ [])) → length xs + 1 ≡ k
last_number xs k counted =
    let longer : length (xs ++ k ∷ []) ≡ suc (length xs) = omega (arith, length_push xs k) in
    let ends_so : xs ++ k ∷ [] ≡ count_from 1 (length xs) ++ (1 + length xs) ∷ [] = counted ∙ ap (count_from 1) longer ∙ count_from-push 1 (length xs) in
    elim (split_push xs (count_from 1 (length xs)) [] k (1 + length xs) ends_so) [
      | inl w ↦ omega (arith, w.2)
      | inr w ↦ absurd (none w.0 w.1)
    ]
  where
    none : (rest : List ℕ) → [] ≡ rest ++ k ∷ [] → ⊥
    none [] e = cc
    none (r ∷ rest) e = cc

meal_has_periods : (ends due : ℕ × ℕ) (most : ℕ) (log : List Entry) (site k : ℕ) → IsLawful ends due (log ++ Meal site k ∷ []) → HasPeriods ends.0 most log → HasPeriods ends.0 most (log ++ Meal site k ∷ [])
meal_has_periods ends due most log site k lawful parts = record {
  front = parts.front;
  last = one_more parts.last;
  is = now;
  here = parts.here ∙ sym (location_of-push_meal ends.0 log site k);
  next = omega (arith, parts.next, more);
  from_one = parts.from_one;
  whole = ap entries_of now ∙ entries_of-one_more parts.front parts.last ∙ ap (λ (l : List Period). entries_of l ++ Meal parts.last.site (parts.last.first + parts.last.count) ∷ []) (sym parts.is)
      ∙ ap (λ (l : List Entry). l ++ Meal parts.last.site (parts.last.first + parts.last.count) ∷ []) parts.whole
      ∙ ap (λ (s : ℕ). log ++ Meal s (parts.last.first + parts.last.count) ∷ []) (sym eater) ∙ ap (λ (j : ℕ). log ++ Meal site j ∷ []) number;
  placed = placed_more parts.front parts.last parts.placed;
  small = parts.small;
} where
  now : periods_of ends.0 (log ++ Meal site k ∷ []) ≡ parts.front ++ one_more parts.last ∷ []
  now = periods_of-push_meal ends.0 log site k ∙ ap last_one_more parts.is ∙ last_one_more-append parts.front parts.last

  eater : site ≡ parts.last.site
  eater = lawful.eaten_where_held log [] site k refl ∙ sym parts.here

  more : meals_of parts.last.site (log ++ Meal site k ∷ []) ≡ meals_of parts.last.site log + 1
  more = let P : ℕ → Type 0 = λ s. meals_of s (log ++ Meal site k ∷ []) ≡ meals_of s log + 1 in subst P eater (meals_of-push_own site log k)

  numbered : numbers_of site (log ++ Meal site k ∷ []) ≡ count_from 1 (meals_of site (log ++ Meal site k ∷ []))
  numbered =
      let P : ℕ → Type 0 = λ s. numbers_of s (log ++ Meal site k ∷ []) ≡ count_from 1 (meals_of s (log ++ Meal site k ∷ [])) in
      let held : site ≡ location_of ends.0 log = lawful.eaten_where_held log [] site k refl in
      elim (at_an_end ends due log (IsLawful-front ends due log (Meal site k ∷ []) lawful)) [
        | inl w ↦ subst P (sym (held ∙ w.0)) lawful.lower_numbered
        | inr w ↦ subst P (sym (held ∙ w.0)) lawful.higher_numbered
      ]

  number : parts.last.first + parts.last.count ≡ k
  number =
      let Q : List ℕ → Type 0 = λ l. l ≡ count_from 1 (length l) in
      parts.next ∙ ap (λ (s : ℕ). meals_of s log + 1) (sym eater) ∙ last_number (numbers_of site log) k (subst Q (numbers_of-push_own site log k) numbered)

move_has_periods : (ends due : ℕ × ℕ) (most : ℕ) (log : List Entry) (to : ℕ) → ends.0 < ends.1 → due.0 ≤ most → due.1 ≤ most → IsLawful ends due (log ++ Move to ∷ [])
    → HasPeriods ends.0 most log → HasPeriods ends.0 most (log ++ Move to ∷ [])
move_has_periods ends due most log to ordered lower_small higher_small lawful parts = record {
  front = parts.front ++ parts.last ∷ [];
  last = new;
  is = now;
  here = sym (location_of-push_move ends.0 log to);
  next = omega (arith, meals_of-push_move to log to);
  from_one = omega arith;
  whole = ap entries_of now ∙ entries_of-opened parts.front parts.last to (meals_of to log + 1)
      ∙ ap (λ (l : List Period). entries_of l ++ Move to ∷ []) (sym parts.is) ∙ ap (λ (l : List Entry). l ++ Move to ∷ []) parts.whole;
  placed = placed_opened parts.front parts.last new parts.placed (fits (at_an_end ends due log before));
  small = All-push (λ (p : Period). p.first + p.count ≤ most + 1) parts.front parts.last parts.small (fewer (at_an_end ends due log before));
} where
  before : IsLawful ends due log
  before = IsLawful-front ends due log (Move to ∷ []) lawful

  new : Period
  new = period to (meals_of to log + 1) 0

  now : periods_of ends.0 (log ++ Move to ∷ []) ≡ parts.front ++ parts.last ∷ [] ++ new ∷ []
  now = periods_of-push_move ends.0 log to ∙ ap (λ (l : List Period). l ++ new ∷ []) parts.is

  size_before : length (entries_of (parts.front ++ parts.last ∷ [])) ≡ length log
  size_before = ap (λ (l : List Period). length (entries_of l)) (sym parts.is) ∙ ap length parts.whole

  moves_are : moves_of (log ++ Move to ∷ []) ≡ suc (moves_of log)
  moves_are = ap length (destinations_of-append log (Move to ∷ [])) ∙ omega (arith, length_push (destinations_of log) to)

  next_turn : to ≡ turn ends.1 ends.0 (moves_of log)
  next_turn = sym (location_of-push_move ends.0 log to) ∙ location_of-turn ends.0 ends.1 (log ++ Move to ∷ []) lawful.alternates ∙ ap (turn ends.0 ends.1) moves_are

  at : (s e : ℕ) → s ≡ e → meals_of s log ≡ meals_of e log
  at s e same = ap (λ (x : ℕ). meals_of x log) same

  fits : ((location_of ends.0 log ≡ ends.0) × (turn ends.1 ends.0 (moves_of log) ≡ ends.1)) ⊎ ((location_of ends.0 log ≡ ends.1) × (turn ends.1 ends.0 (moves_of log) ≡ ends.0))
      → length (entries_of (parts.front ++ parts.last ∷ [])) + 2 ≡ length parts.front + new.first + (parts.last.first + parts.last.count)
  fits which =
      let meals : meals_of to log + meals_of parts.last.site log ≡ meals_of ends.0 log + meals_of ends.1 log = elim which [
        | inl w ↦ omega (arith, at to ends.1 (next_turn ∙ w.1), at parts.last.site ends.0 (parts.here ∙ w.0))
        | inr w ↦ omega (arith, at to ends.0 (next_turn ∙ w.1), at parts.last.site ends.1 (parts.here ∙ w.0))
      ] in
      omega (arith, meals, parts.next, size_before, (counted_lawful ends due ordered log before).all, length-periods_of ends.0 log, ap length parts.is, length_push parts.front parts.last)

  fewer : ((location_of ends.0 log ≡ ends.0) × (turn ends.1 ends.0 (moves_of log) ≡ ends.1)) ⊎ ((location_of ends.0 log ≡ ends.1) × (turn ends.1 ends.0 (moves_of log) ≡ ends.0))
      → parts.last.first + parts.last.count ≤ most + 1
  fewer which = elim which [
    | inl w ↦ omega (arith, parts.next, at parts.last.site ends.0 (parts.here ∙ w.0), before.lower_within)
    | inr w ↦ omega (arith, parts.next, at parts.last.site ends.1 (parts.here ∙ w.0), before.higher_within)
  ]

pub lawful_has_periods : (ends due : ℕ × ℕ) (most : ℕ) → ends.0 < ends.1 → due.0 ≤ most → due.1 ≤ most → (log : List Entry) → IsLawful ends due log → HasPeriods ends.0 most log
lawful_has_periods ends due most ordered lower_small higher_small = push_induction (λ log. IsLawful ends due log → HasPeriods ends.0 most log) (λ _. start_has_periods ends.0 most) more where
  more : (log : List Entry) (entry : Entry) → (IsLawful ends due log → HasPeriods ends.0 most log) → IsLawful ends due (log ++ entry ∷ []) → HasPeriods ends.0 most (log ++ entry ∷ [])
  more log (Meal site k) so_far lawful = meal_has_periods ends due most log site k lawful (so_far (IsLawful-front ends due log (Meal site k ∷ []) lawful))
  more log (Move to) so_far lawful = move_has_periods ends due most log to ordered lower_small higher_small lawful (so_far (IsLawful-front ends due log (Move to ∷ []) lawful))

-- no number in a period is more than 1 above the meals that are due
pub periods-small : (start most : ℕ) (log : List Entry) (parts : HasPeriods start most log) → meals_of parts.last.site log ≤ most → All (λ (p : Period). p.first + p.count ≤ most + 1) (periods_of start log)
periods-small start most log parts within =
    let P : Period → Type 0 = λ p. p.first + p.count ≤ most + 1 in
    let all : All P (parts.front ++ parts.last ∷ []) = All-push P parts.front parts.last parts.small (omega (arith, parts.next)) in
    let Q : List Period → Type 0 = λ l. All P l in
    subst Q (sym parts.is) all

-- the number of entries before the period at a place
pub placed-at : (ps : List Period) (j : ℕ) (d : Period) → IsPlaced ps → j + 1 < length ps
    → length (entries_of (take (j + 1) ps)) + 2 ≡ j + (get_or ps (j + 1) d).first + ((get_or ps j d).first + (get_or ps j d).count)
placed-at ps j d placed within =
    let one = get_or ps j d in
    let next = get_or ps (j + 1) d in
    let behind : drop (suc j) ps ≡ next ∷ drop (suc (j + 1)) ps = ap (λ (n : ℕ). drop n ps) (sym (add-one j)) ∙ drop-cons ps (j + 1) d within in
    let split : ps ≡ take j ps ++ one ∷ next ∷ drop (suc (j + 1)) ps = split_at ps j d (omega arith) ∙ ap (λ (l : List Period). take j ps ++ one ∷ l) behind in
    let size : length (take j ps) ≡ j = length-take-le j ps (omega arith) in
    ap (λ (l : List Period). length (entries_of l) + 2) (take_more ps j d (omega arith)) ∙ placed (take j ps) (drop (suc (j + 1)) ps) one next split
    ∙ ap (λ (n : ℕ). n + next.first + (one.first + one.count)) size
