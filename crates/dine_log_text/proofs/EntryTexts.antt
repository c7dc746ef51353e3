-- Texts of entries, period by period.
use Rattle.std.proofs.Common.{◌≡◌, ℕ, zero, suc, ◌+◌, ◌-◌, ◌<◌, Bool, eqb, List, [], ◌∷◌, ◌++◌, drop, codes, Some, slice_get, refl, sym, ◌∙◌, ap, arith, append_assoc, add-one}
use Rattle.std.proofs.lemmas.Bool.{eq-eqb, ne_eqb}
use Rattle.dine_token.specs.declared.log_entry.Entry.{Entry}
use Rattle.dine_token.specs.declared.log_entry.Entry.TheVariants.{Meal, Move}
use Rattle.dine_token.specs.declared.log_period.Period.{Period}
use Rattle.dine_token.specs.Periods.{meals_from, meals_in, moved_entries, entries_of}
use Rattle.dine_log_text.specs.Logs.{entry_text, entries_text, separator}

-- the element at a place comes before the rest
pub drop-at : {X : Type 0} (xs : List X) (i : ℕ) (x : X) → slice_get xs i ≡ Some x → drop i xs ≡ x ∷ drop (i + 1) xs
drop-at [] i x got = absurd cc
drop-at (y ∷ xs) zero x got = cc
drop-at {X} (y ∷ xs) (suc i) x got =
    let on : drop (i + 1) xs ≡ drop (suc i + 1) (y ∷ xs) = ap (λ (n : ℕ). drop n xs) (add-one i) ∙ sym (ap (λ (n : ℕ). drop n (y ∷ xs)) (add-one (suc i))) in
    drop-at xs i x got ∙ ap (λ (l : List X). x ∷ l) on

-- after an entry each other one has a comma before it
entries_behind : (name_of : ℕ → List ℕ) (xs ys : List Entry) → entries_text name_of (codes ", ") (xs ++ ys) ≡ entries_text name_of (codes ", ") xs ++ entries_text name_of (codes ", ") ys
entries_behind name_of [] ys = refl
entries_behind name_of (x ∷ xs) ys =
    let front = codes ", " ++ entry_text name_of x in
    ap (λ (l : List ℕ). front ++ l) (entries_behind name_of xs ys) ∙ sym (append_assoc front (entries_text name_of (codes ", ") xs) (entries_text name_of (codes ", ") ys))

entries_more : (name_of : ℕ → List ℕ) (separator : List ℕ) (x : Entry) (xs ys : List Entry)
    → entries_text name_of separator (x ∷ xs ++ ys) ≡ entries_text name_of separator (x ∷ xs) ++ entries_text name_of (codes ", ") ys
entries_more name_of separator x xs ys =
    let front = separator ++ entry_text name_of x in
    ap (λ (l : List ℕ). front ++ l) (entries_behind name_of xs ys) ∙ sym (append_assoc front (entries_text name_of (codes ", ") xs) (entries_text name_of (codes ", ") ys))

-- one meal more was written
pub meals_step : (name_of : ℕ → List ℕ) (site first count i : ℕ) (before separator after whole : List ℕ) → i < count
    → before ++ entries_text name_of separator (meals_from site (first + i) (count - i)) ≡ whole → after ≡ before ++ (separator ++ entry_text name_of (Meal site (first + i)))
    → after ++ entries_text name_of (codes ", ") (meals_from site (first + (i + 1)) (count - (i + 1))) ≡ whole
meals_step name_of site first count i before separator after whole within so_far put =
    let text = separator ++ entry_text name_of (Meal site (first + i)) in
    let rest = entries_text name_of (codes ", ") (meals_from site (first + i + 1) (count - (i + 1))) in
    let left : count - i ≡ suc (count - (i + 1)) = omega (arith, within) in
    let next : first + (i + 1) ≡ first + i + 1 = omega arith in
    ap (λ (k : ℕ). after ++ entries_text name_of (codes ", ") (meals_from site k (count - (i + 1)))) next
    ∙ ap (λ (l : List ℕ). l ++ rest) put ∙ append_assoc before text rest
    ∙ sym (ap (λ (n : ℕ). before ++ entries_text name_of separator (meals_from site (first + i) n)) left) ∙ so_far

-- one period more was written
pub periods_step : (name_of : ℕ → List ℕ) (periods : List Period) (i : ℕ) (period : Period) (before separator after whole : List ℕ)
    → slice_get periods i ≡ Some period → before ++ entries_text name_of separator (moved_entries (drop i periods)) ≡ whole
    → after ≡ before ++ entries_text name_of separator (Move period.site ∷ meals_in period) → after ++ entries_text name_of (codes ", ") (moved_entries (drop (i + 1) periods)) ≡ whole
periods_step name_of periods i period before separator after whole got so_far put =
    let entries = entries_text name_of separator (Move period.site ∷ meals_in period) in
    let rest = entries_text name_of (codes ", ") (moved_entries (drop (i + 1) periods)) in
    ap (λ (l : List ℕ). l ++ rest) put ∙ append_assoc before entries rest
    ∙ ap (λ (l : List ℕ). before ++ l) (sym (entries_more name_of separator (Move period.site) (meals_in period) (moved_entries (drop (i + 1) periods))))
    ∙ sym (ap (λ (l : List Period). before ++ entries_text name_of separator (moved_entries l)) (drop-at periods i period got)) ∙ so_far

-- the first period, and the others after it: the first Move is the first entry if the first period has no meal
pub first_period : (name_of : ℕ → List ℕ) (periods : List Period) (first : Period) → slice_get periods 0 ≡ Some first
    → entries_text name_of (codes " ") (meals_in first) ++ entries_text name_of (separator (eqb first.count 0)) (moved_entries (drop 1 periods)) ≡ entries_text name_of (codes " ") (entries_of periods)
first_period name_of [] first got = absurd cc
first_period name_of (p ∷ periods) first got =
    let same : p ≡ first = cc in
    let others = moved_entries periods in
    let whole : meals_in p ++ others ≡ meals_in first ++ others = ap (λ (q : Period). meals_in q ++ others) same in
    told first.site first.first first.count ∙ sym (ap (entries_text name_of (codes " ")) whole)
  where
    told : (site number count : ℕ)
        → entries_text name_of (codes " ") (meals_from site number count) ++ entries_text name_of (separator (eqb count 0)) (moved_entries periods) ≡ entries_text name_of (codes " ") (meals_from site number count ++ moved_entries periods)
    told site number zero = ap (λ (b : Bool). entries_text name_of (separator b) (moved_entries periods)) (eq-eqb 0 0 refl)
    told site number (suc count) =
        let front = entries_text name_of (codes " ") (meals_from site number (suc count)) in
        ap (λ (b : Bool). front ++ entries_text name_of (separator b) (moved_entries periods)) (ne_eqb (suc count) 0 (λ e. omega arith))
        ∙ sym (entries_more name_of (codes " ") (Meal site number) (meals_from site (number + 1) count) (moved_entries periods))
