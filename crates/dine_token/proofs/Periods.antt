-- The periods of a log as it grows, and the log that has them.
use Rattle.std.proofs.Common.{◌≡◌, ℕ, zero, suc, ◌+◌, List, [], ◌∷◌, ◌++◌, length, get_or, set, refl, sym, ◌∙◌, ap, arith, append_assoc, append-nil, add-zero, add-one}
use Rattle.dine_token.specs.declared.log_entry.Entry.{Entry}
use Rattle.dine_token.specs.declared.log_entry.Entry.TheVariants.{Meal, Move}
use Rattle.dine_token.specs.declared.log_period.Period.{Period}
use Rattle.dine_token.specs.Log.{meals_of, moves_of}
use Rattle.dine_token.specs.Periods.{meals_until_move, moved_periods, periods_of, meals_from, meals_in, moved_entries, entries_of}

abbrev pub period : ℕ → ℕ → ℕ → Period
period site first count = record { site = site; first = first; count = count }

-- the period with one more meal, and a list whose last period has one more
abbrev pub one_more : Period → Period
one_more p = period p.site p.first (p.count + 1)

abbrev pub last_one_more : List Period → List Period
last_one_more [] = []
last_one_more (p ∷ []) = one_more p ∷ []
last_one_more (p ∷ q ∷ ps) = p ∷ last_one_more (q ∷ ps)

pub last_one_more-append : (front : List Period) (last : Period) → last_one_more (front ++ last ∷ []) ≡ front ++ one_more last ∷ []
last_one_more-append [] last = refl
last_one_more-append (p ∷ []) last = refl
last_one_more-append (p ∷ q ∷ front) last = ap (λ (l : List Period). p ∷ l) (last_one_more-append (q ∷ front) last)

pub set-last : (ps : List Period) (n : ℕ) (d : Period) → n + 1 ≡ length ps → set ps n (one_more (get_or ps n d)) ≡ last_one_more ps
set-last [] n d h = absurd (omega (arith, h))
set-last (p ∷ []) zero d h = refl
set-last (p ∷ []) (suc n) d h = absurd (omega (arith, h))
set-last (p ∷ q ∷ ps) zero d h = absurd (omega (arith, h))
set-last (p ∷ q ∷ ps) (suc n) d h = ap (λ (l : List Period). p ∷ l) (set-last (q ∷ ps) n d (omega (arith, h)))

-- ---- a Move opens a period

meals_until_move-push_move : (log : List Entry) (to : ℕ) → meals_until_move (log ++ Move to ∷ []) ≡ meals_until_move log
meals_until_move-push_move [] to = refl
meals_until_move-push_move (Meal site k ∷ log) to = ap suc (meals_until_move-push_move log to)
meals_until_move-push_move (Move t ∷ log) to = refl

moved_periods-push_move : (before log : List Entry) (to : ℕ) → moved_periods before (log ++ Move to ∷ []) ≡ moved_periods before log ++ period to (meals_of to (before ++ log) + 1) 0 ∷ []
moved_periods-push_move before [] to = ap (λ (l : List Entry). period to (meals_of to l + 1) 0 ∷ []) (sym (append-nil before))
moved_periods-push_move before (Meal site k ∷ log) to =
    moved_periods-push_move (before ++ Meal site k ∷ []) log to
    ∙ ap (λ (l : List Entry). moved_periods (before ++ Meal site k ∷ []) log ++ period to (meals_of to l + 1) 0 ∷ []) (append_assoc before (Meal site k ∷ []) log)
moved_periods-push_move before (Move t ∷ log) to =
    let first = period t (meals_of t before + 1) in
    ap (λ (n : ℕ). first n ∷ moved_periods (before ++ Move t ∷ []) (log ++ Move to ∷ [])) (meals_until_move-push_move log to)
    ∙ ap (λ (l : List Period). first (meals_until_move log) ∷ l) (moved_periods-push_move (before ++ Move t ∷ []) log to
    ∙ ap (λ (l : List Entry). moved_periods (before ++ Move t ∷ []) log ++ period to (meals_of to l + 1) 0 ∷ []) (append_assoc before (Move t ∷ []) log))

pub periods_of-push_move : (start : ℕ) (log : List Entry) (to : ℕ) → periods_of start (log ++ Move to ∷ []) ≡ periods_of start log ++ period to (meals_of to log + 1) 0 ∷ []
periods_of-push_move start log to =
    ap (λ (n : ℕ). period start 1 n ∷ moved_periods [] (log ++ Move to ∷ [])) (meals_until_move-push_move log to)
    ∙ ap (λ (l : List Period). period start 1 (meals_until_move log) ∷ l) (moved_periods-push_move [] log to)

-- ---- a meal is one more of the last period

-- `site` and `first` are those of the period that is open in front of the log, and `done` are its meals so far
open-push_meal : (before : List Entry) (site first done : ℕ) (log : List Entry) (eater k : ℕ)
    → period site first (done + meals_until_move (log ++ Meal eater k ∷ [])) ∷ moved_periods before (log ++ Meal eater k ∷ [])
    ≡ last_one_more (period site first (done + meals_until_move log) ∷ moved_periods before log)
open-push_meal before site first done [] eater k = ap (λ (n : ℕ). period site first n ∷ []) (omega arith)
open-push_meal before site first done (Meal s j ∷ log) eater k =
    let longer = before ++ Meal s j ∷ [] in
    let added = log ++ Meal eater k ∷ [] in
    let as_done : (n : ℕ) → done + suc n ≡ suc done + n = λ n. omega arith in
    ap (λ (n : ℕ). period site first n ∷ moved_periods longer added) (as_done (meals_until_move added))
    ∙ open-push_meal longer site first (suc done) log eater k
    ∙ ap (λ (n : ℕ). last_one_more (period site first n ∷ moved_periods longer log)) (sym (as_done (meals_until_move log)))
open-push_meal before site first done (Move t ∷ log) eater k =
    let longer = before ++ Move t ∷ [] in
    let added = log ++ Meal eater k ∷ [] in
    let from_none : (n : ℕ) → 0 + n ≡ n = λ n. omega arith in
    ap (λ (l : List Period). period site first (done + 0) ∷ l)
    (ap (λ (n : ℕ). period t (meals_of t before + 1) n ∷ moved_periods longer added) (sym (from_none (meals_until_move added)))
    ∙ open-push_meal longer t (meals_of t before + 1) 0 log eater k
    ∙ ap (λ (n : ℕ). last_one_more (period t (meals_of t before + 1) n ∷ moved_periods longer log)) (from_none (meals_until_move log)))

pub periods_of-push_meal : (start : ℕ) (log : List Entry) (site k : ℕ) → periods_of start (log ++ Meal site k ∷ []) ≡ last_one_more (periods_of start log)
periods_of-push_meal start log site k =
    let from_none : (n : ℕ) → 0 + n ≡ n = λ n. omega arith in
    let added = log ++ Meal site k ∷ [] in
    ap (λ (n : ℕ). period start 1 n ∷ moved_periods [] added) (sym (from_none (meals_until_move added)))
    ∙ open-push_meal [] start 1 0 log site k
    ∙ ap (λ (n : ℕ). last_one_more (period start 1 n ∷ moved_periods [] log)) (from_none (meals_until_move log))

-- ---- how many there are

length-moved_periods : (before log : List Entry) → length (moved_periods before log) ≡ moves_of log
length-moved_periods before [] = refl
length-moved_periods before (Meal site k ∷ log) = length-moved_periods (before ++ Meal site k ∷ []) log
length-moved_periods before (Move to ∷ log) = ap suc (length-moved_periods (before ++ Move to ∷ []) log)

pub length-periods_of : (start : ℕ) (log : List Entry) → length (periods_of start log) ≡ moves_of log + 1
length-periods_of start log = omega (arith, length-moved_periods [] log)

-- ---- the log that has them

meals_from-suc : (site first n : ℕ) → meals_from site first (suc n) ≡ meals_from site first n ++ Meal site (first + n) ∷ []
meals_from-suc site first zero = rw add-zero
meals_from-suc site first (suc n) =
    let same : first + 1 + n ≡ first + suc n = omega arith in
    ap (λ (l : List Entry). Meal site first ∷ l) (meals_from-suc site (first + 1) n ∙ ap (λ (k : ℕ). meals_from site (first + 1) n ++ Meal site k ∷ []) same)

meals_in-one_more : (p : Period) → meals_in (one_more p) ≡ meals_in p ++ Meal p.site (p.first + p.count) ∷ []
meals_in-one_more p = ap (meals_from p.site p.first) (add-one p.count) ∙ meals_from-suc p.site p.first p.count

pub length-meals_from : (site first n : ℕ) → length (meals_from site first n) ≡ n
length-meals_from site first zero = refl
length-meals_from site first (suc n) = ap suc (length-meals_from site (first + 1) n)

pub moved_entries-append : (xs ys : List Period) → moved_entries (xs ++ ys) ≡ moved_entries xs ++ moved_entries ys
moved_entries-append [] ys = refl
moved_entries-append (p ∷ xs) ys = ap (λ (l : List Entry). Move p.site ∷ l) (ap (λ (l : List Entry). meals_in p ++ l) (moved_entries-append xs ys) ∙ sym (append_assoc (meals_in p) (moved_entries xs) (moved_entries ys)))

pub entries_of-append : (p : Period) (xs ys : List Period) → entries_of (p ∷ xs ++ ys) ≡ entries_of (p ∷ xs) ++ moved_entries ys
entries_of-append p xs ys = ap (λ (l : List Entry). meals_in p ++ l) (moved_entries-append xs ys) ∙ sym (append_assoc (meals_in p) (moved_entries xs) (moved_entries ys))

-- the first periods, and one more
pub entries_of-opened : (front : List Period) (last : Period) (to first : ℕ) → entries_of (front ++ last ∷ [] ++ period to first 0 ∷ []) ≡ entries_of (front ++ last ∷ []) ++ Move to ∷ []
entries_of-opened [] last to first = entries_of-append last [] (period to first 0 ∷ [])
entries_of-opened (p ∷ front) last to first = entries_of-append p (front ++ last ∷ []) (period to first 0 ∷ [])

pub entries_of-one_more : (front : List Period) (last : Period) → entries_of (front ++ one_more last ∷ []) ≡ entries_of (front ++ last ∷ []) ++ Meal last.site (last.first + last.count) ∷ []
entries_of-one_more [] last =
    append-nil _ ∙ meals_in-one_more last ∙ ap (λ (l : List Entry). l ++ Meal last.site (last.first + last.count) ∷ []) (sym (append-nil (meals_in last)))
entries_of-one_more (p ∷ front) last =
    let added = Meal last.site (last.first + last.count) ∷ [] in
    let more : meals_in (one_more last) ++ [] ≡ (meals_in last ++ []) ++ added = append-nil _ ∙ meals_in-one_more last ∙ ap (λ (l : List Entry). l ++ added) (sym (append-nil (meals_in last))) in
    let parts = entries_of (p ∷ front) in
    entries_of-append p front (one_more last ∷ [])
    ∙ ap (λ (l : List Entry). parts ++ Move last.site ∷ l) more
    ∙ sym (append_assoc parts (Move last.site ∷ meals_in last ++ []) added)
    ∙ ap (λ (l : List Entry). l ++ added) (sym (entries_of-append p front (last ∷ [])))
