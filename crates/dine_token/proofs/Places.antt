-- The period of an entry of a log.
use Rattle.std.proofs.Common.{◌≡◌, ℕ, zero, suc, ◌+◌, ◌<◌, ◌≤◌, List, [], ◌∷◌, ◌++◌, length, take, drop, get_or, Some, slice_get, sym, ◌∙◌, ap, inl, inr, arith, append_assoc, append-nil, add-zero, length-append}
use Rattle.std.proofs.Math.Seq.{split_at}
use Rattle.std.proofs.lemmas.Bool.{cases_lt}
use Rattle.std.proofs.lemmas.List.{take_more}
use Rattle.std.proofs.lemmas.Option.{get_or_from_slice_get}
use Rattle.dine_token.specs.declared.log_entry.Entry.{Entry}
use Rattle.dine_token.specs.declared.log_entry.Entry.TheVariants.{Meal, Move}
use Rattle.dine_token.specs.declared.log_period.Period.{Period}
use Rattle.dine_token.specs.Lawful.{IsLawful}
use Rattle.dine_token.specs.Periods.{meals_from, meals_in, moved_entries, entries_of}
use Rattle.dine_token.proofs.Periods.{length-meals_from, entries_of-append}

-- entry i is in one of the periods from `low` on, and before `high`
pub record IsBetween (ps : List Period) (i low high : ℕ) : Type 0 where
  pub some : low < high
  pub within : high ≤ length ps
  pub start : length (entries_of (take low ps)) ≤ i
  pub end : i < length (entries_of (take high ps))

-- an entry behind others
behind : (front rest : List Entry) (i n : ℕ) → i ≡ length front + n → slice_get (front ++ rest) i ≡ slice_get rest n
behind [] rest i n h = ap (slice_get rest) (omega (arith, h))
behind (e ∷ front) rest zero n h = absurd (omega (arith, h))
behind (e ∷ front) rest (suc i) n h = behind front rest i n (omega (arith, h))

-- a meal of a period
meal_at : (site first count n : ℕ) (rest : List Entry) → n < count → slice_get (meals_from site first count ++ rest) n ≡ Some (Meal site (first + n))
meal_at site first zero n rest h = absurd (omega (arith, h))
meal_at site first (suc count) zero rest h = rw add-zero
meal_at site first (suc count) (suc n) rest h =
    let same : first + 1 + n ≡ first + suc n = omega arith in
    meal_at site (first + 1) count n rest (omega (arith, h)) ∙ ap (λ (k : ℕ). Some (Meal site k)) same

-- the log before a period that a Move opens, and from there on
cut : (ps : List Period) (j : ℕ) (p : Period) → 0 < j → j < length ps → slice_get ps j ≡ Some p → entries_of ps ≡ entries_of (take j ps) ++ moved_entries (p ∷ drop (suc j) ps)
cut [] j p some within got = absurd (omega (arith, within))
cut (q ∷ ps) zero p some within got = absurd (omega (arith, some))
cut (q ∷ ps) (suc j) p some within got =
    let there : get_or (q ∷ ps) (suc j) p ≡ p = get_or_from_slice_get (q ∷ ps) (suc j) p p got in
    let rest = drop (suc (suc j)) (q ∷ ps) in
    ap entries_of (split_at (q ∷ ps) (suc j) p within) ∙ entries_of-append q (take j ps) (get_or (q ∷ ps) (suc j) p ∷ rest)
    ∙ ap (λ (x : Period). entries_of (q ∷ take j ps) ++ moved_entries (x ∷ rest)) there

-- the number of entries up to the end of a period
pub size_first : (ps : List Period) (p : Period) → 0 < length ps → slice_get ps 0 ≡ Some p → length (entries_of (take 1 ps)) ≡ p.count
size_first [] p within got = absurd (omega (arith, within))
size_first (q ∷ ps) p within got =
    let same : q ≡ p = cc in
    ap length (append-nil (meals_in q)) ∙ length-meals_from q.site q.first q.count ∙ ap (λ (x : Period). x.count) same

pub size_more : (ps : List Period) (j : ℕ) (p : Period) → 0 < j → j < length ps → slice_get ps j ≡ Some p → length (entries_of (take (j + 1) ps)) ≡ length (entries_of (take j ps)) + (p.count + 1)
size_more [] j p some within got = absurd (omega (arith, within))
size_more (q ∷ ps) zero p some within got = absurd (omega (arith, some))
size_more (q ∷ ps) (suc j) p some within got =
    let there : get_or (q ∷ ps) (suc j) p ≡ p = get_or_from_slice_get (q ∷ ps) (suc j) p p got in
    let opened : entries_of (take (suc j + 1) (q ∷ ps)) ≡ entries_of (q ∷ take j ps) ++ moved_entries (p ∷ []) =
    ap entries_of (take_more (q ∷ ps) (suc j) p within) ∙ entries_of-append q (take j ps) (get_or (q ∷ ps) (suc j) p ∷ [])
    ∙ ap (λ (x : Period). entries_of (q ∷ take j ps) ++ moved_entries (x ∷ [])) there in
    omega (arith, ap length opened, length-append (entries_of (q ∷ take j ps)) (moved_entries (p ∷ [])), ap length (append-nil (meals_in p)), length-meals_from p.site p.first p.count)

-- the entries of the first period, the Move of another, and its meals
pub entry_first : (ps : List Period) (p : Period) (i : ℕ) → 0 < length ps → slice_get ps 0 ≡ Some p → i < p.count → slice_get (entries_of ps) i ≡ Some (Meal p.site (p.first + i))
entry_first [] p i within got short = absurd (omega (arith, within))
entry_first (q ∷ ps) p i within got short =
    let same : q ≡ p = cc in
    ap (λ (x : Period). slice_get (meals_in x ++ moved_entries ps) i) same ∙ meal_at p.site p.first p.count i (moved_entries ps) short

pub entry_move : (ps : List Period) (j : ℕ) (p : Period) (i : ℕ) → 0 < j → j < length ps → slice_get ps j ≡ Some p → i ≡ length (entries_of (take j ps)) → slice_get (entries_of ps) i ≡ Some (Move p.site)
entry_move ps j p i some within got here =
    ap (λ (l : List Entry). slice_get l i) (cut ps j p some within got) ∙ behind (entries_of (take j ps)) (moved_entries (p ∷ drop (suc j) ps)) i 0 (omega (arith, here))

pub entry_meal : (ps : List Period) (j : ℕ) (p : Period) (i n : ℕ) → 0 < j → j < length ps → slice_get ps j ≡ Some p → i ≡ length (entries_of (take j ps)) + suc n → n < p.count
    → slice_get (entries_of ps) i ≡ Some (Meal p.site (p.first + n))
entry_meal ps j p i n some within got here short =
    ap (λ (l : List Entry). slice_get l i) (cut ps j p some within got) ∙ behind (entries_of (take j ps)) (moved_entries (p ∷ drop (suc j) ps)) i (suc n) here
    ∙ meal_at p.site p.first p.count n (moved_entries (drop (suc j) ps)) short

-- a period between two others that has no meal has a Move on each side
two_moves : (ps : List Period) (j : ℕ) (p : Period) → slice_get ps (suc j) ≡ Some p → suc j + 1 < length ps → p.count ≡ 0
    → (before after : List Entry) × (one next : ℕ) × (entries_of ps ≡ before ++ Move one ∷ Move next ∷ after)
two_moves [] j p got within none = absurd (omega (arith, within))
two_moves (a ∷ []) j p got within none = absurd (omega (arith, within))
two_moves (a ∷ b ∷ []) j p got within none = absurd (omega (arith, within))
two_moves (a ∷ b ∷ c ∷ ps) zero p got within none =
    let same : b ≡ p = cc in
    let empty : meals_in b ≡ [] = ap meals_in same ∙ ap (meals_from p.site p.first) none in
    (meals_in a, meals_in c ++ moved_entries ps, b.site, c.site, ap (λ (l : List Entry). meals_in a ++ Move b.site ∷ (l ++ Move c.site ∷ (meals_in c ++ moved_entries ps))) empty)
two_moves (a ∷ b ∷ c ∷ ps) (suc j) p got within none =
    let w = two_moves (b ∷ c ∷ ps) j p got (omega (arith, within)) none in
    (meals_in a ++ Move b.site ∷ w.0, w.1, w.2, w.3, ap (λ (l : List Entry). meals_in a ++ Move b.site ∷ l) w.4 ∙ sym (append_assoc (meals_in a) (Move b.site ∷ w.0) (Move w.2 ∷ Move w.3 ∷ w.1)))

-- so in a lawful log only the first and the last may be without a meal
pub used_between : (ends due : ℕ × ℕ) (ps : List Period) (i : ℕ) (p : Period) → IsLawful ends due (entries_of ps) → slice_get ps i ≡ Some p → 0 < i → i + 1 < length ps → 1 ≤ p.count
used_between ends due ps zero p lawful got some within = absurd (omega (arith, some))
used_between ends due ps (suc j) p lawful got some within = elim (cases_lt 0 p.count) [
  | inl more ↦ omega (arith, more)
  | inr none ↦ let w = two_moves ps j p got within (omega (arith, none)) in absurd (lawful.used_before_sent w.0 w.1 w.2 w.3 w.4)
]
