use Rattle.std.proofs.Common.{◌≡◌, ℕ, zero, suc, ◌+◌, ◌-◌, ◌<◌, ◌≤◌, List, [], ◌∷◌, length, take, Some, slice_get, refl, sym, ◌∙◌, ap, arith}
use Rattle.dine_token.specs.declared.log_entry.Entry.{Entry}
use Rattle.dine_token.specs.declared.log_entry.Entry.TheVariants.{Meal}
use Rattle.dine_token.specs.declared.log_period.Period.{Period}
use Rattle.dine_token.specs.Periods.{periods_of, entries_of}
use Rattle.dine_token.proofs.shared.Forks.{fork_has_periods}
use Rattle.dine_token.proofs.Places.{size_first, size_more, entry_first, entry_move, entry_meal}
use Rattle.dine_token.proofs.fork.Fork.entry.Goals as goal

at_first : (ps : List Period) (place : ℕ) (p : Period) (i before : ℕ) → place ≡ 0 → place < length ps → slice_get ps place ≡ Some p → before ≡ length (entries_of (take place ps))
    → i < length (entries_of (take (place + 1) ps)) → slice_get (entries_of ps) i ≡ Some (Meal p.site (p.first + (i - before)))
at_first ps (suc place) p i before first within got is short = absurd (omega (arith, first))
at_first [] zero p i before first within got is short = absurd (omega (arith, within))
at_first (q ∷ ps) zero p i before first within got is short =
    let none : before ≡ 0 = is in
    let same : i ≡ i - before = omega (arith, none) in
    entry_first (q ∷ ps) p i within got (omega (arith, short, size_first (q ∷ ps) p within got)) ∙ ap (λ (n : ℕ). Some (Meal p.site (p.first + n))) same

-- of the entries of a period there are at most one before its last meal, beside its meals
inside_first : (ps : List Period) (place : ℕ) (p : Period) (i before : ℕ) → place ≡ 0 → place < length ps → slice_get ps place ≡ Some p → before ≡ length (entries_of (take place ps))
    → i < length (entries_of (take (place + 1) ps)) → i - before < p.count
inside_first ps (suc place) p i before first within got is short = absurd (omega (arith, first))
inside_first ps zero p i before first within got is short = omega (arith, short, size_first ps p within got)

inside_period : (ps : List Period) (place : ℕ) (p : Period) (i before : ℕ) → place < length ps → slice_get ps place ≡ Some p → before ≡ length (entries_of (take place ps))
    → i < length (entries_of (take (place + 1) ps)) → i - before ≤ p.count
inside_period ps zero p i before within got is short = omega (arith, inside_first ps zero p i before refl within got is short)
inside_period ps (suc place) p i before within got is short = omega (arith, is, short, size_more ps (suc place) p (omega arith) within got)

pub overflow_cast-inside : goal.overflow_cast-inside
overflow_cast-inside c =
    let ps = periods_of c.args.self.now.ends.0 c.args.self.now.log in
    let there = c.period_with-place.ensures in
    omega (arith, inside_period ps c.period_with-place.result c.period-period.result c.args.i c.entries_before.result there.within c.period-period.ensures.period c.entries_before.ensures there.end, c.period-period.ensures.bound)

pub overflow_add-result : goal.overflow_add-result
overflow_add-result c =
    let ps = periods_of c.args.self.now.ends.0 c.args.self.now.log in
    let there = c.period_with-place.ensures in
    omega (arith, inside_first ps c.period_with-place.result c.period-period.result c.args.i c.entries_before.result c.if-place-eq0.true there.within c.period-period.ensures.period c.entries_before.ensures there.end, c.period-period.ensures.bound)

pub overflow_add-result-else-inside-eq0 : goal.overflow_add-result-else-inside-eq0
overflow_add-result-else-inside-eq0 c =
    let ps = periods_of c.args.self.now.ends.0 c.args.self.now.log in
    let there = c.period_with-place.ensures in
    omega (arith, c.if-inside-eq0.false, inside_period ps c.period_with-place.result c.period-period.result c.args.i c.entries_before.result there.within c.period-period.ensures.period c.entries_before.ensures there.end, c.period-period.ensures.bound)

pub returns-then-place-eq0 : goal.returns-then-place-eq0
returns-then-place-eq0 c =
    let parts = fork_has_periods c.args.self.now c.period_with-place.ensures.proper in
    let ps = periods_of c.args.self.now.ends.0 c.args.self.now.log in
    let there = c.period_with-place.ensures in
    ap (λ (l : List Entry). slice_get l c.args.i) (sym parts.whole)
    ∙ at_first ps c.period_with-place.result c.period-period.result c.args.i c.entries_before.result c.if-place-eq0.true there.within c.period-period.ensures.period c.entries_before.ensures there.end

pub returns-then-inside-eq0 : goal.returns-then-inside-eq0
returns-then-inside-eq0 c =
    let parts = fork_has_periods c.args.self.now c.period_with-place.ensures.proper in
    let ps = periods_of c.args.self.now.ends.0 c.args.self.now.log in
    let there = c.period_with-place.ensures in
    ap (λ (l : List Entry). slice_get l c.args.i) (sym parts.whole)
    ∙ entry_move ps c.period_with-place.result c.period-period.result c.args.i (omega (arith, c.if-place-eq0.false)) there.within c.period-period.ensures.period
    (omega (arith, c.if-inside-eq0.true, there.start, c.entries_before.ensures))

pub returns-else-inside-eq0 : goal.returns-else-inside-eq0
returns-else-inside-eq0 c =
    let parts = fork_has_periods c.args.self.now c.period_with-place.ensures.proper in
    let ps = periods_of c.args.self.now.ends.0 c.args.self.now.log in
    let there = c.period_with-place.ensures in
    let place = c.period_with-place.result in
    let some : 0 < place = omega (arith, c.if-place-eq0.false) in
    let size = size_more ps place c.period-period.result some there.within c.period-period.ensures.period in
    ap (λ (l : List Entry). slice_get l c.args.i) (sym parts.whole)
    ∙ entry_meal ps place c.period-period.result c.args.i (c.args.i - c.entries_before.result - 1) some there.within c.period-period.ensures.period
    (omega (arith, c.if-inside-eq0.false, there.start, c.entries_before.ensures)) (omega (arith, c.if-inside-eq0.false, there.start, there.end, c.entries_before.ensures, size))
