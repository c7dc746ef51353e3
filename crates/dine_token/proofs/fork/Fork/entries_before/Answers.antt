use Rattle.std.proofs.Common.{◌≡◌, ℕ, ◌+◌, ◌-◌, ◌<◌, List, length, take, get_or, Some, slice_get, sym, ◌∙◌, ap, arith}
use Rattle.std.proofs.lemmas.Option.{get_or_from_slice_get}
use Rattle.dine_token.specs.declared.log_period.Period.{Period}
use Rattle.dine_token.specs.Periods.{periods_of, entries_of}
use Rattle.dine_token.proofs.LawfulPeriods.{IsPlaced, placed-at}
use Rattle.dine_token.proofs.shared.Forks.{length-periods, placed_fork}
use Rattle.dine_token.proofs.fork.Fork.entries_before.Goals as goal

before : (ps : List Period) → IsPlaced ps → (place j : ℕ) (former p : Period) → place ≡ j + 1 → place < length ps → slice_get ps j ≡ Some former → slice_get ps place ≡ Some p
    → length (entries_of (take place ps)) + 3 ≡ place + p.first + former.first + former.count
before ps placed place j former p next within got_former got =
    let at_former : get_or ps j former ≡ former = get_or_from_slice_get ps j former former got_former in
    let at : get_or ps (j + 1) former ≡ p = ap (λ (n : ℕ). get_or ps n former) (sym next) ∙ get_or_from_slice_get ps place p former got in
    omega (arith, placed-at ps j former placed (omega (arith, next, within)), ap (λ (x : Period). x.first) at, ap (λ (x : Period). x.first + x.count) at_former, next, ap (λ (n : ℕ). length (entries_of (take n ps))) next)

pub overflow_add-result : goal.overflow_add-result
overflow_add-result c =
    let proper = c.requires.proper in
    omega (arith, c.requires.place, length-periods c.args.self.now proper, proper.lower_due, proper.higher_due, c.period-period.ensures.bound, c.period-former.ensures.bound)

pub overflow_add-result-2 : goal.overflow_add-result-2
overflow_add-result-2 c =
    let proper = c.requires.proper in
    omega (arith, c.requires.place, length-periods c.args.self.now proper, proper.lower_due, proper.higher_due, c.period-period.ensures.bound, c.period-former.ensures.bound)

pub overflow_add-result-3 : goal.overflow_add-result-3
overflow_add-result-3 c =
    let proper = c.requires.proper in
    omega (arith, c.requires.place, length-periods c.args.self.now proper, proper.lower_due, proper.higher_due, c.period-period.ensures.bound, c.period-former.ensures.bound)

pub overflow_sub-result : goal.overflow_sub-result
overflow_sub-result c =
    let ps = periods_of c.args.self.now.ends.0 c.args.self.now.log in
    let next : c.args.place ≡ c.args.place - 1 + 1 = omega (arith, c.if-place-eq0.false) in
    omega (arith, before ps (placed_fork c.args.self.now c.requires.proper) c.args.place (c.args.place - 1) c.period-former.result c.period-period.result next c.requires.place c.period-former.ensures.period c.period-period.ensures.period)

pub returns : goal.returns
returns c =
    let ps = periods_of c.args.self.now.ends.0 c.args.self.now.log in
    let next : c.args.place ≡ c.args.place - 1 + 1 = omega (arith, c.if-place-eq0.false) in
    omega (arith, before ps (placed_fork c.args.self.now c.requires.proper) c.args.place (c.args.place - 1) c.period-former.result c.period-period.result next c.requires.place c.period-former.ensures.period c.period-period.ensures.period)
