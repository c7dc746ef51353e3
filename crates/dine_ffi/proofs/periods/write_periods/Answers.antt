use mir.Syntax.{w64}
use mir.Val.{hbits}
use Rattle.std.proofs.lemmas.Int.{to_z_pos}
use Rattle.std.proofs.Common.{◌≡◌, ℕ, ℤ, ◌+◌, ◌*◌, ◌^◌, ◌<◌, pos, List, take, slice_set, sym, ◌∙◌, ap, subst, arith, take_all}
use Rattle.dine_token.specs.declared.log_period.Period.{Period}
use Rattle.dine_token.proofs.shared.Forks.{length-periods}
use Rattle.dine_ffi.specs.Written.{ArePeriods, fork_periods, over_front, period_numbers}
use Rattle.dine_ffi.proofs.OverFront.{over_front-none, over_front-period, take_next}
use Rattle.dine_ffi.proofs.periods.write_periods.Goals as goal

pub overflow_mul-i : goal.overflow_mul-i
overflow_mul-i c =
    let proper = c.periods-periods.ensures.proper in
    omega (arith, c.loop-i-test.true, c.periods-periods.ensures.count, length-periods c.args.fork.now proper, proper.lower_due, proper.higher_due)

pub write_period-requires : goal.write_period-requires
write_period-requires c =
    let proper = c.periods-periods.ensures.proper in
    omega (arith, c.loop-i-test.true, c.periods-periods.ensures.count, length-periods c.args.fork.now proper, proper.lower_due, proper.higher_due)

pub overflow_cast-result : goal.overflow_cast-result
overflow_cast-result c =
    let proper = c.periods-periods.ensures.proper in
    omega (arith, c.periods-periods.ensures.count, length-periods c.args.fork.now proper, proper.lower_due, proper.higher_due)

pub loop-i-init : goal.loop-i-init
loop-i-init c = sym (over_front-none c.args.out.now)

pub loop-i-preserved : goal.loop-i-preserved
loop-i-preserved c =
    let ps : List Period = fork_periods c.args.fork.now in
    let i : ℕ = c.loop-i.i in
    let out : List ℕ = c.args.out.now in
    let p : Period = c.period.result in
    let next = take_next ps i p c.period.ensures.period in
    c.write_period.ensures
    ∙ ap (λ (l : List ℕ). slice_set (slice_set (slice_set l (3 * i) p.site) (3 * i + 1) p.first) (3 * i + 2) p.count) c.loop-i.invariant
    ∙ over_front-period (take i ps) p out (3 * i) (ap (λ (n : ℕ). 3 * n) (sym next.0))
    ∙ ap (λ (l : List Period). over_front (period_numbers l) out) (sym next.1)

pub returns : goal.returns
returns c =
    let ps : List Period = fork_periods c.args.fork.now in
    let out : List ℕ = c.args.out.now in
    let all : take c.loop-i.i ps ≡ ps = take_all c.loop-i.i ps (omega (arith, c.loop-i-test.false, c.periods-periods.ensures.count)) in
    let proper = c.periods-periods.ensures.proper in
    let few : c.periods-periods.result < 2 ^ hbits w64 = omega (arith, c.periods-periods.ensures.count, length-periods c.args.fork.now proper, proper.lower_due, proper.higher_due) in
    let are : ArePeriods c.args.fork.now out c.loop-i.out (pos c.periods-periods.result) = record {
      number = ap pos c.periods-periods.ensures.count;
      numbers = c.loop-i.invariant ∙ ap (λ (l : List Period). over_front (period_numbers l) out) all;
    } in
    subst (λ (r : ℤ). ArePeriods c.args.fork.now out c.loop-i.out r) (sym (to_z_pos w64 c.periods-periods.result few)) are
