use Rattle.std.proofs.Common.{◌≡◌, ◌-◌, true, false, sym, ◌∙◌, subst, arith}
use Rattle.dine_wire.specs.Arrivals.{MayCarryOn}
use Rattle.dine_wire.proofs.Arriving.{reported}
use Rattle.dine_wire.proofs.arrival.meals_reported.Goals as goal
use Rattle.dine_wire.proofs.arrival.meals_reported.Goals.{then-not-may_carry_on-via-then-not-may_carry_on, then-not-may_carry_on-via-else-not-may_carry_on+then-not-is_moved_once}

pub returns-then-note-ate-clause-meals : goal.returns-then-note-ate-clause-meals
returns-then-note-ate-clause-meals c n on =
    omega (arith, (reported c.args.plan.now c.args.fork.now n c.args.note c.is_of_plan.ensures.fork on.note_is).ate, c.if-note-ate.true, c.meals_here-ate.ensures)

pub returns-then-not-may_carry_on-clause-meals : goal.returns-then-not-may_carry_on-clause-meals
returns-then-not-may_carry_on-clause-meals c n on =
    let report = reported c.args.plan.now c.args.fork.now n c.args.note c.is_of_plan.ensures.fork on.note_is in
    let same : n ≡ c.args.note.ate - c.meals_here-ate.result = omega (arith, report.ate, c.meals_here-ate.ensures) in
    elim c.then-not-may_carry_on.branch [
      | then-not-may_carry_on-via-then-not-may_carry_on w ↦
          let may = c.may_carry_on.ensures.may_not (subst (MayCarryOn c.args.fork.now) same on.may) in
          let wrong : true ≡ false = sym may ∙ w.if-not-may_carry_on.true in absurd cc
      | then-not-may_carry_on-via-else-not-may_carry_on+then-not-is_moved_once w ↦
          let moved = w.is_moved_once.ensures.is_not report.moves in
          let wrong : true ≡ false = sym moved ∙ w.if-not-is_moved_once.true in absurd cc
    ]
