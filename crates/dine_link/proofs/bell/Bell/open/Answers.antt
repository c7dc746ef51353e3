use Rattle.std.proofs.Common.{ℕ, List, false, map, refl, sym, ◌∙◌, ap, ap₂, subst}
use Rattle.std.specs.List.{range_with_len}
use Rattle.crossbeam_channel.specs.Claims.{IsSeatAt}
use Rattle.crossbeam_channel.specs.Ends.{receives_on}
use Rattle.dine_link.specs.Bells.{BellId, SeenBell, new_ringer}
use Rattle.dine_link.specs.private.BellRule.{IsOfBell, reported_by}
use Rattle.dine_link.proofs.BellSteps.{begins}
use Rattle.dine_link.proofs.bell.Bell.open.Goals as goal

pub bounded_with-requires-clause-rule : goal.bounded_with-requires-clause-rule
bounded_with-requires-clause-rule c = begins

pub invariant_of-bell : goal.invariant_of-bell
invariant_of-bell c = record {
  seated = subst (λ (bell : BellId). IsSeatAt bell c.make_ringers.new.pass) (sym c.in-Ok.ensures.0) c.make_ringers.ensures.seated;
  own = subst (IsOfBell c.args.degree) (sym c.in-Ok-make_ringers.ensures.knows) refl;
}

pub returns-clause-bell : goal.returns-clause-bell
returns-clause-bell c =
    let bell : List ℕ → List ℕ → SeenBell = λ reported found. record { identity = receives_on c.in-Ok.receiver; degree = c.args.degree; reported = reported; found_empty = found; refused = false } in
    ap₂ bell (ap reported_by c.in-Ok-make_ringers.ensures.knows) c.none.ensures

pub returns-clause-ringers : goal.returns-clause-ringers
returns-clause-ringers c = c.in-Ok-make_ringers.ensures.ringers ∙ ap (λ (bell : BellId). map (new_ringer bell) (range_with_len 0 c.args.degree)) (sym c.in-Ok.ensures.0)
