use Rattle.std.proofs.Common.{[], ◌∷◌, ◌++◌, List, refl, sym, subst, ◌∙◌, ap, arith}
use Rattle.dine_token.specs.declared.log_period.Period.{Period}
use Rattle.dine_token.specs.private.Fields.{MatchesLog}
use Rattle.dine_token.proofs.Periods.{period}
use Rattle.dine_token.proofs.Contents.{opened_matches}
use Rattle.dine_token.proofs.fork.Fork.open.Goals as goal

pub invariant_of-result : goal.invariant_of-result
invariant_of-result c =
    let is = c.push_reserved.ensures.items ∙ ap (λ (l : List Period). l ++ period c.args.lower 1 0 ∷ []) c.in_ok-periods.ensures.items in
    subst MatchesLog (sym c.in_ok-contents.ensures.ok) (opened_matches _ is c.requires.ordered c.requires.lower_due c.requires.higher_due refl refl refl refl (omega (arith, c.push_reserved.ensures.capacity, c.in_ok-periods.ensures.capacity)) c.requires.value)
