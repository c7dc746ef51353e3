use Rattle.std.proofs.Common.{◌≡◌, ◌∙◌, ap, true}
use Rattle.dine_trace.proofs.runs.is_same.Goals as goal

-- two that are the same are equal
pub returns-clause-differs : goal.returns-clause-differs
returns-clause-differs g c other same =
    let equal : c.eq.result ≡ true = c.eq.ensures ∙ ap (λ x. g.T.PartialEq.eq x c.args.other.now) same ∙ g.met.T.Eq.laws.refl c.args.other.now in
    absurd cc
