use Rattle.dine_rules.proofs.shared.two_ends.TwoEnds.{refused_at, breach_at}
use Rattle.dine_rules.proofs.laws.joined.refused_letters_are_closes.Goals as goal

pub returns : goal.returns
returns c = record {
  close = λ plan s i other j here there letter is_plan. refused_at plan is_plan s i other j here there letter;
  early = λ plan s i other j here there letter breach is_plan. breach_at plan is_plan s i other j here there letter breach;
}
