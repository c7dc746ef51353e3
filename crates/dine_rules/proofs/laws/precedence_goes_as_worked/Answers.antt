-- each is computed, but that nobody stands before another from behind
use Rattle.std.proofs.Common.{[], ◌∷◌, refl}
use Rattle.dine_rules.specs.Precedence.{StandsBefore}
use Rattle.dine_rules.proofs.laws.precedence_goes_as_worked.Goals as goal

-- nobody stands before 2, who is first
none_first : StandsBefore 0 2 (2 ∷ 1 ∷ 0 ∷ []) → ⊥
none_first ([], middle, rest, is) = cc
none_first (a ∷ [], middle, rest, is) = cc
none_first (a ∷ b ∷ [], [], rest, is) = cc
none_first (a ∷ b ∷ [], x ∷ middle, rest, is) = cc
none_first (a ∷ b ∷ c ∷ [], middle, rest, is) = cc
none_first (a ∷ b ∷ c ∷ d ∷ front, middle, rest, is) = cc

pub returns : goal.returns
returns c = record {
  start = refl;
  on_its_way = refl;
  lower_ate_first = refl;
  higher_ate_first = refl;
  before = ([], 1 ∷ [], [], refl);
  not_behind = none_first;
}
