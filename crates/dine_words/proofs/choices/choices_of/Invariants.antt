use Rattle.std.proofs.Common.{◌≡◌, Some, map}
use Rattle.dine_words.specs.Choices.{choices_of_all}
use Rattle.dine_words.proofs.choices.choices_of.Given as goal

-- the choices are those of the texts so far
abbrev pub invariant-loop-text : goal.invariant-loop-text
invariant-loop-text l = choices_of_all (map (λ text. text.now) l.yielded) ≡ Some l.choices.items
