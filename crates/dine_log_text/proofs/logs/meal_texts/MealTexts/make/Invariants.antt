use Rattle.std.proofs.Common.{◌≡◌, ◌+◌, string_bytes, length}
use Rattle.dine_log_text.specs.private.MealTexts.{IsMealTexts}
use Rattle.dine_log_text.proofs.logs.meal_texts.MealTexts.make.Given as goal

-- the meals so far are in the text
abbrev pub invariant-loop-eaten : goal.invariant-loop-eaten
invariant-loop-eaten l = record {
  count : length l.starts.items ≡ l.eaten + 1;
  kept : IsMealTexts l.name (string_bytes l.text) l.starts.items;
}
