use Rattle.std.proofs.Common.{◌≡◌, ◌++◌, ◌∷◌, ◌∙◌, ap, [], ℕ, length, string_bytes, arith, rules}
use Rattle.std.proofs.lemmas.List.{length_push}
use Rattle.dine_log_text.proofs.MealParts.{meal_more}
use Rattle.dine_log_text.proofs.logs.meal_texts.MealTexts.make.Goals as goal

pub loop-eaten-preserved : goal.loop-eaten-preserved
loop-eaten-preserved c =
    let after = string_bytes c.push_meal.new.text in
    let kept = meal_more c.args.name.now (string_bytes c.loop-eaten.text) after c.loop-eaten.starts.items c.loop-eaten.eaten c.loop-eaten.invariant.count c.loop-eaten.invariant.kept c.in_ok-push_meal.ensures in
    let long : c.len.result ≡ length after = search rules in
    let pushed : c.push-in-loop-eaten.new.self.items ≡ c.loop-eaten.starts.items ++ length after ∷ [] = c.in_ok-push-2.ensures.items ∙ ap (λ (n : ℕ). c.loop-eaten.starts.items ++ n ∷ []) long in
    record {
      count = omega (arith, c.loop-eaten.invariant.count, ap length pushed, length_push c.loop-eaten.starts.items (length after));
      kept = rw pushed kept;
    }
