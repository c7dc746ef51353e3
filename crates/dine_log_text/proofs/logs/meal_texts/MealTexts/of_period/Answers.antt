use Rattle.std.proofs.Common.{◌∙◌, ap, sym, Bool, List, ℕ, codes, arith}
use Rattle.dine_token.specs.Periods.{meals_in}
use Rattle.dine_log_text.specs.Logs.{entries_text, separator}
use Rattle.dine_log_text.specs.private.MealTexts.{SeenMealTexts, IsMealTexts}
use Rattle.dine_log_text.proofs.MealParts.{part_between, cut_behind_comma, meals_at_first, meals_behind}
use Rattle.dine_log_text.proofs.logs.meal_texts.MealTexts.of_period.Goals as goal

pub range-part-requires-clause-start_le_end : goal.range-part-requires-clause-start_le_end
range-part-requires-clause-start_le_end c =
    let kept : IsMealTexts c.self.inside.name.now c.deref.result.now c.self.inside.starts.items = rw c.deref.ensures c.self.invariant in
    (part_between _ _ _ kept _ c.args.period.first c.args.period.count _ _ c.index.ensures c.index-2.ensures (omega (arith, c.in_ok-before.ensures)) (omega arith)).ordered

pub range-part-requires-clause-start_boundary : goal.range-part-requires-clause-start_boundary
range-part-requires-clause-start_boundary c =
    let kept : IsMealTexts c.self.inside.name.now c.deref.result.now c.self.inside.starts.items = rw c.deref.ensures c.self.invariant in
    λ positive. (part_between _ _ _ kept _ c.args.period.first c.args.period.count _ _ c.index.ensures c.index-2.ensures (omega (arith, c.in_ok-before.ensures)) (omega arith)).from_cut

pub range-part-requires-clause-end_boundary : goal.range-part-requires-clause-end_boundary
range-part-requires-clause-end_boundary c =
    let kept : IsMealTexts c.self.inside.name.now c.deref.result.now c.self.inside.starts.items = rw c.deref.ensures c.self.invariant in
    (part_between _ _ _ kept _ c.args.period.first c.args.period.count _ _ c.index.ensures c.index-2.ensures (omega (arith, c.in_ok-before.ensures)) (omega arith)).to_cut

pub range_from-requires : goal.range_from-requires
range_from-requires c =
    let kept : IsMealTexts c.self.inside.name.now c.deref.result.now c.self.inside.starts.items = rw c.deref.ensures c.self.invariant in
    let cut = part_between _ _ _ kept _ c.args.period.first c.args.period.count _ _ c.index.ensures c.index-2.ensures (omega (arith, c.in_ok-before.ensures)) (omega arith) in
    λ positive. cut_behind_comma c.self.inside.name.now c.range-part.result.now c.args.period.first c.args.period.count (omega arith) (c.range-part.ensures.value ∙ cut.part_is)

pub returns-then-is_first-clause-part : goal.returns-then-is_first-clause-part
returns-then-is_first-clause-part c =
    let period = c.args.period in
    let kept : IsMealTexts c.self.inside.name.now c.deref.result.now c.self.inside.starts.items = rw c.deref.ensures c.self.invariant in
    let cut = part_between _ _ _ kept _ period.first period.count _ _ c.index.ensures c.index-2.ensures (omega (arith, c.in_ok-before.ensures)) (omega arith) in
    c.range_from.ensures.value ∙ meals_at_first c.self.inside.name.now c.range-part.result.now period.site period.first period.count (omega arith) (c.range-part.ensures.value ∙ cut.part_is)
    ∙ ap (λ (name : List ℕ). entries_text (λ (s : ℕ). name) (codes " ") (meals_in period)) (ap (λ (t : SeenMealTexts). t.name) c.self.view_is)
    ∙ ap (λ (first : Bool). entries_text (λ (s : ℕ). c.args.self.now.name) (separator first) (meals_in period)) (sym c.if-is_first.true)

pub returns-else-is_first-clause-part : goal.returns-else-is_first-clause-part
returns-else-is_first-clause-part c =
    let period = c.args.period in
    let kept : IsMealTexts c.self.inside.name.now c.deref.result.now c.self.inside.starts.items = rw c.deref.ensures c.self.invariant in
    let cut = part_between _ _ _ kept _ period.first period.count _ _ c.index.ensures c.index-2.ensures (omega (arith, c.in_ok-before.ensures)) (omega arith) in
    meals_behind c.self.inside.name.now c.range-part.result.now period.site period.first period.count (c.range-part.ensures.value ∙ cut.part_is)
    ∙ ap (λ (name : List ℕ). entries_text (λ (s : ℕ). name) (codes ", ") (meals_in period)) (ap (λ (t : SeenMealTexts). t.name) c.self.view_is)
    ∙ ap (λ (first : Bool). entries_text (λ (s : ℕ). c.args.self.now.name) (separator first) (meals_in period)) (sym c.if-is_first.false)
