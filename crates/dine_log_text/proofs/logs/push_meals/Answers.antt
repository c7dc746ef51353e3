use Rattle.std.proofs.Common.{◌≡◌, ◌++◌, ◌<◌, ◌∙◌, ap, List, ℕ, length, string_bytes, rules, slice_index_or}
use Rattle.dine_graph.specs.Plan.{name_of}
use Rattle.dine_log_text.specs.Logs.{separator}
use Rattle.dine_log_text.proofs.MealParts.{same_meals, name_at}
use Rattle.dine_log_text.proofs.logs.push_meals.Goals as goal

pub returns-in-Some-of_period : goal.returns-in-Some-of_period
returns-in-Some-of_period c =
    let h = c.in-Some.ensures.lookup in
    let value : c.in-Some.site.now ≡ slice_index_or c.args.texts.now c.args.period.site c.in-Some.site.now = h.1 in
    let within : c.args.period.site < length c.args.texts.now = h.3.0 in
    let period = c.args.period in
    let named : c.in-Some.site.now.name ≡ name_of c.args.plan.now period.site = name_at c.args.plan.now c.args.texts.now period.site c.in-Some.site.now c.requires.texts within value in
    let same = same_meals (λ (s : ℕ). c.in-Some.site.now.name) (name_of c.args.plan.now) period.site period.site named (separator c.args.is_first) period.first period.count in
    let part = c.in-Some-of_period.ensures.part ∙ same in
    let text = ap (λ (l : List ℕ). string_bytes c.args.text.now ++ l) part in
    search (rules, text)
