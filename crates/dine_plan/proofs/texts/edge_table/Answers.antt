use Rattle.std.proofs.Common.{◌≡◌, [], ◌∷◌, refl, ap, ◌∙◌}
use Rattle.toml.specs.Data.{table, string, array}
use Rattle.toml.specs.View.{items_view}
use Rattle.toml.proofs.Views.{view-Table, view-Array}
use Rattle.dine_plan.specs.DraftDocument.{edge_table}
use Rattle.dine_plan.proofs.texts.edge_table.Goals as goal

pub returns : goal.returns
unfolding edge_table
returns c =
    let first = c.in_ok-string.field-0 in
    let second = c.in_ok-string-2.field-0 in
    let a = c.in_ok-string.ensures ∙ ap string c.end_name.ensures in
    let b = c.in_ok-string-2.ensures ∙ ap string c.end_name-2.ensures in
    let both : c.push-2.new.self.items ≡ first ∷ second ∷ [] = c.in_ok-push-2.ensures.items ∙ rw (c.in_ok-push.ensures.items, c.new-ends.ensures.items) refl in
    let ends = view-Array c.push-2.new.self ∙ ap (λ vs. array (items_view vs)) both in
    view-Table _ ∙ ap table (c.in_ok-put-2.ensures ∙ rw (c.in_ok-put.ensures, c.new-table.ensures.empty, ends, a, b, c.whole.ensures) refl)
