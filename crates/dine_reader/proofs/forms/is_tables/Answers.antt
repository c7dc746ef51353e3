use Rattle.std.proofs.Common.{◌&&◌, rules, tests, sym, ap, ◌∙◌}
use Rattle.std.specs.List.{list_all}
use Rattle.toml.specs.View.{view}
use Rattle.dine_reader.specs.RefusalTests.{is_table, is_tables}
use Rattle.dine_reader.specs.Document.{items_in}
use Rattle.dine_draft.proofs.shared.Searches.{all_seen}
use Rattle.dine_reader.proofs.forms.is_tables.Goals as goal

pub returns-then-is_array : goal.returns-then-is_array
unfolding is_tables
returns-then-is_array c =
    rw (sym c.is_array.ensures ∙ c.if-is_array.true) (all_seen view is_table c.items_in-items.result.now _ c.all.result c.all.ensures.ran (cc) (λ x b q k. search (rules, tests)) c.items_in-items.ensures)

pub returns-else-is_array : goal.returns-else-is_array
unfolding is_tables
returns-else-is_array c =
    c.if-is_array.false ∙ ap (λ b. b && list_all is_table (items_in (view c.args.value.now))) (sym c.if-is_array.false ∙ c.is_array.ensures)
