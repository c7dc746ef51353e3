use Rattle.std.proofs.Common.{rules, tests, sym, ◌∙◌}
use Rattle.toml.specs.View.{view}
use Rattle.dine_reader.specs.RefusalTests.{edge_is_wrong}
use Rattle.dine_reader.specs.private.Forms.{has_wrong_kind_outside}
use Rattle.dine_draft.proofs.shared.Searches.{any_seen}
use Rattle.dine_reader.proofs.forms.has_wrong_kind.Goals as goal

pub returns-then-has_no_tables : goal.returns-then-has_no_tables
unfolding has_wrong_kind_outside
returns-then-has_no_tables c =
    rw (sym c.has_no_tables.ensures ∙ c.if-has_no_tables.true)

pub returns-then-has_no_tables-2 : goal.returns-then-has_no_tables-2
unfolding has_wrong_kind_outside
returns-then-has_no_tables-2 c =
    rw (sym c.has_no_tables.ensures ∙ c.if-has_no_tables.false, sym c.has_no_tables-2.ensures ∙ c.if-has_no_tables-2.true)

pub returns : goal.returns
unfolding has_wrong_kind_outside
returns c =
    rw (sym c.has_no_tables.ensures ∙ c.if-has_no_tables.false, sym c.has_no_tables-2.ensures ∙ c.if-has_no_tables-2.false) (any_seen view edge_is_wrong c.items_at-edges.result.now _ c.any.result c.any.ensures.ran (cc) (λ x b q k. search (rules, tests)) c.items_at-edges.ensures)
