use Rattle.std.proofs.Common.{rules, tests, sym, ◌∙◌}
use Rattle.toml.specs.View.{view}
use Rattle.dine_draft.proofs.shared.Searches.{any_seen}
use Rattle.dine_reader.specs.RefusalTests.{has_other_key, edge_keys}
use Rattle.dine_reader.specs.private.Forms.{has_other_key_outside}
use Rattle.dine_reader.proofs.forms.has_other_key_outside.Goals as goal

pub returns-then-has_other_key : goal.returns-then-has_other_key
unfolding has_other_key_outside
returns-then-has_other_key c =
    rw (sym c.has_other_key.ensures ∙ c.if-has_other_key.true)

pub returns : goal.returns
unfolding has_other_key_outside
returns c =
    rw (sym c.has_other_key.ensures ∙ c.if-has_other_key.false, ← c.is_second-second.ensures) (any_seen view (has_other_key (edge_keys c.is_second-second.result)) c.items_at-edges.result.now _ c.any.result c.any.ensures.ran (cc) (λ x b q k. search (rules, tests)) c.items_at-edges.ensures)
