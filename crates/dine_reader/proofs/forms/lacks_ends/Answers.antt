use Rattle.std.proofs.Common.{codes, rules, tests}
use Rattle.toml.specs.View.{view}
use Rattle.dine_draft.proofs.shared.Searches.{any_seen}
use Rattle.dine_reader.specs.RefusalTests.{lacks_key}
use Rattle.dine_reader.proofs.forms.lacks_ends.Goals as goal

pub returns : goal.returns
returns c =
    any_seen view (lacks_key (codes "ends")) c.items_at-edges.result.now _ c.any.result c.any.ensures.ran (cc) (λ x b q k. search (rules, tests)) c.items_at-edges.ensures
