use Rattle.std.proofs.Common.{rules, tests}
use Rattle.toml.specs.View.{view}
use Rattle.dine_reader.specs.Document.{has_two_acts, has_both}
use Rattle.dine_draft.proofs.shared.Searches.{any_seen}
use Rattle.dine_reader.proofs.acts.has_two_acts.Goals as goal

pub returns : goal.returns
unfolding has_two_acts
returns c =
    any_seen view has_both c.items_at-jobs.result.now _ c.any.result c.any.ensures.ran (cc) (λ x b q k. search (rules, tests)) c.items_at-jobs.ensures
