use Rattle.std.proofs.Common.{codes, rules, tests, sym, ◌∙◌}
use Rattle.toml.specs.View.{view}
use Rattle.dine_reader.specs.RefusalTests.{lacks_key, site_lacks_key}
use Rattle.dine_draft.proofs.shared.Searches.{any_seen}
use Rattle.dine_reader.proofs.forms.site_lacks_key.Goals as goal

pub returns-then-lacks_key : goal.returns-then-lacks_key
unfolding site_lacks_key
returns-then-lacks_key c =
    rw (sym c.lacks_key.ensures ∙ c.if-lacks_key.true)

pub returns : goal.returns
unfolding site_lacks_key
returns c =
    rw (sym c.lacks_key.ensures ∙ c.if-lacks_key.false) (any_seen view (lacks_key (codes "name")) c.items_at-jobs.result.now _ c.any.result c.any.ensures.ran (cc) (λ x b q k. search (rules, tests)) c.items_at-jobs.ensures)
