use Rattle.std.proofs.Common.{rules, tests, sym, ◌∙◌}
use Rattle.toml.specs.View.{view}
use Rattle.dine_reader.specs.RefusalTests.{has_other_key, site_has_other_key, job_keys}
use Rattle.dine_draft.proofs.shared.Searches.{any_seen}
use Rattle.dine_reader.proofs.forms.site_has_other_key.Goals as goal

pub returns-then-has_other_site_key : goal.returns-then-has_other_site_key
unfolding site_has_other_key
returns-then-has_other_site_key c =
    rw (sym c.has_other_site_key.ensures ∙ c.if-has_other_site_key.true)

pub returns : goal.returns
unfolding site_has_other_key
returns c =
    rw (sym c.has_other_site_key.ensures ∙ c.if-has_other_site_key.false) (any_seen view (has_other_key (job_keys c.args.second)) c.items_at-jobs.result.now _ c.any.result c.any.ensures.ran (cc) (λ x b q k. search (rules, tests)) c.items_at-jobs.ensures)
