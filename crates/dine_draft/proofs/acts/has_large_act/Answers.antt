use Rattle.std.proofs.Common.{map, rules, tests, refl, sym, ap, ◌∙◌}
use Rattle.dine_graph.specs.Job.{seen_job}
use Rattle.dine_draft.specs.Refusals.{has_large_act, is_large}
use Rattle.dine_draft.proofs.shared.PlainLemmas.{any_listed}
use Rattle.dine_draft.proofs.shared.Searches.{any_seen}
use Rattle.dine_draft.proofs.acts.has_large_act.Goals as goal

pub returns : goal.returns
unfolding has_large_act
returns c =
    any_seen seen_job is_large c.as_slice-jobs.result.now _ c.any.result c.any.ensures.ran (cc) (λ x b q k. search (rules, tests)) (ap (map seen_job) c.as_slice-jobs.ensures.value)
    ∙ sym (any_listed is_large c.args.site.now.jobs.items c.args.site.now.plain (λ k within. refl))
