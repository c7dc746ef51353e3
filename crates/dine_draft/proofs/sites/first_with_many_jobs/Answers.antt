use Rattle.std.proofs.Common.{rules, tests, refl}
use Rattle.dine_graph.specs.Site.{seen_site}
use Rattle.dine_draft.specs.Refusals.{has_many_jobs}
use Rattle.dine_draft.proofs.shared.Searches.{position_seen}
use Rattle.dine_draft.proofs.sites.first_with_many_jobs.Goals as goal

pub returns : goal.returns
returns c =
    position_seen seen_site (has_many_jobs c.args.most) c.args.sites.now _ c.position.result c.position.ensures.ran (cc) (λ x b q k. search (rules, tests)) refl
