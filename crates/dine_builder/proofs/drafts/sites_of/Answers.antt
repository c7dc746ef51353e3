use Rattle.std.proofs.Common.{map, ap, ◌∙◌}
use Rattle.dine_graph.specs.Site.{seen_site}
use Rattle.dine_draft.proofs.shared.ListLemmas.{each_seen_more}
use Rattle.dine_builder.specs.DraftPlan.{listed_site, site_in_text, site_of_draft}
use Rattle.dine_builder.specs.private.DraftFields.{seen_draft_site}
use Rattle.dine_builder.proofs.drafts.sites_of.Goals as goal

pub loop-draft-preserved : goal.loop-draft-preserved
loop-draft-preserved c =
    let was = c.loop-draft in
    let made = c.in_ok-site_of in
    record {
      sites =
          ap (map seen_site) c.in_ok-push.ensures.items
          ∙ each_seen_more seen_site site_of_draft seen_draft_site was.sites.items made.field-0 c.args.drafts.now was.draft-index c.draft-item.result c.loop-draft-test.true c.draft-item.is was.invariant.sites made.ensures.site;
      listed =
          ap (map listed_site) c.in_ok-push.ensures.items
          ∙ each_seen_more listed_site site_in_text seen_draft_site was.sites.items made.field-0 c.args.drafts.now was.draft-index c.draft-item.result c.loop-draft-test.true c.draft-item.is was.invariant.listed made.ensures.listed;
    }
