use Rattle.std.proofs.Common.{◌≡◌, map, take}
use Rattle.dine_graph.specs.Site.{seen_site}
use Rattle.dine_builder.specs.DraftPlan.{listed_site, site_in_text, site_of_draft}
use Rattle.dine_builder.specs.private.DraftFields.{seen_draft_site}
use Rattle.dine_builder.proofs.drafts.sites_of.Given as goal

abbrev pub invariant-loop-draft : goal.invariant-loop-draft
invariant-loop-draft l = record {
  sites : map seen_site l.sites.items ≡ map site_of_draft (map seen_draft_site (take l.draft-index l.drafts));
  listed : map listed_site l.sites.items ≡ map site_in_text (map seen_draft_site (take l.draft-index l.drafts));
}
