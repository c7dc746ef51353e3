use Rattle.toml.specs.View.{view}
use Rattle.dine_reader.specs.Document.{has_two_acts}
use Rattle.dine_reader.proofs.IndexLemmas.{position_within}
use Rattle.dine_reader.proofs.ReadLemmas.{names_of-sites}
use Rattle.dine_reader.proofs.drafts.draft_in.Goals as goal

pub narrow-requires : goal.narrow-requires
narrow-requires c =
    position_within has_two_acts _ (view c.args.document) _ _ c.in_ok-sites.ensures.two_acts (rw c.take_items.ensures c.requires)

pub returns-clause-draft : goal.returns-clause-draft
returns-clause-draft c =
    rw (c.version_in-version.ensures.is, c.narrow.ensures, c.in_ok-sites.ensures.two_acts, c.first_other_policy-other_policy.ensures, c.in_ok-sites.ensures.sites, c.take_items.ensures, c.in_ok-edges.ensures, c.items_at-tables.ensures, c.items_at.ensures, names_of-sites _)
