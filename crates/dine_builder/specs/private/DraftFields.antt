-- The draft that the fields of a builder describe.
use Rattle.std.specs.Prelude.{map, string_bytes}
use Rattle.dine_builder.specs.Draft.{SeenDraftSite, Draft}
use Rattle.dine_builder.specs.declared.drafts.DraftSite.{DraftSite}
use Rattle.dine_builder.specs.declared.drafts.PlanBuilder.TheInside.{Inside}

-- the site that the fields of a `DraftSite` describe
abbrev pub seen_draft_site : DraftSite → SeenDraftSite
seen_draft_site site = record { name = string_bytes site.name; jobs = site.jobs.items; plain = site.plain; resigns = site.resigns }

-- the draft that the fields of a `PlanBuilder` describe
abbrev pub seen_draft : Inside → Draft
seen_draft a = record { sites = map seen_draft_site a.sites.items; edges = a.edges.items }
