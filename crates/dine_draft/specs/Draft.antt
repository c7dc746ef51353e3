-- A draft: what a plan is made of, before anything of it is checked.
use Rattle.std.specs.Prelude.{ℕ, min, max, List, map, Option}
use Rattle.dine_graph.specs.Plan.{SeenSite, SeenPlan}
use Rattle.dine_graph.specs.Site.{seen_site}
use Rattle.dine_draft.specs.declared.drafts.Draft.{Draft}
use Rattle.dine_draft.specs.declared.drafts.DraftEdge.{DraftEdge}

-- a draft: the version of the format; the greatest number of jobs of a site; the sites; the edges, each with the
-- numbers of its two ends and its value; and the first site that has a job with two acts, and the first with a policy
-- that the format does not name
pub record SeenDraft : Type 0 where
  pub version : ℕ
  pub most_jobs : ℕ
  pub sites : List SeenSite
  pub edges : List DraftEdge
  pub two_acts : Option ℕ
  pub other_policy : Option ℕ

-- the draft that the fields of a `Draft` describe
abbrev pub seen_draft : Draft → SeenDraft
seen_draft d = record { version = d.version; most_jobs = d.most_jobs; sites = map seen_site d.sites.items; edges = d.edges.items; two_acts = d.two_acts; other_policy = d.other_policy }

-- the names of sites, in order
abbrev pub names_of : List SeenSite → List (List ℕ)
names_of sites = map (λ (site : SeenSite). site.name) sites

-- the ends of an edge, the lower one first
unfoldable pub ends_of_edge : DraftEdge → ℕ × ℕ
ends_of_edge edge = (min edge.a edge.b, max edge.a edge.b)

-- the value of an edge
abbrev pub value_of_edge : DraftEdge → ℕ
value_of_edge edge = edge.value

-- the plan of a draft; if the draft is refused, this means nothing
abbrev pub plan_of : SeenDraft → SeenPlan
plan_of d = record { version = d.version; sites = d.sites; edges = map ends_of_edge d.edges; values = map value_of_edge d.edges }
