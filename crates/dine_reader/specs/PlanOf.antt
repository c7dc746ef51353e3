-- The draft of a document, and its plan.
use Rattle.std.specs.Prelude.{◌≡◌, ℕ, false, List, map, position, Some}
use Rattle.std.specs.List.{position_or_len}
use Rattle.std.specs.Str.{bytes_eq}
use Rattle.toml.specs.Data.{Data, Members, table}
use Rattle.toml.specs.Parse.{parse_document}
use Rattle.dine_token.specs.declared.act.Act.TheVariants.{Add}
use Rattle.dine_graph.specs.Plan.{SeenJob, SeenSite, SeenPlan, act_of, resigns, value_of}
use Rattle.dine_graph.specs.declared.limits.TheConstants.{MAX_TEXT_JOBS}
use Rattle.dine_draft.specs.Draft.{SeenDraft, names_of, plan_of}
use Rattle.dine_draft.specs.declared.drafts.DraftEdge.{DraftEdge}
use Rattle.dine_reader.specs.Document.{sites_in, edges_in, jobs_in, name_in, turns_in, fails_in, act_in, resigns_in, value_in, version_in, end_in, has_two_acts, has_other_policy}

-- the job of a job table
unfoldable pub job_in : Data → SeenJob
job_in job = record { name = name_in job; turns = turns_in job; fails = fails_in job; act = act_in job }

-- the site of a site table
unfoldable pub site_in : Data → SeenSite
site_in site = record { name = name_in site; jobs = map job_in (jobs_in site); resigns = resigns_in site }

-- the number of the first site of this name; the number of sites if none has it
abbrev pub number_of : List (List ℕ) → List ℕ → ℕ
number_of names name = position_or_len (bytes_eq name) names

-- an edge table as an edge between sites of these names
unfoldable pub edge_in : List (List ℕ) → Data → DraftEdge
edge_in names edge = record { a = number_of names (end_in 0 edge); b = number_of names (end_in 1 edge); value = value_in edge }

-- the draft of its version, site tables and edge tables
abbrev pub draft_in : ℕ → List Data → List Data → SeenDraft
draft_in version sites edges =
    record {
      version = version;
      most_jobs = MAX_TEXT_JOBS;
      sites = map site_in sites;
      edges = map (edge_in (names_of (map site_in sites))) edges;
      two_acts = position has_two_acts sites;
      other_policy = position has_other_policy sites;
    }

-- the draft of a document whose form is as the format says
abbrev pub draft_of : Data → SeenDraft
draft_of doc = draft_in (version_in doc) (sites_in doc) (edges_in doc)

-- the plan of a document; if the document is refused, this means nothing
abbrev pub plan_of_document : Data → SeenPlan
plan_of_document doc = plan_of (draft_of doc)

-- The text is a document, and p is the plan of its sites and edges. If the document is refused, this means nothing.
abbrev pub IsPlanOf : List ℕ → SeenPlan → Type 0
IsPlanOf text p = (doc : Members) × (parse_document text ≡ Some doc) × (p ≡ plan_of_document (table doc))

-- what version 1 has no keys for: each edge has the value 0, each meal adds 0 to it, and no site drops its jobs
pub record IsPlain (p : SeenPlan) : Type 0 where
  pub valueless : (e : ℕ) → value_of p e ≡ 0
  pub adds_nothing : (s k : ℕ) → act_of p s k ≡ Add 0
  pub none_resigns : (s : ℕ) → resigns p s ≡ false
