-- The draft of a plan: the sites, jobs and edges that were added so far.
use Rattle.std.specs.Prelude.{ℕ, ◌+◌, ◌-◌, min, Bool, true, false, nat_lt, nat_le, ◌&&◌, List, [], ◌∷◌, ◌++◌, map, length, slice_index_or, slice_set, if◌then◌else◌}
use Rattle.std.specs.List.{range_with_len}
use Rattle.dine_token.specs.declared.act.Act.{Act}
use Rattle.dine_token.specs.declared.act.Act.TheVariants.{Add}
use Rattle.dine_graph.specs.declared.limits.TheConstants.{MAX_TEXT_JOBS}
use Rattle.dine_builder.specs.declared.drafts.TheConstants.{EPOCH_JOBS}
use Rattle.dine_builder.specs.declared.drafts.DraftJob.{DraftJob}
use Rattle.dine_draft.specs.declared.drafts.DraftEdge.{DraftEdge}

-- a site: its name, which may be one that the format refuses, its first jobs, which may be changed, the number of plain
-- jobs after these, and whether it drops those that it has left after one failed
pub record SeenDraftSite : Type 0 where
  pub name : List ℕ
  pub jobs : List DraftJob
  pub plain : ℕ
  pub resigns : Bool

-- a draft: the sites and the edges, numbered from 0
pub record Draft : Type 0 where
  pub sites : List SeenDraftSite
  pub edges : List DraftEdge

-- the draft with no site and no edge
abbrev pub empty_draft : Draft
empty_draft = record { sites = []; edges = [] }

-- job k of a new site: no turns, no failure, and an act that adds 0
abbrev pub plain_job : ℕ → DraftJob
plain_job k = record { number = k; turns = 0; fails = false; act = Add 0 }

-- the site that is read past the end of the list
abbrev pub no_draft_site : SeenDraftSite
no_draft_site = record { name = []; jobs = []; plain = 0; resigns = false }

-- the edge that is read past the end of the list; no clause depends on it
abbrev pub no_draft_edge : DraftEdge
no_draft_edge = record { a = 0; b = 0; value = 0 }

-- of a site with n jobs, the number of those that may be changed: each, or the first 1,001
abbrev pub kept_count : ℕ → ℕ
kept_count n = min n (MAX_TEXT_JOBS + 1)

-- jobs 1 to n, or 1 to 1,001 if n is greater
abbrev pub plain_jobs : ℕ → List DraftJob
plain_jobs n = map plain_job (range_with_len 1 (kept_count n))

-- the draft with one more site, which has n jobs
abbrev pub with_site : List ℕ → ℕ → Draft → Draft
with_site name n d = record d { sites = d.sites ++ record { name = name; jobs = plain_jobs n; plain = n - kept_count n; resigns = false } ∷ [] }

-- the draft with one more edge, between sites a and b
abbrev pub with_edge : ℕ → ℕ → Draft → Draft
with_edge a b d = record d { edges = d.edges ++ record { a = a; b = b; value = 0 } ∷ [] }

-- the draft has an edge of this number
abbrev pub has_edge : ℕ → Draft → Bool
has_edge e d = nat_lt e (length d.edges)

-- the draft has a site of this number
abbrev pub has_site : ℕ → Draft → Bool
has_site s d = nat_lt s (length d.sites)

-- a site by its number
abbrev pub site_at : ℕ → Draft → SeenDraftSite
site_at s d = slice_index_or d.sites s no_draft_site

-- an edge by its number
abbrev pub edge_at : ℕ → Draft → DraftEdge
edge_at e d = slice_index_or d.edges e no_draft_edge

-- the draft has the site, and the site has job k, from 1, and no 1,001 jobs before it
abbrev pub has_job : ℕ → ℕ → Draft → Bool
has_job s k d = nat_le 1 k && nat_le k (length (site_at s d).jobs)

-- job k of a site, from 1
abbrev pub job_at : ℕ → ℕ → Draft → DraftJob
job_at s k d = slice_index_or (site_at s d).jobs (k - 1) (plain_job k)

-- the draft with another value at an edge; the same if it has no such edge
abbrev pub with_value : ℕ → ℕ → Draft → Draft
with_value e value d = record d { edges = slice_set d.edges e (record (slice_index_or d.edges e no_draft_edge) { value = value }) }

-- the draft in which a site drops the jobs that it has left after one failed; the same if it has no such site
abbrev pub with_resigning : ℕ → Draft → Draft
with_resigning s d = record d { sites = slice_set d.sites s (record (site_at s d) { resigns = true }) }

-- the draft with one more site, which has as many jobs as an epoch of an open run, and drops those left after one
-- failed
abbrev pub with_open_site : List ℕ → Draft → Draft
with_open_site name d = with_resigning (length d.sites) (with_site name EPOCH_JOBS d)

-- the draft with another job in the place of job k of a site, which it has
abbrev pub with_job : ℕ → ℕ → DraftJob → Draft → Draft
with_job s k job d = record d { sites = slice_set d.sites s (record (site_at s d) { jobs = slice_set (site_at s d).jobs (k - 1) job }) }

-- the draft in which job k of a site takes this number of turns; the same if it has no such job
abbrev pub with_turns : ℕ → ℕ → ℕ → Draft → Draft
with_turns s k turns d = if has_job s k d then with_job s k (record (job_at s k d) { turns = turns }) d else d

-- the draft in which job k of a site fails; the same if it has no such job
abbrev pub with_failure : ℕ → ℕ → Draft → Draft
with_failure s k d = if has_job s k d then with_job s k (record (job_at s k d) { fails = true }) d else d

-- the draft in which the meal of job k of a site does this to values; the same if it has no such job
abbrev pub with_act : ℕ → ℕ → Act → Draft → Draft
with_act s k act d = if has_job s k d then with_job s k (record (job_at s k d) { act = act }) d else d
