-- What a plan is: sites with their jobs, and edges between two sites, each list in the order of the plan text.
use Rattle.std.specs.Prelude.{◌≡◌, ◌≢◌, ℕ, ◌-◌, ◌<◌, ◌≤◌, Bool, false, ◌&&◌, ◌||◌, ◌==◌, nat_le, IsTrue, List, [], length, map, filter, slice_index_or, if◌then◌else◌}
use Rattle.std.specs.Char.{is_ascii_alphanumeric}
use Rattle.std.specs.List.{range_with_len, list_all}
use Rattle.dine_token.specs.declared.act.Act.{Act}
use Rattle.dine_token.specs.declared.act.Act.TheVariants.{Add}
use Rattle.dine_token.specs.declared.limits.TheConstants.{MAX_JOBS, MAX_NUMBER}
use Rattle.dine_token.specs.Values.{IsAct}
use Rattle.dine_graph.specs.declared.limits.TheConstants.{MAX_EDGES, MAX_NAME, MAX_SITES, MAX_TURNS}

-- a job: its name, its turns, whether it fails, and what its meal does to the value of each edge; `IsPlan` has the
-- limits
pub record SeenJob : Type 0 where
  pub name : List ℕ
  pub turns : ℕ
  pub fails : Bool
  pub act : Act

-- a site: its name, its jobs, and whether it drops those that it has left after one failed; `IsPlan` has the limits
pub record SeenSite : Type 0 where
  pub name : List ℕ
  pub jobs : List SeenJob
  pub resigns : Bool

-- a plan: the version of its format, its sites, and its edges, each with its lower and its higher end and a value,
-- numbered from 0; `IsPlan` has the limits
pub record SeenPlan : Type 0 where
  pub version : ℕ
  pub sites : List SeenSite
  pub edges : List (ℕ × ℕ)
  pub values : List ℕ

-- the job that is read past the end of a list; no clause depends on it
abbrev pub no_job : SeenJob
no_job = record { name = []; turns = 0; fails = false; act = Add 0 }

-- the site that is read past the end of a list; no clause depends on it
abbrev pub no_site : SeenSite
no_site = record { name = []; jobs = []; resigns = false }

-- the number of sites
abbrev pub site_count : SeenPlan → ℕ
site_count p = length p.sites

-- the number of edges
abbrev pub edge_count : SeenPlan → ℕ
edge_count p = length p.edges

-- the name of a site
abbrev pub name_of : SeenPlan → ℕ → List ℕ
name_of p s = (slice_index_or p.sites s no_site).name

-- the jobs of a site
abbrev pub jobs_of : SeenPlan → ℕ → List SeenJob
jobs_of p s = (slice_index_or p.sites s no_site).jobs

-- the number of jobs of a site
abbrev pub job_count : SeenPlan → ℕ → ℕ
job_count p s = length (jobs_of p s)

-- job k of a site, k from 1
abbrev pub job_of : SeenPlan → ℕ → ℕ → SeenJob
job_of p s k = slice_index_or (jobs_of p s) (k - 1) no_job

-- what meal k of a site does to the value of each edge, k from 1
abbrev pub act_of : SeenPlan → ℕ → ℕ → Act
act_of p s k = (job_of p s k).act

-- the acts of a site's meals, in order
abbrev pub acts_of : SeenPlan → ℕ → List Act
acts_of p s = map (λ (job : SeenJob). job.act) (jobs_of p s)

-- whether a site drops the jobs that it has left after one failed
abbrev pub resigns : SeenPlan → ℕ → Bool
resigns p s = (slice_index_or p.sites s no_site).resigns

-- the value of an edge before the first meal
abbrev pub value_of : SeenPlan → ℕ → ℕ
value_of p e = slice_index_or p.values e 0

-- the two ends of an edge, the lower first
abbrev pub ends_of : SeenPlan → ℕ → ℕ × ℕ
ends_of p e = slice_index_or p.edges e (0, 0)

-- the lower end of an edge
abbrev pub lo_of : SeenPlan → ℕ → ℕ
lo_of p e = (ends_of p e).0

-- the higher end of an edge
abbrev pub hi_of : SeenPlan → ℕ → ℕ
hi_of p e = (ends_of p e).1

-- the site is one of the two ends
abbrev pub is_one_of : ℕ × ℕ → ℕ → Bool
is_one_of ends s = (ends.0 == s) || (ends.1 == s)

-- the two ends are these two sites, in either order
abbrev pub is_between : ℕ × ℕ → ℕ → ℕ → Bool
is_between ends a b = ((ends.0 == a) && (ends.1 == b)) || ((ends.0 == b) && (ends.1 == a))

-- the positions of the pairs that have the site as an end, ascending
abbrev pub positions_at : List (ℕ × ℕ) → ℕ → List ℕ
positions_at edges s = filter (λ e. is_one_of (slice_index_or edges e (0, 0)) s) (range_with_len 0 (length edges))

-- the site is an end of the edge
abbrev pub is_end : SeenPlan → ℕ → ℕ → Bool
is_end p s e = is_one_of (ends_of p e) s

-- the edges of a site, ascending; a place is a position in this list
abbrev pub edges_of : SeenPlan → ℕ → List ℕ
edges_of p s = positions_at p.edges s

-- the end of an edge that is not this site
abbrev pub other_of : SeenPlan → ℕ → ℕ → ℕ
other_of p e s = if lo_of p e == s then hi_of p e else lo_of p e

-- an ASCII letter, an ASCII digit, '_' or '-'
abbrev pub is_name_byte : ℕ → Bool
is_name_byte b = is_ascii_alphanumeric b || (b == 95) || (b == 45)

-- a name has 1 to 32 bytes, each one of those
abbrev pub is_name : List ℕ → Bool
is_name bytes = nat_le 1 (length bytes) && nat_le (length bytes) MAX_NAME && list_all is_name_byte bytes

-- What is true of every plan: its limits, a name of its own for each site, and edges between two sites, no two of them
-- the same.
pub record IsPlan (p : SeenPlan) : Type 0 where
  pub first_version : 1 ≤ p.version
  pub last_version : p.version ≤ 2
  pub has_site : 1 ≤ site_count p
  pub few_sites : site_count p ≤ MAX_SITES
  pub few_edges : edge_count p ≤ MAX_EDGES
  pub few_jobs : (s : ℕ) → s < site_count p → job_count p s ≤ MAX_JOBS
  pub few_turns : (s k : ℕ) → s < site_count p → 1 ≤ k → k ≤ job_count p s → (job_of p s k).turns ≤ MAX_TURNS
  pub small_acts : (s k : ℕ) → s < site_count p → 1 ≤ k → k ≤ job_count p s → IsAct (job_of p s k).act
  pub named : (s : ℕ) → s < site_count p → IsTrue (is_name (name_of p s))
  pub jobs_named : (s k : ℕ) → s < site_count p → 1 ≤ k → k ≤ job_count p s → IsTrue (is_name (job_of p s k).name)
  pub names_differ : (s t : ℕ) → s < t → t < site_count p → name_of p s ≢ name_of p t
  pub ordered : (e : ℕ) → e < edge_count p → lo_of p e < hi_of p e
  pub within : (e : ℕ) → e < edge_count p → hi_of p e < site_count p
  pub edges_differ : (e f : ℕ) → e < f → f < edge_count p → ends_of p e ≢ ends_of p f
  pub valued : length p.values ≡ edge_count p
  pub small_values : (e : ℕ) → e < edge_count p → value_of p e ≤ MAX_NUMBER
