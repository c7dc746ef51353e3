-- The tables of what was eaten: a row for each edge, and a row for each site.
use Rattle.std.specs.Prelude.{◌≡◌, ℕ, true, List, map, length, slice_get, slice_index_or, Some}
use Rattle.std.specs.List.{range_with_len}
use Rattle.dine_token.specs.declared.log_entry.Entry.{Entry}
use Rattle.dine_token.specs.Fork.{SeenFork, no_fork}
use Rattle.dine_token.specs.Log.{meals_of}
use Rattle.dine_graph.specs.Plan.{SeenPlan, site_count, edge_count, job_count, lo_of, hi_of}
use Rattle.dine_rules.specs.JoinedEnds.{IsWholeLog}
use Rattle.dine_rules.specs.Values.{value_by_amounts, has_no_set, value_by}
use Rattle.dine_threads.specs.declared.gathered.SiteOut.{SiteOut}
use Rattle.dine_threads.specs.declared.tables.EdgeRow.{EdgeRow}
use Rattle.dine_threads.specs.declared.tables.SiteRow.{SiteRow}

-- What is gathered is of that plan: there is one fork for each edge, in order, with the plan's ends and due meals, and
-- what each site left, in order.
pub record IsGatheredOf {D : Type 0} (plan : SeenPlan) (forks : List SeenFork) (outs : List (SiteOut D)) : Type 0 where
  pub one_fork_an_edge : map (λ (fork : SeenFork). fork.edge) forks ≡ range_with_len 0 (edge_count plan)
  pub ends : (edge : ℕ) (fork : SeenFork) → slice_get forks edge ≡ Some fork → fork.ends ≡ (lo_of plan edge, hi_of plan edge)
  pub due : (edge : ℕ) (fork : SeenFork) → slice_get forks edge ≡ Some fork → fork.due ≡ (job_count plan (lo_of plan edge), job_count plan (hi_of plan edge))
  pub count : length outs ≡ site_count plan
  pub site : (s : ℕ) (out : SiteOut D) → slice_get outs s ≡ Some out → out.site ≡ s

-- the row of an edge, by how many meals each of its ends has, and by its value
abbrev pub edge_row : SeenPlan → (ℕ → ℕ) → ℕ → ℕ → EdgeRow
edge_row plan meals value edge = record {
  edge = edge;
  lo = lo_of plan edge;
  hi = hi_of plan edge;
  lo_meals = meals (lo_of plan edge);
  hi_meals = meals (hi_of plan edge);
  value = value;
}

-- the row of an edge, with the meals of its ends that the log of its fork has, and with the fork's value
abbrev pub logged_row : SeenPlan → List SeenFork → ℕ → EdgeRow
logged_row plan forks edge = edge_row plan (λ end. meals_of end (slice_index_or forks edge no_fork).log) (slice_index_or forks edge no_fork).value edge

-- a row for each edge, by its fork
abbrev pub edge_rows : SeenPlan → List SeenFork → List EdgeRow
edge_rows plan forks = map (logged_row plan forks) (range_with_len 0 (edge_count plan))

-- a row for each edge, by how many meals each site ate, and with a value from a list by edge
abbrev pub due_edge_rows : SeenPlan → (ℕ → ℕ) → List ℕ → List EdgeRow
due_edge_rows plan meals values = map (λ edge. edge_row plan meals (slice_index_or values edge 0) edge) (range_with_len 0 (edge_count plan))

-- the value of an edge after this number of meals of each site: the one that some whole log gives; and if no job sets a
-- value, the sum of what the jobs of these meals add
pub record IsDueValue (plan : SeenPlan) (meals : ℕ → ℕ) (edge value : ℕ) : Type 0 where
  pub log : List Entry
  pub whole : IsWholeLog plan edge (meals (lo_of plan edge)) (meals (hi_of plan edge)) log
  pub by_log : value ≡ value_by plan edge log
  pub added : has_no_set plan ≡ true → value ≡ value_by_amounts plan edge (meals (lo_of plan edge)) (meals (hi_of plan edge))

-- a value for each edge after these meals, in order
pub record AreDueValues (plan : SeenPlan) (meals : ℕ → ℕ) (values : List ℕ) : Type 0 where
  pub count : length values ≡ edge_count plan
  pub each : (edge value : ℕ) → slice_get values edge ≡ Some value → IsDueValue plan meals edge value

-- the row of a site: its number, its meals, and how many of their jobs failed
abbrev pub site_row : {D : Type 0} → SiteOut D → SiteRow
site_row out = record { site = out.site; meals = out.ate; failed = out.failed }

-- a row for each site, in order
abbrev pub site_rows : {D : Type 0} → List (SiteOut D) → List SiteRow
site_rows outs = map site_row outs

-- a row for each site, by how many meals each ate, and with how many of their jobs failed from a list by site
abbrev pub due_site_rows : SeenPlan → (ℕ → ℕ) → List ℕ → List SiteRow
due_site_rows plan meals failed = map (λ s. record { site = s; meals = meals s; failed = slice_index_or failed s 0 }) (range_with_len 0 (site_count plan))
