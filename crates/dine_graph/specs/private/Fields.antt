-- The plan that the fields of a Plan describe, and what the fields obey.
use Rattle.std.specs.Prelude.{◌≡◌, ℕ, ◌<◌, map, length, Some, slice_get, slice_index_or, Vec}
use Rattle.std.specs.declared.alloc.Global.{Global}
use Rattle.dine_graph.specs.Plan.{SeenPlan, IsPlan, site_count, edge_count, lo_of, hi_of, edges_of}
use Rattle.dine_graph.specs.Site.{seen_site}
use Rattle.dine_graph.specs.declared.plans.Plan.TheInside.{Inside}

-- the plan that the fields of a `Plan` describe
abbrev pub seen_plan : Inside → SeenPlan
seen_plan a = record { version = a.version; sites = map seen_site a.sites.items; edges = a.ends.items; values = a.values.items }

-- the places of an edge in the lists of its lower and of its higher end
abbrev pub places_at : Inside → ℕ → ℕ × ℕ
places_at a e = slice_index_or a.places.items e (0, 0)

-- The value is a plan, and the other fields have the ascending list of edges of each site and the places of each edge.
pub record IsSound (a : Inside) : Type 0 where
  pub plan : IsPlan (seen_plan a)
  pub lists : length a.edges_of.items ≡ site_count (seen_plan a)
  pub list_at : (s : ℕ) (v : Vec ℕ Global) → s < site_count (seen_plan a) → (slice_index_or a.edges_of.items s v).items ≡ edges_of (seen_plan a) s
  pub places : length a.places.items ≡ edge_count (seen_plan a)
  pub place_at_lo : (e : ℕ) → e < edge_count (seen_plan a) → slice_get (edges_of (seen_plan a) (lo_of (seen_plan a) e)) (places_at a e).0 ≡ Some e
  pub place_at_hi : (e : ℕ) → e < edge_count (seen_plan a) → slice_get (edges_of (seen_plan a) (hi_of (seen_plan a) e)) (places_at a e).1 ≡ Some e
