-- The enabled events of a site and of the world, by how many are passed over.
use Rattle.std.proofs.Common.{◌≡◌, ℕ, ◌<◌, ◌≤◌, length, get_or, ◌∙◌, ap, arith}
use Rattle.std.specs.List.{filter, range_with_len}
use Rattle.std.proofs.lemmas.List.Elements.{filter_agree}
use Rattle.std.proofs.lemmas.List.FromFn.{length-range_with_len}
use Rattle.dine_graph.specs.declared.limits.TheConstants.{MAX_EDGES}
use Rattle.dine_graph.specs.Plan.{SeenPlan, edge_count, edges_of, is_end, site_count}
use Rattle.dine_world.specs.declared.world.sites.WorldSite.{WorldSite}
use Rattle.dine_rules.specs.World.{WorldState, events_at, is_enabled}
use Rattle.dine_world.specs.Worlds.{IsWorldOf, SeenWorld, can_happen}
use Rattle.dine_rules.proofs.shared.counting.KindNumbers.{choices}
use Rattle.dine_world.proofs.all_sites.CanHappen.{can_happen_is}
use Rattle.dine_site.proofs.shared.one_site.Opened.{filter_few}
use Rattle.dine_rules.proofs.shared.links.WorldStreams.{WorldKeeps, reached_kept}

module _ (plan : SeenPlan) (world : WorldState) (seen : SeenWorld) (is : IsWorldOf plan world seen) where
  -- a site has as many places as edges
  pub degree_is : (s : ℕ) (past : WorldSite) → s < length seen.sites → length (get_or seen.sites s past).core.places ≡ length (edges_of plan s)
  degree_is s past h =
      let is_site : s < site_count plan = omega (arith, is.sites.count) in
      let kept : WorldKeeps plan world = reached_kept plan is.reached.events world is.reached.is_plan is.reached.reaches in
      (is.sites.stands s past is_site).core.degree ∙ (kept.keeps s is_site).every_place

  -- which are few
  pub edges_few : (s : ℕ) → length (edges_of plan s) ≤ MAX_EDGES
  edges_few s = omega (arith, filter_few (is_end plan s) (range_with_len 0 (edge_count plan)), length-range_with_len 0 (edge_count plan), is.reached.is_plan.few_edges)

-- what can happen at a site, by its places, is what is enabled there
pub enabled_at : (plan : SeenPlan) (world : WorldState) (seen : SeenWorld) → IsWorldOf plan world seen → (s d : ℕ) → d ≡ length (edges_of plan s)
    → filter (can_happen seen) (choices s d) ≡ filter (is_enabled plan world) (events_at plan s)
enabled_at plan world seen is s d degree = filter_agree (can_happen seen) (is_enabled plan world) (can_happen_is plan world seen is) (choices s d)
    ∙ ap (λ (n : ℕ). filter (is_enabled plan world) (choices s n)) degree
