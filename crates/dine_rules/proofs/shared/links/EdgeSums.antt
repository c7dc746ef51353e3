-- All forks and all tokens of an edge in the world: one each.
use Rattle.std.proofs.Common.{◌≡◌, ℕ, ◌+◌, ◌<◌, length, refl, sym, ◌∙◌, ap, ap₂, arith, true, ◌==◌}
use Rattle.std.proofs.lemmas.Bool.{eq-eqb, cond-true, or_left}
use Rattle.dine_graph.specs.Plan.{SeenPlan, IsPlan, site_count, edge_count, edges_of, lo_of, hi_of, other_of}
use Rattle.dine_rules.specs.Letters.{forks_in, requests_in}
use Rattle.dine_rules.specs.Local.{edge_at, neighbour_at}
use Rattle.dine_rules.specs.Holdings.{fork_at, token_at}
use Rattle.dine_rules.specs.World.{WorldState, state_of, place_of}
use Rattle.dine_rules.specs.Links.{queue_to, forks_near, tokens_near, forks_of_edge, tokens_of_edge}
use Rattle.dine_rules.proofs.shared.links.Across.{edge_at-place_of}
use Rattle.dine_rules.proofs.shared.links.WorldStreams.{WorldKeeps}
use Rattle.dine_rules.proofs.shared.links.Joined.{one_fork, one_token}
use Rattle.dine_rules.proofs.shared.links.Links.{other, other_place, joined}

-- the place of an edge at its lower end, and the higher end seen from there
pub record IsFromLower (plan : SeenPlan) (edge : ℕ) : Type 0 where
  pub is_site : lo_of plan edge < site_count plan
  pub within : place_of plan (lo_of plan edge) edge < length (edges_of plan (lo_of plan edge))
  pub edge_is : edge_at plan (lo_of plan edge) (place_of plan (lo_of plan edge) edge) ≡ edge
  pub other_is : neighbour_at plan (lo_of plan edge) (place_of plan (lo_of plan edge) edge) ≡ hi_of plan edge

-- each edge has such a place at its lower end
pub from_lower : (plan : SeenPlan) (edge : ℕ) → IsPlan plan → edge < edge_count plan → IsFromLower plan edge
from_lower plan edge is_plan within =
    let lower : (lo_of plan edge == lo_of plan edge) ≡ true = eq-eqb (lo_of plan edge) (lo_of plan edge) refl in
    let place = edge_at-place_of plan (lo_of plan edge) edge within (or_left (lo_of plan edge == lo_of plan edge) (hi_of plan edge == lo_of plan edge) lower) in
    record {
      is_site = omega (arith, is_plan.ordered edge within, is_plan.within edge within);
      within = place.0;
      edge_is = place.1;
      other_is = ap (λ (e : ℕ). other_of plan e (lo_of plan edge)) place.1 ∙ cond-true (lo_of plan edge == lo_of plan edge) (hi_of plan edge) (lo_of plan edge) lower;
    }

module _ (plan : SeenPlan) (is_plan : IsPlan plan) (world : WorldState) (kept : WorldKeeps plan world) where
  -- at a place: the forks here and there, with those in both links
  pub fork_of_place : (s i : ℕ) → s < site_count plan → i < length (edges_of plan s)
      → fork_at plan s (state_of world s) i + forks_in (queue_to plan world s i) + forks_near plan world (neighbour_at plan s i) (edge_at plan s i) ≡ 1
  fork_of_place s i is_site within = one_fork plan s i (other plan is_plan world kept s i is_site within) (other_place plan is_plan world kept s i is_site within) _ _ _ _ (joined plan is_plan world kept s i is_site within)

  -- the same of tokens
  pub token_of_place : (s i : ℕ) → s < site_count plan → i < length (edges_of plan s)
      → token_at plan s (state_of world s) i + requests_in (queue_to plan world s i) + tokens_near plan world (neighbour_at plan s i) (edge_at plan s i) ≡ 1
  token_of_place s i is_site within = one_token plan s i (other plan is_plan world kept s i is_site within) (other_place plan is_plan world kept s i is_site within) _ _ _ _ (joined plan is_plan world kept s i is_site within)

  -- of an edge there is one fork
  pub one_fork_of_edge : (edge : ℕ) → edge < edge_count plan → forks_of_edge plan world edge ≡ 1
  one_fork_of_edge edge within =
      let lower = from_lower plan edge is_plan within in
      let higher = ap₂ (forks_near plan world) lower.other_is lower.edge_is in
      ap (λ (n : ℕ). forks_near plan world (lo_of plan edge) edge + n) (sym higher) ∙ fork_of_place (lo_of plan edge) (place_of plan (lo_of plan edge) edge) lower.is_site lower.within

  -- and one token
  pub one_token_of_edge : (edge : ℕ) → edge < edge_count plan → tokens_of_edge plan world edge ≡ 1
  one_token_of_edge edge within =
      let lower = from_lower plan edge is_plan within in
      let higher = ap₂ (tokens_near plan world) lower.other_is lower.edge_is in
      ap (λ (n : ℕ). tokens_near plan world (lo_of plan edge) edge + n) (sym higher) ∙ token_of_place (lo_of plan edge) (place_of plan (lo_of plan edge) edge) lower.is_site lower.within
