-- The fork in hand at a place: it is at the site, with all meals of the site.
use Rattle.std.proofs.Common.{◌≡◌, ℕ, ◌<◌, [], length}
use Rattle.dine_token.specs.Log.{location_of, meals_of}
use Rattle.dine_graph.specs.Plan.{SeenPlan, IsPlan, lo_of}
use Rattle.dine_rules.specs.Letters.{last_log_or}
use Rattle.dine_rules.specs.Local.{LocalState, traffic_at, edge_at}
use Rattle.dine_rules.specs.Holdings.{fork_at, hand_at}
use Rattle.dine_rules.specs.Streams.{KeepsStreams}
use Rattle.dine_rules.proofs.shared.one_place.Hands.{meals_of-hand}
use Rattle.dine_rules.proofs.shared.one_site.SiteSteps.{keeps_at}

module _ (plan : SeenPlan) (s : ℕ) (state : LocalState) (is_plan : IsPlan plan) (keeps : KeepsStreams plan s state) (i : ℕ) (within : i < length state.traffic) where
  -- the fork in hand is at the site
  pub hand-here : fork_at plan s state i ≡ 1 → location_of (lo_of plan (edge_at plan s i)) (hand_at s state i) ≡ s
  hand-here one_fork = (keeps_at plan s state is_plan keeps i within).balanced.held.hand_here one_fork

  -- it has all meals of the site
  pub hand-meals : meals_of s (hand_at s state i) ≡ state.ate
  hand-meals = meals_of-hand s state.ate (last_log_or [] (traffic_at state i).taken) (keeps.places i within).last_within
