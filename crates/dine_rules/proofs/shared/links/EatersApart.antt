-- In a world that events reach from the start, a site that eats holds all its forks, and no neighbour of it eats.
use Rattle.std.proofs.Common.{◌≡◌, ℕ, ◌<◌, true, false, List, length, arith}
use Rattle.dine_graph.specs.Plan.{SeenPlan, IsPlan, site_count, edges_of}
use Rattle.dine_rules.specs.declared.events.Event.{Event}
use Rattle.dine_rules.specs.Local.{is_eating, neighbour_at}
use Rattle.dine_rules.specs.Holdings.{EatsWithAll, fork_at}
use Rattle.dine_rules.specs.World.{WorldState, state_of, Reaches}
use Rattle.dine_rules.proofs.shared.links.Across.{across}
use Rattle.dine_rules.proofs.shared.links.WorldStreams.{reached_kept}
use Rattle.dine_rules.proofs.links.EachSite.{reached_holds}
use Rattle.dine_rules.proofs.shared.links.Links.{other, other_place, joined}
use Rattle.dine_rules.proofs.shared.links.Eaters.{start_eats_with_all, step_eats_with_all, not_both}

-- each site that eats holds every fork
pub eats_with_all : (plan : SeenPlan) (events : List Event) (world : WorldState) → IsPlan plan → Reaches plan events world → (s : ℕ) → s < site_count plan → EatsWithAll plan s (state_of world s)
eats_with_all plan events world is_plan reached = reached_holds plan is_plan (EatsWithAll plan) (λ s is_site. start_eats_with_all plan s)
    (λ s state step is_site keeps eats in_order needs. step_eats_with_all plan s state step eats needs) events world reached

module _ (plan : SeenPlan) (events : List Event) (world : WorldState) (s i : ℕ) (is_plan : IsPlan plan) (reached : Reaches plan events world) (is_site : s < site_count plan) (within : i < length (edges_of plan s)) where
  -- the same at a place
  pub eater_holds : is_eating (state_of world s).phase ≡ true → fork_at plan s (state_of world s) i ≡ 1
  eater_holds eating = eats_with_all plan events world is_plan reached s is_site eating i (omega (arith, ((reached_kept plan events world is_plan reached).keeps s is_site).every_place))

  -- the neighbour there does not eat
  pub eater_alone : is_eating (state_of world s).phase ≡ true → is_eating (state_of world (neighbour_at plan s i)).phase ≡ false
  eater_alone eating =
      let kept = reached_kept plan events world is_plan reached in
      not_both plan s i (other plan is_plan world kept s i is_site within) (other_place plan is_plan world kept s i is_site within) _ _ _ _ (joined plan is_plan world kept s i is_site within)
      (eats_with_all plan events world is_plan reached s is_site) (eats_with_all plan events world is_plan reached (neighbour_at plan s i) (across plan s i is_plan within).is_site) eating
