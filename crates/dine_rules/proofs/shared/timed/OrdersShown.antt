-- The order of timed journals, if the jobs of the plan fail as the journals show.
use Rattle.std.proofs.Common.{◌≡◌, ◌==◌, ◌||◌, ℕ, ◌<◌, Bool, false, List, sym, ◌∙◌, ap, arith}
use Rattle.dine_graph.specs.Plan.{SeenPlan, IsPlan, site_count}
use Rattle.dine_rules.specs.declared.events.Event.{Event}
use Rattle.dine_rules.specs.declared.events.EventKind.{EventKind}
use Rattle.dine_rules.specs.EatingApart.{NeighboursEatApart}
use Rattle.dine_rules.specs.Journals.{AreStatesAfter, IsWholeOrder}
use Rattle.dine_rules.specs.Outcomes.{with_outcomes}
use Rattle.dine_rules.specs.Shown.{plan_shown, shown_by}
use Rattle.dine_rules.specs.Timed.{AreTimed}
use Rattle.dine_rules.specs.World.{WorldState, IsComplete, state_of}
use Rattle.dine_rules.proofs.journals.EatingApart.{eat_apart}
use Rattle.dine_rules.proofs.shared.journals.OtherOutcomes.{jobs-same, plan-stays, sites-same, states-stay}
use Rattle.dine_rules.proofs.shared.journals.Shown.{fail_as_shown, sites_shown}
use Rattle.dine_rules.proofs.timed.Orders.{have_order}

complete_there : (plan : SeenPlan) (fails : List (List Bool)) (states : WorldState) → IsComplete plan states → IsComplete (with_outcomes plan fails) states
complete_there plan fails states is = record {
  all_think = λ s h. is.all_think s (omega (arith, h, sites-same plan fails));
  all_ate = λ s h. ap (λ (n : ℕ). (state_of states s).ate == n || (state_of states s).has_quit) (jobs-same plan fails s) ∙ is.all_ate s (omega (arith, h, sites-same plan fails));
  all_closed = λ s i h within. is.all_closed s i (omega (arith, h, sites-same plan fails)) within;
  all_taken = λ s i h within. is.all_taken s i (omega (arith, h, sites-same plan fails)) within;
}

pub order_shown : (plan : SeenPlan) (journals : List (List EventKind)) (states : WorldState) → IsPlan plan → AreStatesAfter plan journals states → ((s : ℕ) → s < site_count plan → (state_of states s).must_quit ≡ false)
    → IsComplete plan states → AreTimed plan journals → (events : List Event) × IsWholeOrder (plan_shown plan journals) journals events
order_shown plan journals states is_plan done none_must complete times =
    have_order (plan_shown plan journals) (plan-stays plan (shown_by plan journals) is_plan) journals states (states-stay plan (shown_by plan journals) journals states done)
    (record { timed = times.timed; sites = times.sites ∙ sym (sites_shown plan journals); shown = times.shown; rise = times.rise; later = λ s i n put taken is_site. times.later s i n put taken (omega (arith, is_site, sites_shown plan journals)) })
    (fail_as_shown plan journals states none_must) (complete_there plan (shown_by plan journals) states complete)

-- at no point of such an order two neighbours are in a meal
pub apart_shown : (plan : SeenPlan) (journals : List (List EventKind)) (events : List Event) → IsPlan plan → IsWholeOrder (plan_shown plan journals) journals events → NeighboursEatApart plan events
apart_shown plan journals events is_plan order before rest s i split is_site =
    eat_apart (plan_shown plan journals) (plan-stays plan (shown_by plan journals) is_plan) events order.world order.accepted before rest s i split (omega (arith, is_site, sites_shown plan journals))
