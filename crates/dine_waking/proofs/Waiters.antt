-- A site that waits: each polite neighbour begins one meal at most before it.
use Rattle.std.proofs.Common.{◌≡◌, ◌⊎◌, ℕ, ◌+◌, ◌<◌, ◌≤◌, Bool, true, length, sym, subst, inl, inr, arith}
use Rattle.dine_graph.specs.Plan.{SeenPlan, IsPlan, edges_of}
use Rattle.dine_rules.specs.Local.{neighbour_at}
use Rattle.dine_rules.proofs.shared.links.Across.{across}
use Rattle.dine_waking.specs.Manners.{HasRungForAll, HoldsCleanFork, IsAsked, LeadsInManner, WaitsForFork, meals_so_far}
use Rattle.dine_waking.specs.Runs.{Run, number_there}
use Rattle.dine_waking.proofs.Bells.{RunKeeps}
use Rattle.dine_waking.proofs.Overtaking.{asked_waits, clean_eats_first, overtakes_once}
use Rattle.dine_waking.proofs.Polite.{manner_leads}
use Rattle.dine_waking.proofs.Waking.{leads_back}

module _ (plan : SeenPlan) (is_plan : IsPlan plan) (t j : ℕ) (within : j < length (edges_of plan t)) where
  abbrev pub end : ℕ
  end = neighbour_at plan t j

  abbrev pub number : ℕ
  number = number_there plan t j

  -- seen from the neighbour, the site is at the other end
  pub back : neighbour_at plan end number ≡ t
  back = (across plan t j is_plan within).back

  place : number_there plan end number ≡ j
  place = leads_back plan is_plan t j within

  -- what holds of the site and its place holds of them seen from there, and the other way round
  pub seen_there : (P : ℕ → ℕ → Type 0) → P t j → P (neighbour_at plan end number) (number_there plan end number)
  seen_there P here = subst (λ (x : ℕ). P x (number_there plan end number)) (sym back) (subst (P t) (sym place) here)

  seen_here : (P : ℕ → ℕ → Type 0) → P (neighbour_at plan end number) (number_there plan end number) → P t j
  seen_here P there = subst (P t) place (subst (λ (x : ℕ). P x (number_there plan end number)) back there)

  -- a site whose Request is in the link, and that has rung, waits
  pub asker_waits : (run : Run) → RunKeeps plan run → IsAsked plan run end number → HasRungForAll plan run end number → WaitsForFork plan run t j
  asker_waits run keeps asked rung =
      let none = asked_waits plan is_plan end number (across plan t j is_plan within).is_site (across plan t j is_plan within).within run keeps asked in
      seen_here (WaitsForFork plan run) (none.0, none.1, rung)

  module _ (is_polite : ℕ → Bool) (polite : is_polite end ≡ true) (checked checked_then : ℕ → Bool) (m : ℕ) (old new : Run) (keeps : RunKeeps plan old) (leads : LeadsInManner plan is_polite m checked old checked_then new) (ate : meals_so_far new t ≡ meals_so_far old t) where
    ate_there : meals_so_far new (neighbour_at plan end number) ≡ meals_so_far old (neighbour_at plan end number)
    ate_there = subst (λ (x : ℕ). meals_so_far new x ≡ meals_so_far old x) (sym back) ate

    pub waits_for_one : HoldsCleanFork plan old t j ⊎ WaitsForFork plan old t j → meals_so_far new end ≤ meals_so_far old end + 1
    waits_for_one (inl clean) =
        let there : HoldsCleanFork plan old (neighbour_at plan end number) (number_there plan end number) = seen_there (HoldsCleanFork plan old) clean in
        omega (arith, clean_eats_first plan is_plan end number (across plan t j is_plan within).is_site (across plan t j is_plan within).within m old new keeps there (manner_leads plan is_polite checked checked_then m old new leads) ate_there)
    waits_for_one (inr waits) =
        let there : WaitsForFork plan old (neighbour_at plan end number) (number_there plan end number) = seen_there (WaitsForFork plan old) waits in
        overtakes_once plan is_plan end number (across plan t j is_plan within).is_site (across plan t j is_plan within).within is_polite polite checked old keeps there m checked_then new leads ate_there
