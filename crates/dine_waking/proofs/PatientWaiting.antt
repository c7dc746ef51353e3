-- A site that waits for the fork of a patient neighbour, and has rung: until it begins its next meal, the neighbour
-- begins as many meals as its patience, at most.
use Rattle.std.proofs.Common.{◌≡◌, ◌⊎◌, ℕ, zero, suc, ◌+◌, ◌<◌, ◌≤◌, Bool, false, length, refl, sym, ◌∙◌, ap, subst, inl, inr, arith}
use Rattle.dine_graph.specs.Plan.{SeenPlan, IsPlan, site_count, edges_of}
use Rattle.dine_rules.specs.Local.{neighbour_at, traffic_at}
use Rattle.dine_rules.proofs.shared.links.Across.{across}
use Rattle.dine_waking.specs.Manners.{HasRungForAll, HoldsCleanFork, HoldsDirtyFork, IsAsked, WaitsForFork, checked_after, forks_given, meals_so_far}
use Rattle.dine_waking.specs.Patience.{LeadsPatiently, PatientStep, skips_after}
use Rattle.dine_waking.specs.Runs.{LeadsBySteps, Run, ThreadStep, number_there}
use Rattle.dine_waking.proofs.Bells.{RunKeeps}
use Rattle.dine_waking.proofs.Overtaking.{IsUnused, clean_eats_first, far, gone_for_long, none_behind, same_or_more, state, where_request}
use Rattle.dine_waking.proofs.Patient.{patient_leads, patient_meals, unchecked_meals}
use Rattle.dine_waking.proofs.Polite.{HasTaken, none_begins, one_begins}
use Rattle.dine_waking.proofs.SiteMoves.{longer_forks, step_put, steps_put}
use Rattle.dine_waking.proofs.Waiters.{back, end, number, seen_there}

module _ (plan : SeenPlan) (is_plan : IsPlan plan) (s i : ℕ) (is_site : s < site_count plan) (within : i < length (edges_of plan s)) (patience : ℕ → ℕ) where
  -- ---- the first step that gives the fork

  pub record FirstGive (checked : ℕ → Bool) (skips : ℕ → ℕ) (old new : Run) : Type 0 where
    pub before : ℕ
    pub checked_there : ℕ → Bool
    pub skips_there : ℕ → ℕ
    pub between : Run
    pub next : Run
    pub behind : ℕ
    pub leads : LeadsPatiently plan patience before checked skips old between
    pub gives : PatientStep plan patience checked_there skips_there between next
    pub goes_on : LeadsPatiently plan patience behind (checked_after plan between gives.step.site checked_there) (skips_after patience skips_there between next) next new
    pub not_given : forks_given between s i ≡ forks_given old s i
    pub given : forks_given old s i < forks_given next s i

  pub first_give : (m : ℕ) (checked : ℕ → Bool) (skips : ℕ → ℕ) (old new : Run) → LeadsPatiently plan patience m checked skips old new → forks_given old s i < forks_given new s i → FirstGive checked skips old new
  first_give zero checked skips old new same more = absurd (omega (arith, ap (λ (run : Run). forks_given run s i) same))
  first_give (suc m) checked skips old new w more =
      let one : ThreadStep plan w.1.step.site old w.0 = w.1.step.step in
      let after_it : ℕ → Bool = checked_after plan old w.1.step.site checked in
      let skips_next : ℕ → ℕ = skips_after patience skips old w.0 in
      elim (same_or_more (forks_given old s i) (forks_given w.0 s i) (longer_forks (traffic_at (state plan is_plan s i is_site within old) i).put (traffic_at (state plan is_plan s i is_site within w.0) i).put (step_put plan w.1.step.site old w.0 one s i))) [
        | inl same ↦
            let rest : FirstGive after_it skips_next w.0 new = first_give m after_it skips_next w.0 new w.2 (omega arith) in
            record {
              before = suc rest.before;
              checked_there = rest.checked_there;
              skips_there = rest.skips_there;
              between = rest.between;
              next = rest.next;
              behind = rest.behind;
              leads = (w.0, w.1, rest.leads);
              gives = rest.gives;
              goes_on = rest.goes_on;
              not_given = rest.not_given ∙ same;
              given = omega (arith, rest.given);
            }
        | inr given ↦ record {
          before = 0;
          checked_there = checked;
          skips_there = skips;
          between = old;
          next = w.0;
          behind = m;
          leads = refl;
          gives = w.1;
          goes_on = w.2;
          not_given = refl;
          given = given;
        }
      ]

  module _ (checked : ℕ → Bool) (skips : ℕ → ℕ) (old : Run) (keeps : RunKeeps plan old) where
    -- patient steps gave the fork or did not
    still_or_given : (m : ℕ) (new : Run) → LeadsPatiently plan patience m checked skips old new → (forks_given new s i ≡ forks_given old s i) ⊎ FirstGive checked skips old new
    still_or_given m new leads =
        elim (same_or_more (forks_given old s i) (forks_given new s i) (longer_forks (traffic_at (state plan is_plan s i is_site within old) i).put (traffic_at (state plan is_plan s i is_site within new) i).put (steps_put plan m old new (patient_leads plan patience m checked skips old new leads) s i))) [
          | inl same ↦ inl same
          | inr more ↦ inr (first_give m checked skips old new leads more)
        ]

    -- a bound on the meals up to the give is one up to the neighbour's meal
    bounded : IsUnused plan (neighbour_at plan s i) (number_there plan s i) (far plan is_plan s i is_site within old) → (c : ℕ) → ((m : ℕ) (mid : Run) → LeadsPatiently plan patience m checked skips old mid → forks_given mid s i ≡ forks_given old s i → meals_so_far mid s ≤ meals_so_far old s + c)
        → (m : ℕ) (new : Run) → LeadsPatiently plan patience m checked skips old new → meals_so_far new (neighbour_at plan s i) ≡ meals_so_far old (neighbour_at plan s i) → meals_so_far new s ≤ meals_so_far old s + c
    bounded unused c bound m new leads ate = elim (still_or_given m new leads) [
      | inl same ↦ bound m new leads same
      | inr give ↦
          let to_between : LeadsBySteps plan give.before old give.between = patient_leads plan patience give.before checked skips old give.between give.leads in
          let from_next : LeadsBySteps plan give.behind give.next new = patient_leads plan patience give.behind (checked_after plan give.between give.gives.step.site give.checked_there) (skips_after patience give.skips_there give.between give.next) give.next new give.goes_on in
          omega (
            arith,
            none_behind plan is_plan s i is_site within give.before give.behind old give.between give.next new keeps unused to_between give.gives.step from_next give.not_given give.given ate,
            bound give.before give.between give.leads give.not_given,
          )
    ]

    module _ (some : 0 < patience s) (waits : WaitsForFork plan old (neighbour_at plan s i) (number_there plan s i)) where
      unused_now : IsUnused plan (neighbour_at plan s i) (number_there plan s i) (far plan is_plan s i is_site within old)
      unused_now one = absurd (omega (arith, waits.0))

      -- until the neighbour begins a meal, a bound that holds up to the give holds
      by_request : (c : ℕ) → (IsAsked plan old s i ⊎ HasTaken plan is_plan s i is_site within old → (m : ℕ) (mid : Run) → LeadsPatiently plan patience m checked skips old mid → forks_given mid s i ≡ forks_given old s i → meals_so_far mid s ≤ meals_so_far old s + c)
          → (m : ℕ) (new : Run) → LeadsPatiently plan patience m checked skips old new → meals_so_far new (neighbour_at plan s i) ≡ meals_so_far old (neighbour_at plan s i) → meals_so_far new s ≤ meals_so_far old s + c
      by_request c to_give m new leads ate = elim (where_request plan is_plan s i is_site within old keeps waits) [
        | inl asked ↦ bounded unused_now c (to_give (inl asked)) m new leads ate
        | inr other ↦ elim other [
          | inl taken ↦ bounded unused_now c (to_give (inr taken)) m new leads ate
          | inr gone ↦ omega (arith, gone_for_long plan is_plan s i is_site within m old new keeps unused_now gone (patient_leads plan patience m checked skips old new leads) ate)
        ]
      ]

      few_to_give : skips s < patience s → IsAsked plan old s i ⊎ HasTaken plan is_plan s i is_site within old → (m : ℕ) (mid : Run) → LeadsPatiently plan patience m checked skips old mid → forks_given mid s i ≡ forks_given old s i → meals_so_far mid s ≤ meals_so_far old s + patience s
      few_to_give fits (inl asked) m mid leads same = patient_meals plan is_plan s i is_site within patience some m checked skips old mid keeps asked waits.2 fits leads same
      few_to_give fits (inr taken) m mid leads same = omega (arith, some, one_begins plan is_plan s i is_site within m old mid keeps taken (patient_leads plan patience m checked skips old mid leads) same)

      dirty_to_give : HoldsDirtyFork plan old s i → checked s ≡ false → IsAsked plan old s i ⊎ HasTaken plan is_plan s i is_site within old → (m : ℕ) (mid : Run) → LeadsPatiently plan patience m checked skips old mid → forks_given mid s i ≡ forks_given old s i → meals_so_far mid s ≤ meals_so_far old s + skips s
      dirty_to_give dirty yet (inl asked) m mid leads same = unchecked_meals plan is_plan s i is_site within patience some m checked skips old mid keeps asked waits.2 dirty yet leads same
      dirty_to_give dirty yet (inr taken) m mid leads same = omega (arith, none_begins plan is_plan s i is_site within m old mid keeps taken dirty.1 (patient_leads plan patience m checked skips old mid leads) same)

      pub overtakes_few : skips s < patience s → (m : ℕ) (new : Run) → LeadsPatiently plan patience m checked skips old new → meals_so_far new (neighbour_at plan s i) ≡ meals_so_far old (neighbour_at plan s i) → meals_so_far new s ≤ meals_so_far old s + patience s
      overtakes_few fits = by_request (patience s) (few_to_give fits)

      pub overtakes_unchecked : HoldsDirtyFork plan old s i → checked s ≡ false → (m : ℕ) (new : Run) → LeadsPatiently plan patience m checked skips old new → meals_so_far new (neighbour_at plan s i) ≡ meals_so_far old (neighbour_at plan s i) → meals_so_far new s ≤ meals_so_far old s + skips s
      overtakes_unchecked dirty yet = by_request (skips s) (dirty_to_give dirty yet)

    -- ---- a run to its end gives the fork

    pub gives_after_few : 0 < patience s → skips s < patience s → IsAsked plan old s i → HasRungForAll plan old s i → (m : ℕ) (new : Run) → LeadsPatiently plan patience m checked skips old new → forks_given old s i < forks_given new s i
        → (before : ℕ) × (checked_there : ℕ → Bool) × (skips_there : ℕ → ℕ) × (between : Run) × (next : Run) × (behind : ℕ) × LeadsPatiently plan patience before checked skips old between × (gives : PatientStep plan patience checked_there skips_there between next)
        × LeadsPatiently plan patience behind (checked_after plan between gives.step.site checked_there) (skips_after patience skips_there between next) next new
        × (forks_given between s i ≡ forks_given old s i) × (forks_given old s i < forks_given next s i) × (meals_so_far between s ≤ meals_so_far old s + patience s)
    gives_after_few some fits asked rung m new leads given =
        let give : FirstGive checked skips old new = first_give m checked skips old new leads given in (
          give.before,
          give.checked_there,
          give.skips_there,
          give.between,
          give.next,
          give.behind,
          give.leads,
          give.gives,
          give.goes_on,
          give.not_given,
          give.given,
          patient_meals plan is_plan s i is_site within patience some give.before checked skips old give.between keeps asked rung fits give.leads give.not_given,
        )

-- ---- a site that waits for several

module _ (plan : SeenPlan) (is_plan : IsPlan plan) (t j : ℕ) (within : j < length (edges_of plan t)) (patience : ℕ → ℕ) (checked : ℕ → Bool) (skips : ℕ → ℕ) (m : ℕ) (old new : Run) (keeps : RunKeeps plan old) (leads : LeadsPatiently plan patience m checked skips old new)
    (ate : meals_so_far new t ≡ meals_so_far old t) where
  pub waits_for_few : 0 < patience (neighbour_at plan t j) → skips (neighbour_at plan t j) < patience (neighbour_at plan t j) → HoldsCleanFork plan old t j ⊎ WaitsForFork plan old t j → meals_so_far new (neighbour_at plan t j) ≤ meals_so_far old (neighbour_at plan t j) + patience (neighbour_at plan t j)
  waits_for_few some fits (inl clean) =
      let at : ℕ = end plan is_plan t j within in
      let place : ℕ = number plan is_plan t j within in
      let ate_there : meals_so_far new (neighbour_at plan at place) ≡ meals_so_far old (neighbour_at plan at place) = subst (λ (x : ℕ). meals_so_far new x ≡ meals_so_far old x) (sym (back plan is_plan t j within)) ate in
      let there : HoldsCleanFork plan old (neighbour_at plan at place) (number_there plan at place) = seen_there plan is_plan t j within (HoldsCleanFork plan old) clean in
      omega (arith, clean_eats_first plan is_plan at place (across plan t j is_plan within).is_site (across plan t j is_plan within).within m old new keeps there (patient_leads plan patience m checked skips old new leads) ate_there)
  waits_for_few some fits (inr waits) =
      let at : ℕ = end plan is_plan t j within in
      let place : ℕ = number plan is_plan t j within in
      let ate_there : meals_so_far new (neighbour_at plan at place) ≡ meals_so_far old (neighbour_at plan at place) = subst (λ (x : ℕ). meals_so_far new x ≡ meals_so_far old x) (sym (back plan is_plan t j within)) ate in
      let there : WaitsForFork plan old (neighbour_at plan at place) (number_there plan at place) = seen_there plan is_plan t j within (WaitsForFork plan old) waits in
      overtakes_few plan is_plan at place (across plan t j is_plan within).is_site (across plan t j is_plan within).within patience checked skips old keeps some there fits m new leads ate_there
