-- A neighbour that has asked and rung waits for as many meals of a patient site as its patience, at most.
use Rattle.std.proofs.Common.{◌≡◌, ◌≢◌, ◌⊎◌, ℕ, zero, suc, ◌+◌, ◌<◌, ◌≤◌, ◌==◌, if◌then◌else◌, Bool, true, false, length, refl, sym, ◌∙◌, ap, subst, inl, inr, arith}
use Rattle.std.proofs.lemmas.Bool.{cases_eq, cond-false, cond-true, eq-eqb, false≢true, ne_eqb}
use Rattle.dine_graph.specs.Plan.{SeenPlan, IsPlan, site_count, edges_of}
use Rattle.dine_rules.specs.Local.{LocalState}
use Rattle.dine_waking.specs.Manners.{HasRungForAll, HoldsDirtyFork, IsAsked, IsInManner, LeadsInManner, checked_after, forks_given, has_checked, meals_so_far}
use Rattle.dine_waking.specs.Patience.{IsPatient, LeadsPatiently, PatientStep, skips_after, skips_then}
use Rattle.dine_waking.specs.Runs.{ByActing, ByDoorbell, ByHearing, ByRinging, BySleeping, ByTaking, ByWaking, LeadsBySteps, Run, RunStep, ThreadStep, rings_for, rings_left, thread_of}
use Rattle.dine_waking.proofs.Bells.{RunKeeps}
use Rattle.dine_waking.proofs.Bounded.{step_keeps}
use Rattle.dine_waking.proofs.Heard.{AtPlace, Begun, other_step, own_check_used, own_step, yet_after, yet_to_check}
use Rattle.dine_waking.proofs.Polite.{Lies, asked_lies, begun_dirty, begun_lies, given_first, given_then, none_begins, one_begins, state, still_dirty, waits_on}
use Rattle.dine_waking.proofs.PutOff.{dirty_puts_off_none}

-- steps of patient sites are steps
pub patient_leads : (plan : SeenPlan) (patience : ℕ → ℕ) (n : ℕ) (checked : ℕ → Bool) (skips : ℕ → ℕ) (old new : Run) → LeadsPatiently plan patience n checked skips old new → LeadsBySteps plan n old new
patient_leads plan patience zero checked skips old new same = same
patient_leads plan patience (suc n) checked skips old new w = (w.0, w.1.step, patient_leads plan patience n (checked_after plan old w.1.step.site checked) (skips_after patience skips old w.0) w.0 new w.2)

either_is : (b : Bool) (m n : ℕ) → m ≡ 0 → n ≡ 0 → (if b then m else n) ≡ 0
either_is true m n first second = first
either_is false m n first second = second

-- ---- steps in manners are patient ones

-- the patience of polite and of eager sites
abbrev patience_of : (ℕ → Bool) → ℕ → ℕ
patience_of is_polite s = if is_polite s then 1 else 0

-- a site of patience 1 or 0 begins no meal without a check, whatever it did
none_skipped : (b : Bool) (n : ℕ) → n ≡ 0 → skips_then (if b then 1 else 0) n ≡ 0
none_skipped true n none = ap (skips_then 1) none
none_skipped false n none = ap (skips_then 0) none

none_skipped_after : (is_polite : ℕ → Bool) (skips : ℕ → ℕ) (old new : Run) (t : ℕ) → skips t ≡ 0 → skips_after (patience_of is_polite) skips old new t ≡ 0
none_skipped_after is_polite skips old new t none = either_is (meals_so_far new t == meals_so_far old t) (skips t) (skips_then (patience_of is_polite t) (skips t)) none (none_skipped (is_polite t) (skips t) none)

polite_is_patient : (plan : SeenPlan) (is_polite : ℕ → Bool) (s : ℕ) (checked : ℕ → Bool) (skips : ℕ → ℕ) (old new : Run) (one : ThreadStep plan s old new) (b : Bool) → is_polite s ≡ b → IsInManner plan s checked old new one b → IsPatient plan (patience_of is_polite) s checked skips old new one
polite_is_patient plan is_polite s checked skips old new (ByActing a) true polite in_manner = λ some begins none. in_manner begins
polite_is_patient plan is_polite s checked skips old new (ByActing a) false eager in_manner = λ some begins none. absurd (omega (arith, some, ap {B = ℕ} (λ (b : Bool). if b then 1 else 0) eager))
polite_is_patient plan is_polite s checked skips old new (ByRinging r) b polite in_manner = tt
polite_is_patient plan is_polite s checked skips old new (ByWaking h) b polite in_manner = tt
polite_is_patient plan is_polite s checked skips old new (ByHearing h) b polite in_manner = tt
polite_is_patient plan is_polite s checked skips old new (ByTaking t) b polite in_manner = tt
polite_is_patient plan is_polite s checked skips old new (BySleeping f) b polite in_manner = tt
polite_is_patient plan is_polite s checked skips old new (ByDoorbell d) b polite in_manner = tt

pub in_manner_patiently : (plan : SeenPlan) (is_polite : ℕ → Bool) (n : ℕ) (checked checked_then : ℕ → Bool) (skips : ℕ → ℕ) (old new : Run) → ((t : ℕ) → skips t ≡ 0) → LeadsInManner plan is_polite n checked old checked_then new → LeadsPatiently plan (patience_of is_polite) n checked skips old new
in_manner_patiently plan is_polite zero checked checked_then skips old new none same = same.1
in_manner_patiently plan is_polite (suc n) checked checked_then skips old new none w = (
  w.0,
  record { step = w.1.step; is_patient = polite_is_patient plan is_polite w.1.step.site checked skips old w.0 w.1.step.step (is_polite w.1.step.site) refl w.1.in_manner },
  in_manner_patiently plan is_polite n (checked_after plan old w.1.step.site checked) checked_then (skips_after (patience_of is_polite) skips old w.0) w.0 new (λ t. none_skipped_after is_polite skips old w.0 t (none t)) w.2,
)

one_less : (k n : ℕ) → n ≢ 0 → skips_then k n + 1 ≡ n
one_less k zero some = absurd (some refl)
one_less k (suc n) some = omega arith

below : (k n : ℕ) → 0 < k → n < k → skips_then k n + 1 ≤ k
below k zero some fits = omega arith
below k (suc n) some fits = omega arith

module _ (patience skips : ℕ → ℕ) (old new : Run) (s : ℕ) where
  pub skips_stay : meals_so_far new s ≡ meals_so_far old s → skips_after patience skips old new s ≡ skips s
  skips_stay same = cond-true {A = ℕ} (meals_so_far new s == meals_so_far old s) (skips s) (skips_then (patience s) (skips s)) (eq-eqb (meals_so_far new s) (meals_so_far old s) same)

  pub skips_count : meals_so_far new s ≡ meals_so_far old s + 1 → skips_after patience skips old new s ≡ skips_then (patience s) (skips s)
  skips_count more = cond-false {A = ℕ} (meals_so_far new s == meals_so_far old s) (skips s) (skips_then (patience s) (skips s)) (ne_eqb (meals_so_far new s) (meals_so_far old s) (λ same. omega (arith, more, same)))

module _ (plan : SeenPlan) (is_plan : IsPlan plan) (s i : ℕ) (is_site : s < site_count plan) (within : i < length (edges_of plan s)) (patience : ℕ → ℕ) (some : 0 < patience s) where
  -- a patient step is a polite one, if no meal is to begin without a check
  as_polite : (checked : ℕ → Bool) (skips : ℕ → ℕ) (old new : Run) (one : ThreadStep plan s old new) → IsPatient plan patience s checked skips old new one → skips s ≡ 0 → IsInManner plan s checked old new one true
  as_polite checked skips old new (ByActing a) patient none = λ begins. patient some begins none
  as_polite checked skips old new (ByRinging r) patient none = tt
  as_polite checked skips old new (ByWaking h) patient none = tt
  as_polite checked skips old new (ByHearing h) patient none = tt
  as_polite checked skips old new (ByTaking t) patient none = tt
  as_polite checked skips old new (BySleeping f) patient none = tt
  as_polite checked skips old new (ByDoorbell d) patient none = tt

  -- a Begin of the site
  record BeginsHere (checked : ℕ → Bool) (skips : ℕ → ℕ) (old next : Run) (w : PatientStep plan patience checked skips old next) : Type 0 where
    here : s ≡ w.step.site
    begun : Begun plan s i old next
    by_check : skips s ≡ 0 → has_checked plan old checked s ≡ true

  at_place : (checked : ℕ → Bool) (skips : ℕ → ℕ) (old next : Run) → RunKeeps plan old → (w : PatientStep plan patience checked skips old next) → 0 < rings_for i (rings_left (thread_of old s)) → AtPlace plan s i old next ⊎ BeginsHere checked skips old next w
  at_place checked skips old next keeps w ringing = elim (cases_eq s w.step.site) [
    | inr other ↦ inl (other_step plan is_plan s i is_site within old next keeps w.step.site other w.step.step)
    | inl same ↦
        let own : (one : ThreadStep plan s old next) × IsPatient plan patience s checked skips old next one = subst (λ (x : ℕ). (one : ThreadStep plan x old next) × IsPatient plan patience x checked skips old next one) (sym same) (w.step.step, w.is_patient) in
        elim (own_step plan is_plan s i is_site within old next keeps own.0 ringing) [
          | inl at ↦ inl at
          | inr begins ↦ inr (record { here = same; begun = begins.0; by_check = λ none. begins.1 checked (as_polite checked skips old next own.0 own.1 none) })
        ]
  ]

  begun_more : (old next : Run) → Begun plan s i old next → meals_so_far next s ≡ meals_so_far old s + 1
  begun_more old next begun = ap (λ (x : LocalState). x.ate) begun.changes

  module _ (k edge : ℕ) where
    -- where the site has yet to check and its fork is dirty, it begins only those meals that need no check
    few_waited : (m : ℕ) (checked : ℕ → Bool) (skips : ℕ → ℕ) (old new : Run) → RunKeeps plan old → Lies plan is_plan s i is_site within old k edge → HoldsDirtyFork plan old s i → checked s ≡ false → LeadsPatiently plan patience m checked skips old new
        → forks_given new s i ≡ forks_given old s i → meals_so_far new s ≤ meals_so_far old s + skips s
    few_waited zero checked skips old new keeps lies dirty yet same given = omega (arith, ap (λ (run : Run). meals_so_far run s) same)
    few_waited (suc m) checked skips old new keeps lies dirty yet w given =
        let does : RunStep plan old w.0 = w.1.step in
        let after_it : ℕ → Bool = checked_after plan old does.site checked in
        let skips_next : ℕ → ℕ = skips_after patience skips old w.0 in
        let more : LeadsBySteps plan m w.0 new = patient_leads plan patience m after_it skips_next w.0 new w.2 in
        let keeps_next : RunKeeps plan w.0 = step_keeps plan is_plan old w.0 keeps does.site does.is_site does.step in
        let given_next : forks_given new s i ≡ forks_given w.0 s i = given_then plan is_plan s i is_site within old w.0 new m does.site does.step more given in
        let ringing : 0 < rings_for i (rings_left (thread_of old s)) = omega (arith, lies.untaken, lies.ringing) in
        let still_yet : has_checked plan old checked s ≡ false = yet_to_check plan i old checked s yet (dirty_puts_off_none plan s (state plan is_plan s i is_site within old) i dirty.1) ringing in
        elim (at_place checked skips old w.0 keeps w.1 ringing) [
          | inr begins ↦ elim (cases_eq (skips s) 0) [
            | inl none ↦ absurd (false≢true (sym still_yet ∙ begins.by_check none))
            | inr left ↦ omega (
              arith,
              begun_more old w.0 begins.begun,
              skips_count patience skips old w.0 s (begun_more old w.0 begins.begun),
              one_less (patience s) (skips s) left,
              few_waited m after_it skips_next w.0 new keeps_next (begun_lies plan is_plan s i is_site within k edge does.site old w.0 lies does.step begins.begun) (begun_dirty plan is_plan s i is_site within old w.0 keeps begins.begun)
                  (own_check_used plan old s does.site checked begins.here) w.2 given_next,
            )
          ]
          | inl at ↦
              let on = waits_on plan is_plan s i is_site within k edge old w.0 keeps lies does (given_first plan is_plan s i is_site within old w.0 new m does.site does.step more given) at in
              let dirty_next : HoldsDirtyFork plan w.0 s i = still_dirty plan is_plan s i is_site within old w.0 new m does.site does.step more given keeps keeps_next dirty.0 dirty.1 on.0 in
              elim on.1 [
                | inl lies_next ↦ omega (arith, on.0, skips_stay patience skips old w.0 s on.0, few_waited m after_it skips_next w.0 new keeps_next lies_next dirty_next (yet_after plan old does.site checked s still_yet) w.2 given_next)
                | inr taken ↦ omega (arith, on.0, none_begins plan is_plan s i is_site within m w.0 new keeps_next taken dirty_next.1 more given_next)
              ]
        ]

    -- it begins no more meals than its patience: after the first one its check is used, and the fork is dirty
    all_waited : (m : ℕ) (checked : ℕ → Bool) (skips : ℕ → ℕ) (old new : Run) → RunKeeps plan old → Lies plan is_plan s i is_site within old k edge → skips s < patience s → LeadsPatiently plan patience m checked skips old new → forks_given new s i ≡ forks_given old s i
        → meals_so_far new s ≤ meals_so_far old s + patience s
    all_waited zero checked skips old new keeps lies fits same given = omega (arith, ap (λ (run : Run). meals_so_far run s) same)
    all_waited (suc m) checked skips old new keeps lies fits w given =
        let does : RunStep plan old w.0 = w.1.step in
        let after_it : ℕ → Bool = checked_after plan old does.site checked in
        let skips_next : ℕ → ℕ = skips_after patience skips old w.0 in
        let more : LeadsBySteps plan m w.0 new = patient_leads plan patience m after_it skips_next w.0 new w.2 in
        let keeps_next : RunKeeps plan w.0 = step_keeps plan is_plan old w.0 keeps does.site does.is_site does.step in
        let given_next : forks_given new s i ≡ forks_given w.0 s i = given_then plan is_plan s i is_site within old w.0 new m does.site does.step more given in
        elim (at_place checked skips old w.0 keeps w.1 (omega (arith, lies.untaken, lies.ringing))) [
          | inr begins ↦ omega (
            arith,
            begun_more old w.0 begins.begun,
            skips_count patience skips old w.0 s (begun_more old w.0 begins.begun),
            below (patience s) (skips s) some fits,
            few_waited m after_it skips_next w.0 new keeps_next (begun_lies plan is_plan s i is_site within k edge does.site old w.0 lies does.step begins.begun) (begun_dirty plan is_plan s i is_site within old w.0 keeps begins.begun)
                (own_check_used plan old s does.site checked begins.here) w.2 given_next,
          )
          | inl at ↦
              let on = waits_on plan is_plan s i is_site within k edge old w.0 keeps lies does (given_first plan is_plan s i is_site within old w.0 new m does.site does.step more given) at in
              elim on.1 [
                | inl lies_next ↦ omega (arith, on.0, all_waited m after_it skips_next w.0 new keeps_next lies_next (omega (arith, fits, skips_stay patience skips old w.0 s on.0)) w.2 given_next)
                | inr taken ↦ omega (arith, some, on.0, one_begins plan is_plan s i is_site within m w.0 new keeps_next taken more given_next)
              ]
        ]

  pub patient_meals : (m : ℕ) (checked : ℕ → Bool) (skips : ℕ → ℕ) (old new : Run) → RunKeeps plan old → IsAsked plan old s i → HasRungForAll plan old s i → skips s < patience s → LeadsPatiently plan patience m checked skips old new
      → forks_given new s i ≡ forks_given old s i → meals_so_far new s ≤ meals_so_far old s + patience s
  patient_meals m checked skips old new keeps asked rung fits leads given = let w = asked_lies plan is_plan s i is_site within old keeps asked rung in all_waited w.0 w.1 m checked skips old new keeps w.2 fits leads given

  pub unchecked_meals : (m : ℕ) (checked : ℕ → Bool) (skips : ℕ → ℕ) (old new : Run) → RunKeeps plan old → IsAsked plan old s i → HasRungForAll plan old s i → HoldsDirtyFork plan old s i → checked s ≡ false → LeadsPatiently plan patience m checked skips old new
      → forks_given new s i ≡ forks_given old s i → meals_so_far new s ≤ meals_so_far old s + skips s
  unchecked_meals m checked skips old new keeps asked rung dirty yet leads given = let w = asked_lies plan is_plan s i is_site within old keeps asked rung in few_waited w.0 w.1 m checked skips old new keeps w.2 dirty yet leads given
