-- The lower of two sites eats on although it was rung for, as often as its patience allows.
use Rattle.std.proofs.Common.{◌≡◌, ℕ, zero, suc, ◌+◌, ◌*◌, ◌-◌, ◌<◌, ◌||◌, Bool, true, false, List, [], ◌∷◌, refl, ◌∙◌, ap, subst, arith}
use Rattle.dine_graph.specs.Plan.{SeenPlan}
use Rattle.dine_rules.specs.declared.phase.Phase.{Phase}
use Rattle.dine_rules.specs.declared.phase.Phase.TheVariants as phase
use Rattle.dine_waking.specs.Examples.{at_work, two_sites}
use Rattle.dine_waking.specs.MannerExamples.{rung_run, rung_too_late_run}
use Rattle.dine_waking.specs.Manners.{checked_after, finds_no_ring, has_checked, meals_so_far}
use Rattle.dine_waking.specs.Patience.{LeadsPatiently, PatientStep, skips_after, skips_then}
use Rattle.dine_waking.specs.Runs.{GoesOn, Run, Thread}
use Rattle.dine_waking.proofs.Patient.{skips_count, skips_stay}
use Rattle.dine_waking.proofs.TwoSites.{at, begins, ends, hungers, site}

module _ (k : ℕ) (patience : ℕ → ℕ) where
  abbrev plan : SeenPlan
  plan = two_sites k 1

  abbrev bell : List ℕ
  bell = 0 ∷ []

  abbrev higher : Thread
  higher = at_work GoesOn []

  abbrev when : Phase → ℕ → Run
  when does n = at k false bell higher does n

  -- the three steps of a meal
  module _ (checked : ℕ → Bool) (skips : ℕ → ℕ) (n : ℕ) (left : n < k) where
    abbrev grows_hungry : PatientStep plan patience checked skips (when phase.Thinking n) (when phase.Hungry n)
    grows_hungry = record { step = (hungers k false bell higher checked n left).step; is_patient = λ some is none. absurd cc }

    abbrev begins_meal : (skips 0 ≡ 0 → has_checked plan (when phase.Hungry n) checked 0 ≡ true) → PatientStep plan patience checked skips (when phase.Hungry n) (when phase.Eating (n + 1))
    begins_meal checks = record { step = (begins k false bell higher checked n left (λ polite. absurd cc)).step; is_patient = λ some is none. checks none }

    abbrev ends_meal : PatientStep plan patience checked skips (when phase.Eating (n + 1)) (when phase.Thinking (n + 1))
    ends_meal = record { step = (ends k false bell higher checked n left).step; is_patient = λ some is none. absurd cc }

  same_then : (skips : ℕ → ℕ) (old new : Run) → meals_so_far new 0 ≡ meals_so_far old 0 → skips_after patience skips old new 0 ≡ skips 0
  same_then skips old new same = skips_stay patience skips old new 0 same

  -- it begins those meals that need no check
  pub eats_unchecked : (left n : ℕ) (checked : ℕ → Bool) (skips : ℕ → ℕ) → n + left ≡ k → skips 0 ≡ left → LeadsPatiently plan patience (3 * left) checked skips (rung_run n) (rung_run k)
  eats_unchecked zero n checked skips all are = ap rung_run (let same : n ≡ k = omega arith in same)
  eats_unchecked (suc left) n checked skips all are =
      let three : suc (suc (suc (3 * left))) ≡ 3 * suc left = omega arith in
      let more : n < k = omega arith in
      let second : ℕ → Bool = checked_after plan (when phase.Thinking n) 0 checked in
      let third : ℕ → Bool = checked_after plan (when phase.Hungry n) 0 second in
      let fourth : ℕ → Bool = checked_after plan (when phase.Eating (n + 1)) 0 third in
      let skips_2 : ℕ → ℕ = skips_after patience skips (when phase.Thinking n) (when phase.Hungry n) in
      let skips_3 : ℕ → ℕ = skips_after patience skips_2 (when phase.Hungry n) (when phase.Eating (n + 1)) in
      let skips_4 : ℕ → ℕ = skips_after patience skips_3 (when phase.Eating (n + 1)) (when phase.Thinking (n + 1)) in
      let are_2 : skips_2 0 ≡ suc left = same_then skips (when phase.Thinking n) (when phase.Hungry n) refl ∙ are in
      let are_3 : skips_3 0 ≡ left = skips_count patience skips_2 (when phase.Hungry n) (when phase.Eating (n + 1)) 0 refl ∙ ap (skips_then (patience 0)) are_2 in
      let are_4 : skips_4 0 ≡ left = same_then skips_3 (when phase.Eating (n + 1)) (when phase.Thinking (n + 1)) refl ∙ are_3 in
      subst (λ (m : ℕ). LeadsPatiently plan patience m checked skips (rung_run n) (rung_run k)) three
      (when phase.Hungry n, grows_hungry checked skips n more, (when phase.Eating (n + 1), begins_meal second skips_2 n more (λ none. absurd (omega (arith, none, are_2))), (when phase.Thinking (n + 1), ends_meal third skips_3 n more, eats_unchecked left (n + 1) fourth skips_4 (omega arith) are_4)))

  -- if it had checked before the ring came, it begins one meal more
  pub eats_checked : (left : ℕ) (checked : ℕ → Bool) (skips : ℕ → ℕ) → suc left ≡ k → patience 0 ≡ k → checked 0 ≡ true → skips 0 ≡ 0 → LeadsPatiently plan patience (2 + 3 * left) checked skips rung_too_late_run (rung_run k)
  eats_checked left checked skips all patient checks none =
      let more : 0 < k = omega arith in
      let two : suc (suc (3 * left)) ≡ 2 + 3 * left = omega arith in
      let second : ℕ → Bool = checked_after plan (when phase.Hungry 0) 0 checked in
      let third : ℕ → Bool = checked_after plan (when phase.Eating 1) 0 second in
      let skips_2 : ℕ → ℕ = skips_after patience skips (when phase.Hungry 0) (when phase.Eating 1) in
      let skips_3 : ℕ → ℕ = skips_after patience skips_2 (when phase.Eating 1) (when phase.Thinking 1) in
      let are_2 : skips_2 0 ≡ left = skips_count patience skips (when phase.Hungry 0) (when phase.Eating 1) 0 refl ∙ ap (skips_then (patience 0)) none ∙ (let e : patience 0 - 1 ≡ left = omega (arith, patient, all) in e) in
      let are_3 : skips_3 0 ≡ left = same_then skips_2 (when phase.Eating 1) (when phase.Thinking 1) refl ∙ are_2 in
      let check : has_checked plan (when phase.Hungry 0) checked 0 ≡ true = ap (λ (b : Bool). b || finds_no_ring plan 0 (site k false bell higher phase.Hungry 0) GoesOn bell) checks in
      subst (λ (m : ℕ). LeadsPatiently plan patience m checked skips rung_too_late_run (rung_run k)) two
      (when phase.Eating 1, begins_meal checked skips 0 more (λ is. check), (when phase.Thinking 1, ends_meal second skips_2 0 more, eats_unchecked left 1 third skips_3 (omega arith) are_3))
