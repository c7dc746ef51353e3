use Rattle.std.proofs.Common.{◌≡◌, ℕ, zero, suc, ◌+◌, ◌*◌, ◌-◌, ◌<◌, Bool, true, false, [], ◌∷◌, refl, subst, arith}
use Rattle.dine_rules.specs.declared.events.EventKind.TheVariants as event
use Rattle.dine_rules.specs.declared.letters.LetterKind.TheVariants as kind
use Rattle.dine_rules.specs.declared.phase.Phase.TheVariants.{Hungry, Thinking}
use Rattle.dine_waking.specs.Examples.{at_work, state_in, two_sites}
use Rattle.dine_waking.specs.MannerExamples.{rung_run, rung_too_late_run, unrung_run}
use Rattle.dine_waking.specs.Patience.{LeadsPatiently}
use Rattle.dine_waking.specs.Runs.{ByActing, ByRinging, GoesOn, HasToRing, LeadsBySteps, Run, RunStep, ThreadStep, start_run}
use Rattle.dine_waking.proofs.PatientSites.{eats_checked}
use Rattle.dine_waking.proofs.TwoSites.{at, hungers}
use Rattle.dine_waking.proofs.laws.patience.a_patient_site_may_begin_as_many_meals_as_its_patience.Goals as goal

module _ (k : ℕ) where
  abbrev hungry : Run
  hungry = record { world = state_in Thinking [] [] ∷ state_in Hungry [] [] ∷ []; threads = at_work GoesOn [] ∷ at_work GoesOn [] ∷ []; is_open = false }

  -- both are hungry, and the higher one has yet to ring
  abbrev both_hungry : Run
  both_hungry = at k false [] (at_work (HasToRing 0 kind.Request) []) Hungry 0

  higher_does : (old new : Run) → ThreadStep (two_sites k 1) 1 old new → RunStep (two_sites k 1) old new
  higher_does old new step = record { site = 1; is_site = omega arith; step = step }

  four : 0 < k → LeadsBySteps (two_sites k 1) 4 (start_run (two_sites k 1)) rung_too_late_run
  four some = (
    hungry,
    higher_does (start_run (two_sites k 1)) hungry (ByActing (record { goes_on = refl; kind = event.Hungry; next = refl; world = refl; as_open = refl; threads = refl })),
    (
      unrung_run 0,
      higher_does hungry (unrung_run 0) (ByActing (record { goes_on = refl; kind = event.Ask 0; next = refl; world = refl; as_open = refl; threads = refl })),
      (
        both_hungry,
        (hungers k false [] (at_work (HasToRing 0 kind.Request) []) (λ s. false) 0 some).step,
        (rung_too_late_run, higher_does both_hungry rung_too_late_run (ByRinging (record { i = 0; kind = kind.Request; anyway = false; rings = refl; world = refl; as_open = refl; threads = refl })), refl),
      ),
    ),
  )

eats : (k : ℕ) (checked : ℕ → Bool) → 0 < k → checked 0 ≡ true → LeadsPatiently (two_sites k 1) (λ s. k) (3 * k - 1) checked (λ s. 0) rung_too_late_run (rung_run k)
eats zero checked some checks = absurd (omega arith)
eats (suc left) checked some checks =
    let many : 2 + 3 * left ≡ 3 * suc left - 1 = omega arith in
    subst (λ (m : ℕ). LeadsPatiently (two_sites (suc left) 1) (λ s. suc left) m checked (λ s. 0) rung_too_late_run (rung_run (suc left))) many (eats_checked (suc left) (λ s. suc left) left checked (λ s. 0) refl refl checks refl)

pub returns : goal.returns
returns c = record {
  asked = λ k some. four k some;
  has_rung = λ k. (refl, refl);
  eats = λ k checked some checks. eats k checked some checks;
  meals = λ k. (refl, refl);
  not_given = λ k. (refl, refl);
}
