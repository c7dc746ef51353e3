use Rattle.std.proofs.Common.{ℕ, [], ◌∷◌, true, false, refl, arith}
use Rattle.dine_rules.specs.declared.events.EventKind.TheVariants as event
use Rattle.dine_rules.specs.declared.letters.LetterKind.TheVariants as kind
use Rattle.dine_rules.specs.declared.phase.Phase.TheVariants.{Hungry, Thinking}
use Rattle.dine_waking.specs.Examples.{at_work, state_in}
use Rattle.dine_waking.specs.MannerExamples.{rung_run, unrung_run}
use Rattle.dine_waking.specs.Examples.{two_sites}
use Rattle.dine_waking.specs.Runs.{ByActing, ByRinging, GoesOn, HasToRing, Run, RunStep, ThreadStep, start_run}
use Rattle.dine_waking.proofs.TwoSites.{eats_on, is_plan}
use Rattle.dine_waking.proofs.laws.manners.unheard_neighbours_wait_for_all_meals.Goals as goal

module _ (k : ℕ) where
  abbrev hungry : Run
  hungry = record { world = state_in Thinking [] [] ∷ state_in Hungry [] [] ∷ []; threads = at_work GoesOn [] ∷ at_work GoesOn [] ∷ []; is_open = false }

  higher_does : (old new : Run) → ThreadStep (two_sites k 1) 1 old new → RunStep (two_sites k 1) old new
  higher_does old new step = record { site = 1; is_site = omega arith; step = step }

  grows_hungry : RunStep (two_sites k 1) (start_run (two_sites k 1)) hungry
  grows_hungry = higher_does (start_run (two_sites k 1)) hungry (ByActing (record { goes_on = refl; kind = event.Hungry; next = refl; world = refl; as_open = refl; threads = refl }))

  asks : RunStep (two_sites k 1) hungry (unrung_run 0)
  asks = higher_does hungry (unrung_run 0) (ByActing (record { goes_on = refl; kind = event.Ask 0; next = refl; world = refl; as_open = refl; threads = refl }))

  rings : RunStep (two_sites k 1) (unrung_run 0) (rung_run 0)
  rings = higher_does (unrung_run 0) (rung_run 0) (ByRinging (record { i = 0; kind = kind.Request; anyway = false; rings = refl; world = refl; as_open = refl; threads = refl }))

pub returns : goal.returns
returns c = record {
  is_plan = λ k few. is_plan k 1 few (omega arith);
  rung = λ k. (hungry k, grows_hungry k, (unrung_run 0, asks k, (rung_run 0, rings k, refl)));
  has_rung = λ k. (refl, refl);
  holds_dirty_fork = λ k. (refl, refl);
  eager = λ k checked. eats_on k false (0 ∷ []) (at_work GoesOn []) (λ polite. absurd cc) checked k 0 (omega arith);
  eager_meals = λ k. (refl, refl);
  unrung = λ k. (hungry k, grows_hungry k, (unrung_run 0, asks k, refl));
  is_asked = λ k. refl;
  polite = λ k checked. eats_on k true [] (at_work (HasToRing 0 kind.Request) []) (λ polite. refl) checked k 0 (omega arith);
  polite_meals = λ k. (refl, refl);
}
