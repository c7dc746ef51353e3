-- each step is computed
use Rattle.std.proofs.Common.{◌≡◌, ℕ, Bool, true, false, [], ◌∷◌, refl, arith}
use Rattle.dine_rules.specs.declared.events.EventKind.TheVariants as event
use Rattle.dine_rules.specs.declared.letters.LetterKind.TheVariants as kind
use Rattle.dine_rules.specs.declared.phase.Phase.TheVariants.{Hungry, Thinking}
use Rattle.dine_rules.specs.Local.{LocalState}
use Rattle.dine_waking.specs.Examples.{at_work, request, state_in, two_sites}
use Rattle.dine_waking.specs.MannerExamples.{eats_dirty_run, rung_too_late_run}
use Rattle.dine_waking.specs.Manners.{MannerStep, has_checked, checked_after}
use Rattle.dine_waking.specs.Runs.{ByActing, ByRinging, Doing, GoesOn, HasToRing, Run, start_run}
use Rattle.dine_waking.proofs.laws.manners.a_check_is_good_for_one_meal.Goals as goal

-- two sites where no bell has a ring, and the lower thread goes on
abbrev moment : LocalState → LocalState → Doing → Run
moment low high higher = record { world = low ∷ high ∷ []; threads = at_work GoesOn [] ∷ at_work higher [] ∷ []; is_open = false }

abbrev lower_hungry : Run
lower_hungry = moment (state_in Hungry [] []) (state_in Thinking [] []) GoesOn

abbrev both_hungry : Run
both_hungry = moment (state_in Hungry [] []) (state_in Hungry [] []) GoesOn

abbrev asked : Run
asked = moment (state_in Hungry [] []) (state_in Hungry (request ∷ []) []) (HasToRing 0 kind.Request)

-- which sites have checked, if at first none has
abbrev none : ℕ → Bool
none = λ s. false

abbrev first : ℕ → Bool
first = checked_after (two_sites 1 1) (start_run (two_sites 1 1)) 0 none

abbrev second : ℕ → Bool
second = checked_after (two_sites 1 1) lower_hungry 1 first

abbrev third : ℕ → Bool
third = checked_after (two_sites 1 1) both_hungry 1 second

abbrev fourth : ℕ → Bool
fourth = checked_after (two_sites 1 1) asked 1 third

abbrev hungers : MannerStep (two_sites 1 1) (λ s. true) none (start_run (two_sites 1 1)) lower_hungry
hungers = record {
  step = record { site = 0; is_site = omega arith; step = ByActing (record { goes_on = refl; kind = event.Hungry; next = refl; world = refl; as_open = refl; threads = refl }) };
  in_manner = λ is. absurd cc;
}

abbrev higher_hungers : MannerStep (two_sites 1 1) (λ s. true) first lower_hungry both_hungry
higher_hungers = record {
  step = record { site = 1; is_site = omega arith; step = ByActing (record { goes_on = refl; kind = event.Hungry; next = refl; world = refl; as_open = refl; threads = refl }) };
  in_manner = λ is. absurd cc;
}

abbrev asks : MannerStep (two_sites 1 1) (λ s. true) second both_hungry asked
asks = record {
  step = record { site = 1; is_site = omega arith; step = ByActing (record { goes_on = refl; kind = event.Ask 0; next = refl; world = refl; as_open = refl; threads = refl }) };
  in_manner = λ is. absurd cc;
}

abbrev rings : MannerStep (two_sites 1 1) (λ s. true) third asked rung_too_late_run
rings = record {
  step = record { site = 1; is_site = omega arith; step = ByRinging (record { i = 0; kind = kind.Request; anyway = false; rings = refl; world = refl; as_open = refl; threads = refl }) };
  in_manner = tt;
}

lower_checked : has_checked (two_sites 1 1) rung_too_late_run fourth 0 ≡ true
lower_checked = refl

abbrev begins : MannerStep (two_sites 1 1) (λ s. true) fourth rung_too_late_run eats_dirty_run
begins = record {
  step = record { site = 0; is_site = omega arith; step = ByActing (record { goes_on = refl; kind = event.Begin; next = refl; world = refl; as_open = refl; threads = refl }) };
  in_manner = λ is. lower_checked;
}

pub returns : goal.returns
returns c = record {
  eats = (
    fourth,
    checked_after (two_sites 1 1) rung_too_late_run 0 fourth,
    (lower_hungry, hungers, (both_hungry, higher_hungers, (asked, asks, (rung_too_late_run, rings, (refl, refl))))),
    (eats_dirty_run, begins, (refl, refl)),
  );
  has_rung = (refl, refl);
  waits = (refl, refl, refl);
  holds_dirty_fork = (refl, refl);
  meals = (refl, refl);
  not_given = (refl, refl);
}
