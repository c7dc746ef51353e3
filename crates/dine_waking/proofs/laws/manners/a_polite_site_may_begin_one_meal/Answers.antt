-- each step is computed
use Rattle.std.proofs.Common.{ℕ, Bool, true, false, List, [], ◌∷◌, refl, arith}
use Rattle.dine_rules.specs.declared.events.EventKind.TheVariants as event
use Rattle.dine_rules.specs.declared.letters.LetterKind.TheVariants as kind
use Rattle.dine_rules.specs.declared.phase.Phase.TheVariants.{Hungry, Thinking}
use Rattle.dine_rules.specs.Local.{LocalState}
use Rattle.dine_waking.specs.Examples.{at_work, request, state_in}
use Rattle.dine_waking.specs.MannerExamples.{asked_back_run, eats_first_run, rung_run, unrung_run}
use Rattle.dine_waking.specs.Examples.{fork_given_first, two_sites}
use Rattle.dine_waking.specs.Manners.{IsInManner, MannerStep, checked_after}
use Rattle.dine_waking.specs.Runs.{ByActing, ByHearing, ByRinging, ByTaking, Doing, GoesOn, HasToRing, Run, RunStep, HasToTake, ThreadStep, start_run}
use Rattle.dine_waking.proofs.TwoSites.{is_plan}
use Rattle.dine_waking.proofs.laws.manners.a_polite_site_may_begin_one_meal.Goals as goal

-- these two sites, with what their threads are at and their bells
abbrev moment : LocalState → LocalState → Doing → List ℕ → Doing → List ℕ → Run
moment low high lower bell higher rings = record { world = low ∷ high ∷ []; threads = at_work lower bell ∷ at_work higher rings ∷ []; is_open = false }

lower_does : (old new : Run) → ThreadStep (two_sites 1 1) 0 old new → RunStep (two_sites 1 1) old new
lower_does old new step = record { site = 0; is_site = omega arith; step = step }

higher_does : (old new : Run) → ThreadStep (two_sites 1 1) 1 old new → RunStep (two_sites 1 1) old new
higher_does old new step = record { site = 1; is_site = omega arith; step = step }

-- ---- up to the second Request

abbrev asker : LocalState
asker = state_in Hungry (request ∷ []) []

abbrev hungry : Run
hungry = moment (state_in Thinking [] []) (state_in Hungry [] []) GoesOn [] GoesOn []

abbrev both_hungry : Run
both_hungry = moment (state_in Hungry [] []) asker GoesOn (0 ∷ []) GoesOn []

abbrev heard : Run
heard = moment (state_in Hungry [] []) asker (HasToTake 0) [] GoesOn []

abbrev took : Run
took = moment (state_in Hungry [] (request ∷ [])) asker GoesOn [] GoesOn []

abbrev gave : Run
gave = moment (state_in Hungry (fork_given_first ∷ []) (request ∷ [])) asker (HasToRing 0 kind.Fork) [] GoesOn []

abbrev rang : Run
rang = moment (state_in Hungry (fork_given_first ∷ []) (request ∷ [])) asker GoesOn [] GoesOn (0 ∷ [])

abbrev asked : Run
asked = moment (state_in Hungry (fork_given_first ∷ request ∷ []) (request ∷ [])) asker (HasToRing 0 kind.Request) [] GoesOn (0 ∷ [])

first_step : RunStep (two_sites 1 1) (start_run (two_sites 1 1)) hungry
first_step = higher_does (start_run (two_sites 1 1)) hungry (ByActing (record { goes_on = refl; kind = event.Hungry; next = refl; world = refl; as_open = refl; threads = refl }))

asks : RunStep (two_sites 1 1) hungry (unrung_run 0)
asks = higher_does hungry (unrung_run 0) (ByActing (record { goes_on = refl; kind = event.Ask 0; next = refl; world = refl; as_open = refl; threads = refl }))

rings : RunStep (two_sites 1 1) (unrung_run 0) (rung_run 0)
rings = higher_does (unrung_run 0) (rung_run 0) (ByRinging (record { i = 0; kind = kind.Request; anyway = false; rings = refl; world = refl; as_open = refl; threads = refl }))

hungers : RunStep (two_sites 1 1) (rung_run 0) both_hungry
hungers = lower_does (rung_run 0) both_hungry (ByActing (record { goes_on = refl; kind = event.Hungry; next = refl; world = refl; as_open = refl; threads = refl }))

hears : RunStep (two_sites 1 1) both_hungry heard
hears = lower_does both_hungry heard (ByHearing (record { goes_on = refl; turn = refl; i = 0; front = []; rest = []; bell = refl; first = refl; world = refl; as_open = refl; threads = refl }))

takes : RunStep (two_sites 1 1) heard took
takes = lower_does heard took (ByTaking (record { i = 0; takes = refl; world = refl; as_open = refl; threads = refl }))

gives : RunStep (two_sites 1 1) took gave
gives = lower_does took gave (ByActing (record { goes_on = refl; kind = event.Give 0; next = refl; world = refl; as_open = refl; threads = refl }))

rings_for_fork : RunStep (two_sites 1 1) gave rang
rings_for_fork = lower_does gave rang (ByRinging (record { i = 0; kind = kind.Fork; anyway = false; rings = refl; world = refl; as_open = refl; threads = refl }))

asks_back : RunStep (two_sites 1 1) rang asked
asks_back = lower_does rang asked (ByActing (record { goes_on = refl; kind = event.Ask 0; next = refl; world = refl; as_open = refl; threads = refl }))

rings_back : RunStep (two_sites 1 1) asked asked_back_run
rings_back = lower_does asked asked_back_run (ByRinging (record { i = 0; kind = kind.Request; anyway = false; rings = refl; world = refl; as_open = refl; threads = refl }))

-- ---- up to the meal

abbrev politely : (checked : ℕ → Bool) (old new : Run) (one : ThreadStep (two_sites 1 1) 1 old new) → IsInManner (two_sites 1 1) 1 checked old new one true → MannerStep (two_sites 1 1) (λ s. true) checked old new
politely checked old new one polite = record { step = record { site = 1; is_site = omega arith; step = one }; in_manner = polite }

-- the lower site, which asked back
abbrev low : LocalState
low = state_in Hungry (fork_given_first ∷ request ∷ []) (request ∷ [])

abbrev heard_fork : Run
heard_fork = moment low asker GoesOn [] (HasToTake 0) (0 ∷ [])

abbrev took_fork : Run
took_fork = moment low (state_in Hungry (request ∷ []) (fork_given_first ∷ [])) GoesOn [] GoesOn (0 ∷ [])

abbrev heard_request : Run
heard_request = moment low (state_in Hungry (request ∷ []) (fork_given_first ∷ [])) GoesOn [] (HasToTake 0) []

abbrev took_request : Run
took_request = moment low (state_in Hungry (request ∷ []) (fork_given_first ∷ request ∷ [])) GoesOn [] GoesOn []

abbrev hears_fork : (checked : ℕ → Bool) → MannerStep (two_sites 1 1) (λ s. true) checked asked_back_run heard_fork
hears_fork checked = politely checked asked_back_run heard_fork (ByHearing (record { goes_on = refl; turn = refl; i = 0; front = []; rest = 0 ∷ []; bell = refl; first = refl; world = refl; as_open = refl; threads = refl })) tt

abbrev takes_fork : (checked : ℕ → Bool) → MannerStep (two_sites 1 1) (λ s. true) checked heard_fork took_fork
takes_fork checked = politely checked heard_fork took_fork (ByTaking (record { i = 0; takes = refl; world = refl; as_open = refl; threads = refl })) tt

abbrev hears_request : (checked : ℕ → Bool) → MannerStep (two_sites 1 1) (λ s. true) checked took_fork heard_request
hears_request checked = politely checked took_fork heard_request (ByHearing (record { goes_on = refl; turn = refl; i = 0; front = []; rest = []; bell = refl; first = refl; world = refl; as_open = refl; threads = refl })) tt

abbrev takes_request : (checked : ℕ → Bool) → MannerStep (two_sites 1 1) (λ s. true) checked heard_request took_request
takes_request checked = politely checked heard_request took_request (ByTaking (record { i = 0; takes = refl; world = refl; as_open = refl; threads = refl })) tt

abbrev begins : (checked : ℕ → Bool) → MannerStep (two_sites 1 1) (λ s. true) (checked_after (two_sites 1 1) heard_request 1 checked) took_request eats_first_run
begins checked = politely (checked_after (two_sites 1 1) heard_request 1 checked) took_request eats_first_run (ByActing (record { goes_on = refl; kind = event.Begin; next = refl; world = refl; as_open = refl; threads = refl })) (λ is. refl)

pub returns : goal.returns
returns c = record {
  is_plan = is_plan 1 1 (omega arith) (omega arith);
  asked = (
    hungry,
    first_step,
    (unrung_run 0, asks, (rung_run 0, rings, (both_hungry, hungers, (heard, hears, (took, takes, (gave, gives, (rang, rings_for_fork, (asked, asks_back, (asked_back_run, rings_back, refl))))))))),
  );
  has_rung = (refl, refl);
  waits = (refl, refl, refl);
  takes_fork = (heard_fork, (hears_fork (λ s. true)).step, (took_fork, (takes_fork (λ s. true)).step, refl));
  holds_clean_fork = (refl, refl);
  eats = λ checked.
      let after_first : ℕ → Bool = checked_after (two_sites 1 1) asked_back_run 1 checked in
      let after_second : ℕ → Bool = checked_after (two_sites 1 1) heard_fork 1 after_first in
      let after_third : ℕ → Bool = checked_after (two_sites 1 1) took_fork 1 after_second in
      let after_fourth : ℕ → Bool = checked_after (two_sites 1 1) heard_request 1 after_third in (
        checked_after (two_sites 1 1) took_request 1 after_fourth,
        (
          heard_fork,
          hears_fork checked,
          (took_fork, takes_fork after_first, (heard_request, hears_request after_second, (took_request, takes_request after_third, (eats_first_run, begins after_third, (refl, refl))))),
        ),
      );
  meals = (refl, refl);
  not_given = (refl, refl);
}
