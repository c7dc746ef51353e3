-- The tests and steps of a site core, by what it keeps at its places. They are the rules of `Steps` and `Breach` in
-- `dine_rules`. The contracts of the core prove that both agree.
use Rattle.std.specs.Prelude.{◌≡◌, ◌⊎◌, ℕ, ◌+◌, ◌<◌, ◌≤◌, ◌==◌, ◌&&◌, ◌||◌, not, nat_lt, nat_le, Bool, true, false, List, [], ◌∷◌, ◌++◌, length, map, All, slice_index_or, slice_set, Option, Some, None, is_some, option_to_list, if◌then◌else◌}
use Rattle.std.specs.List.{list_all}
use Rattle.dine_token.specs.declared.act.Act.{Act}
use Rattle.dine_token.specs.declared.act.Act.TheVariants.{Add}
use Rattle.dine_token.specs.Log.{is_dirty, location_of, meals_of}
use Rattle.dine_token.specs.Lawful.{due_at}
use Rattle.dine_token.specs.Fork.{SeenFork}
use Rattle.dine_token.specs.Meal.{SeenMeal}
use Rattle.dine_token.specs.Values.{IsAct}
use Rattle.dine_rules.specs.declared.phase.Phase.TheVariants as phase
use Rattle.dine_rules.specs.declared.letters.Letter.{Letter}
use Rattle.dine_rules.specs.declared.letters.Letter.TheVariants as letter
use Rattle.dine_rules.specs.declared.breach.Breach.{Breach}
use Rattle.dine_rules.specs.declared.breach.Breach.TheVariants.{AfterClose, RequestOutOfTurn, ForkOutOfTurn, StrangeFork, DoneOutOfTurn, ClosedEarly}
use Rattle.dine_site.specs.declared.site.places.Place.{Place}
use Rattle.dine_site.specs.declared.site.places.ForkSlot.{ForkSlot}
use Rattle.dine_site.specs.declared.site.places.ForkSlot.TheVariants.{Away, Here, InMeal}
use Rattle.dine_rules.specs.Local.{is_thinking, is_hungry, is_eating}
use Rattle.dine_rules.specs.Breach.{was_sent_to}
use Rattle.dine_site.specs.Core.{SeenCore}

-- a default, for a place that is not there
abbrev pub no_place : Place
no_place = record { edge = 0; ends = (0, 0); due = (0, 0); neighbour_resigns = false; fork = Away; token = None; done_put = false; done_taken = false; close_put = false; close_taken = false }

-- place i of a core
abbrev pub place_at : SeenCore → ℕ → Place
place_at core i = slice_index_or core.places i no_place

-- the site at the other end of the place
abbrev pub neighbour_of : ℕ → Place → ℕ
neighbour_of s place = if place.ends.0 == s then place.ends.1 else place.ends.0

-- how many meals are due to the site at the other end of the place
abbrev pub due_of_neighbour : ℕ → Place → ℕ
due_of_neighbour s place = due_at place.ends place.due (neighbour_of s place)

-- the fork is held, in hand or in the meal
abbrev pub is_held : ForkSlot → Bool
is_held Away = false
is_held (Here fork) = true
is_held (InMeal meals) = true

-- the fork is in hand, and dirty
abbrev pub is_dirty_in_hand : ForkSlot → Bool
is_dirty_in_hand Away = false
is_dirty_in_hand (Here fork) = is_dirty fork.log
is_dirty_in_hand (InMeal meals) = false

-- the fork is in hand, and clean
abbrev pub is_clean_in_hand : ForkSlot → Bool
is_clean_in_hand Away = false
is_clean_in_hand (Here fork) = not (is_dirty fork.log)
is_clean_in_hand (InMeal meals) = false

-- how many meals of an end the fork has; for a fork in the meal, the number for the other end that the core keeps
abbrev pub meals_in : ℕ → ForkSlot → ℕ
meals_in end Away = 0
meals_in end (Here fork) = meals_of end fork.log
meals_in end (InMeal meals) = meals

-- the fork is held, and it is clean, in a meal, or not asked for
abbrev pub is_ready_at : Place → Bool
is_ready_at place = is_held place.fork && (not (is_dirty_in_hand place.fork) || not (is_some place.token))

-- the fork has all meals that are due to the other end; or the other end resigns, and need not eat them all
abbrev pub has_all : ℕ → Place → Bool
has_all s place = place.neighbour_resigns || meals_in (neighbour_of s place) place.fork == due_of_neighbour s place

-- the fork of the place is not held
abbrev pub is_away_at : Place → Bool
is_away_at place = not (is_held place.fork)

-- the fork of the place is in hand, and dirty
abbrev pub is_dirty_at : Place → Bool
is_dirty_at place = is_dirty_in_hand place.fork

-- the token of the place is here
abbrev pub has_token_at : Place → Bool
has_token_at place = is_some place.token

-- Close was not put at the place
abbrev pub is_open_at : Place → Bool
is_open_at place = not place.close_put

-- Done was put at the place
abbrev pub has_put_done_at : Place → Bool
has_put_done_at place = place.done_put

-- Done was taken at the place
abbrev pub has_taken_done_at : Place → Bool
has_taken_done_at place = place.done_taken

-- what Give needs at its place: the fork dirty in hand, the token, and no Close put [paper: release rule]
abbrev pub can_give_at : Place → Bool
can_give_at place = is_dirty_at place && has_token_at place && is_open_at place

-- what Ask needs at its place: the token without the fork, and no Close put [paper: request rule]
abbrev pub can_ask_at : Place → Bool
can_ask_at place = has_token_at place && is_away_at place && is_open_at place

-- what Done needs at its place: neither Done nor Close was put
abbrev pub can_say_done_at : Place → Bool
can_say_done_at place = not (has_put_done_at place) && is_open_at place

-- what Close needs at its place: Done was put and taken, and no Close was put
abbrev pub can_close_at : Place → Bool
can_close_at place = has_put_done_at place && has_taken_done_at place && is_open_at place

-- What each event needs.

-- Give at place i needs that the core does not eat, and what it needs at its place [paper: release rule]
abbrev pub can_give : SeenCore → ℕ → Bool
can_give core i = not (is_eating core.phase) && can_give_at (place_at core i)

-- Ask at place i needs that the core is hungry, and what it needs at its place [paper: request rule]
abbrev pub can_ask : SeenCore → ℕ → Bool
can_ask core i = is_hungry core.phase && can_ask_at (place_at core i)

-- no meal is due to the core any more: it ate all its meals, or it has quit
abbrev pub has_nothing_due : SeenCore → Bool
has_nothing_due core = core.ate == core.due || core.has_quit

-- Quit needs that the core thinks and has to quit
abbrev pub can_quit : SeenCore → Bool
can_quit core = is_thinking core.phase && core.must_quit

-- Hungry needs that the core thinks, has meals left, does not have to quit, and has not quit
abbrev pub can_hunger : SeenCore → Bool
can_hunger core = is_thinking core.phase && nat_lt core.ate core.due && (not core.must_quit && not core.has_quit)

-- what the next meal does to the value of each fork; after the last meal no clause uses it
abbrev pub next_act : SeenCore → Act
next_act core = slice_index_or core.acts core.ate (Add 0)

-- Begin needs that the core is hungry and each place is ready [paper: all forks]
abbrev pub can_begin : SeenCore → Bool
can_begin core = is_hungry core.phase && list_all is_ready_at core.places

-- Done at place i needs that the core thinks and no meal is due to it, and what it needs at its place
abbrev pub can_say_done : SeenCore → ℕ → Bool
can_say_done core i = is_thinking core.phase && has_nothing_due core && can_say_done_at (place_at core i)

-- Close at place i needs what it needs at its place
abbrev pub can_close : SeenCore → ℕ → Bool
can_close core i = can_close_at (place_at core i)

-- the fork has the edge, the ends and the due numbers of the place
abbrev pub is_own_fork : Place → SeenFork → Bool
is_own_fork place fork = fork.edge == place.edge && (fork.ends.0 == place.ends.0 && fork.ends.1 == place.ends.1)
    && (fork.due.0 == place.due.0 && fork.due.1 == place.due.1)

-- why a Request is not allowed at a place of the site, if no Close was taken
abbrev pub breach_of_request : ℕ → Place → ℕ → Option Breach
breach_of_request s place edge =
    if is_some place.token || not (is_held place.fork) || place.done_taken || not (edge == place.edge)
    || nat_le (due_of_neighbour s place) (meals_in (neighbour_of s place) place.fork)
    then Some RequestOutOfTurn else None

-- why a Fork is not allowed at a place of a site that ate this number of meals, if no Close was taken
abbrev pub breach_of_fork : ℕ → ℕ → Place → SeenFork → Option Breach
breach_of_fork s ate place fork =
    if is_held place.fork || is_some place.token then Some ForkOutOfTurn
    else (if not (is_own_fork place fork) || not (was_sent_to place.ends.0 s fork.log) || not (meals_of s fork.log == ate)
    || (place.done_taken && not (place.neighbour_resigns || meals_of (neighbour_of s place) fork.log == due_of_neighbour s place))
    then Some StrangeFork else None)

-- why Done is not allowed at a place, if no Close was taken
abbrev pub breach_of_done : ℕ → Place → Option Breach
breach_of_done s place = if place.done_taken || (is_held place.fork && not (has_all s place)) then Some DoneOutOfTurn else None

-- why Close is not allowed at a place, if no Close was taken
abbrev pub breach_of_close : Place → Option Breach
breach_of_close place = if not place.done_taken || not place.done_put then Some ClosedEarly else None

-- why a letter is not allowed at a place: after Close that, else the first cause that applies
abbrev pub breach_at : ℕ → ℕ → Place → Letter → Option Breach
breach_at s ate place (letter.Fork fork) = if place.close_taken then Some AfterClose else breach_of_fork s ate place fork
breach_at s ate place (letter.Request edge) = if place.close_taken then Some AfterClose else breach_of_request s place edge
breach_at s ate place letter.Done = if place.close_taken then Some AfterClose else breach_of_done s place
breach_at s ate place letter.Close = if place.close_taken then Some AfterClose else breach_of_close place

-- The letter that comes next at the place can be put off until the next meal: the fork is in hand and clean, and
-- neither Done nor Close is allowed. So only a Request is.
abbrev pub can_put_off_at : ℕ → ℕ → Place → Bool
can_put_off_at s ate place = is_clean_in_hand place.fork && (is_some (breach_at s ate place letter.Done) && is_some (breach_at s ate place letter.Close))

-- the same of place i of a core
abbrev pub can_put_off : SeenCore → ℕ → Bool
can_put_off core i = can_put_off_at core.site core.ate (place_at core i)

-- the place after the letter was taken: its fork or its token is here, or Done or Close was taken [paper: arrival]
abbrev pub place_after_take : Letter → Place → Place
place_after_take (letter.Fork fork) place = record place { fork = Here fork }
place_after_take (letter.Request edge) place = record place { token = Some edge }
place_after_take letter.Done place = record place { done_taken = true }
place_after_take letter.Close place = record place { close_taken = true }

-- the fork of a slot, if it is in hand
abbrev pub hand_of : ForkSlot → Option SeenFork
hand_of Away = None
hand_of (Here fork) = Some fork
hand_of (InMeal meals) = None

-- the same as a list of one or none
abbrev pub fork_in_hand : ForkSlot → List SeenFork
fork_in_hand slot = option_to_list (hand_of slot)

-- the forks in hand and the tokens of the places, in order

-- the forks in hand of the places, in order
abbrev pub forks_of : List Place → List SeenFork
forks_of [] = []
forks_of (place ∷ places) = fork_in_hand place.fork ++ forks_of places

-- the tokens of the places, in order
abbrev pub tokens_of : List Place → List ℕ
tokens_of [] = []
tokens_of (place ∷ places) = option_to_list place.token ++ tokens_of places

-- the slot after its fork went into the meal, with the number of meals of that end in the fork
abbrev pub in_meal : ℕ → ForkSlot → ForkSlot
in_meal end slot = InMeal (meals_in end slot)

-- the place after its fork went into the meal, with the number of meals of the other end in the fork
abbrev pub place_in_meal : ℕ → Place → Place
place_in_meal s place = record place { fork = in_meal (neighbour_of s place) place.fork }

-- the place with another fork
abbrev pub with_fork : ForkSlot → Place → Place
with_fork slot place = record place { fork = slot }

-- Done and Close were put and taken at the place
abbrev pub is_over_at : Place → Bool
is_over_at place = place.done_put && place.done_taken && place.close_put && place.close_taken

-- Close was put at the place
abbrev pub is_closed_at : Place → Bool
is_closed_at place = place.close_put

-- Close was put at every place
abbrev pub has_all_closed : SeenCore → Bool
has_all_closed core = list_all is_closed_at core.places

-- the core thinks, no meal is due to it, and Done and Close were put and taken at every place
abbrev pub has_all_said : SeenCore → Bool
has_all_said core = is_thinking core.phase && has_nothing_due core && list_all is_over_at core.places

-- the slot has a fork in hand, and P holds of it
abbrev pub OnHere : (SeenFork → Type 0) → ForkSlot → Type 0
OnHere P Away = ⊥
OnHere P (Here fork) = P fork
OnHere P (InMeal meals) = ⊥

-- the core with another place i
abbrev pub with_place : ℕ → Place → SeenCore → SeenCore
with_place i place core = record core { places = slice_set core.places i place }

-- The fork may be in hand at the place: it has the edge, ends and due numbers of the place, it is at the site by its
-- log, and it has all meals that the site ate.
pub record FitsPlace (s ate : ℕ) (place : Place) (fork : SeenFork) : Type 0 where
  pub edge : fork.edge ≡ place.edge
  pub ends : fork.ends ≡ place.ends
  pub due : fork.due ≡ place.due
  pub here : location_of fork.ends.0 fork.log ≡ s
  pub eaten : meals_of s fork.log ≡ ate

-- the slot fits the phase of the site: in the meal if it eats; else away, or in hand with a fork that fits the place
abbrev pub FitsSlot : ℕ → ℕ → Bool → Place → ForkSlot → Type 0
FitsSlot s ate eating place Away = eating ≡ false
FitsSlot s ate eating place (Here fork) = (eating ≡ false) × FitsPlace s ate place fork
FitsSlot s ate eating place (InMeal meals) = eating ≡ true

-- A place that is right for the core. The site is one of its ends, with the due meals of the core. Its slot fits. Its
-- token is that of the edge. If the fork is held and was asked for, the other end has meals left.
pub record IsSoundPlace (core : SeenCore) (place : Place) : Type 0 where
  pub ordered : place.ends.0 < place.ends.1
  pub end : (core.site ≡ place.ends.0) ⊎ (core.site ≡ place.ends.1)
  pub own_due : due_at place.ends place.due core.site ≡ core.due
  pub slot : FitsSlot core.site core.ate (is_eating core.phase) place place.fork
  pub asked : is_held place.fork ≡ true → is_some place.token ≡ true → meals_in (neighbour_of core.site place) place.fork < due_of_neighbour core.site place
  pub token : (edge : ℕ) → place.token ≡ Some edge → edge ≡ place.edge

-- All places are right. Each meal has an act, of at most 1,000,000. At most the due meals are eaten, and fewer if the
-- site is hungry.
pub record IsSound (core : SeenCore) : Type 0 where
  pub places : All (IsSoundPlace core) core.places
  pub acts : length core.acts ≡ core.due
  pub small_acts : All IsAct core.acts
  pub within : core.ate ≤ core.due
  pub hungry : is_hungry core.phase ≡ true → core.ate < core.due

-- The fork of a meal at place i fits as a fork in hand there would, and has the number of meals of the other end that
-- the core keeps.
pub record FitsMeal (core : SeenCore) (i : ℕ) (fork : SeenFork) : Type 0 where
  pub fits : FitsPlace core.site core.ate (place_at core i) fork
  pub meals : meals_of (neighbour_of core.site (place_at core i)) fork.log ≡ meals_in (neighbour_of core.site (place_at core i)) (place_at core i).fork

-- The meal is that of the core: of its site, with its number, and with the forks of its places, in order.
pub record IsMealOf (core : SeenCore) (meal : SeenMeal) : Type 0 where
  pub site : meal.site ≡ core.site
  pub k : meal.k ≡ core.ate
  pub count : length meal.forks ≡ length core.places
  pub forks : (i : ℕ) (past : SeenFork) → i < length core.places → FitsMeal core i (slice_index_or meal.forks i past)

-- the places with these forks in hand, in order
abbrev pub places_with_forks : List Place → List SeenFork → List Place
places_with_forks [] forks = []
places_with_forks (place ∷ places) [] = place ∷ places
places_with_forks (place ∷ places) (fork ∷ forks) = with_fork (Here fork) place ∷ places_with_forks places forks

-- after Hungry: the core is hungry
abbrev pub after_hungry : SeenCore → SeenCore
after_hungry core = record core { phase = phase.Hungry }

-- after Ask at place i: the token is gone
abbrev pub after_ask : ℕ → SeenCore → SeenCore
after_ask i core = let place = place_at core i in with_place i (record place { token = None }) core

-- after Give at place i: the fork is gone
abbrev pub after_give : ℕ → SeenCore → SeenCore
after_give i core = let place = place_at core i in with_place i (record place { fork = Away }) core

-- after Begin: the core eats, its meal is counted, and its forks are in the meal
abbrev pub after_begin : SeenCore → SeenCore
after_begin core = record core { phase = phase.Eating; ate = core.ate + 1; places = map (place_in_meal core.site) core.places }

-- the core drops the meals that it has left, after one that failed: it resigns, and has meals left
abbrev pub drops_jobs : Bool → SeenCore → Bool
drops_jobs failed core = failed && core.resigns && nat_lt core.ate core.due

-- after End: the core thinks, the forks of the meal are back in hand, and if the core drops the meals that it has left,
-- it has to quit
abbrev pub after_end : Bool → List SeenFork → SeenCore → SeenCore
after_end failed forks core = record core { phase = phase.Thinking; must_quit = drops_jobs failed core; places = places_with_forks core.places forks }

-- after Quit: the core has quit
abbrev pub after_quit : SeenCore → SeenCore
after_quit core = record core { must_quit = false; has_quit = true }

-- after Done at place i: Done was put there
abbrev pub after_done : ℕ → SeenCore → SeenCore
after_done i core = let place = place_at core i in with_place i (record place { done_put = true }) core

-- after Close at place i: Close was put there
abbrev pub after_close : ℕ → SeenCore → SeenCore
after_close i core = let place = place_at core i in with_place i (record place { close_put = true }) core

-- after a letter was taken at place i: it is noted there
abbrev pub after_take : ℕ → Letter → SeenCore → SeenCore
after_take i l core = with_place i (place_after_take l (place_at core i)) core
