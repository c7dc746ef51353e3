-- What a site did: the events of its journal, each in its turn; and after a fault, the Closes with which it broke off.
use Rattle.std.specs.Prelude.{◌≡◌, ◌⊎◌, ℕ, zero, suc, ◌+◌, ◌-◌, ◌^◌, ◌==◌, ◌&&◌, nat_le, min, Bool, true, false, List, [], ◌∷◌, filter, map, Option, Some, None, if◌then◌else◌}
use Rattle.std.specs.Int.{is_power_of_two}
use Rattle.dine_graph.specs.Plan.{SeenPlan}
use Rattle.dine_rules.specs.declared.events.EventKind.{EventKind}
use Rattle.dine_rules.specs.declared.events.EventKind.TheVariants as event
use Rattle.dine_rules.specs.Journals.{IsJournal}
use Rattle.dine_rules.specs.Local.{LocalState, start_of}
use Rattle.dine_rules.specs.StepLists.{LeadTo}
use Rattle.dine_rules.specs.Steps.{Step, Give, Ask, Hungry, Begin, End, Quit, Done, Close, Break, Take, after}
use Rattle.dine_site.specs.NextEvent.{next_event}
use Rattle.dine_site_thread.specs.declared.manner.Manner.{Manner}
use Rattle.dine_site_thread.specs.declared.manner.Manner.TheVariants.{Eager, Greedy, Patient, OnCall}
use Rattle.dine_site_thread.specs.declared.manner.TheConstants.{FIRST_CHECK}

-- the event that a step is; a Break is none
abbrev pub event_of : Step → Option EventKind
event_of (Give i) = Some (event.Give i)
event_of (Ask i) = Some (event.Ask i)
event_of Hungry = Some event.Hungry
event_of Begin = Some event.Begin
event_of (End failed) = Some event.End
event_of Quit = Some event.Quit
event_of (Done i) = Some (event.Done i)
event_of (Close i) = Some (event.Close i)
event_of (Break i) = None
event_of (Take i l) = Some (event.Take i)

-- the event that a step is, if it needs no letter
abbrev pub own_event : Step → Option EventKind
own_event (Take i l) = None
own_event step = event_of step

-- When a site of this manner may take a letter; `next` is the first event that needs no letter and that the rules
-- allow, if there is one. An eager site may take a letter if there is none, and a greedy or a patient one also if it is
-- Begin. A site on call may do so also if it is Hungry: it thinks on.
abbrev pub MayTakeBefore : Manner → Option EventKind → Type 0
MayTakeBefore Eager next = next ≡ None
MayTakeBefore Greedy next = (next ≡ None) ⊎ (next ≡ Some event.Begin)
MayTakeBefore (Patient k) next = (next ≡ None) ⊎ (next ≡ Some event.Begin)
MayTakeBefore (OnCall k) next = (next ≡ None) ⊎ (next ≡ Some event.Begin) ⊎ (next ≡ Some event.Hungry)

-- whether a site of this manner may think on although it has jobs left
abbrev pub is_on_call : Manner → Bool
is_on_call (OnCall k) = true
is_on_call manner = false

-- whether a site of this manner puts letters off
abbrev pub puts_letters_off : Manner → Bool
puts_letters_off Eager = false
puts_letters_off manner = true

-- The step is in its turn: it is the event `next`, or it takes a letter and a site of this manner may take one at this
-- `next`.
abbrev pub IsInTurn : Manner → Option EventKind → Step → Type 0
IsInTurn manner next (Take i l) = MayTakeBefore manner next
IsInTurn manner next step = next ≡ own_event step

-- Each of the steps is done in its turn. The events that need no letter have a fixed order: the step is the first of
-- them that the rules allow, or it takes a letter when a site of this manner may.
abbrev pub AreInTurn : Manner → SeenPlan → ℕ → LocalState → List Step → Type 0
AreInTurn manner plan s state [] = Unit {0}
AreInTurn manner plan s state (step ∷ steps) = IsInTurn manner (next_event plan s state) step × AreInTurn manner plan s (after plan s state step) steps

-- the event is Begin
abbrev pub is_begin : EventKind → Bool
is_begin event.Begin = true
is_begin kind = false

-- at which positions a meal begins among these events, if this number of events went before
abbrev pub begins_from : ℕ → List EventKind → List ℕ
begins_from n [] = []
begins_from n (kind ∷ kinds) = if is_begin kind then n ∷ begins_from (n + 1) kinds else begins_from (n + 1) kinds

-- the event is Close at place i
abbrev pub is_close_at : ℕ → EventKind → Bool
is_close_at i (event.Close j) = j == i
is_close_at i kind = false

-- Whether a site of this manner checks its bell before its next meal, by a tally that begins with 0. That of a patient
-- site says how many meals it is to begin without a check, and that of a greedy one how many it has begun.
abbrev pub is_checking : Manner → ℕ → Bool
is_checking Eager tally = false
is_checking Greedy tally = nat_le FIRST_CHECK tally && is_power_of_two tally
is_checking (Patient k) tally = tally == 0
is_checking (OnCall k) tally = tally == 0

-- the tally after this meal; that of a greedy site has 32 bits
abbrev pub tally_then : Manner → ℕ → ℕ
tally_then Eager tally = 0
tally_then Greedy tally = min (2 ^ 32 - 1) (tally + 1)
tally_then (Patient k) zero = k - 1
tally_then (Patient k) (suc tally) = tally
tally_then (OnCall k) zero = k - 1
tally_then (OnCall k) (suc tally) = tally

-- of these positions of meals, those before which a site of this manner checks its bell, from this tally on
abbrev pub checks_from : Manner → ℕ → List ℕ → List ℕ
checks_from manner tally [] = []
checks_from manner tally (n ∷ ns) = if is_checking manner tally then n ∷ checks_from manner (tally_then manner tally) ns else checks_from manner (tally_then manner tally) ns

-- the tally after these meals
abbrev pub tally_after : Manner → ℕ → List ℕ → ℕ
tally_after manner tally [] = tally
tally_after manner tally (n ∷ ns) = tally_after manner (tally_then manner tally) ns

-- The record of empty checks that goes with this manner and this journal. An eager site checks nothing. A greedy one
-- checks before some of its meals, fewer and fewer of them. A site of patience k checks before its first meal and then
-- before one meal in k, and so does one that is on call. Each check is noted by the number of events before it.
abbrev pub empty_checks_of : Manner → List EventKind → List ℕ
empty_checks_of manner journal = checks_from manner 0 (begins_from 0 journal)

-- something comes to the site in the step: a letter in a Take, an outcome in an End, a fault before a Break
abbrev pub is_brought : Step → Bool
is_brought (Take i l) = true
is_brought (End failed) = true
is_brought (Break i) = true
is_brought step = false

-- the steps in which something comes to the site, in order: the letters that it takes, and how its meals turn out
abbrev pub brought_in : List Step → List Step
brought_in steps = filter is_brought steps

-- From its initial state the site did the events of its journal, each in its turn for a site of this manner
-- (`AreInTurn`), and they led it to this state.
pub record HasActed (manner : Manner) (plan : SeenPlan) (s : ℕ) (journal : List EventKind) (state : LocalState) : Type 0 where
  pub by_journal : IsJournal plan s journal state
  pub steps : List Step
  pub events : map event_of steps ≡ map Some journal
  pub led : LeadTo plan s (start_of plan s) steps state
  pub in_turn : AreInTurn manner plan s (start_of plan s) steps

-- The site did the events of its journal. Then it put Close at places where it had put none, and did nothing else.
pub record HasDone (manner : Manner) (plan : SeenPlan) (s : ℕ) (journal : List EventKind) (state : LocalState) : Type 0 where
  pub before : LocalState
  pub acted : HasActed manner plan s journal before
  pub places : List ℕ
  pub broke_off : LeadTo plan s before (map Break places) state
