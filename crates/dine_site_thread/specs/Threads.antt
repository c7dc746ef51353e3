-- What the thread of a site did, turn by turn: its events, and with them its rings, the neighbours that it woke, the
-- rings that it heard, its checks and its sleeps. Between two turns it has rung for each letter that it put, and woken
-- the neighbour if the ring had to. For each ring that it heard it has taken a letter, unless Close was taken there, or
-- it was no place that rang, or the letter is put off.
use Rattle.std.specs.Prelude.{◌≡◌, ◌⊎◌, ℕ, ◌≤◌, Bool, true, false, List, [], ◌∷◌, ◌++◌, length, map, position, replicate, slice_get, slice_set, Option, Some, None, option_to_list, if◌then◌else◌}
use Rattle.dine_graph.specs.Plan.{SeenPlan}
use Rattle.dine_rules.specs.declared.events.EventKind.{EventKind}
use Rattle.dine_rules.specs.declared.events.EventKind.TheVariants as event
use Rattle.dine_rules.specs.declared.letters.LetterKind.TheVariants as kind
use Rattle.dine_rules.specs.declared.letters.Letter.{Letter}
use Rattle.dine_rules.specs.Letters.{has_close}
use Rattle.dine_rules.specs.Local.{LocalState, start_of, traffic_at}
use Rattle.dine_rules.specs.StepLists.{LeadTo}
use Rattle.dine_rules.specs.Steps.{Step, Give, Ask, Begin, End, Done, Close, Break, Take, after}
use Rattle.dine_set.specs.Marks.{both_marks}
use Rattle.dine_site.specs.CoreWants.{can_put_off_by_lists, wants_by_lists}
use Rattle.dine_site.specs.NextEvent.{next_event}
use Rattle.dine_site.specs.Standing.{has_finished}
use Rattle.dine_link.specs.declared.deed.Deed.{Deed}
use Rattle.dine_link.specs.declared.deed.Deed.TheVariants.{Did, FoundNone}
use Rattle.dine_link.specs.declared.wants.Wants.{Wants}
use Rattle.dine_link.specs.Deeds.{hearing, ringing}
use Rattle.dine_link.specs.Waking.{seen_wants}
use Rattle.dine_site_thread.specs.declared.manner.Manner.{Manner}
use Rattle.dine_site_thread.specs.Doings.{MayTakeBefore, event_of, is_checking, is_on_call, own_event, puts_letters_off, tally_then}
use Rattle.dine_site_thread.specs.Ports.{SeenPort}

-- What the thread remembers between its turns, beside the state of its site: at which places it heard a ring and has
-- put the letter off, as 64 truth values, and how many meals it is to begin without a check of its bell.
pub record Memo : Type 0 where
  pub put_off : List Bool
  pub tally : ℕ

-- nothing yet
abbrev pub no_memo : Memo
no_memo = record { put_off = replicate 64 false; tally = 0 }

-- One turn of a site.
-- - Acts: it did this event, which is no Begin, End or Take. If it put a letter, the site rang for it at once. If the
--   ring had to wake the neighbour, which the truth value says, the site woke it at once behind the ring.
-- - Eats: it ate a meal, whose job failed or not. If a check was due, it checked its bell at once before, and no ring
--   was left.
-- - Takes: it heard a ring for this place, and took this letter there at once. If there are wants, it fell asleep with
--   these at once before.
-- - PassesOver: it heard a ring by the ringer of this number, which is no place, or at whose place it had taken Close,
--   and went on. The wants are as in Takes.
-- - PutsOff: it heard a ring for this place, and put the letter off. The wants are as in Takes.
-- - Recalls: it took this letter at this place, where it had put it off.
-- - Forgets: it had put a letter off by the ringer of this number, which is no place, or at whose place it had taken
--   Close, and went on.
pub data Turn : Type 0 where
  Acts : Step → Bool → Turn
  Eats : Bool → Turn
  Takes : Option Wants → ℕ → Letter → Turn
  PassesOver : Option Wants → ℕ → Turn
  PutsOff : Option Wants → ℕ → Turn
  Recalls : ℕ → Letter → Turn
  Forgets : ℕ → Turn

-- the steps of a turn
abbrev pub steps_of : Turn → List Step
steps_of (Acts step woken) = step ∷ []
steps_of (Eats failed) = Begin ∷ End failed ∷ []
steps_of (Takes slept i letter) = Take i letter ∷ []
steps_of (PassesOver slept i) = []
steps_of (PutsOff slept i) = []
steps_of (Recalls i letter) = Take i letter ∷ []
steps_of (Forgets i) = []

-- what the thread of a site of this manner remembers after a turn
abbrev pub memo_after : Manner → Memo → Turn → Memo
memo_after manner memo (Eats failed) = record memo { tally = tally_then manner memo.tally }
memo_after manner memo (PutsOff slept i) = record memo { put_off = slice_set memo.put_off i true }
memo_after manner memo (Recalls i letter) = record memo { put_off = slice_set memo.put_off i false }
memo_after manner memo (Forgets i) = record memo { put_off = slice_set memo.put_off i false }
memo_after manner memo turn = memo

-- the ring for the letter that a step puts, and behind it that the neighbour was woken, if the ring had to wake it
abbrev pub ringing_for : Step → Bool → List Deed
ringing_for (Give i) woken = ringing i kind.Fork woken
ringing_for (Ask i) woken = ringing i kind.Request woken
ringing_for (Done i) woken = ringing i kind.Done woken
ringing_for (Close i) woken = ringing i kind.Close woken
ringing_for step woken = []

-- the check of a site of this manner before a meal, if it is due: it found no ring
abbrev pub checking : Manner → ℕ → List Deed
checking manner tally = if is_checking manner tally then FoundNone ∷ [] else []

-- what the thread did in a turn, in order
abbrev pub deeds_of : Manner → Memo → Turn → List Deed
deeds_of manner memo (Acts step woken) = map Did (option_to_list (event_of step)) ++ ringing_for step woken
deeds_of manner memo (Eats failed) = checking manner memo.tally ++ Did event.Begin ∷ Did event.End ∷ []
deeds_of manner memo (Takes slept i letter) = hearing slept i ++ Did (event.Take i) ∷ []
deeds_of manner memo (PassesOver slept i) = hearing slept i
deeds_of manner memo (PutsOff slept i) = hearing slept i
deeds_of manner memo (Recalls i letter) = Did (event.Take i) ∷ []
deeds_of manner memo (Forgets i) = []

-- the step is one of those that make a turn of their own
abbrev pub acts_alone : Step → Bool
acts_alone Begin = false
acts_alone (End failed) = false
acts_alone (Break i) = false
acts_alone (Take i letter) = false
acts_alone step = true

-- the first place whose letter is put off and matters now: the fork there is in hand, and dirty
abbrev pub first_that_matters : SeenPlan → ℕ → LocalState → Memo → Option ℕ
first_that_matters plan s state memo = position (λ is_in. is_in) (both_marks memo.put_off (wants_by_lists plan s state).requests)

-- The site may fall asleep with these wants: it can do nothing without a letter, or it is on call and may only grow
-- hungry; it has not finished; none of the letters that it put off matters; and it wants the letters of its lists.
pub record MaySleep (manner : Manner) (plan : SeenPlan) (s : ℕ) (state : LocalState) (memo : Memo) (wants : Wants) : Type 0 where
  pub idle : (next_event plan s state ≡ None) ⊎ ((is_on_call manner ≡ true) × (next_event plan s state ≡ Some event.Hungry))
  pub unfinished : has_finished plan s state ≡ false
  pub none_matters : first_that_matters plan s state memo ≡ None
  pub by_lists : seen_wants wants ≡ Some (wants_by_lists plan s state)

-- it may sleep if it did
abbrev pub MayHaveSlept : Manner → SeenPlan → ℕ → LocalState → Memo → Option Wants → Type 0
MayHaveSlept manner plan s state memo None = Unit {0}
MayHaveSlept manner plan s state memo (Some wants) = MaySleep manner plan s state memo wants

-- a ring by the ringer of this number calls for no letter: it is no place, or Close was taken there
abbrev pub CallsForNone : LocalState → ℕ → Type 0
CallsForNone state i = (length state.traffic ≤ i) ⊎ (has_close (traffic_at state i).taken ≡ true)

-- A site of this manner may do the turn in this state, with this memo. It acts and eats if this is the first event that
-- the rules allow without a letter. It hears a ring if it may take a letter. It puts a letter off only if it can be put
-- off until the next meal, none there is put off yet, and it is not eager.
abbrev pub IsTurn : Manner → SeenPlan → ℕ → LocalState → Memo → Turn → Type 0
IsTurn manner plan s state memo (Acts step woken) = (acts_alone step ≡ true) × (next_event plan s state ≡ own_event step)
IsTurn manner plan s state memo (Eats failed) = (next_event plan s state ≡ Some event.Begin) × (is_checking manner memo.tally ≡ true → first_that_matters plan s state memo ≡ None)
IsTurn manner plan s state memo (Takes slept i letter) = MayTakeBefore manner (next_event plan s state) × MayHaveSlept manner plan s state memo slept
IsTurn manner plan s state memo (PassesOver slept i) = MayTakeBefore manner (next_event plan s state) × MayHaveSlept manner plan s state memo slept × CallsForNone state i
IsTurn manner plan s state memo (PutsOff slept i) = MayTakeBefore manner (next_event plan s state) × MayHaveSlept manner plan s state memo slept
    × (can_put_off_by_lists plan s state i ≡ true) × (slice_get memo.put_off i ≡ Some false) × (puts_letters_off manner ≡ true)
IsTurn manner plan s state memo (Recalls i letter) = MayTakeBefore manner (next_event plan s state) × (first_that_matters plan s state memo ≡ Some i)
IsTurn manner plan s state memo (Forgets i) = (first_that_matters plan s state memo ≡ Some i) × CallsForNone state i

-- the state after these steps
abbrev pub after_all : SeenPlan → ℕ → LocalState → List Step → LocalState
after_all plan s state [] = state
after_all plan s state (step ∷ steps) = after_all plan s (after plan s state step) steps

-- each of the turns may be done when it is
abbrev pub AreTurns : Manner → SeenPlan → ℕ → LocalState → Memo → List Turn → Type 0
AreTurns manner plan s state memo [] = Unit {0}
AreTurns manner plan s state memo (turn ∷ turns) = IsTurn manner plan s state memo turn × AreTurns manner plan s (after_all plan s state (steps_of turn)) (memo_after manner memo turn) turns

-- the steps of all these turns
abbrev pub steps_in : List Turn → List Step
steps_in [] = []
steps_in (turn ∷ turns) = steps_of turn ++ steps_in turns

-- what the thread did in all these turns, from this memo on
abbrev pub deeds_in : Manner → Memo → List Turn → List Deed
deeds_in manner memo [] = []
deeds_in manner memo (turn ∷ turns) = deeds_of manner memo turn ++ deeds_in manner (memo_after manner memo turn) turns

-- what it remembers after all of them
abbrev pub memo_after_all : Manner → Memo → List Turn → Memo
memo_after_all manner memo [] = memo
memo_after_all manner memo (turn ∷ turns) = memo_after_all manner (memo_after manner memo turn) turns

-- From the start the thread did turns, which led its site to this state, and left it this memo. The journal has their
-- events, and the log has all that the thread did in them, in order, and nothing else.
pub record HasWorked (manner : Manner) (plan : SeenPlan) (s : ℕ) (journal : List EventKind) (state : LocalState) (memo : Memo) (deeds : List Deed) : Type 0 where
  pub turns : List Turn
  pub noted : deeds ≡ deeds_in manner no_memo turns
  pub left : memo ≡ memo_after_all manner no_memo turns
  pub events : map event_of (steps_in turns) ≡ map Some journal
  pub led : LeadTo plan s (start_of plan s) (steps_in turns) state
  pub in_turn : AreTurns manner plan s (start_of plan s) no_memo turns

-- the thread worked until its site had finished
abbrev pub HasWorkedToEnd : Manner → SeenPlan → ℕ → List EventKind → List Deed → Type 0
HasWorkedToEnd manner plan s journal deeds = (state : LocalState) × (memo : Memo) × HasWorked manner plan s journal state memo deeds × (has_finished plan s state ≡ true)

-- The thread worked until its site had finished. Its links have exactly the letters that the state put and took.
pub record IsThreadRun {Identity : Type 0} (manner : Manner) (plan : SeenPlan) (s : ℕ) (ports : List (SeenPort Identity)) (journal : List EventKind) (deeds : List Deed) : Type 0 where
  pub state : LocalState
  pub memo : Memo
  pub worked : HasWorked manner plan s journal state memo deeds
  pub finished : has_finished plan s state ≡ true
  pub links : (i : ℕ) (port : SeenPort Identity) → slice_get ports i ≡ Some port → (port.tx.letters ≡ (traffic_at state i).put) × (port.rx.letters ≡ (traffic_at state i).taken)
