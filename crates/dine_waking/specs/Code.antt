-- What the code of a bell notes, in the words of a run.
use Rattle.std.specs.Prelude.{◌≡◌, ℕ, nat_le, ◌||◌, Bool, true, false, List, [], ◌∷◌, slice_set, Some}
use Rattle.dine_link.specs.declared.sleeper.SleepState.{SleepState}
use Rattle.dine_link.specs.Waking.{seen_wants}
use Rattle.dine_link.specs.declared.deed.Deed.{Deed}
use Rattle.dine_link.specs.declared.deed.Deed.TheVariants.{Woke}
use Rattle.dine_link.specs.Deeds.{ringing}
use Rattle.dine_waking.specs.Runs.{Doing, HasToRing, HasToWake, Run, Sleeps, Thread}

-- A bell notes in this state what the thread of its site is at, as far as a ring needs to know: whether it sleeps, and
-- then what it waits for.
abbrev pub IsNotedAs : Doing → SleepState → Type 0
IsNotedAs (Sleeps wants) state = (state.asleep ≡ true) × (seen_wants state.wants ≡ Some wants)
IsNotedAs doing state = state.asleep ≡ false

-- A ring by the ringer of that number wakes a bell in this state by any letter: the number is 64 or more, or the ring
-- fills the bell.
abbrev pub wakes_anyway : ℕ → SleepState → Bool
wakes_anyway number state = nat_le 64 number || nat_le state.room 1

-- the ring that a thread has yet to do, as its log has it, and behind it the wake, if the ring has to wake another
-- thread
abbrev pub rings_due : Bool → Doing → List Deed
rings_due woken (HasToRing i kind) = ringing i kind woken
rings_due woken doing = []

-- the wake that a thread has yet to do, as its log has it
abbrev pub wakes_due : Doing → List Deed
wakes_due (HasToWake i) = Woke i ∷ []
wakes_due doing = []

-- the run in which this is the thread of the site
abbrev pub with_thread : ℕ → Thread → Run → Run
with_thread s thread run = record run { threads = slice_set run.threads s thread }
