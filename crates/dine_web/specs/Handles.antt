-- What a handle holds, and what the calls do with it.
use Rattle.std.specs.Prelude.{◌≡◌, ℕ, List, [], Option, Some, None, Result, Ok, Err, slice_get}
use Rattle.dine_rules.specs.World.{enabled_events}
use Rattle.dine_states.specs.Schedules.{GoesOn, IsScheduleOf, run_of}
use Rattle.dine_web.specs.declared.open_schedule.OpenSchedule.{OpenSchedule}
use Rattle.dine_web.specs.declared.refusals.Refusal.{Refusal}
use Rattle.dine_web.specs.declared.refusals.Refusal.TheVariants.{OutOfMemory, Closed, OpenAlready, NoEvent}
use Rattle.dine_web.specs.Refusals.{IsAccepted, IsRefused, Says}

-- The plan is that of the bytes, and its schedule has no event.
pub record IsOpened (bytes : List ℕ) (kept : OpenSchedule) : Type 0 where
  pub plan : IsAccepted bytes kept.plan
  pub schedule : IsScheduleOf kept.plan kept.schedule
  pub done : kept.schedule.done ≡ []

-- The plan stays, and its schedule goes on by this choice.
pub record KeepsOn (choice : ℕ) (old new : OpenSchedule) : Type 0 where
  pub plan : new.plan ≡ old.plan
  pub schedule : IsScheduleOf old.plan old.schedule → GoesOn old.plan choice old.schedule new.schedule

-- Nothing changes, and it is said why: no enabled event has this number, or memory ran out.
abbrev pub CanNotChoose : ℕ → Refusal → OpenSchedule → OpenSchedule → Type 0
CanNotChoose choice NoEvent old new = (new ≡ old) × (IsScheduleOf old.plan old.schedule
    → slice_get (enabled_events old.plan (run_of old.plan old.schedule.done).world) choice ≡ None)
CanNotChoose choice OutOfMemory old new = new ≡ old
CanNotChoose choice _ old new = ⊥

-- The plan stays, and its schedule has no event.
pub record IsBack (old new : OpenSchedule) : Type 0 where
  pub plan : new.plan ≡ old.plan
  pub schedule : IsScheduleOf new.plan new.schedule
  pub done : new.schedule.done ≡ []

-- Nothing changes, since memory ran out.
abbrev pub CanNotRestart : Refusal → OpenSchedule → OpenSchedule → Type 0
CanNotRestart refusal old new = (new ≡ old) × (refusal ≡ OutOfMemory)

-- What a handle holds, and the answer, after it was opened: it was closed, and holds the plan; or it is as it was.
abbrev pub Opens : List ℕ → Result (Unit {0}) Refusal → Option OpenSchedule → Option OpenSchedule → Type 0
Opens bytes (Ok _) None (Some new) = IsOpened bytes new
Opens bytes (Ok _) None None = ⊥
Opens bytes (Ok _) (Some old) new = ⊥
Opens bytes (Err refusal) None new = (new ≡ None) × IsRefused bytes refusal
Opens bytes (Err refusal) (Some old) new = (new ≡ Some old) × (refusal ≡ OpenAlready)

-- The same for a choice. A closed handle says so and stays closed.
abbrev pub ChoosesIn : ℕ → Result (Unit {0}) Refusal → Option OpenSchedule → Option OpenSchedule → Type 0
ChoosesIn choice answer None new = (new ≡ None) × (answer ≡ Err Closed)
ChoosesIn choice answer (Some old) None = ⊥
ChoosesIn choice (Ok _) (Some old) (Some new) = KeepsOn choice old new
ChoosesIn choice (Err refusal) (Some old) (Some new) = CanNotChoose choice refusal old new

-- The same for going back to the start.
abbrev pub RestartsIn : Result (Unit {0}) Refusal → Option OpenSchedule → Option OpenSchedule → Type 0
RestartsIn answer None new = (new ≡ None) × (answer ≡ Err Closed)
RestartsIn answer (Some old) None = ⊥
RestartsIn (Ok _) (Some old) (Some new) = IsBack old new
RestartsIn (Err refusal) (Some old) (Some new) = CanNotRestart refusal old new

-- the answer of a handle that is closed, and else what P says of the answer
abbrev pub IfClosed : Option OpenSchedule → (List ℕ → Type 0) → List ℕ → Type 0
IfClosed None P text = Says Closed text
IfClosed (Some kept) P text = P text
