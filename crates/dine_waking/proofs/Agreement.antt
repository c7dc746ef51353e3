-- How the thread of a site and its door go together in an open run.
use Rattle.std.proofs.Common.{◌≡◌, ℕ, ◌||◌, Bool, true, false, if◌then◌else◌, Some, refl, sym, ◌∙◌, ap, subst}
use Rattle.std.proofs.lemmas.Bool.{true≢false}
use Rattle.dine_graph.specs.Plan.{SeenPlan}
use Rattle.dine_rules.specs.declared.events.EventKind.{EventKind}
use Rattle.dine_rules.specs.declared.events.EventKind.TheVariants as event
use Rattle.dine_rules.specs.declared.letters.LetterKind.{LetterKind}
use Rattle.dine_rules.specs.Local.{LocalState}
use Rattle.dine_rules.specs.Wants.{SeenWants, is_wanted, still_wanted}
use Rattle.dine_site.specs.NextEvent.{next_event}
use Rattle.dine_waking.specs.Doors.{Door, DoorStep, Thinker, is_called, woken}
use Rattle.dine_waking.specs.Doors as at_door
use Rattle.dine_waking.specs.OpenRuns.{IsAsking, IsFree, IsHearing}
use Rattle.dine_waking.specs.Runs.{Doing, GoesOn, HasToRing, HasToTake, HasToWake, IsToBeWoken, Sleeps, after_ringing, doing_after, doing_rung}

-- the thread sleeps, and may have to be woken
abbrev pub is_off : Doing → Bool
is_off (Sleeps wants) = true
is_off (IsToBeWoken i) = true
is_off doing = false

-- the thread sleeps, and nobody has to wake it
abbrev pub is_asleep : Doing → Bool
is_asleep (Sleeps wants) = true
is_asleep doing = false

-- Whose thinker sleeps, has a thread that does. Whose thinker thinks, goes on and is to grow hungry. And who sleeps
-- although it is to grow hungry, sleeps at its door.
pub record Agrees (plan : SeenPlan) (s : ℕ) (doing : Doing) (state : LocalState) (thinker : Thinker) : Type 0 where
  pub asleep : thinker ≡ at_door.Sleeps → is_off doing ≡ true
  pub thinks : thinker ≡ at_door.Thinks → doing ≡ GoesOn
  pub thinking : thinker ≡ at_door.Thinks → next_event plan s state ≡ Some event.Hungry
  pub rests : (wants : SeenWants) → doing ≡ Sleeps wants → next_event plan s state ≡ Some event.Hungry → thinker ≡ at_door.Sleeps

pub not_asleep : (doing : Doing) → is_asleep doing ≡ false → (wants : SeenWants) → doing ≡ Sleeps wants → ⊥
not_asleep doing off wants is = true≢false (sym (ap is_asleep is) ∙ off)

pub busy_agrees : (plan : SeenPlan) (s : ℕ) (doing : Doing) (state : LocalState) (thinker : Thinker) → thinker ≡ at_door.Busy → is_asleep doing ≡ false → Agrees plan s doing state thinker
busy_agrees plan s doing state now busy off = record {
  asleep = λ is. absurd (let e : at_door.Busy ≡ at_door.Sleeps = sym busy ∙ is in cc);
  thinks = λ is. absurd (let e : at_door.Busy ≡ at_door.Thinks = sym busy ∙ is in cc);
  thinking = λ is. absurd (let e : at_door.Busy ≡ at_door.Thinks = sym busy ∙ is in cc);
  rests = λ wants is next. absurd (not_asleep doing off wants is);
}

-- a thread that has something else to do has a thinker that is busy
pub busy_if : (plan : SeenPlan) (s : ℕ) (doing : Doing) (state : LocalState) (thinker : Thinker) → is_off doing ≡ false → (doing ≡ GoesOn → ⊥) → Agrees plan s doing state thinker → thinker ≡ at_door.Busy
busy_if plan s doing state at_door.Busy on moving agrees = refl
busy_if plan s doing state at_door.Thinks on moving agrees = absurd (moving (agrees.thinks refl))
busy_if plan s doing state at_door.Sleeps on moving agrees = absurd (true≢false (sym (agrees.asleep refl) ∙ on))

-- so has one that goes on and is not to grow hungry
pub busy_on : (plan : SeenPlan) (s : ℕ) (doing : Doing) (state : LocalState) (thinker : Thinker) → doing ≡ GoesOn → (next_event plan s state ≡ Some event.Hungry → ⊥) → Agrees plan s doing state thinker → thinker ≡ at_door.Busy
busy_on plan s doing state at_door.Busy on other agrees = refl
busy_on plan s doing state at_door.Thinks on other agrees = absurd (other (agrees.thinking refl))
busy_on plan s doing state at_door.Sleeps on other agrees = absurd (true≢false (sym (agrees.asleep refl) ∙ ap is_off on))

-- ---- what a thread is at after a step

pub off_after : (kind : EventKind) → is_asleep (doing_after kind) ≡ false
off_after (event.Take i) = refl
off_after (event.Give i) = refl
off_after event.End = refl
off_after event.Begin = refl
off_after event.Quit = refl
off_after event.Hungry = refl
off_after (event.Ask i) = refl
off_after (event.Done i) = refl
off_after (event.Close i) = refl

pub off_ringing : (b : Bool) (i : ℕ) → is_asleep (after_ringing b i) ≡ false
off_ringing true i = refl
off_ringing false i = refl

-- who is rung sleeps on, is to be woken, or does what it did
module _ (plan : SeenPlan) (s : ℕ) (state : LocalState) (thinker : Thinker) where
  sleeper_rung : (b : Bool) (i : ℕ) (wants less : SeenWants) → Agrees plan s (Sleeps wants) state thinker → Agrees plan s (if b then IsToBeWoken i else Sleeps less) state thinker
  sleeper_rung true i wants less agrees = record {
    asleep = λ is. refl;
    thinks = λ is. absurd (let e : Sleeps wants ≡ GoesOn = agrees.thinks is in cc);
    thinking = agrees.thinking;
    rests = λ w is next. absurd (let e : IsToBeWoken i ≡ Sleeps w = is in cc);
  }
  sleeper_rung false i wants less agrees = record {
    asleep = λ is. refl;
    thinks = λ is. absurd (let e : Sleeps wants ≡ GoesOn = agrees.thinks is in cc);
    thinking = agrees.thinking;
    rests = λ w is next. agrees.rests wants refl next;
  }

  pub rung_agrees : (anyway : Bool) (i : ℕ) (kind : LetterKind) (doing : Doing) → Agrees plan s doing state thinker → Agrees plan s (doing_rung anyway i kind doing) state thinker
  rung_agrees anyway i kind GoesOn agrees = agrees
  rung_agrees anyway i kind (HasToRing j k) agrees = agrees
  rung_agrees anyway i kind (HasToWake j) agrees = agrees
  rung_agrees anyway i kind (HasToTake j) agrees = agrees
  rung_agrees anyway i kind (IsToBeWoken j) agrees = agrees
  rung_agrees anyway i kind (Sleeps wants) agrees = sleeper_rung (is_wanted wants i kind || anyway) i wants (still_wanted wants kind) agrees

-- ---- what a thinker is at after a step at the door

-- the doorbell is rung, and the thread is no sleeper
pub woken_agrees : (plan : SeenPlan) (s : ℕ) (doing : Doing) (state : LocalState) (thinker : Thinker) → is_asleep doing ≡ false → Agrees plan s doing state thinker → Agrees plan s doing state (woken thinker)
woken_agrees plan s doing state at_door.Busy off agrees = agrees
woken_agrees plan s doing state at_door.Thinks off agrees = agrees
woken_agrees plan s doing state at_door.Sleeps off agrees = busy_agrees plan s doing state at_door.Busy refl off

-- the doorbell is rung, and wakes the thread
pub woken_busy : (plan : SeenPlan) (s : ℕ) (wants : SeenWants) (state : LocalState) (thinker : Thinker) → Agrees plan s (Sleeps wants) state thinker → woken thinker ≡ at_door.Busy
woken_busy plan s wants state at_door.Busy agrees = refl
woken_busy plan s wants state at_door.Thinks agrees = absurd (let e : Sleeps wants ≡ GoesOn = agrees.thinks refl in cc)
woken_busy plan s wants state at_door.Sleeps agrees = refl

-- a site that is to grow hungry has asked
asked : (plan : SeenPlan) (s : ℕ) (state : LocalState) (door : Door) (b : Bool) → door.thinker ≡ at_door.Busy → next_event plan s state ≡ Some event.Hungry
    → Agrees plan s GoesOn state (if b then record door { waits = false } else record door { waits = true; thinker = at_door.Thinks }).thinker
asked plan s state door true busy next = busy_agrees plan s GoesOn state door.thinker busy refl
asked plan s state door false busy next = record {
  asleep = λ is. absurd (let e : at_door.Thinks ≡ at_door.Sleeps = is in cc);
  thinks = λ is. refl;
  thinking = λ is. next;
  rests = λ wants is next. absurd (let e : GoesOn ≡ Sleeps wants = is in cc);
}

pub asking_agrees : (plan : SeenPlan) (s : ℕ) (state : LocalState) (old new : Door) (step : DoorStep old new) → IsAsking old new step → next_event plan s state ≡ Some event.Hungry → Agrees plan s GoesOn state new.thinker
asking_agrees plan s state old new (at_door.Asks busy is) asks next = subst (λ (door : Door). Agrees plan s GoesOn state door.thinker) (sym is) (asked plan s state old (is_called old) busy next)
asking_agrees plan s state old new (at_door.Submits is_open is) asks next = absurd asks
asking_agrees plan s state old new (at_door.Closes is) asks next = absurd asks
asking_agrees plan s state old new (at_door.Ends is) asks next = absurd asks
asking_agrees plan s state old new (at_door.Rings rest owed is) asks next = absurd asks
asking_agrees plan s state old new (at_door.Begins rest busy tasks is) asks next = absurd asks
asking_agrees plan s state old new (at_door.Hears rest rings is) asks next = absurd asks
asking_agrees plan s state old new (at_door.GoesOn is) asks next = absurd asks
asking_agrees plan s state old new (at_door.FallsAsleep thinks none is) asks next = absurd asks

pub hearing_busy : (old new : Door) (step : DoorStep old new) → IsHearing old new step → new.thinker ≡ at_door.Busy
hearing_busy old new (at_door.Hears rest rings is) hears = ap (λ (door : Door). door.thinker) is
hearing_busy old new (at_door.Submits is_open is) hears = absurd hears
hearing_busy old new (at_door.Closes is) hears = absurd hears
hearing_busy old new (at_door.Ends is) hears = absurd hears
hearing_busy old new (at_door.Rings rest owed is) hears = absurd hears
hearing_busy old new (at_door.Begins rest busy tasks is) hears = absurd hears
hearing_busy old new (at_door.Asks busy is) hears = absurd hears
hearing_busy old new (at_door.GoesOn is) hears = absurd hears
hearing_busy old new (at_door.FallsAsleep thinks none is) hears = absurd hears

pub free_thinker : (old new : Door) (step : DoorStep old new) → IsFree old new step → new.thinker ≡ old.thinker
free_thinker old new (at_door.Submits is_open is) free = ap (λ (door : Door). door.thinker) is
free_thinker old new (at_door.Closes is) free = ap (λ (door : Door). door.thinker) is
free_thinker old new (at_door.Ends is) free = ap (λ (door : Door). door.thinker) is
free_thinker old new (at_door.Begins rest busy tasks is) free = ap (λ (door : Door). door.thinker) is
free_thinker old new (at_door.Rings rest owed is) free = absurd free
free_thinker old new (at_door.Hears rest rings is) free = absurd free
free_thinker old new (at_door.Asks busy is) free = absurd free
free_thinker old new (at_door.GoesOn is) free = absurd free
free_thinker old new (at_door.FallsAsleep thinks none is) free = absurd free
