-- by the step, and by the manner
use Rattle.std.proofs.Common.{◌≡◌, ◌⊎◌, ℕ, ◌||◌, Bool, true, false, Option, None, Some, inl, inr, refl, sym, ◌∙◌, ap, slice_set, true≢false}
use Rattle.std.proofs.lemmas.Option.{same_Some}
use Rattle.dine_rules.specs.declared.events.EventKind.{EventKind}
use Rattle.dine_rules.specs.declared.events.EventKind.TheVariants as event
use Rattle.dine_rules.specs.Steps.{Step, Give, Ask, Hungry, Begin, End, Quit, Done, Close, Break, Take}
use Rattle.dine_site_thread.specs.Doings.{MayTakeBefore, event_of, is_on_call, own_event}
use Rattle.dine_link.specs.Deeds.{waking}
use Rattle.dine_rules.specs.Local.{neighbour_at}
use Rattle.dine_site_thread.specs.Threads.{acts_alone, ringing_for}
use Rattle.dine_site_thread.specs.declared.manner.Manner.{Manner}
use Rattle.dine_site_thread.specs.declared.manner.Manner.TheVariants.{Eager, Greedy, Patient, OnCall}
use Rattle.dine_waking.specs.Code.{rings_due, wakes_due}
use Rattle.dine_waking.specs.Runs.{MaySleepBefore, after_ringing, doing_after, may_think_on, number_there, takes_letters, thread_after_ring, thread_of}
use Rattle.dine_waking.proofs.Bounded.{reached_keeps}
use Rattle.dine_waking.proofs.Progress.{finds_woken}
use Rattle.dine_waking.proofs.laws.code.turns_are_steps_of_runs.Goals as goal

-- a site may hear a ring if its manner lets it, and it is on call only if the run is open
abbrev may_hear : Bool → Option EventKind → Bool
may_hear is_open next = takes_letters next || may_think_on is_open next

takes : (manner : Manner) (is_open : Bool) (next : Option EventKind) → (is_on_call manner ≡ true → is_open ≡ true) → MayTakeBefore manner next → may_hear is_open next ≡ true
takes Eager is_open next calls none = ap (may_hear is_open) none
takes Greedy is_open next calls may = elim may [
  | inl none ↦ ap (may_hear is_open) none
  | inr begin ↦ ap (may_hear is_open) begin
]
takes (Patient k) is_open next calls may = elim may [
  | inl none ↦ ap (may_hear is_open) none
  | inr begin ↦ ap (may_hear is_open) begin
]
takes (OnCall k) is_open next calls may = elim may [
  | inl none ↦ ap (may_hear is_open) none
  | inr (inl begin) ↦ ap (may_hear is_open) begin
  | inr (inr hungry) ↦ ap (may_hear is_open) hungry ∙ calls refl
]

-- an event that is a turn of its own needs no letter
own : (step : Step) → acts_alone step ≡ true → own_event step ≡ event_of step
own (Give i) alone = refl
own (Ask i) alone = refl
own Hungry alone = refl
own Begin alone = refl
own (End failed) alone = refl
own Quit alone = refl
own (Done i) alone = refl
own (Close i) alone = refl
own (Break i) alone = refl
own (Take i letter) alone = absurd (true≢false (sym alone))

rings : (step : Step) (woken : Bool) (kind : EventKind) → event_of step ≡ Some kind → ringing_for step woken ≡ rings_due woken (doing_after kind)
rings (Give i) woken kind is = ap (λ (k : EventKind). rings_due woken (doing_after k)) (same_Some _ kind is)
rings (Ask i) woken kind is = ap (λ (k : EventKind). rings_due woken (doing_after k)) (same_Some _ kind is)
rings Hungry woken kind is = ap (λ (k : EventKind). rings_due woken (doing_after k)) (same_Some _ kind is)
rings Begin woken kind is = ap (λ (k : EventKind). rings_due woken (doing_after k)) (same_Some _ kind is)
rings (End failed) woken kind is = ap (λ (k : EventKind). rings_due woken (doing_after k)) (same_Some _ kind is)
rings Quit woken kind is = ap (λ (k : EventKind). rings_due woken (doing_after k)) (same_Some _ kind is)
rings (Done i) woken kind is = ap (λ (k : EventKind). rings_due woken (doing_after k)) (same_Some _ kind is)
rings (Close i) woken kind is = ap (λ (k : EventKind). rings_due woken (doing_after k)) (same_Some _ kind is)
rings (Break i) woken kind is = absurd (let e : None ≡ Some kind = is in cc)
rings (Take i letter) woken kind is = ap (λ (k : EventKind). rings_due woken (doing_after k)) (same_Some _ kind is)

-- what the log has behind a ring is what the ring leaves to be done
wake_due : (i : ℕ) (woken : Bool) → waking i woken ≡ wakes_due (after_ringing woken i)
wake_due i true = refl
wake_due i false = refl

-- a site sleeps only if it can do nothing, or thinks on
idle : (manner : Manner) (is_open : Bool) (next : Option EventKind) → (is_on_call manner ≡ true → is_open ≡ true) → (next ≡ None) ⊎ ((is_on_call manner ≡ true) × (next ≡ Some event.Hungry)) → MaySleepBefore is_open next
idle manner is_open next calls may = elim may [
  | inl none ↦ inl none
  | inr on_call ↦ inr (calls on_call.0, on_call.1)
]

pub returns : goal.returns
returns c = record {
  acts = λ manner plan s old memo step woken kind world goes_on turn is after. record { goes_on = goes_on; kind = kind; next = turn.1 ∙ own step turn.0 ∙ is; world = after; as_open = refl; threads = refl };
  rings = rings;
  rung = λ plan s old i kind anyway woken rings is.
      let there = neighbour_at plan s i in (
        record {
          i = i;
          kind = kind;
          anyway = anyway;
          rings = rings;
          world = refl;
          as_open = refl;
          threads = ap (λ (b : Bool). slice_set (slice_set old.threads s (record { doing = after_ringing b i; bell = (thread_of old s).bell })) there (thread_after_ring anyway (number_there plan s i) kind (thread_of old there))) is;
        },
        wake_due i woken,
      );
  wakes = λ plan is_open n old s i is_plan leads is_site wakes.
      record { i = i; wakes = wakes; woken = finds_woken plan is_plan old (reached_keeps plan is_plan is_open n old leads) s is_site i wakes; world = refl; as_open = refl; threads = refl };
  hears = λ manner plan s old memo slept i letter front rest calls goes_on turn bell first. record { goes_on = goes_on; turn = takes manner old.is_open _ calls turn.0; i = i; front = front; rest = rest; bell = bell; first = first; world = refl; as_open = refl; threads = refl };
  recalls = λ manner plan s old memo i letter front rest calls goes_on turn bell first. record { goes_on = goes_on; turn = takes manner old.is_open _ calls turn.0; i = i; front = front; rest = rest; bell = bell; first = first; world = refl; as_open = refl; threads = refl };
  sleeps = λ manner plan s old memo wants calls goes_on may put_off once. (may.by_lists, record { goes_on = goes_on; idle = idle manner old.is_open _ calls may.idle; unfinished = may.unfinished; put_off = put_off; once = once; world = refl; as_open = refl; threads = refl });
}
