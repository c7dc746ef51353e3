-- A site that is called does not sleep, unless somebody has yet to ring for it.
use Rattle.std.proofs.Common.{◌≡◌, ◌⊎◌, ℕ, zero, suc, ◌+◌, ◌<◌, nat_lt, Bool, true, false, if◌then◌else◌, List, refl, sym, ◌∙◌, ap, subst, inl, inr, arith}
use Rattle.std.proofs.lemmas.Bool.{true≢false, or_left}
use Rattle.dine_graph.specs.Plan.{SeenPlan, IsPlan, site_count}
use Rattle.dine_rules.specs.declared.events.Event.{Event}
use Rattle.dine_rules.specs.World.{IsComplete, Reaches, WorldState, state_of}
use Rattle.dine_site.specs.Standing.{has_finished}
use Rattle.dine_waking.specs.Doors.{AllRestAtDoors, Busy, Door, DoorStep, IsReachedDoor, LeadsByDoorSteps, RestsAtDoor, Sleeps, Thinker, Thinks, first_door, is_called, is_ended, owed_after, woken, Submits, Closes, Ends, Rings, Begins, Asks, Hears, GoesOn, FallsAsleep}
use Rattle.dine_waking.specs.Sleeping.{SleepsWell}
use Rattle.dine_waking.proofs.Asleep.{all_asleep_is_complete}

-- the thread thinks or sleeps
abbrev is_off : Thinker → Bool
is_off Busy = false
is_off Thinks = true
is_off Sleeps = true

abbrev is_asleep : Thinker → Bool
is_asleep Sleeps = true
is_asleep Busy = false
is_asleep Thinks = false

-- A thread that thinks or sleeps waits and is not called, or a ring for it is owed, or one is left. Over a ring it does
-- not sleep.
record IsSound (door : Door) : Type 0 where
  off : is_off door.thinker ≡ true → ((door.waits ≡ true) × (is_called door ≡ false)) ⊎ (0 < door.owed + door.rings)
  silent : is_asleep door.thinker ≡ true → door.rings ≡ 0

sound_first : IsSound first_door
sound_first = record { off = λ h. absurd (true≢false (sym h)); silent = λ h. refl }

-- somebody calls a site, and owes it a ring if it waits
called : (waits : Bool) (door : Door) → door.waits ≡ waits → IsSound door → is_off door.thinker ≡ true → 0 < owed_after door + door.rings
called true door is sound off = let e : owed_after door ≡ door.owed + 1 = ap (λ (b : Bool). door.owed + (if b then 1 else 0)) is in omega (arith, e)
called false door is sound off = elim (sound.off off) [
  | inl w ↦ absurd (true≢false (sym w.0 ∙ is))
  | inr some ↦ (let e : owed_after door ≡ door.owed + 0 = ap (λ (b : Bool). door.owed + (if b then 1 else 0)) is in omega (arith, e, some))
]

asked : (door : Door) (called : Bool) → is_called door ≡ called → door.thinker ≡ Busy → IsSound (if called then record door { waits = false } else record door { waits = true; thinker = Thinks })
asked door true is busy = record {
  off = λ h. absurd (true≢false (sym h ∙ ap is_off busy));
  silent = λ h. absurd (true≢false (sym h ∙ ap is_asleep busy));
}
asked door false is busy = record { off = λ h. inl (refl, is); silent = λ h. absurd (true≢false (sym h)) }

not_asleep_woken : (thinker : Thinker) → is_asleep (woken thinker) ≡ false
not_asleep_woken Busy = refl
not_asleep_woken Thinks = refl
not_asleep_woken Sleeps = refl

sound_step : (old new : Door) → DoorStep old new → IsSound old → IsSound new
sound_step old new (Submits is_open is) sound = subst IsSound (sym is) (record {
  off = λ h. inr (called old.waits old refl sound h);
  silent = sound.silent;
})
sound_step old new (Closes is) sound = subst IsSound (sym is) (record {
  off = λ h. inr (called old.waits old refl sound h);
  silent = sound.silent;
})
sound_step old new (Ends is) sound = subst IsSound (sym is) (record {
  off = λ h. inr (called old.waits old refl sound h);
  silent = sound.silent;
})
sound_step old new (Rings rest owed is) sound = subst IsSound (sym is) (record {
  off = λ h. inr (omega arith);
  silent = λ h. absurd (true≢false (sym h ∙ not_asleep_woken old.thinker));
})
sound_step old new (Begins rest busy tasks is) sound = subst IsSound (sym is) (record {
  off = λ h. absurd (true≢false (sym h ∙ ap is_off busy));
  silent = λ h. absurd (true≢false (sym h ∙ ap is_asleep busy));
})
sound_step old new (Asks busy is) sound = subst IsSound (sym is) (asked old (is_called old) refl busy)
sound_step old new (Hears rest rings is) sound = subst IsSound (sym is) (record { off = λ h. absurd (true≢false (sym h)); silent = λ h. absurd (true≢false (sym h)) })
sound_step old new (GoesOn is) sound = subst IsSound (sym is) (record { off = λ h. absurd (true≢false (sym h)); silent = λ h. absurd (true≢false (sym h)) })
sound_step old new (FallsAsleep thinks none is) sound = subst IsSound (sym is) (record { off = λ h. sound.off (ap is_off thinks); silent = λ h. none })

sound_steps : (n : ℕ) (old new : Door) → LeadsByDoorSteps n old new → IsSound old → IsSound new
sound_steps zero old new same sound = subst IsSound same sound
sound_steps (suc n) old new steps sound = sound_steps n steps.0 new steps.2 (sound_step old steps.0 steps.1 sound)

pub rung_for : (door : Door) → IsReachedDoor door → door.thinker ≡ Sleeps → is_called door ≡ true → 0 < door.owed
rung_for door reached sleeps is_called =
    let sound = sound_steps reached.0 first_door door reached.1 sound_first in
    elim (sound.off (ap is_off sleeps)) [
      | inl w ↦ absurd (true≢false (sym is_called ∙ w.1))
      | inr some ↦ omega (arith, some, sound.silent (ap is_asleep sleeps))
    ]

-- ---- all doors are closed

pub closed_doors_end : (plan : SeenPlan) (events : List Event) (world : WorldState) (doors : ℕ → Door) → IsPlan plan → Reaches plan events world → AllRestAtDoors plan world doors
    → ((s : ℕ) → s < site_count plan → IsReachedDoor (doors s)) → ((s : ℕ) → s < site_count plan → is_ended (doors s) ≡ true) → ((s : ℕ) → s < site_count plan → (doors s).owed ≡ 0)
    → IsComplete plan world
closed_doors_end plan events world doors is_plan reached all reached_doors closed owes = all_asleep_is_complete plan events world is_plan reached asleep
  where
    sleeps_well : (s : ℕ) → s < site_count plan → RestsAtDoor plan world (doors s) s → SleepsWell plan world s
    sleeps_well s is_site at_door = elim at_door.rests.idle [
      | inl none ↦ record { idle = none; coming = at_door.rests.coming; last = at_door.rests.last; places = at_door.rests.places; in_links = at_door.rests.in_links; unwanted = at_door.rests.unwanted }
      | inr hungry ↦
          let called : is_called (doors s) ≡ true = or_left (is_ended (doors s)) (nat_lt 0 (doors s).tasks) (closed s is_site) in
          absurd (omega (arith, owes s is_site, rung_for (doors s) (reached_doors s is_site) (at_door.sleeps hungry) called))
    ]

    asleep : (s : ℕ) → s < site_count plan → (has_finished plan s (state_of world s) ≡ true) ⊎ SleepsWell plan world s
    asleep s is_site = elim (all s is_site) [
      | inl finished ↦ inl finished
      | inr at_door ↦ inr (sleeps_well s is_site at_door)
    ]
