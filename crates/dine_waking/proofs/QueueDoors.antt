-- The steps of a queue are steps of its door.
use Rattle.std.proofs.Common.{◌≡◌, ℕ, suc, ◌+◌, ◌||◌, nat_lt, not, Bool, true, false, cond, if◌then◌else◌, refl, sym, ◌∙◌, ap}
use Rattle.std.proofs.lemmas.Bool.{cond-false, cond-true}
use Rattle.dine_jobs.specs.Queues.{IsAnswered, IsClosed, IsEnded, IsPut, IsTaken, SeenQueue}
use Rattle.dine_waking.specs.Doors.{Asks, Begins, Busy, Closes, Door, DoorStep, Ends, Submits, Thinker, Thinks, is_called}
use Rattle.dine_waking.specs.Queues.{IsDoorOf, with_answer, with_queue, with_ring}

-- a door of these parts
abbrev made : ℕ → Bool → Bool → Bool → ℕ → ℕ → Thinker → Door
made tasks closed over waits owed rings thinker = record { tasks = tasks; closed = closed; over = over; waits = waits; owed = owed; rings = rings; thinker = thinker }

same_door : (t t₂ : ℕ) (c c₂ o o₂ w w₂ : Bool) (n n₂ r : ℕ) (k : Thinker) → t ≡ t₂ → c ≡ c₂ → o ≡ o₂ → w ≡ w₂ → n ≡ n₂ → made t c o w n r k ≡ made t₂ c₂ o₂ w₂ n₂ r k
same_door t t₂ c c₂ o o₂ w w₂ n n₂ r k tasks closed over waits owed =
    ap (λ (x : ℕ). made x c o w n r k) tasks ∙ ap (λ (x : Bool). made t₂ x o w n r k) closed ∙ ap (λ (x : Bool). made t₂ c₂ x w n r k) over
    ∙ ap (λ (x : Bool). made t₂ c₂ o₂ x n r k) waits ∙ ap (λ (x : ℕ). made t₂ c₂ o₂ w₂ x r k) owed

module _ (door : Door) (old new : SeenQueue) (is : IsDoorOf old door) where
  owed_one : (rings : Bool) → rings ≡ old.waits → door.owed + (if rings then 1 else 0) ≡ door.owed + (if door.waits then 1 else 0)
  owed_one rings rung = ap (λ (b : Bool). door.owed + (if b then 1 else 0)) (rung ∙ sym is.waits)

  pub put_submits : (rings : Bool) → IsPut old new rings → DoorStep door (with_ring rings (with_queue door new))
  put_submits rings put = Submits (is.closed ∙ put.was_open) (same_door new.tasks (door.tasks + 1) new.closed door.closed new.over door.over new.waits false _ _ door.rings door.thinker
      (put.tasks ∙ ap (λ (n : ℕ). n + 1) (sym is.tasks)) (put.closed ∙ sym is.closed) (put.over ∙ sym is.over) put.waits (owed_one rings put.has_to_ring))

  pub close_closes : (rings : Bool) → IsClosed old new rings → DoorStep door (with_ring rings (with_queue door new))
  close_closes rings shut = Closes (same_door new.tasks door.tasks new.closed true new.over door.over new.waits false _ _ door.rings door.thinker
      (shut.tasks ∙ sym is.tasks) shut.closed (shut.over ∙ sym is.over) shut.waits (owed_one rings shut.has_to_ring))

  pub end_ends : (rings : Bool) → IsEnded old new rings → DoorStep door (with_ring rings (with_queue door new))
  end_ends rings ended = Ends (same_door new.tasks door.tasks new.closed door.closed new.over true new.waits false _ _ door.rings door.thinker
      (ended.tasks ∙ sym is.tasks) (ended.closed ∙ sym is.closed) ended.over ended.waits (owed_one rings ended.has_to_ring))

  pub next_begins : door.thinker ≡ Busy → IsTaken old new → DoorStep door (with_queue door new)
  next_begins busy taken = Begins new.tasks busy (is.tasks ∙ taken.tasks) (same_door new.tasks new.tasks new.closed door.closed new.over door.over new.waits door.waits door.owed door.owed door.rings door.thinker
      refl (taken.closed ∙ sym is.closed) (taken.over ∙ sym is.over) (taken.waits ∙ sym is.waits) refl)

  -- the queue calls the site just if the door does
  called_at : (called : Bool) → IsAnswered old new called → is_called door ≡ called
  called_at called asked = ap (λ (b : Bool). (b || door.over) || nat_lt 0 door.tasks) is.closed ∙ ap (λ (b : Bool). (old.closed || b) || nat_lt 0 door.tasks) is.over
      ∙ ap (λ (n : ℕ). (old.closed || old.over) || nat_lt 0 n) is.tasks ∙ sym asked.is_called

  pub calls_asks : (called : Bool) → door.thinker ≡ Busy → IsAnswered old new called → DoorStep door (with_answer called (with_queue door new))
  calls_asks true busy asked = Asks busy (same_door new.tasks door.tasks new.closed door.closed new.over door.over new.waits false door.owed door.owed door.rings door.thinker
      (asked.tasks ∙ sym is.tasks) (asked.closed ∙ sym is.closed) (asked.over ∙ sym is.over) asked.waits refl
      ∙ sym (cond-true {A = Door} (is_called door) (record door { waits = false }) (record door { waits = true; thinker = Thinks }) (called_at true asked)))
  calls_asks false busy asked = Asks busy (same_door new.tasks door.tasks new.closed door.closed new.over door.over new.waits true door.owed door.owed door.rings Thinks
      (asked.tasks ∙ sym is.tasks) (asked.closed ∙ sym is.closed) (asked.over ∙ sym is.over) asked.waits refl
      ∙ sym (cond-false {A = Door} (is_called door) (record door { waits = false }) (record door { waits = true; thinker = Thinks }) (called_at false asked)))
