-- The rule of a bell's channel.
use Rattle.std.specs.Prelude.{◌≡◌, ◌<◌, ◌+◌, ℕ, ⊤, List, [], ◌∷◌, ◌++◌, All, Option, Some, None}
use mathlib.Core.Option.{some}
use lib.ListN.{get_elem?}
use Rattle.dine_link.specs.declared.bell_rule.Part.{Part}
use Rattle.dine_link.specs.declared.bell_rule.Part.TheVariants.{Waits, Rings}

-- the pass is that of a bell with this number of ringers
abbrev pub IsOfBell : ℕ → Part → Type 0
IsOfBell ringers (Waits count reported) = count ≡ ringers
IsOfBell ringers (Rings own rings) = ⊥

-- the pass is that of the ringer with this number
abbrev pub IsOfRinger : ℕ → Part → Type 0
IsOfRinger number (Waits count reported) = ⊥
IsOfRinger number (Rings own rings) = own ≡ number

-- if the pass is that of a bell, the number is below the number of its ringers
abbrev pub IsKnown : ℕ → Part → Type 0
IsKnown number (Waits count reported) = number < count
IsKnown number (Rings own rings) = ⊤

-- the numbers that the bell of this pass reported so far, in order
abbrev pub reported_by : Part → List ℕ
reported_by (Waits count reported) = reported
reported_by (Rings own rings) = []

-- how often the ringer of this pass rang so far
abbrev pub rings_of : Part → ℕ
rings_of (Waits count reported) = 0
rings_of (Rings own rings) = rings

-- only one pass is that of the bell, and it knows the number of ringers; each ringer's number is below that number
abbrev pub Fits : ℕ → ℕ → ℕ → Part → Type 0
Fits ringers bell pass (Waits count reported) = (pass ≡ bell) × (count ≡ ringers)
Fits ringers bell pass (Rings own rings) = own < ringers

-- Each number that the channel holds is below the number of ringers, and each pass fits that number. This holds at each
-- moment.
pub record AreOfRingers (queue : List ℕ) (views : List Part) : Type 0 where
  pub ringers : ℕ
  pub bell : ℕ
  pub below : All (λ number. number < ringers) queue
  pub fits : (pass : ℕ) (view : Part) → get_elem? views pass ≡ some view → Fits ringers bell pass view

-- the bell before any ringer was made
abbrev pub no_ringers : Part
no_ringers = Waits 0 []

-- the bell after one further ringer was made
abbrev pub with_next_ringer : Part → Part
with_next_ringer (Waits count reported) = Waits (count + 1) reported
with_next_ringer (Rings own rings) = Rings own rings

-- the ringer that is made next: its number is the number of ringers before it
abbrev pub next_ringer : Part → Part
next_ringer (Waits count reported) = Rings count 0
next_ringer (Rings own rings) = Rings own rings

-- the ringer after it rang once more
abbrev pub after_sound : Part → Part
after_sound (Waits count reported) = Waits count reported
after_sound (Rings own rings) = Rings own (rings + 1)

-- the bell after it reported one further number
abbrev pub after_hearing : Part → ℕ → Part
after_hearing (Waits count reported) number = Waits count (reported ++ number ∷ [])
after_hearing (Rings own rings) number = Rings own rings

-- what a check for a ring does to the bell's pass: if it found this number, the bell reports it; if it found none, the
-- pass stays as it was
abbrev pub HasHeard : Option ℕ → Part → Part → Type 0
HasHeard None old new = new ≡ old
HasHeard (Some number) old new = IsKnown number old × (new ≡ after_hearing old number)
