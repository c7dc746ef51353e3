-- What a log notes of a wait at a bell, and of a ring.
use Rattle.std.specs.Prelude.{◌≡◌, ℕ, Bool, List, [], ◌∷◌, ◌++◌, Option, None, Some, if◌then◌else◌}
use Rattle.dine_rules.specs.declared.letters.LetterKind.{LetterKind}
use Rattle.dine_link.specs.declared.deed.Deed.{Deed}
use Rattle.dine_link.specs.declared.deed.Deed.TheVariants.{Heard, Rang, Slept, Woke}
use Rattle.dine_link.specs.declared.wants.Wants.{Wants}

-- what a thread does that hears a ring by the ringer of this number: if it slept before, it fell asleep with these
-- wants
abbrev pub hearing : Option Wants → ℕ → List Deed
hearing None number = Heard number ∷ []
hearing (Some wants) number = Slept wants ∷ Heard number ∷ []

-- the log has further that a ring by the ringer of this number was heard, and before that maybe that the thread fell
-- asleep with these wants
pub record HasWaited (wants : Wants) (number : ℕ) (old new : List Deed) : Type 0 where
  pub slept : Option Wants
  pub with_these : (own : Wants) → slept ≡ Some own → own ≡ wants
  pub deeds : new ≡ old ++ hearing slept number

-- what a thread does behind its ring at this place: if the ring has to wake the bell there, it wakes its thread
abbrev pub waking : ℕ → Bool → List Deed
waking place woken = if woken then Woke place ∷ [] else []

-- what a thread does that rings at this place for a letter of this kind: it rings, and if the ring has to wake the bell
-- there, it wakes its thread at once
abbrev pub ringing : ℕ → LetterKind → Bool → List Deed
ringing place kind woken = Rang place kind woken ∷ waking place woken

-- the log has further one ring at this place for a letter of this kind, and behind it that the thread there was woken,
-- exactly if the ring had to wake it
pub record HasRungFor (place : ℕ) (kind : LetterKind) (old new : List Deed) : Type 0 where
  pub woken : Bool
  pub deeds : new ≡ old ++ ringing place kind woken
