-- What wakes a bell that sleeps.
use Rattle.std.specs.Prelude.{◌≡◌, ℕ, ◌-◌, nat_le, ◌&&◌, ◌||◌, not, Bool, true, Option, None, Some}
use Rattle.std.specs.Option.{option_map}
use Rattle.dine_rules.specs.declared.letters.LetterKind.{LetterKind}
use Rattle.dine_rules.specs.Wants.{SeenWants, is_wanted, still_wanted}
use Rattle.dine_link.specs.declared.sleeper.SleepState.{SleepState}
use Rattle.dine_link.specs.declared.wants.Wants.{Wants}
use Rattle.dine_link.specs.declared.wants.Awaited.{Awaited}

-- the letters that a site waits for
abbrev pub seen_awaited : Awaited → SeenWants
seen_awaited awaited = record { requests = awaited.requests; forks = awaited.forks }

-- what a bell wants: such letters, or None if any ring wakes it
abbrev pub seen_wants : Wants → Option SeenWants
seen_wants wants = option_map seen_awaited wants.only

-- A ring by the ringer of that number for a letter of that kind wakes the bell. `SeenWants` is about places below 64,
-- so a ringer with a higher number always does.
abbrev pub wakes : Option SeenWants → ℕ → LetterKind → Bool
wakes None number kind = true
wakes (Some wants) number kind = nat_le 64 number || is_wanted wants number kind

-- what it wants after a letter of that kind has arrived that did not wake it
abbrev pub still_wants : Option SeenWants → LetterKind → Option SeenWants
still_wants None kind = None
still_wants (Some wants) kind = Some (still_wanted wants kind)

-- The state of a bell notes a ring by the ringer of that number for a letter of that kind. A bell that sleeps is woken
-- if it wants the letter, or if it has capacity for only one ring. If it sleeps on, it still wants what was not noted
-- yet, and it has capacity for one ring fewer.
pub record NotesRing (number : ℕ) (kind : LetterKind) (old new : SleepState) (woken : Bool) : Type 0 where
  pub wakes : woken ≡ (old.asleep && (wakes (seen_wants old.wants) number kind || nat_le old.room 1))
  pub asleep : new.asleep ≡ (old.asleep && not woken)
  pub wants : new.asleep ≡ true → seen_wants new.wants ≡ still_wants (seen_wants old.wants) kind
  pub room : new.asleep ≡ true → new.room ≡ old.room - 1
