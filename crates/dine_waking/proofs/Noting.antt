-- The code of a bell notes a ring as a run does.
use Rattle.std.proofs.Common.{◌≡◌, ℕ, nat_le, ◌&&◌, ◌||◌, not, Bool, true, false, if◌then◌else◌, Some, refl, ap, ◌∙◌}
use Rattle.dine_rules.specs.declared.letters.LetterKind.{LetterKind}
use Rattle.dine_rules.specs.Wants.{SeenWants, is_wanted, still_wanted}
use Rattle.dine_link.specs.declared.sleeper.SleepState.{SleepState}
use Rattle.dine_link.specs.Waking.{NotesRing, seen_wants, still_wants, wakes}
use Rattle.dine_waking.specs.Code.{IsNotedAs, wakes_anyway}
use Rattle.dine_waking.specs.Runs.{Doing, GoesOn, HasToRing, HasToTake, HasToWake, IsToBeWoken, Sleeps, doing_rung, is_woken_by}

module _ (number : ℕ) (kind : LetterKind) (old new : SleepState) (woken : Bool) (notes : NotesRing number kind old new woken) where
  abbrev anyway : Bool
  anyway = wakes_anyway number old

  abbrev Noted : Doing → Type 0
  Noted doing = (woken ≡ is_woken_by anyway number kind doing) × IsNotedAs (doing_rung anyway number kind doing) new

  not_woken : old.asleep ≡ false → woken ≡ false
  not_woken awake = notes.wakes ∙ ap (λ (b : Bool). b && (wakes (seen_wants old.wants) number kind || nat_le old.room 1)) awake

  still_awake : old.asleep ≡ false → new.asleep ≡ false
  still_awake awake = notes.asleep ∙ ap (λ (b : Bool). b && not woken) awake

  same_test : (high wanted full : Bool) → ((high || wanted) || full) ≡ (wanted || (high || full))
  same_test true true full = refl
  same_test true false full = refl
  same_test false wanted full = refl

  module _ (wants : SeenWants) (asleep : old.asleep ≡ true) (seen : seen_wants old.wants ≡ Some wants) where
    is_woken : woken ≡ (is_wanted wants number kind || anyway)
    is_woken = notes.wakes ∙ ap (λ (b : Bool). b && (wakes (seen_wants old.wants) number kind || nat_le old.room 1)) asleep
        ∙ ap (λ w. wakes w number kind || nat_le old.room 1) seen ∙ same_test (nat_le 64 number) (is_wanted wants number kind) (nat_le old.room 1)

    after : (b : Bool) → woken ≡ b → IsNotedAs (if b then IsToBeWoken number else Sleeps (still_wanted wants kind)) new
    after true is = notes.asleep ∙ ap (λ (b : Bool). old.asleep && not b) is ∙ ap (λ (b : Bool). b && false) asleep
    after false is =
        let sleeps : new.asleep ≡ true = notes.asleep ∙ ap (λ (b : Bool). old.asleep && not b) is ∙ ap (λ (b : Bool). b && true) asleep in
        (sleeps, notes.wants sleeps ∙ ap (λ w. still_wants w kind) seen)

    noted_asleep : Noted (Sleeps wants)
    noted_asleep = (is_woken, after (is_wanted wants number kind || anyway) is_woken)

  pub noted : (doing : Doing) → IsNotedAs doing old → Noted doing
  noted GoesOn awake = (not_woken awake, still_awake awake)
  noted (HasToRing i k) awake = (not_woken awake, still_awake awake)
  noted (HasToWake i) awake = (not_woken awake, still_awake awake)
  noted (HasToTake i) awake = (not_woken awake, still_awake awake)
  noted (Sleeps wants) is = noted_asleep wants is.0 is.1
  noted (IsToBeWoken i) awake = (not_woken awake, still_awake awake)
