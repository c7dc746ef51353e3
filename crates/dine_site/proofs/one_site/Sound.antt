-- What is kept at a place stays sound when a fork is taken out, or when a letter that is allowed is taken.
use Rattle.std.proofs.Common.{◌≡◌, ℕ, ◌<◌, ◌==◌, nat_le, Bool, true, false, not, ◌||◌, List, get_or, set, Option, Some, None, refl, sym, ◌∙◌, ap, ap₂, arith, if◌then◌else◌, length, subst}
use Rattle.std.proofs.lemmas.Bool.{eqb-true, and_parts, false≢true}
use Rattle.std.proofs.lemmas.Bool.Decides.{nat_tests}
use Rattle.std.proofs.lemmas.List.{length-set}
use Rattle.std.proofs.lemmas.List.Elements.{All-set}
use Rattle.std.proofs.lemmas.Option.{none-some, same_Some}
use Rattle.dine_site.specs.declared.site.SiteCore.TheInside.{Inside}
use Rattle.dine_site.specs.private.SiteFields.{seen_core, HasRoom, IsKept}
use Rattle.dine_token.specs.Fork.{SeenFork}
use Rattle.dine_token.specs.Log.{location_of, meals_of}
use Rattle.dine_rules.specs.declared.letters.Letter.{Letter}
use Rattle.dine_rules.specs.declared.letters.Letter.TheVariants.{Fork, Request, Done, Close}
use Rattle.dine_rules.specs.declared.breach.Breach.{Breach}
use Rattle.dine_site.specs.declared.site.places.Place.{Place}
use Rattle.dine_site.specs.declared.site.places.ForkSlot.{ForkSlot}
use Rattle.dine_site.specs.declared.site.places.ForkSlot.TheVariants.{Away, Here, InMeal}
use Rattle.dine_rules.specs.Local.{is_eating}
use Rattle.dine_rules.specs.Breach.{was_sent_to}
use Rattle.dine_site.specs.Core.{SeenCore}
use Rattle.dine_site.specs.Places.{with_place, with_fork, place_after_take, is_held, is_own_fork, breach_at, FitsPlace, FitsSlot, IsSoundPlace, IsSound}

-- soundness reads the site, its meals, its due and its phase
pub sound_place_along : (core : SeenCore) (places : List Place) (place : Place) → IsSoundPlace core place → IsSoundPlace (record core { places = places }) place
sound_place_along core places place w = record { ordered = w.ordered; end = w.end; own_due = w.own_due; slot = w.slot; asked = w.asked; token = w.token }

pub sound_with_place : (core : SeenCore) (i : ℕ) (place : Place) → IsSound core → IsSoundPlace core place → IsSound (with_place i place core)
sound_with_place core i place sound here = record {
  places = λ j past h. sound_place_along core (set core.places i place) (get_or (set core.places i place) j past) (All-set (IsSoundPlace core) core.places i place here sound.places j past h);
  acts = sound.acts;
  small_acts = sound.small_acts;
  within = sound.within;
  hungry = sound.hungry;
}

pub sound_away : (core : SeenCore) (place : Place) → is_eating core.phase ≡ false → IsSoundPlace core place → IsSoundPlace core (with_fork Away place)
sound_away core place awake w = record {
  ordered = w.ordered;
  end = w.end;
  own_due = w.own_due;
  slot = awake;
  asked = λ h. absurd (false≢true h);
  token = w.token;
}

-- so a core stays kept with another place that is sound
pub kept_with : (core : Inside) (i : ℕ) (place : Place) (places : List Place) → IsKept core → places ≡ set core.places i place → IsSoundPlace (seen_core core) place → IsKept (record core { places = places })
kept_with core i place places kept are here =
    let same : length places ≡ length core.places = ap length are ∙ length-set core.places i place in
    record {
      sound = subst (λ (l : List Place). IsSound (record (seen_core core) { places = l })) (sym are) (sound_with_place (seen_core core) i place kept.sound here);
      no_hands = kept.no_hands;
      room_for_hands = λ awake. omega (arith, kept.room_for_hands awake, same);
      room = subst (λ (n : ℕ). HasRoom n core.parts) (sym same) kept.room;
    }

-- a slot fits as well at a place of the same edge
pub fits_along : (s ate : ℕ) (eating : Bool) (old new : Place) (slot : ForkSlot) → old.edge ≡ new.edge → old.ends ≡ new.ends → old.due ≡ new.due
    → FitsSlot s ate eating old slot → FitsSlot s ate eating new slot
fits_along s ate eating old new Away e1 e2 e3 h = h
fits_along s ate eating old new (Here fork) e1 e2 e3 h = (h.0, record { edge = h.1.edge ∙ e1; ends = h.1.ends ∙ e2; due = h.1.due ∙ e3; here = h.1.here; eaten = h.1.eaten })
fits_along s ate eating old new (InMeal meals) e1 e2 e3 h = h

-- a place stays sound where its token goes, and where Done or Close is put there
pub sound_asked : (core : SeenCore) (place : Place) → IsSoundPlace core place → IsSoundPlace core (record place { token = None })
sound_asked core place w = record {
  ordered = w.ordered;
  end = w.end;
  own_due = w.own_due;
  slot = fits_along core.site core.ate (is_eating core.phase) place (record place { token = None }) place.fork refl refl refl w.slot;
  asked = λ _ token. absurd (false≢true token);
  token = λ edge same. absurd (none-some edge same);
}

pub sound_done : (core : SeenCore) (place : Place) → IsSoundPlace core place → IsSoundPlace core (record place { done_put = true })
sound_done core place w = record {
  ordered = w.ordered;
  end = w.end;
  own_due = w.own_due;
  slot = fits_along core.site core.ate (is_eating core.phase) place (record place { done_put = true }) place.fork refl refl refl w.slot;
  asked = w.asked;
  token = w.token;
}

pub sound_closed : (core : SeenCore) (place : Place) → IsSoundPlace core place → IsSoundPlace core (record place { close_put = true })
sound_closed core place w = record {
  ordered = w.ordered;
  end = w.end;
  own_due = w.own_due;
  slot = fits_along core.site core.ate (is_eating core.phase) place (record place { close_put = true }) place.fork refl refl refl w.slot;
  asked = w.asked;
  token = w.token;
}

-- who has no fork at a place does not eat
pub awake_without : (s ate : ℕ) (eating : Bool) (place : Place) (slot : ForkSlot) → is_held slot ≡ false → FitsSlot s ate eating place slot → eating ≡ false
awake_without s ate eating place Away none h = h
awake_without s ate eating place (Here fork) none h = h.0
awake_without s ate eating place (InMeal meals) none h = absurd (false≢true (sym none))

pub none_of : (b : Bool) (x : Breach) (rest : Option Breach) → (if b then Some x else rest) ≡ None → (b ≡ false) × (rest ≡ None)
none_of true x rest h = absurd (cc)
none_of false x rest h = (refl, h)

pub neither : (a b : Bool) → (a || b) ≡ false → (a ≡ false) × (b ≡ false)
neither true b h = absurd (false≢true (sym h))
neither false b h = (refl, h)

pub not_false : (a : Bool) → not a ≡ false → a ≡ true
not_false true h = refl
not_false false h = absurd (false≢true (sym h))

pub not_le : (a b : ℕ) → nat_le a b ≡ false → b < a
not_le a b h = grind (arith, nat_tests)

-- a fork that comes in turn fits the place
fits_come : (s ate : ℕ) (place : Place) (fork : SeenFork) → is_own_fork place fork ≡ true → was_sent_to place.ends.0 s fork.log ≡ true → (meals_of s fork.log == ate) ≡ true → FitsPlace s ate place fork
fits_come s ate place fork own comes all =
    let parts = and_parts _ _ own in
    let front = and_parts _ _ parts.0 in
    let ends = and_parts _ _ front.1 in
    let dues = and_parts _ _ parts.1 in
    let edge : fork.edge ≡ place.edge = eqb-true _ _ front.0 in
    let lower : fork.ends.0 ≡ place.ends.0 = eqb-true _ _ ends.0 in
    let higher : fork.ends.1 ≡ place.ends.1 = eqb-true _ _ ends.1 in
    let lower_due : fork.due.0 ≡ place.due.0 = eqb-true _ _ dues.0 in
    let higher_due : fork.due.1 ≡ place.due.1 = eqb-true _ _ dues.1 in
    record {
      edge = edge;
      ends = ap₂ (λ (a b : ℕ). (a, b)) lower higher;
      due = ap₂ (λ (a b : ℕ). (a, b)) lower_due higher_due;
      here = ap (λ (lower : ℕ). location_of lower fork.log) lower ∙ eqb-true _ _ (and_parts _ _ comes).1;
      eaten = eqb-true _ _ all;
    }

pub sound_noted : (core : SeenCore) (place : Place) (l : Letter) → breach_at core.site core.ate place l ≡ None → IsSoundPlace core place → IsSoundPlace core (place_after_take l place)
sound_noted core place (Fork fork) h w =
    let turn = none_of _ _ _ (none_of _ _ _ h).1 in
    let free = neither _ _ turn.0 in
    let strange = neither _ _ (none_of _ _ _ turn.1).0 in
    let strange_3 = neither _ _ strange.0 in
    let strange_2 = neither _ _ strange_3.0 in
    let fits = fits_come core.site core.ate place fork (not_false _ strange_2.0) (not_false _ strange_2.1) (not_false _ strange_3.1) in
    record {
      ordered = w.ordered;
      end = w.end;
      own_due = w.own_due;
      slot = (awake_without core.site core.ate (is_eating core.phase) place place.fork free.0 w.slot, record { edge = fits.edge; ends = fits.ends; due = fits.due; here = fits.here; eaten = fits.eaten });
      asked = λ _ token. absurd (false≢true (sym free.1 ∙ token));
      token = w.token;
    }
sound_noted core place (Request edge) h w =
    let turn = neither _ _ (none_of _ _ _ (none_of _ _ _ h).1).0 in
    let edge_is : edge ≡ place.edge = eqb-true _ _ (not_false _ (neither _ _ turn.0).1) in
    record {
      ordered = w.ordered;
      end = w.end;
      own_due = w.own_due;
      slot = fits_along core.site core.ate (is_eating core.phase) place (record place { token = Some edge }) place.fork refl refl refl w.slot;
      asked = λ _ _. not_le _ _ turn.1;
      token = λ other same. sym (same_Some edge other same) ∙ edge_is;
    }
sound_noted core place Done h w = record {
  ordered = w.ordered;
  end = w.end;
  own_due = w.own_due;
  slot = fits_along core.site core.ate (is_eating core.phase) place (record place { done_taken = true }) place.fork refl refl refl w.slot;
  asked = w.asked;
  token = w.token;
}
sound_noted core place Close h w = record {
  ordered = w.ordered;
  end = w.end;
  own_due = w.own_due;
  slot = fits_along core.site core.ate (is_eating core.phase) place (record place { close_taken = true }) place.fork refl refl refl w.slot;
  asked = w.asked;
  token = w.token;
}
