-- A letter other than a Fork that a site takes: its meal stays that of its core.
use Rattle.std.proofs.Common.{◌≡◌, ℕ, ◌<◌, ℤ, pos, true, false, [], ◌∷◌, length, get_or, slice_set, Option, Some, None, MatchOption, Result, Ok, Err, MatchResult, refl, sym, ◌∙◌, ap, subst, inl, inr, arith}
use Rattle.std.proofs.lemmas.Bool.{cases_eq}
use Rattle.std.proofs.lemmas.List.{get_or-set_other, get_or-set_same, length-set}
use Rattle.dine_token.specs.Fork.{SeenFork}
use Rattle.dine_token.specs.Log.{meals_of}
use Rattle.dine_token.specs.Meal.{SeenMeal}
use Rattle.dine_rules.specs.declared.letters.Letter.{Letter}
use Rattle.dine_rules.specs.declared.letters.Letter.TheVariants.{Fork, Request, Done, Close}
use Rattle.dine_rules.specs.Letters.{forks_in}
use Rattle.dine_rules.specs.Local.{is_eating}
use Rattle.dine_rules.specs.Steps as step
use Rattle.dine_site.specs.declared.site.places.Place.{Place}
use Rattle.dine_site.specs.Core.{SeenCore}
use Rattle.dine_site.specs.Places.{FitsPlace, IsMealOf, meals_in, neighbour_of, no_place, place_after_take, place_at, after_take}
use Rattle.dine_site.specs.Standing.{CoreSteps}
use Rattle.dine_ffi.specs.Answers.{done}
use Rattle.dine_ffi.specs.OwnSites.{SeenOwnSite, SiteSteps}

-- ---- the places

-- what a meal asks of the place of a fork
record FitsAt (s ate : ℕ) (fork : SeenFork) (place : Place) : Type 0 where
  fits : FitsPlace s ate place fork
  meals : meals_of (neighbour_of s place) fork.log ≡ meals_in (neighbour_of s place) place.fork

-- it stays if a word is noted there
fits_noted : (s ate : ℕ) (fork : SeenFork) (l : Letter) (place : Place) → forks_in (l ∷ []) ≡ 0 → FitsAt s ate fork place → FitsAt s ate fork (place_after_take l place)
fits_noted s ate fork (Fork f) place none at = absurd (omega (arith, none))
fits_noted s ate fork (Request e) place none at = record { fits = record { edge = at.fits.edge; ends = at.fits.ends; due = at.fits.due; here = at.fits.here; eaten = at.fits.eaten }; meals = at.meals }
fits_noted s ate fork Done place none at = record { fits = record { edge = at.fits.edge; ends = at.fits.ends; due = at.fits.due; here = at.fits.here; eaten = at.fits.eaten }; meals = at.meals }
fits_noted s ate fork Close place none at = record { fits = record { edge = at.fits.edge; ends = at.fits.ends; due = at.fits.due; here = at.fits.here; eaten = at.fits.eaten }; meals = at.meals }

-- so the meal is that of the core with the word
pub meal_stays : (core : SeenCore) (i : ℕ) (l : Letter) (meal : SeenMeal) → forks_in (l ∷ []) ≡ 0 → IsMealOf core meal → IsMealOf (after_take i l core) meal
meal_stays core i l meal none is = record {
  site = is.site;
  k = is.k;
  count = is.count ∙ sym long;
  forks = λ j past h.
      let fork : SeenFork = get_or meal.forks j past in
      let within : j < length core.places = omega (arith, h, long) in
      let at = is.forks j past within in
      let old : FitsAt core.site core.ate fork (place_at core j) = record { fits = at.fits; meals = at.meals } in
      let new : FitsAt core.site core.ate fork (place_at (after_take i l core) j) = elim (cases_eq j i) [
        | inl same ↦
            let there : i < length core.places = omega (arith, within, same) in
            subst (λ (k : ℕ). FitsAt core.site core.ate fork (get_or (slice_set core.places i (place_after_take l (place_at core i))) k no_place)) (sym same)
            (subst (FitsAt core.site core.ate fork) (sym (get_or-set_same core.places i (place_after_take l (place_at core i)) no_place there))
            (fits_noted core.site core.ate fork l (place_at core i) none (subst (λ (k : ℕ). FitsAt core.site core.ate fork (place_at core k)) same old)))
        | inr other ↦ subst (FitsAt core.site core.ate fork) (sym (get_or-set_other core.places i j (place_after_take l (place_at core i)) no_place other)) old
      ] in
      record { fits = new.fits; meals = new.meals };
}
  where
    long : length (after_take i l core).places ≡ length core.places
    long = length-set core.places i (place_after_take l (place_at core i))

-- ---- what a call does with a word

abbrev OwnMeal : Option SeenMeal → SeenCore → Type 0
OwnMeal meal core = MatchOption meal (is_eating core.phase ≡ false) (λ m. (is_eating core.phase ≡ true) × IsMealOf core m)

own_meal_stays : (meal : Option SeenMeal) (core : SeenCore) (i : ℕ) (l : Letter) → forks_in (l ∷ []) ≡ 0 → OwnMeal meal core → OwnMeal meal (after_take i l core)
own_meal_stays None core i l none own = own
own_meal_stays (Some m) core i l none own = (own.0, meal_stays core i l m none own.1)

abbrev Taken : ℕ → Letter → SeenCore → SeenCore → Result Unit (Letter × ℤ) → Type 0
Taken i l core new taken = MatchResult taken (λ u. CoreSteps (step.Take i l) core new) (λ e. (new ≡ core) × (e.0 ≡ l) × (e.1 ≡ pos 0 → ⊥))

pub word_keeps_meal : (meal : Option SeenMeal) (core new : SeenCore) (i : ℕ) (l : Letter) → forks_in (l ∷ []) ≡ 0 → (taken : Result Unit (Letter × ℤ))
    → MatchResult taken (λ u. new ≡ after_take i l core) (λ e. Unit {0}) → Taken i l core new taken → OwnMeal meal core → OwnMeal meal new
word_keeps_meal meal core new i l none (Ok u) is steps own = subst (OwnMeal meal) (sym is) (own_meal_stays meal core i l none own)
word_keeps_meal meal core new i l none (Err e) is steps own = subst (OwnMeal meal) (sym steps.0) own

module _ (old : SeenOwnSite) (core : SeenCore) (i : ℕ) (l : Letter) where
  abbrev new : SeenOwnSite
  new = record { plan = old.plan; run = old.run; core = core; meal = old.meal; shelf = old.shelf }

  pub word_done : (taken : Result Unit (Letter × ℤ)) (result : ℤ) → MatchResult taken (λ u. result ≡ done) (λ e. result ≡ e.1) → Taken i l old.core core taken → result ≡ pos 0 → SiteSteps (step.Take i l) old new
  word_done (Ok u) result is steps zero = record { core = steps; shelf = refl; plan = refl; run = refl; meal = refl }
  word_done (Err e) result is steps zero = absurd (steps.2 (sym is ∙ zero))

  pub word_refused : (taken : Result Unit (Letter × ℤ)) (result : ℤ) → MatchResult taken (λ u. result ≡ done) (λ e. result ≡ e.1) → Taken i l old.core core taken → (result ≡ pos 0 → ⊥) → new ≡ old
  word_refused (Ok u) result is steps refused = absurd (refused is)
  word_refused (Err e) result is steps refused = ap (λ (x : SeenCore). record { plan = old.plan; run = old.run; core = x; meal = old.meal; shelf = old.shelf }) steps.0
