-- The meal of a site that represents a state is that of its core.
use Rattle.std.proofs.Common.{◌≡◌, ℕ, zero, suc, ◌+◌, ◌<◌, ◌==◌, Bool, true, false, List, ◌∷◌, length, get_or, Option, Some, None, refl, sym, ◌∙◌, ap, subst, inl, inr, arith, if◌then◌else◌, MatchOption}
use Rattle.std.specs.List.{range_with_len}
use Rattle.std.proofs.lemmas.Bool.{cases_Bool, cond-true, cond-false, eq-eqb}
use Rattle.dine_token.specs.Fork.{SeenFork}
use Rattle.dine_token.specs.Log.{meals_of}
use Rattle.dine_token.specs.Meal.{SeenMeal}
use Rattle.dine_graph.specs.Plan.{SeenPlan, IsPlan}
use Rattle.dine_site.specs.declared.site.places.Place.{Place}
use Rattle.dine_site.specs.declared.site.places.ForkSlot.TheVariants.{Away, Here, InMeal}
use Rattle.dine_world.specs.declared.world.sites.WorldSite.{WorldSite}
use Rattle.dine_rules.specs.Local.{LocalState, neighbour_at, is_eating}
use Rattle.dine_rules.specs.Holdings.{EatsWithAll, fork_at, hand_at}
use Rattle.dine_rules.specs.Steps.{hand_fork_at}
use Rattle.dine_rules.specs.Streams.{KeepsStreams}
use Rattle.dine_site.specs.Core.{SeenCore, Refines, forks_in_hand, kept_at}
use Rattle.dine_site.specs.Places.{no_place, neighbour_of, meals_in, FitsPlace, FitsMeal, IsMealOf}
use Rattle.dine_world.specs.WorldSites.{IsSiteOf}
use Rattle.dine_world.specs.private.StepsOfSites.{HasOwnMeal}
use Rattle.dine_site.specs.Standing.{all_places}
use Rattle.dine_rules.proofs.shared.one_site.InHand.{hand-here, hand-meals}
use Rattle.dine_site.proofs.shared.one_site.Ending.{hands_at}

-- where every fork is held, there are as many in hand as places
hands_count : (plan : SeenPlan) (s : ℕ) (state : LocalState) (n j : ℕ) → ((k : ℕ) → k < j + n → (fork_at plan s state k == 1) ≡ true)
    → length (forks_in_hand plan s state (range_with_len j n)) ≡ n
hands_count plan s state zero j held = refl
hands_count plan s state (suc n) j held =
    let rest : List SeenFork = forks_in_hand plan s state (range_with_len (j + 1) n) in
    ap (λ (b : Bool). length (if b then hand_fork_at plan s state j ∷ rest else rest)) (held j (omega arith))
    ∙ ap (λ (k : ℕ). suc k) (hands_count plan s state n (j + 1) (λ k l. held k (omega (arith, l))))

module _ (plan : SeenPlan) (state : LocalState) (core : SeenCore) (is_plan : IsPlan plan) (keeps : KeepsStreams plan core.site state) (eats : EatsWithAll plan core.site state) (stands : Refines plan state core) (eating : is_eating state.phase ≡ true) where
  -- the forks of the meal, and that of place i
  abbrev pub hands : List SeenFork
  hands = forks_in_hand plan core.site state (all_places state)

  abbrev pub hand_fork : ℕ → SeenFork
  hand_fork i = hand_fork_at plan core.site state i

  held : (k : ℕ) → k < length state.traffic → (fork_at plan core.site state k == 1) ≡ true
  held k h = eq-eqb (fork_at plan core.site state k) 1 (eats eating k h)

  pub count_is : length hands ≡ length core.places
  count_is = hands_count plan core.site state (length state.traffic) 0 (λ k l. held k (omega (arith, l))) ∙ sym stands.degree

  pub hand_is : (i : ℕ) (past : SeenFork) → i < length core.places → get_or hands i past ≡ hand_fork i
  hand_is i past h = hands_at plan core.site state (length state.traffic) 0 i past (λ k l. held k (omega (arith, l))) (omega (arith, h, stands.degree))
      ∙ ap hand_fork (let e : 0 + i ≡ i = omega arith in e)

  -- the fork of a place fits it
  fits_place : (i : ℕ) → i < length state.traffic → FitsPlace core.site core.ate (kept_at plan core.site state i) (hand_fork i)
  fits_place i within = record {
    edge = refl;
    ends = refl;
    due = refl;
    here = hand-here plan core.site state is_plan keeps i within (eats eating i within);
    eaten = hand-meals plan core.site state is_plan keeps i within ∙ sym stands.ate;
  }

  -- and it has as many meals of the other end as the place says
  fits_meals : (i : ℕ) → i < length state.traffic → meals_of (neighbour_at plan core.site i) (hand_at core.site state i) ≡ meals_in (neighbour_at plan core.site i) (kept_at plan core.site state i).fork
  fits_meals i within =
      let n : ℕ = neighbour_at plan core.site i in
      let m : ℕ = meals_of n (hand_at core.site state i) in
      sym (ap (λ (b : Bool). meals_in n (if b then (if is_eating state.phase then InMeal m else Here (hand_fork i)) else Away)) (held i within)
      ∙ ap (λ (b : Bool). meals_in n (if b then InMeal m else Here (hand_fork i))) eating)

  fits_at : (i : ℕ) → i < length core.places → FitsMeal core i (hand_fork i)
  fits_at i h =
      let within : i < length state.traffic = omega (arith, stands.degree) in
      let same = sym (stands.places i no_place h) in
      record {
        fits = subst (λ (p : Place). FitsPlace core.site core.ate p (hand_fork i)) same (fits_place i within);
        meals = subst (λ (p : Place). meals_of (neighbour_of core.site p) (hand_at core.site state i) ≡ meals_in (neighbour_of core.site p) p.fork) same (fits_meals i within);
      }

  -- the meal with these forks is the core's
  pub meal_fits : IsMealOf core (record { site = core.site; k = state.ate; forks = hands })
  meal_fits = record {
    site = refl;
    k = sym stands.ate;
    count = count_is;
    forks = λ i past h. subst (FitsMeal core i) (sym (hand_is i past h)) (fits_at i h);
  }

-- the meal of a site fits it, or there is none
pub has_own_meal : (plan : SeenPlan) (state : LocalState) (world_site : WorldSite) → IsPlan plan → KeepsStreams plan world_site.core.site state → EatsWithAll plan world_site.core.site state → IsSiteOf plan state world_site → HasOwnMeal world_site
has_own_meal plan state world_site is_plan keeps eats is =
    let P : Option SeenMeal → Type 0 = λ o. MatchOption o (is_eating world_site.core.phase ≡ false) (λ meal. (is_eating world_site.core.phase ≡ true) × IsMealOf world_site.core meal) in
    let meal : Option SeenMeal = Some (record { site = world_site.core.site; k = state.ate; forks = forks_in_hand plan world_site.core.site state (all_places state) }) in
    elim (cases_Bool (is_eating state.phase)) [
      | inl eating ↦ subst P (sym (is.meal ∙ cond-true (is_eating state.phase) meal None eating))
          (ap is_eating is.core.phase ∙ eating, meal_fits plan state world_site.core is_plan keeps eats is.core eating)
      | inr awake ↦ subst P (sym (is.meal ∙ cond-false (is_eating state.phase) meal None awake)) (ap is_eating is.core.phase ∙ awake)
    ]
