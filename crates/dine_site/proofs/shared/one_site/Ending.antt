-- A meal that ends: its forks are put back at their places.
use Rattle.std.proofs.Common.{◌≡◌, ℕ, zero, suc, ◌+◌, ◌<◌, ◌==◌, ◌&&◌, nat_lt, Bool, true, List, [], ◌∷◌, length, get_or, refl, sym, ◌∙◌, ap, subst, arith, if◌then◌else◌}
use Rattle.std.specs.List.{range_with_len}
use Rattle.std.proofs.lemmas.Bool.{false≢true}
use Rattle.dine_token.specs.Fork.{SeenFork, no_fork}
use Rattle.dine_token.specs.Log.{meals_of}
use Rattle.dine_token.specs.Meal.{SeenMeal}
use Rattle.dine_graph.specs.Plan.{SeenPlan, resigns}
use Rattle.dine_site.specs.declared.site.places.Place.{Place}
use Rattle.dine_site.specs.declared.site.places.ForkSlot.{ForkSlot}
use Rattle.dine_site.specs.declared.site.places.ForkSlot.TheVariants.{Away, Here, InMeal}
use Rattle.dine_rules.specs.Local.{LocalState, neighbour_at, is_eating}
use Rattle.dine_rules.specs.Holdings.{fork_at, hand_at}
use Rattle.dine_rules.specs.Steps.{hand_fork_at, after, End}
use Rattle.dine_site.specs.Core.{SeenCore, Refines, kept_at, forks_in_hand}
use Rattle.dine_site.specs.Places.{no_place, is_held, places_with_forks, with_fork, after_end, neighbour_of, due_of_neighbour, meals_in, FitsPlace, FitsSlot, IsSoundPlace, IsSound, IsMealOf}
use Rattle.dine_site.specs.Standing.{all_places}
use Rattle.dine_site.proofs.shared.one_site.Eating.{slot_held}

pub get_or_put_back : (P : List Place) (F : List SeenFork) (i : ℕ) (d : Place) (f : SeenFork) → i < length P → length F ≡ length P
    → get_or (places_with_forks P F) i d ≡ with_fork (Here (get_or F i f)) (get_or P i d)
get_or_put_back [] F i d f h same = absurd (omega arith)
get_or_put_back (p ∷ P) [] i d f h same = absurd (omega arith)
get_or_put_back (p ∷ P) (g ∷ F) zero d f h same = refl
get_or_put_back (p ∷ P) (g ∷ F) (suc i) d f h same = get_or_put_back P F i d f (omega arith) (omega arith)

pub length_put_back : (P : List Place) (F : List SeenFork) → length (places_with_forks P F) ≡ length P
length_put_back [] F = refl
length_put_back (p ∷ P) [] = refl
length_put_back (p ∷ P) (g ∷ F) = ap (λ (n : ℕ). suc n) (length_put_back P F)

-- who eats has every fork
held_in_meal : (s ate : ℕ) (eating : Bool) (place : Place) (slot : ForkSlot) → eating ≡ true → FitsSlot s ate eating place slot → is_held slot ≡ true
held_in_meal s ate eating place Away now h = absurd (false≢true (sym h ∙ now))
held_in_meal s ate eating place (Here fork) now h = refl
held_in_meal s ate eating place (InMeal meals) now h = refl

-- where every fork is held, the forks in hand are those of the places
pub hands_at : (plan : SeenPlan) (s : ℕ) (state : LocalState) (n j i : ℕ) (d : SeenFork) → ((k : ℕ) → k < j + n → (fork_at plan s state k == 1) ≡ true) → i < n
    → get_or (forks_in_hand plan s state (range_with_len j n)) i d ≡ hand_fork_at plan s state (j + i)
hands_at plan s state zero j i d held h = absurd (omega arith)
hands_at plan s state (suc n) j zero d held h =
    ap (λ (b : Bool). get_or (if b then hand_fork_at plan s state j ∷ forks_in_hand plan s state (range_with_len (j + 1) n) else forks_in_hand plan s state (range_with_len (j + 1) n)) 0 d) (held j (omega arith))
    ∙ ap (λ (k : ℕ). hand_fork_at plan s state k) (let e : j ≡ j + 0 = omega arith in e)
hands_at plan s state (suc n) j (suc i) d held h =
    ap (λ (b : Bool). get_or (if b then hand_fork_at plan s state j ∷ forks_in_hand plan s state (range_with_len (j + 1) n) else forks_in_hand plan s state (range_with_len (j + 1) n)) (suc i) d) (held j (omega arith))
    ∙ hands_at plan s state n (j + 1) i d (λ k l. held k (omega (arith, l))) (omega arith)
    ∙ ap (λ (k : ℕ). hand_fork_at plan s state k) (let e : j + 1 + i ≡ j + suc i = omega arith in e)

module _ (core : SeenCore) (meal : SeenMeal) (sound : IsSound core) (eating : is_eating core.phase ≡ true) (is : IsMealOf core meal) (failed : Bool) where
  held_at : (i : ℕ) → i < length core.places → is_held (get_or core.places i no_place).fork ≡ true
  held_at i h = held_in_meal core.site core.ate (is_eating core.phase) (get_or core.places i no_place) (get_or core.places i no_place).fork eating (sound.places i no_place h).slot

  pub sound_ended : IsSound (after_end failed meal.forks core)
  sound_ended = record {
    places = λ i d h.
        let within : i < length core.places = omega (arith, h, length_put_back core.places meal.forks) in
        subst (IsSoundPlace (after_end failed meal.forks core)) (sym (any i d within ∙ get_or_put_back core.places meal.forks i no_place no_fork within is.count))
        (sound_laid (get_or core.places i no_place) (get_or meal.forks i no_fork) (sound.places i no_place within) (held_at i within) (is.forks i no_fork within).fits (is.forks i no_fork within).meals);
    acts = sound.acts;
    small_acts = sound.small_acts;
    within = sound.within;
    hungry = λ h. absurd (false≢true h);
  }
    where
      any : (i : ℕ) (d : Place) → i < length core.places → get_or (places_with_forks core.places meal.forks) i d ≡ get_or (places_with_forks core.places meal.forks) i no_place
      any i d h = some (places_with_forks core.places meal.forks) i d (omega (arith, h, length_put_back core.places meal.forks))
        where
          some : (xs : List Place) (i : ℕ) (d : Place) → i < length xs → get_or xs i d ≡ get_or xs i no_place
          some [] i d h = absurd (omega arith)
          some (x ∷ xs) zero d h = refl
          some (x ∷ xs) (suc i) d h = some xs i d (omega arith)

      sound_laid : (p : Place) (f : SeenFork) → IsSoundPlace core p → is_held p.fork ≡ true → FitsPlace core.site core.ate p f
          → meals_of (neighbour_of core.site p) f.log ≡ meals_in (neighbour_of core.site p) p.fork → IsSoundPlace (after_end failed meal.forks core) (with_fork (Here f) p)
      sound_laid p f w held fits meals = record {
        ordered = w.ordered;
        end = w.end;
        own_due = w.own_due;
        slot = (refl, record { edge = fits.edge; ends = fits.ends; due = fits.due; here = fits.here; eaten = fits.eaten });
        asked = λ _ token. subst (λ (n : ℕ). n < due_of_neighbour core.site p) (sym meals) (w.asked held token);
        token = w.token;
      }

  pub stands_ended : (plan : SeenPlan) (state : LocalState) → Refines plan state core → meal.forks ≡ forks_in_hand plan core.site state (all_places state)
      → Refines plan (after plan core.site state (End failed)) (after_end failed meal.forks core)
  stands_ended plan state stands forks = record {
    is_plan = stands.is_plan;
    is_site = stands.is_site;
    due = stands.due;
    acts = stands.acts;
    resigns = stands.resigns;
    phase = refl;
    ate = stands.ate;
    must_quit = ap (λ (b : Bool). failed && b && nat_lt core.ate core.due) stands.resigns
        ∙ ap (λ (n : ℕ). failed && resigns plan core.site && nat_lt n core.due) stands.ate
        ∙ ap (λ (n : ℕ). failed && resigns plan core.site && nat_lt state.ate n) stands.due;
    has_quit = stands.has_quit;
    degree = length_put_back core.places meal.forks ∙ stands.degree;
    places = λ i past h.
        let within : i < length core.places = omega (arith, h, length_put_back core.places meal.forks) in
        get_or_put_back core.places meal.forks i past no_fork within is.count
        ∙ ap (with_fork (Here (get_or meal.forks i no_fork))) (stands.places i past within)
        ∙ ap (λ (slot : ForkSlot). with_fork slot (kept_at plan core.site state i)) (slot_is i within);
  }
    where
      held : (i : ℕ) → i < length core.places → (fork_at plan core.site state i == 1) ≡ true
      held i h = sym (slot_held (fork_at plan core.site state i == 1) state.phase (meals_of (neighbour_at plan core.site i) (hand_at core.site state i)) (hand_fork_at plan core.site state i))
          ∙ ap (λ (p : Place). is_held p.fork) (sym (stands.places i no_place h)) ∙ held_at i h

      fork_is : (i : ℕ) → i < length core.places → get_or meal.forks i no_fork ≡ hand_fork_at plan core.site state i
      fork_is i h = ap (λ (l : List SeenFork). get_or l i no_fork) forks
          ∙ hands_at plan core.site state (length state.traffic) 0 i no_fork (λ k l. held k (omega (arith, l, stands.degree))) (omega (arith, h, stands.degree))
          ∙ ap (λ (k : ℕ). hand_fork_at plan core.site state k) (let e : 0 + i ≡ i = omega arith in e)

      slot_is : (i : ℕ) → i < length core.places
          → Here (get_or meal.forks i no_fork) ≡ (if fork_at plan core.site state i == 1 then Here (hand_fork_at plan core.site state i) else Away)
      slot_is i h = ap Here (fork_is i h) ∙ ap (λ (b : Bool). if b then Here (hand_fork_at plan core.site state i) else Away) (sym (held i h))
