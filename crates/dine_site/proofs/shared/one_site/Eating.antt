-- A meal that begins, and one that ends.
use Rattle.std.proofs.Common.{◌≡◌, ◌⊎◌, ℕ, zero, suc, ◌+◌, ◌-◌, ◌<◌, ◌≤◌, ◌==◌, Bool, true, false, List, [], ◌∷◌, ◌++◌, length, map, get_or, refl, sym, ◌∙◌, ap, ap₂, subst, inl, inr, arith, if◌then◌else◌}
use Rattle.std.specs.List.{list_all, range_with_len, All}
use Rattle.std.proofs.lemmas.Bool.{and_parts, eqb-true, eq-eqb, cases_Bool, false≢true}
use Rattle.dine_token.specs.declared.act.Act.{Act}
use Rattle.dine_token.specs.declared.act.Act.TheVariants.{Add}
use Rattle.dine_token.specs.Values.{IsAct}
use Rattle.dine_token.specs.Fork.{SeenFork, IsEnd, MayEat, after_meal, no_fork}
use Rattle.dine_token.specs.Meal.{SeenMeal}
use Rattle.dine_token.specs.Lawful.{due_at}
use Rattle.dine_token.specs.Log.{meals_of}
use Rattle.dine_token.proofs.shared.Logs.{location_of-push_meal, meals_of-push_own, meals_of-push_other}
use Rattle.dine_graph.specs.Plan.{SeenPlan, SeenJob, act_of, jobs_of, no_job}
use Rattle.dine_rules.specs.declared.phase.Phase.{Phase}
use Rattle.dine_rules.specs.declared.phase.Phase.TheVariants.{Thinking, Hungry, Eating}
use Rattle.dine_site.specs.declared.site.places.Place.{Place}
use Rattle.dine_site.specs.declared.site.places.ForkSlot.{ForkSlot}
use Rattle.dine_site.specs.declared.site.places.ForkSlot.TheVariants.{Away, Here, InMeal}
use Rattle.dine_rules.specs.Letters.{last_log_or}
use Rattle.dine_rules.specs.Local.{LocalState, traffic_at, edge_at, neighbour_at, is_eating, is_hungry}
use Rattle.dine_rules.specs.Holdings.{fork_at, hand, forks_held}
use Rattle.dine_rules.specs.Steps.{hand_fork, hand_fork_at, after, Begin}
use Rattle.dine_rules.specs.Streams.{KeepsStreams}
use Rattle.dine_site.specs.Core.{SeenCore, Refines, kept_of, forks_in_hand}
use Rattle.dine_site.specs.Places.{no_place, next_act, place_at, neighbour_of, is_held, is_ready_at, meals_in, place_in_meal, after_begin, can_begin, fork_in_hand, forks_of, OnHere, FitsPlace, FitsSlot, IsSoundPlace, IsSound, FitsMeal, IsMealOf}
use Rattle.dine_site.specs.private.PlaceSteps.{IsLiftable}
use Rattle.dine_site.specs.Standing.{all_places}
use Rattle.dine_rules.proofs.shared.one_place.Hands.{hand-more}
use Rattle.dine_rules.proofs.shared.one_place.HandForks.{hand_fork-more}
use Rattle.std.proofs.Math.ListN.{get_or-map}
use Rattle.std.proofs.lemmas.List.{length-map}
use Rattle.dine_site.proofs.shared.lists.Lists.{get_or-map_at}
use Rattle.dine_site.proofs.shared.lists.Ranges.{forks_by_lists}

-- the fork that a slot has in hand
abbrev pub fork_of : ForkSlot → SeenFork
fork_of Away = no_fork
fork_of (Here fork) = fork
fork_of (InMeal meals) = no_fork

abbrev pub fork_at_place : Place → SeenFork
fork_at_place place = fork_of place.fork

held_here : (s ate : ℕ) (eating : Bool) (place : Place) (slot : ForkSlot) → eating ≡ false → is_held slot ≡ true → FitsSlot s ate eating place slot
    → (slot ≡ Here (fork_of slot)) × FitsPlace s ate place (fork_of slot)
held_here s ate eating place Away awake held h = absurd (false≢true held)
held_here s ate eating place (Here fork) awake held h = (refl, h.1)
held_here s ate eating place (InMeal meals) awake held h = absurd (false≢true (sym awake ∙ h))

list_all_at : (p : Place → Bool) (xs : List Place) (i : ℕ) (d : Place) → list_all p xs ≡ true → i < length xs → p (get_or xs i d) ≡ true
list_all_at p [] i d all h = absurd (omega arith)
list_all_at p (x ∷ xs) zero d all h = (and_parts _ _ all).0
list_all_at p (x ∷ xs) (suc i) d all h = list_all_at p xs i d (and_parts _ _ all).1 (omega arith)

forks_are : (places : List Place) → ((i : ℕ) → i < length places → (get_or places i no_place).fork ≡ Here (fork_at_place (get_or places i no_place)))
    → forks_of places ≡ map fork_at_place places
forks_are [] h = refl
forks_are (place ∷ places) h =
    ap (λ (slot : ForkSlot). fork_in_hand slot ++ forks_of places) (h 0 (omega arith)) ∙ ap (λ (l : List SeenFork). fork_at_place place ∷ l) (forks_are places (λ i within. h (suc i) (omega arith)))

-- the other end is an end, and another than the site
end_there : (s : ℕ) (place : Place) → (neighbour_of s place ≡ place.ends.0) ⊎ (neighbour_of s place ≡ place.ends.1)
end_there s place = elim (place.ends.0 == s) as (λ b. ((if b then place.ends.1 else place.ends.0) ≡ place.ends.0) ⊎ ((if b then place.ends.1 else place.ends.0) ≡ place.ends.1)) [ true ↦ inr refl | false ↦ inl refl ]

pub slot_held : (held : Bool) (phase : Phase) (meals : ℕ) (fork : SeenFork) → is_held (if held then (if is_eating phase then InMeal meals else Here fork) else Away) ≡ held
slot_held true Thinking meals fork = refl
slot_held true Hungry meals fork = refl
slot_held true Eating meals fork = refl
slot_held false phase meals fork = refl

lift_slot : (held : Bool) (phase : Phase) (meals more : ℕ) (fork : SeenFork) (end : ℕ) → held ≡ true → is_eating phase ≡ false → meals_of end fork.log ≡ more
    → InMeal (meals_in end (if held then (if is_eating phase then InMeal meals else Here fork) else Away)) ≡ (if held then InMeal more else Away)
lift_slot true Thinking meals more fork end held awake same = ap InMeal same
lift_slot true Hungry meals more fork end held awake same = ap InMeal same
lift_slot true Eating meals more fork end held awake same = absurd (false≢true (sym awake))
lift_slot false phase meals more fork end held awake same = absurd (false≢true held)

map_if : (b : Bool) (g : SeenFork → SeenFork) (x y : SeenFork) (xs ys : List SeenFork) → g x ≡ y → map g xs ≡ ys → map g (if b then x ∷ xs else xs) ≡ (if b then y ∷ ys else ys)
map_if true g x y xs ys here rest = ap₂ (λ (f : SeenFork) (l : List SeenFork). f ∷ l) here rest
map_if false g x y xs ys here rest = rest

-- the forks with the meal, by the whole lists
more_by : (plan : SeenPlan) (s : ℕ) (state : LocalState) (n j : ℕ) → ((i : ℕ) → i < j + n → meals_of s (last_log_or [] (traffic_at state i).taken) ≤ state.ate)
    → map (after_meal s (state.ate + 1) (act_of plan s (state.ate + 1))) (forks_in_hand plan s state (range_with_len j n)) ≡ forks_in_hand plan s (after plan s state Begin) (range_with_len j n)
more_by plan s state zero j last = refl
more_by plan s state (suc n) j last =
    map_if (fork_at plan s state j == 1) (after_meal s (state.ate + 1) (act_of plan s (state.ate + 1))) (hand_fork_at plan s state j) (hand_fork_at plan s (after plan s state Begin) j)
    (forks_in_hand plan s state (range_with_len (j + 1) n)) (forks_in_hand plan s (after plan s state Begin) (range_with_len (j + 1) n))
    (hand_fork-more plan s (edge_at plan s j) state.ate (traffic_at state j) (last j (omega arith)))
    (more_by plan s state n (j + 1) (λ i h. last i (omega (arith, h))))

-- the next act of the core is that of the plan's job
pub next_is : (plan : SeenPlan) (state : LocalState) (core : SeenCore) → Refines plan state core → next_act core ≡ act_of plan core.site (state.ate + 1)
next_is plan state core stands =
    ap₂ (λ (acts : List Act) (n : ℕ). get_or acts n (Add 0)) stands.acts stands.ate
    ∙ get_or-map (λ (job : SeenJob). job.act) (jobs_of plan core.site) state.ate no_job
    ∙ ap (λ (n : ℕ). (get_or (jobs_of plan core.site) n no_job).act) (let e : state.ate ≡ state.ate + 1 - 1 = omega arith in e)

module _ (core : SeenCore) (sound : IsSound core) (can : can_begin core ≡ true) where
  hungry : is_hungry core.phase ≡ true
  hungry = (and_parts _ _ can).0

  awake : is_eating core.phase ≡ false
  awake = not_eating core.phase hungry
    where
      not_eating : (phase : Phase) → is_hungry phase ≡ true → is_eating phase ≡ false
      not_eating Thinking h = refl
      not_eating Hungry h = refl
      not_eating Eating h = absurd (false≢true h)

  pub left : core.ate < core.due
  left = sound.hungry hungry

  -- the act of the meal is one that a meal may do
  pub act_small : IsAct (next_act core)
  act_small = sound.small_acts core.ate (Add 0) (omega (arith, left, sound.acts))

  -- each fork is in hand, and fits its place
  pub in_hand_at : (i : ℕ) (d : Place) → i < length core.places
      → ((get_or core.places i d).fork ≡ Here (fork_at_place (get_or core.places i d))) × FitsPlace core.site core.ate (get_or core.places i d) (fork_at_place (get_or core.places i d))
  in_hand_at i d h =
      held_here core.site core.ate (is_eating core.phase) (get_or core.places i d) (get_or core.places i d).fork awake (and_parts _ _ (list_all_at is_ready_at core.places i d (and_parts _ _ can).1 h)).0 (sound.places i d h).slot

  pub all_liftable : All (IsLiftable core.site) core.places
  all_liftable i d h =
      let p = get_or core.places i d in
      let w = in_hand_at i d h in
      let ends : IsEnd (fork_at_place p) (neighbour_of core.site p) = elim (end_there core.site p) [
        | inl e ↦ inl (e ∙ ap (λ (x : ℕ × ℕ). x.0) (sym w.1.ends))
        | inr e ↦ inr (e ∙ ap (λ (x : ℕ × ℕ). x.1) (sym w.1.ends))
      ] in
      subst (λ (slot : ForkSlot). OnHere (λ fork. IsEnd fork (neighbour_of core.site p)) slot) (sym w.0) ends

  pub forks_are_all : forks_of core.places ≡ map fork_at_place core.places
  forks_are_all = forks_are core.places (λ i h. (in_hand_at i no_place h).0)

  may_eat : (place : Place) (fork : SeenFork) → IsSoundPlace core place → FitsPlace core.site core.ate place fork → MayEat core.site (core.ate + 1) fork
  may_eat place fork here fits =
      let due : due_at fork.ends fork.due core.site ≡ core.due = ap₂ (λ (ends due : ℕ × ℕ). due_at ends due core.site) fits.ends fits.due ∙ here.own_due in
      record { held = fits.here; next = ap (λ (n : ℕ). n + 1) fits.eaten; within = subst (λ (n : ℕ). core.ate + 1 ≤ n) (sym due) (omega (arith, left)) }

  pub all_may_eat : All (MayEat core.site (core.ate + 1)) (forks_of core.places)
  all_may_eat i d h =
      let within : i < length core.places = omega (arith, ap length forks_are_all, length-map core.places fork_at_place) in
      let is : get_or (forks_of core.places) i d ≡ fork_at_place (get_or core.places i no_place) = ap (λ (l : List SeenFork). get_or l i d) forks_are_all ∙ get_or-map_at fork_at_place core.places i d no_place within in
      subst (MayEat core.site (core.ate + 1)) (sym is) (may_eat (get_or core.places i no_place) (fork_at_place (get_or core.places i no_place)) (sound.places i no_place within) (in_hand_at i no_place within).1)

  pub differs : (place : Place) → IsSoundPlace core place → core.site ≡ neighbour_of core.site place → ⊥
  differs place w same = elim (cases_Bool (place.ends.0 == core.site)) [
    | inl e ↦
        let n : neighbour_of core.site place ≡ place.ends.1 = ap (λ (b : Bool). if b then place.ends.1 else place.ends.0) e in
        let low : place.ends.0 ≡ core.site = eqb-true _ _ e in
        omega (arith, w.ordered, same, n, low)
    | inr e ↦
        let n : neighbour_of core.site place ≡ place.ends.0 = ap (λ (b : Bool). if b then place.ends.1 else place.ends.0) e in
        false≢true (sym e ∙ eq-eqb place.ends.0 core.site (sym (same ∙ n)))
  ]

  -- the fork with the meal fits the place of the new core
  fits_meal : (place : Place) → IsSoundPlace core place → FitsPlace core.site core.ate place (fork_at_place place) → place.fork ≡ Here (fork_at_place place)
      → FitsPlace core.site (core.ate + 1) (place_in_meal core.site place) (after_meal core.site (core.ate + 1) (next_act core) (fork_at_place place))
      × (meals_of (neighbour_of core.site place) (after_meal core.site (core.ate + 1) (next_act core) (fork_at_place place)).log ≡ meals_in (neighbour_of core.site place) place.fork)
  fits_meal place w fits is =
      let f = fork_at_place place in (
        record {
          edge = fits.edge;
          ends = fits.ends;
          due = fits.due;
          here = location_of-push_meal f.ends.0 f.log core.site (core.ate + 1) ∙ fits.here;
          eaten = meals_of-push_own core.site f.log (core.ate + 1) ∙ ap (λ (n : ℕ). n + 1) fits.eaten;
        },
        meals_of-push_other (neighbour_of core.site place) core.site f.log (core.ate + 1) (differs place w) ∙ ap (meals_in (neighbour_of core.site place)) (sym is),
      )

  pub is_meal : (meal : SeenMeal) → meal.site ≡ core.site → meal.k ≡ core.ate + 1 → meal.forks ≡ map (after_meal core.site (core.ate + 1) (next_act core)) (forks_of core.places) → IsMealOf (after_begin core) meal
  is_meal meal site k forks =
      let f = λ (p : Place). after_meal core.site (core.ate + 1) (next_act core) (fork_at_place p) in
      let all : meal.forks ≡ map f core.places = forks ∙ ap (map (after_meal core.site (core.ate + 1) (next_act core))) forks_are_all ∙ map_twice core.places in
      record {
        site = site;
        k = k;
        count = ap length all ∙ length-map core.places f ∙ sym (length-map core.places (place_in_meal core.site));
        forks = λ i past h.
            let within : i < length core.places = omega (arith, h, length-map core.places (place_in_meal core.site)) in
            let p = get_or core.places i no_place in
            let place_is : place_at (after_begin core) i ≡ place_in_meal core.site p = get_or-map_at (place_in_meal core.site) core.places i no_place no_place within in
            let fork_is : get_or meal.forks i past ≡ f p = ap (λ (l : List SeenFork). get_or l i past) all ∙ get_or-map_at f core.places i past no_place within in
            let w = in_hand_at i no_place within in
            let fits = fits_meal p (sound.places i no_place within) w.1 w.0 in
            fits_at i (get_or meal.forks i past) p place_is fork_is fits.0 fits.1;
      }
    where
      map_twice : (xs : List Place) → map (after_meal core.site (core.ate + 1) (next_act core)) (map fork_at_place xs) ≡ map (λ (p : Place). after_meal core.site (core.ate + 1) (next_act core) (fork_at_place p)) xs
      map_twice [] = refl
      map_twice (x ∷ xs) = ap (λ (l : List SeenFork). after_meal core.site (core.ate + 1) (next_act core) (fork_at_place x) ∷ l) (map_twice xs)

      fits_at : (i : ℕ) (fork : SeenFork) (p : Place) → place_at (after_begin core) i ≡ place_in_meal core.site p → fork ≡ after_meal core.site (core.ate + 1) (next_act core) (fork_at_place p)
          → FitsPlace core.site (core.ate + 1) (place_in_meal core.site p) (after_meal core.site (core.ate + 1) (next_act core) (fork_at_place p))
          → meals_of (neighbour_of core.site p) (after_meal core.site (core.ate + 1) (next_act core) (fork_at_place p)).log ≡ meals_in (neighbour_of core.site p) p.fork
          → FitsMeal (after_begin core) i fork
      fits_at i fork p place_is fork_is fits meals =
          let P : Place → SeenFork → Type 0 = λ q f. FitsPlace core.site (core.ate + 1) q f in
          let Q : Place → SeenFork → Type 0 = λ q f. meals_of (neighbour_of core.site q) f.log ≡ meals_in (neighbour_of core.site q) q.fork in
          record {
            fits = subst (λ (q : Place). P q fork) (sym place_is) (subst (P (place_in_meal core.site p)) (sym fork_is) fits);
            meals = subst (λ (q : Place). Q q fork) (sym place_is) (subst (Q (place_in_meal core.site p)) (sym fork_is) meals);
          }

  -- the new core is sound
  pub sound_begun : IsSound (after_begin core)
  sound_begun = record {
    places = λ i d h.
        let within : i < length core.places = omega (arith, h, length-map core.places (place_in_meal core.site)) in
        subst (IsSoundPlace (after_begin core)) (sym (get_or-map_at (place_in_meal core.site) core.places i d no_place within)) (lifted_sound (get_or core.places i no_place) (sound.places i no_place within) (in_hand_at i no_place within).0);
    acts = sound.acts;
    small_acts = sound.small_acts;
    within = omega (arith, left);
    hungry = λ h. absurd (false≢true h);
  }
    where
      lifted_sound : (p : Place) → IsSoundPlace core p → p.fork ≡ Here (fork_at_place p) → IsSoundPlace (after_begin core) (place_in_meal core.site p)
      lifted_sound p w is = record { ordered = w.ordered; end = w.end; own_due = w.own_due; slot = refl; asked = λ _ token. w.asked (ap is_held is) token; token = w.token }

  -- the new core represents the state after the step
  pub stands_begun : (plan : SeenPlan) (state : LocalState) → KeepsStreams plan core.site state → Refines plan state core → Refines plan (after plan core.site state Begin) (after_begin core)
  stands_begun plan state keeps stands = record {
    is_plan = stands.is_plan;
    is_site = stands.is_site;
    due = stands.due;
    acts = stands.acts;
    resigns = stands.resigns;
    phase = refl;
    ate = ap (λ (n : ℕ). n + 1) stands.ate;
    must_quit = stands.must_quit;
    has_quit = stands.has_quit;
    degree = length-map core.places (place_in_meal core.site) ∙ stands.degree;
    places = λ i past h.
        let within : i < length core.places = omega (arith, h, length-map core.places (place_in_meal core.site)) in
        get_or-map_at (place_in_meal core.site) core.places i past no_place within ∙ lifted_is i within;
  }
    where
      lifted_is : (i : ℕ) → i < length core.places → place_in_meal core.site (get_or core.places i no_place) ≡ kept_of plan core.site Eating (state.ate + 1) (edge_at plan core.site i) (traffic_at state i)
      lifted_is i within =
          let s = core.site in
          let edge = edge_at plan core.site i in
          let t = traffic_at state i in
          let p = get_or core.places i no_place in
          let there = neighbour_at plan core.site i in
          let fork = hand_fork plan s edge state.ate t in
          let is : p ≡ kept_of plan s state.phase state.ate edge t = stands.places i no_place within in
          let held : (forks_held plan s edge t == 1) ≡ true = sym (slot_held (forks_held plan s edge t == 1) state.phase (meals_of there fork.log) fork) ∙ ap (λ (p : Place). is_held p.fork) (sym is) ∙ ap is_held (in_hand_at i no_place within).0 in
          let still : is_eating state.phase ≡ false = ap is_eating (sym stands.phase) ∙ awake in
          let apart : s ≡ there → ⊥ = λ same. differs p (sound.places i no_place within) (same ∙ ap (neighbour_of s) (sym is)) in
          let last : meals_of s (last_log_or [] t.taken) ≤ state.ate = (keeps.places i (omega (arith, within, stands.degree))).last_within in
          let more : meals_of there (hand s state.ate t) ≡ meals_of there (hand s (state.ate + 1) t) =
          sym (ap (meals_of there) (hand-more s state.ate (last_log_or [] t.taken) last) ∙ meals_of-push_other there s (hand s state.ate t) (state.ate + 1) apart) in
          ap (place_in_meal s) is ∙ ap (λ (slot : ForkSlot). record (kept_of plan s state.phase state.ate edge t) { fork = slot })
          (lift_slot (forks_held plan s edge t == 1) state.phase (meals_of there fork.log) (meals_of there (hand s (state.ate + 1) t)) fork there held still more)

  -- the forks of the meal are those in hand after the step
  pub in_hand_begun : (plan : SeenPlan) (state : LocalState) → KeepsStreams plan core.site state → Refines plan state core
      → map (after_meal core.site (core.ate + 1) (next_act core)) (forks_of core.places) ≡ forks_in_hand plan core.site (after plan core.site state Begin) (all_places state)
  in_hand_begun plan state keeps stands =
      let still : is_eating state.phase ≡ false = ap is_eating (sym stands.phase) ∙ awake in
      let act : next_act core ≡ act_of plan core.site (state.ate + 1) = next_is plan state core stands in
      ap (λ (l : List SeenFork). map (after_meal core.site (core.ate + 1) (next_act core)) l) (forks_by_lists plan state core stands still)
      ∙ ap₂ (λ (n : ℕ) (act : Act). map (after_meal core.site (n + 1) act) (forks_in_hand plan core.site state (all_places state))) stands.ate act
      ∙ more_by plan core.site state (length state.traffic) 0 (λ i h. (keeps.places i (omega (arith, h))).last_within)
