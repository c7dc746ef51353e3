-- What holds of all places of a core, and of all places of the state that it represents.
use Rattle.std.proofs.Common.{◌≡◌, ℕ, zero, suc, ◌+◌, ◌<◌, ◌≤◌, ◌==◌, Bool, true, false, not, ◌&&◌, ◌||◌, List, [], ◌∷◌, ◌++◌, length, get_or, option_to_list, is_some, Some, None, refl, ◌∙◌, ap, ap₂, arith, if◌then◌else◌}
use Rattle.std.specs.List.{list_all, range_with_len}
use Rattle.dine_token.specs.Fork.{SeenFork}
use Rattle.dine_token.specs.Log.{is_dirty, meals_of}
use Rattle.dine_graph.specs.Plan.{SeenPlan, job_count}
use Rattle.dine_rules.specs.declared.phase.Phase.{Phase}
use Rattle.dine_rules.specs.declared.phase.Phase.TheVariants.{Thinking, Hungry, Eating}
use Rattle.dine_site.specs.declared.site.places.Place.{Place}
use Rattle.dine_site.specs.declared.site.places.ForkSlot.TheVariants.{Away, Here, InMeal}
use Rattle.dine_rules.specs.Letters.{has_done, has_close}
use Rattle.dine_rules.specs.Local.{LocalState, traffic_at, edge_at, has_no_job_left, neighbour_at, is_eating, is_hungry, is_thinking}
use Rattle.dine_rules.specs.Holdings.{fork_at, token_at, hand_at}
use Rattle.dine_rules.specs.Steps.{hand_fork_at, is_ready, may, Begin}
use Rattle.dine_rules.specs.Streams.{KeepsStreams}
use Rattle.dine_site.specs.Core.{SeenCore, Refines, kept_at, forks_in_hand, tokens_in_hand}
use Rattle.dine_site.specs.Places.{is_closed_at, can_begin, has_all_said, no_place, is_ready_at, is_held, is_dirty_in_hand, is_over_at, fork_in_hand, forks_of, tokens_of}
use Rattle.dine_site.specs.Standing.{all_places, has_finished}

-- a test of all places, as a test of their numbers
pub list_all_by : (p : Place → Bool) (q : ℕ → Bool) (places : List Place) (j : ℕ) → ((i : ℕ) → i < length places → p (get_or places i no_place) ≡ q (j + i))
    → list_all p places ≡ list_all q (range_with_len j (length places))
list_all_by p q [] j h = refl
list_all_by p q (place ∷ places) j h =
    let here : p place ≡ q j = h 0 (omega arith) ∙ ap q (let e : j + 0 ≡ j = omega arith in e) in
    ap₂ (λ (a b : Bool). a && b) here
    (list_all_by p q places (j + 1) (λ i within. h (suc i) (omega arith) ∙ ap q (let e : j + suc i ≡ j + 1 + i = omega arith in e)))

-- a place's test of readiness, by the whole lists
ready_by : (phase : Phase) (held : Bool) (token : Bool) (meals : ℕ) (fork : SeenFork) (edge : ℕ) → is_eating phase ≡ false
    → ((is_held (if held then (if is_eating phase then InMeal meals else Here fork) else Away))
    && (not (is_dirty_in_hand (if held then (if is_eating phase then InMeal meals else Here fork) else Away)) || not (is_some {T = ℕ} (if token then Some edge else None))))
    ≡ (held && (not (is_dirty fork.log) || not token))
ready_by Thinking true true meals fork edge h = refl
ready_by Thinking true false meals fork edge h = refl
ready_by Thinking false token meals fork edge h = refl
ready_by Hungry true true meals fork edge h = refl
ready_by Hungry true false meals fork edge h = refl
ready_by Hungry false token meals fork edge h = refl
ready_by Eating held token meals fork edge h = absurd (cc)

pub not_one : (n : ℕ) → n ≤ 1 → not (n == 1) ≡ (n == 0)
not_one zero h = refl
not_one (suc zero) h = refl
not_one (suc (suc n)) h = absurd (omega arith)

slot_forks : (phase : Phase) (held : Bool) (meals : ℕ) (fork : SeenFork) (rest : List SeenFork) → is_eating phase ≡ false
    → fork_in_hand (if held then (if is_eating phase then InMeal meals else Here fork) else Away) ++ rest ≡ (if held then fork ∷ rest else rest)
slot_forks Thinking true meals fork rest h = refl
slot_forks Hungry true meals fork rest h = refl
slot_forks Eating held meals fork rest h = absurd (cc)
slot_forks phase false meals fork rest h = refl

slot_tokens : (held : Bool) (edge : ℕ) (rest : List ℕ) → option_to_list (if held then Some edge else None) ++ rest ≡ (if held then edge ∷ rest else rest)
slot_tokens true edge rest = refl
slot_tokens false edge rest = refl

module _ (plan : SeenPlan) (s : ℕ) (state : LocalState) where
  forks_by : (places : List Place) (j : ℕ) → is_eating state.phase ≡ false → ((i : ℕ) → i < length places → get_or places i no_place ≡ kept_at plan s state (j + i))
      → forks_of places ≡ forks_in_hand plan s state (range_with_len j (length places))
  forks_by [] j awake h = refl
  forks_by (place ∷ places) j awake h =
      let here : place ≡ kept_at plan s state j = h 0 (omega arith) ∙ ap (kept_at plan s state) (let e : j + 0 ≡ j = omega arith in e) in
      ap (λ (p : Place). fork_in_hand p.fork ++ forks_of places) here
      ∙ ap (λ (l : List SeenFork). fork_in_hand (kept_at plan s state j).fork ++ l) (forks_by places (j + 1) awake (λ i within. h (suc i) (omega arith) ∙ ap (kept_at plan s state) (let e : j + suc i ≡ j + 1 + i = omega arith in e)))
      ∙ slot_forks state.phase (fork_at plan s state j == 1) (meals_of (neighbour_at plan s j) (hand_at s state j)) (hand_fork_at plan s state j)
      (forks_in_hand plan s state (range_with_len (j + 1) (length places))) awake

  tokens_by : (places : List Place) (j : ℕ) → ((i : ℕ) → i < length places → get_or places i no_place ≡ kept_at plan s state (j + i))
      → tokens_of places ≡ tokens_in_hand plan s state (range_with_len j (length places))
  tokens_by [] j h = refl
  tokens_by (place ∷ places) j h =
      let here : place ≡ kept_at plan s state j = h 0 (omega arith) ∙ ap (kept_at plan s state) (let e : j + 0 ≡ j = omega arith in e) in
      ap (λ (p : Place). option_to_list p.token ++ tokens_of places) here
      ∙ ap (λ (l : List ℕ). option_to_list (kept_at plan s state j).token ++ l) (tokens_by places (j + 1) (λ i within. h (suc i) (omega arith) ∙ ap (kept_at plan s state) (let e : j + suc i ≡ j + 1 + i = omega arith in e)))
      ∙ slot_tokens (token_at plan s state j == 1) (edge_at plan s j) (tokens_in_hand plan s state (range_with_len (j + 1) (length places)))

pub and_along : (a b c : Bool) → (a ≡ true → b ≡ c) → (a && b) ≡ (a && c)
and_along true b c h = h refl
and_along false b c h = refl

pub awake_hungry : (phase : Phase) → is_hungry phase ≡ true → is_eating phase ≡ false
awake_hungry Thinking h = refl
awake_hungry Hungry h = refl
awake_hungry Eating h = absurd (cc)

module _ (plan : SeenPlan) (state : LocalState) (core : SeenCore) (stands : Refines plan state core) where
  at_zero : (i : ℕ) → i < length core.places → get_or core.places i no_place ≡ kept_at plan core.site state (0 + i)
  at_zero i h = stands.places i no_place h ∙ ap (kept_at plan core.site state) (let e : i ≡ 0 + i = omega arith in e)

  over : (q : ℕ → Bool) → list_all q (range_with_len 0 (length core.places)) ≡ list_all q (all_places state)
  over q = ap (λ (n : ℕ). list_all q (range_with_len 0 n)) stands.degree

  pub closed_by : list_all is_closed_at core.places ≡ list_all (λ i. has_close (traffic_at state i).put) (all_places state)
  closed_by = list_all_by is_closed_at (λ i. has_close (traffic_at state i).put) core.places 0 (λ i h. ap (λ (p : Place). p.close_put) (at_zero i h))
      ∙ over (λ i. has_close (traffic_at state i).put)

  pub over_by : list_all is_over_at core.places ≡ list_all (λ i. has_done (traffic_at state i).put && has_done (traffic_at state i).taken && has_close (traffic_at state i).put && has_close (traffic_at state i).taken) (all_places state)
  over_by = list_all_by is_over_at (λ i. has_done (traffic_at state i).put && has_done (traffic_at state i).taken && has_close (traffic_at state i).put && has_close (traffic_at state i).taken) core.places 0
      (λ i h. ap is_over_at (at_zero i h)) ∙ over (λ i. has_done (traffic_at state i).put && has_done (traffic_at state i).taken && has_close (traffic_at state i).put && has_close (traffic_at state i).taken)

  pub ready_at : (i : ℕ) → is_eating state.phase ≡ false → token_at plan core.site state i ≤ 1 → is_ready_at (kept_at plan core.site state i) ≡ is_ready plan core.site state i
  ready_at i awake one =
      ready_by state.phase (fork_at plan core.site state i == 1) (token_at plan core.site state i == 1) (meals_of (neighbour_at plan core.site i) (hand_at core.site state i))
      (hand_fork_at plan core.site state i) (edge_at plan core.site i) awake
      ∙ ap (λ (b : Bool). fork_at plan core.site state i == 1 && (not (is_dirty (hand_at core.site state i)) || b)) (not_one (token_at plan core.site state i) one)

  pub ready_by_lists : is_eating state.phase ≡ false → ((i : ℕ) → i < length state.traffic → token_at plan core.site state i ≤ 1)
      → list_all is_ready_at core.places ≡ list_all (is_ready plan core.site state) (all_places state)
  ready_by_lists awake one = list_all_by is_ready_at (is_ready plan core.site state) core.places 0
      (λ i h. ap is_ready_at (at_zero i h) ∙ ready_at (0 + i) awake (one (0 + i) (omega (arith, stands.degree)))) ∙ over (is_ready plan core.site state)

  pub forks_by_lists : is_eating state.phase ≡ false → forks_of core.places ≡ forks_in_hand plan core.site state (all_places state)
  forks_by_lists awake = forks_by plan core.site state core.places 0 awake at_zero ∙ ap (λ (n : ℕ). forks_in_hand plan core.site state (range_with_len 0 n)) stands.degree

  pub tokens_by_lists : tokens_of core.places ≡ tokens_in_hand plan core.site state (all_places state)
  tokens_by_lists = tokens_by plan core.site state core.places 0 at_zero ∙ ap (λ (n : ℕ). tokens_in_hand plan core.site state (range_with_len 0 n)) stands.degree

  -- a meal may begin, by the places and by the whole lists
  pub begin_by : KeepsStreams plan core.site state → can_begin core ≡ may plan core.site state Begin
  begin_by keeps = ap (λ (phase : Phase). is_hungry phase && list_all is_ready_at core.places) stands.phase
      ∙ and_along (is_hungry state.phase) (list_all is_ready_at core.places) (list_all (is_ready plan core.site state) (all_places state))
      (λ hungry. ready_by_lists (awake_hungry state.phase hungry) (λ i h. (keeps.places i h).one_token))

  pub finished_by : has_all_said core ≡ has_finished plan core.site state
  finished_by = ap (λ (phase : Phase). is_thinking phase && (core.ate == core.due || core.has_quit) && list_all is_over_at core.places) stands.phase
      ∙ ap (λ (n : ℕ). is_thinking state.phase && (n == core.due || core.has_quit) && list_all is_over_at core.places) stands.ate
      ∙ ap (λ (n : ℕ). is_thinking state.phase && (state.ate == n || core.has_quit) && list_all is_over_at core.places) stands.due
      ∙ ap (λ (b : Bool). is_thinking state.phase && (state.ate == job_count plan core.site || b) && list_all is_over_at core.places) stands.has_quit
      ∙ ap (λ (b : Bool). is_thinking state.phase && has_no_job_left plan core.site state && b) over_by
