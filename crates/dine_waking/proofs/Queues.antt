-- What an event does with the letters in the links.
use Rattle.std.proofs.Common.{◌≡◌, ◌≢◌, ℕ, ◌<◌, nat_lt, true, List, [], ◌∷◌, ◌++◌, length, drop, slice_set, Option, Some, None, sym, ◌∙◌, ap, inl, inr, arith, length-append}
use Rattle.std.specs.Option.{option_map, option_and_then}
use Rattle.std.proofs.lemmas.Bool.{and_from, cases_eq, cond-true, lt-ltb}
use Rattle.std.proofs.lemmas.List.{get_or-set_same, get_or-set_other}
use Rattle.dine_graph.specs.Plan.{SeenPlan, IsPlan, site_count, edges_of}
use Rattle.dine_rules.specs.declared.events.Event.{Event}
use Rattle.dine_rules.specs.declared.events.EventKind.{EventKind}
use Rattle.dine_rules.specs.declared.events.EventKind.TheVariants as event
use Rattle.dine_rules.specs.declared.letters.Letter.{Letter}
use Rattle.dine_rules.specs.Breach.{is_allowed}
use Rattle.dine_rules.specs.Links.{queue_to}
use Rattle.dine_rules.specs.Local.{LocalState, Traffic, edge_at, neighbour_at, no_traffic, traffic_at}
use Rattle.dine_rules.specs.Steps.{Step, Take, after, may, with_put, with_taken}
use Rattle.dine_rules.specs.World.{WorldState, local_after, no_state, place_of, put_to, site_after, state_of, step_of, world_after}
use Rattle.dine_rules.proofs.shared.counting.Persistence.{set_cases}
use Rattle.dine_rules.proofs.shared.links.WorldStreams.{WorldKeeps, event_is_step, neighbour_differs}
use Rattle.dine_rules.proofs.shared.one_place.Placed.{placed}
use Rattle.dine_waking.proofs.Quiet.{first_is_next}

-- ---- one letter more at a place

taken_keeps_put : (state : LocalState) (i j : ℕ) (l : Letter) → (traffic_at (with_taken i l state) j).put ≡ (traffic_at state j).put
taken_keeps_put state i j l = elim (set_cases state.traffic i j (record { put = (traffic_at state i).put; taken = (traffic_at state i).taken ++ l ∷ [] }) no_traffic) [
  | inl same ↦ ap (λ (x : Traffic). x.put) same
  | inr w ↦ ap (λ (x : Traffic). x.put) w.1 ∙ ap (λ (k : ℕ). (traffic_at state k).put) (sym w.0)
]

pub put_keeps_taken : (state : LocalState) (i j : ℕ) (l : Letter) → (traffic_at (with_put i l state) j).taken ≡ (traffic_at state j).taken
put_keeps_taken state i j l = elim (set_cases state.traffic i j (record { put = (traffic_at state i).put ++ l ∷ []; taken = (traffic_at state i).taken }) no_traffic) [
  | inl same ↦ ap (λ (x : Traffic). x.taken) same
  | inr w ↦ ap (λ (x : Traffic). x.taken) w.1 ∙ ap (λ (k : ℕ). (traffic_at state k).taken) (sym w.0)
]

pub taken_here : (state : LocalState) (i : ℕ) (l : Letter) → i < length state.traffic → (traffic_at (with_taken i l state) i).taken ≡ (traffic_at state i).taken ++ l ∷ []
taken_here state i l within = ap (λ (x : Traffic). x.taken) (get_or-set_same state.traffic i (record { put = (traffic_at state i).put; taken = (traffic_at state i).taken ++ l ∷ [] }) no_traffic within)

pub taken_elsewhere : (state : LocalState) (i j : ℕ) (l : Letter) → j ≢ i → (traffic_at (with_taken i l state) j).taken ≡ (traffic_at state j).taken
taken_elsewhere state i j l other = ap (λ (x : Traffic). x.taken) (get_or-set_other state.traffic i j (record { put = (traffic_at state i).put; taken = (traffic_at state i).taken ++ l ∷ [] }) no_traffic other)

pub put_here : (state : LocalState) (i : ℕ) (l : Letter) → i < length state.traffic → (traffic_at (with_put i l state) i).put ≡ (traffic_at state i).put ++ l ∷ []
put_here state i l within = ap (λ (x : Traffic). x.put) (get_or-set_same state.traffic i (record { put = (traffic_at state i).put ++ l ∷ []; taken = (traffic_at state i).taken }) no_traffic within)

pub put_elsewhere : (state : LocalState) (i j : ℕ) (l : Letter) → j ≢ i → (traffic_at (with_put i l state) j).put ≡ (traffic_at state j).put
put_elsewhere state i j l other = ap (λ (x : Traffic). x.put) (get_or-set_other state.traffic i j (record { put = (traffic_at state i).put ++ l ∷ []; taken = (traffic_at state i).taken }) no_traffic other)

-- ---- one site has another state

module _ (plan : SeenPlan) (is_plan : IsPlan plan) (world new : WorldState) (s : ℕ) (state : LocalState) (is : new ≡ slice_set world s state) (is_site : s < length world) where
  pub state_here : state_of new s ≡ state
  state_here = ap (λ (w : WorldState). state_of w s) is ∙ get_or-set_same world s state no_state is_site

  pub state_elsewhere : (t : ℕ) → t ≢ s → state_of new t ≡ state_of world t
  state_elsewhere t other = ap (λ (w : WorldState). state_of w t) is ∙ get_or-set_other world s t state no_state other

  -- the letters in the links to the site
  pub queue_here : (j : ℕ) → j < length (edges_of plan s) → queue_to plan new s j ≡ drop (length (traffic_at state j).taken) (put_to plan world s j)
  queue_here j within =
      ap (λ (x : LocalState). drop (length (traffic_at x j).taken) (put_to plan new s j)) state_here
      ∙ ap (λ (x : LocalState). drop (length (traffic_at state j).taken) (traffic_at x (place_of plan (neighbour_at plan s j) (edge_at plan s j))).put)
      (state_elsewhere (neighbour_at plan s j) (λ same. neighbour_differs plan s j (placed plan s j is_plan within) same))

  -- the letters in the links to another site
  pub queue_away : (t j : ℕ) → t ≢ s → neighbour_at plan t j ≢ s → queue_to plan new t j ≡ queue_to plan world t j
  queue_away t j other apart =
      ap (λ (x : LocalState). drop (length (traffic_at x j).taken) (put_to plan new t j)) (state_elsewhere t other)
      ∙ ap (λ (x : LocalState). drop (length (traffic_at (state_of world t) j).taken) (traffic_at x (place_of plan (neighbour_at plan t j) (edge_at plan t j))).put) (state_elsewhere (neighbour_at plan t j) apart)

  -- the letters in a link from the site
  pub queue_from : (t j : ℕ) → t ≢ s → neighbour_at plan t j ≡ s → queue_to plan new t j ≡ drop (length (traffic_at (state_of world t) j).taken) (traffic_at state (place_of plan s (edge_at plan t j))).put
  queue_from t j other same =
      ap (λ (x : LocalState). drop (length (traffic_at x j).taken) (put_to plan new t j)) (state_elsewhere t other)
      ∙ ap (λ (x : ℕ). drop (length (traffic_at (state_of world t) j).taken) (traffic_at (state_of new x) (place_of plan x (edge_at plan t j))).put) same
      ∙ ap (λ (x : LocalState). drop (length (traffic_at (state_of world t) j).taken) (traffic_at x (place_of plan s (edge_at plan t j))).put) state_here

  -- where the site put nothing more at the place, the link from there is as it was
  pub queue_stays : (t j : ℕ) → t ≢ s → (neighbour_at plan t j ≡ s → (traffic_at state (place_of plan s (edge_at plan t j))).put ≡ (traffic_at (state_of world s) (place_of plan s (edge_at plan t j))).put)
      → queue_to plan new t j ≡ queue_to plan world t j
  queue_stays t j other same_put = elim (cases_eq (neighbour_at plan t j) s) [
    | inl same ↦
        queue_from t j other same ∙ ap (drop (length (traffic_at (state_of world t) j).taken)) (same_put same)
        ∙ sym (ap (λ (x : ℕ). drop (length (traffic_at (state_of world t) j).taken) (traffic_at (state_of world x) (place_of plan x (edge_at plan t j))).put) same)
    | inr apart ↦ queue_away t j other apart
  ]

-- ---- an event happens

-- an event whose step the site may do leads to the state after this step
pub event_happens : (plan : SeenPlan) (world : WorldState) (s : ℕ) (kind : EventKind) (step : Step) → s < site_count plan → step_of plan world s kind ≡ Some step → may plan s (state_of world s) step ≡ true
    → world_after plan world (record { site = s; kind = kind }) ≡ Some (slice_set world s (after plan s (state_of world s) step))
event_happens plan world s kind step is_site is_step needs =
    cond-true (nat_lt s (site_count plan)) (option_map (slice_set world s) (site_after plan world s kind)) None (lt-ltb s (site_count plan) is_site)
    ∙ ap (λ (o : Option Step). option_map (slice_set world s) (option_and_then (local_after plan s (state_of world s)) o)) is_step
    ∙ ap (λ (o : Option LocalState). option_map (slice_set world s) o) (cond-true (may plan s (state_of world s) step) (Some (after plan s (state_of world s) step)) None needs)

-- ---- a letter is taken

-- the event takes the first letter of the link at place i
abbrev pub take_at : ℕ → ℕ → Event
take_at s i = record { site = s; kind = event.Take i }

pub record IsTaken (plan : SeenPlan) (world new : WorldState) (s i : ℕ) (l : Letter) (rest : List Letter) : Type 0 where
  pub state : state_of new s ≡ with_taken i l (state_of world s)
  pub others : (t : ℕ) → t ≢ s → state_of new t ≡ state_of world t
  pub queue : queue_to plan new s i ≡ rest
  pub queues : (j : ℕ) → j < length (edges_of plan s) → j ≢ i → queue_to plan new s j ≡ queue_to plan world s j
  pub queues_away : (t j : ℕ) → t ≢ s → queue_to plan new t j ≡ queue_to plan world t j

module _ (plan : SeenPlan) (is_plan : IsPlan plan) (world : WorldState) (kept : WorldKeeps plan world) (s i : ℕ) (is_site : s < site_count plan) (within : i < length (edges_of plan s)) (l : Letter) (rest : List Letter) (first : queue_to plan world s i ≡ l ∷ rest) where
  is_place : i < length (state_of world s).traffic
  is_place = omega (arith, (kept.keeps s is_site).every_place)

  has_site : s < length world
  has_site = omega (arith, kept.sites)

  -- what such an event changes
  pub takes_by : (new : WorldState) → new ≡ slice_set world s (with_taken i l (state_of world s)) → IsTaken plan world new s i l rest
  takes_by new is =
      let state : LocalState = with_taken i l (state_of world s) in
      record {
        state = state_here plan is_plan world new s state is has_site;
        others = state_elsewhere plan is_plan world new s state is has_site;
        queue = queue_here plan is_plan world new s state is has_site i within
            ∙ ap (λ (letters : List Letter). drop (length letters) (put_to plan world s i)) (taken_here (state_of world s) i l is_place)
            ∙ ap (λ (n : ℕ). drop n (put_to plan world s i)) (length-append (traffic_at (state_of world s) i).taken (l ∷ []))
            ∙ (first_is_next (put_to plan world s i) (length (traffic_at (state_of world s) i).taken) l rest first).1;
        queues = λ j of_site other. queue_here plan is_plan world new s state is has_site j of_site
            ∙ ap (λ (letters : List Letter). drop (length letters) (put_to plan world s j)) (taken_elsewhere (state_of world s) i j l other);
        queues_away = λ t j other. queue_stays plan is_plan world new s state is has_site t j other (λ same. taken_keeps_put (state_of world s) i (place_of plan s (edge_at plan t j)) l);
      }

  next_is : step_of plan world s (event.Take i) ≡ Some (Take i l)
  next_is = ap (option_map (Take i)) (first_is_next (put_to plan world s i) (length (traffic_at (state_of world s) i).taken) l rest first).0

  -- it does so where it happens
  pub takes_first : (new : WorldState) → world_after plan world (take_at s i) ≡ Some new → IsTaken plan world new s i l rest
  takes_first new h =
      let w = event_is_step plan world (take_at s i) new h in
      let same : Take i l ≡ w.step = (let e : Some (Take i l) ≡ Some w.step = sym next_is ∙ w.step_is in cc) in
      takes_by new (w.changes ∙ ap (λ (step : Step). slice_set world s (after plan s (state_of world s) step)) (sym same))

  -- and it happens where the letter is allowed
  pub take_happens : is_allowed plan s (state_of world s) i l ≡ true → world_after plan world (take_at s i) ≡ Some (slice_set world s (with_taken i l (state_of world s)))
  take_happens allowed = event_happens plan world s (event.Take i) (Take i l) is_site next_is (and_from _ _ (lt-ltb i (length (state_of world s).traffic) is_place) allowed)
