-- A neighbour that asked waits for one meal at most.
use Rattle.std.proofs.Common.{◌≡◌, ◌≢◌, ℕ, suc, ◌+◌, ◌<◌, ◌≤◌, ◌==◌, ◌||◌, cond, Bool, true, false, List, [], ◌∷◌, ◌++◌, length, take, get_or, slice_get, slice_set, Some, refl, sym, ◌∙◌, ap, ap₂, subst, inl, inr, arith, append_assoc, append-nil, length-append}
use Rattle.std.specs.List.{list_any}
use Rattle.std.proofs.Math.Seq.{take-append_seam}
use Rattle.std.proofs.lemmas.Bool.{and_parts, cases_eq, cond-false, cond-true, eq-eqb, ltb-true, ne_eqb}
use Rattle.std.proofs.lemmas.List.{get_or-set_same, get_or-set_other}
use Rattle.std.proofs.lemmas.List.FromFn.{length-map-range_with_len}
use Rattle.dine_token.specs.Log.{is_dirty}
use Rattle.dine_graph.specs.Plan.{SeenPlan, edges_of, site_count}
use Rattle.dine_rules.specs.declared.letters.Letter.{Letter}
use Rattle.dine_rules.specs.declared.letters.Letter.TheVariants as letter
use Rattle.dine_rules.specs.declared.events.Event.{Event}
use Rattle.dine_rules.specs.declared.events.EventKind.{EventKind}
use Rattle.dine_rules.specs.declared.events.EventKind.TheVariants as event
use Rattle.dine_rules.specs.Askers.{AskersWaitForOneMeal, NeighbourWaits, gives_at, log_after, meals_begun, takes_at}
use Rattle.dine_rules.specs.Holdings.{hand_at, with_meals_to}
use Rattle.dine_rules.specs.Journals.{IsJournal, IsWholeOrder, journal_of, part_of}
use Rattle.dine_rules.specs.Letters.{last_log_or}
use Rattle.dine_rules.specs.Local.{LocalState, Traffic, no_traffic, start_of, traffic_at}
use Rattle.dine_rules.specs.StepLists.{LeadTo, begins_in, is_give_at}
use Rattle.dine_rules.specs.declared.events.Shape.TheVariants.{Takes}
use Rattle.dine_rules.specs.Steps.{Step, Take, after, may}
use Rattle.dine_rules.specs.World.{Reaches, WorldState, start, state_of}
use Rattle.dine_rules.proofs.shared.counting.Persistence.{set_cases}
use Rattle.dine_rules.proofs.shared.links.WorldStreams.{next_of, start_state}
use Rattle.dine_rules.proofs.one_site.Askers.{IsAskedNow, asked_now, asker_first, asker_next}
use Rattle.dine_rules.proofs.shared.one_site.Shapes.{by_moves, moved, step_shape}
use Rattle.dine_rules.proofs.shared.one_site.Site.{no_traffic_yet}
use Rattle.dine_rules.proofs.journals.Going.{Go, IsStepFor, events_go, go_ate, go_cut, journal_goes}

-- an event gives a fork if its step does
gives_same : (i : ℕ) (kind : EventKind) (step : Step) → IsStepFor kind step → is_give_at i step ≡ gives_at i kind
gives_same i (event.Take j) step h = ap (is_give_at i) h.1
gives_same i (event.Give j) step h = ap (is_give_at i) h
gives_same i event.End step h = ap (is_give_at i) h.1
gives_same i event.Begin step h = ap (is_give_at i) h
gives_same i event.Quit step h = ap (is_give_at i) h
gives_same i event.Hungry step h = ap (is_give_at i) h
gives_same i (event.Ask j) step h = ap (is_give_at i) h
gives_same i (event.Done j) step h = ap (is_give_at i) h
gives_same i (event.Close j) step h = ap (is_give_at i) h

-- an event begins a meal if its step does
begins_same : (kind : EventKind) (step : Step) (kinds : List EventKind) (steps : List Step) → IsStepFor kind step → begins_in steps ≡ meals_begun kinds → begins_in (step ∷ steps) ≡ meals_begun (kind ∷ kinds)
begins_same (event.Take j) step kinds steps h rest = ap (λ (x : Step). begins_in (x ∷ steps)) h.1 ∙ rest
begins_same (event.Give j) step kinds steps h rest = ap (λ (x : Step). begins_in (x ∷ steps)) h ∙ rest
begins_same event.End step kinds steps h rest = ap (λ (x : Step). begins_in (x ∷ steps)) h.1 ∙ rest
begins_same event.Begin step kinds steps h rest = ap (λ (x : Step). begins_in (x ∷ steps)) h ∙ ap suc rest
begins_same event.Quit step kinds steps h rest = ap (λ (x : Step). begins_in (x ∷ steps)) h ∙ rest
begins_same event.Hungry step kinds steps h rest = ap (λ (x : Step). begins_in (x ∷ steps)) h ∙ rest
begins_same (event.Ask j) step kinds steps h rest = ap (λ (x : Step). begins_in (x ∷ steps)) h ∙ rest
begins_same (event.Done j) step kinds steps h rest = ap (λ (x : Step). begins_in (x ∷ steps)) h ∙ rest
begins_same (event.Close j) step kinds steps h rest = ap (λ (x : Step). begins_in (x ∷ steps)) h ∙ rest

-- ---- the steps of events in a row

module _ (plan : SeenPlan) (s : ℕ) where
  -- the steps, with as many meals
  pub record IsLed (state : LocalState) (kinds : List EventKind) (new : LocalState) : Type 0 where
    pub steps : List Step
    pub led : LeadTo plan s state steps new
    pub begins : begins_in steps ≡ meals_begun kinds
    pub gives : (i : ℕ) → list_any (is_give_at i) steps ≡ list_any (gives_at i) kinds

  go_led : (kinds : List EventKind) (state new : LocalState) → Go plan s state kinds new → IsLed state kinds new
  go_led [] state new go = record { steps = []; led = go; begins = refl; gives = λ i. refl }
  go_led (kind ∷ kinds) state new go =
      let rest = go_led kinds (after plan s state go.0) new go.3 in
      record {
        steps = go.0 ∷ rest.steps;
        led = (go.2, rest.led);
        begins = begins_same kind go.0 kinds rest.steps go.1 rest.begins;
        gives = λ i. ap₂ (λ (a b : Bool). a || b) (gives_same i kind go.0 go.1) (rest.gives i);
      }

  -- ---- the letters taken, and the meals

  -- these letters more were taken at the place
  pub record HasTaken (i : ℕ) (state : LocalState) (number : ℕ) (new : LocalState) : Type 0 where
    pub letters : List Letter
    pub is : (traffic_at new i).taken ≡ (traffic_at state i).taken ++ letters
    pub many : length letters ≡ number

  none_taken : (i : ℕ) (state new : LocalState) → (traffic_at new i).taken ≡ (traffic_at state i).taken → HasTaken i state 0 new
  none_taken i state new same = record { letters = []; is = same ∙ sym (append-nil (traffic_at state i).taken); many = refl }

  -- a step that takes no letter leaves what was taken
  stays : (i : ℕ) (state : LocalState) (step : Step) → ((k : ℕ) → step_shape step ≢ Takes k) → HasTaken i state 0 (after plan s state step)
  stays i state step none = none_taken i state (after plan s state step) (by_moves plan s state (λ new. (traffic_at new i).taken ≡ (traffic_at state i).taken) (step_shape step) (after plan s state step) (moved plan s state step)
      (λ k l is. elim (set_cases state.traffic k i _ no_traffic) [
        | inl same ↦ ap (λ (x : Traffic). x.taken) same
        | inr w ↦ ap (λ (x : Traffic). x.taken) w.1 ∙ ap (λ (x : ℕ). (traffic_at state x).taken) (sym w.0)
      ])
      (λ k l is. absurd (none k is))
      (λ same is. ap (λ (x : List Traffic). (get_or x i no_traffic).taken) same))

  -- a Take takes its letter at its place
  takes : (i j : ℕ) (l : Letter) (state : LocalState) → j < length state.traffic → HasTaken i state (cond (j == i) 1 0) (after plan s state (Take j l))
  takes i j l state within = elim (cases_eq i j) [
    | inl same ↦ record {
      letters = l ∷ [];
      is = ap (λ (x : ℕ). (get_or (slice_set state.traffic j new) x no_traffic).taken) same ∙ ap (λ (x : Traffic). x.taken) (get_or-set_same state.traffic j new no_traffic within)
          ∙ ap (λ (x : ℕ). (traffic_at state x).taken ++ l ∷ []) (sym same);
      many = sym (cond-true (j == i) 1 0 (eq-eqb j i (sym same)));
    }
    | inr other ↦ subst (λ (n : ℕ). HasTaken i state n (after plan s state (Take j l))) (sym (cond-false (j == i) 1 0 (ne_eqb j i (λ is. other (sym is)))))
        (none_taken i state (after plan s state (Take j l)) (ap (λ (x : Traffic). x.taken) (get_or-set_other state.traffic j i new no_traffic other)))
  ] where
    new : Traffic
    new = record (traffic_at state j) { taken = (traffic_at state j).taken ++ l ∷ [] }

  step_taken : (i : ℕ) (kind : EventKind) (step : Step) (state : LocalState) → IsStepFor kind step → may plan s state step ≡ true → HasTaken i state (takes_at i (kind ∷ [])) (after plan s state step)
  step_taken i (event.Take j) step state h needs =
      let n : cond (j == i) 1 0 ≡ cond (j == i) 1 0 + 0 = omega arith in
      let may_take : may plan s state (Take j h.0) ≡ true = subst (λ (x : Step). may plan s state x ≡ true) h.1 needs in
      subst (λ (x : Step). HasTaken i state (cond (j == i) 1 0 + 0) (after plan s state x)) (sym h.1)
      (subst (λ (x : ℕ). HasTaken i state x (after plan s state (Take j h.0))) n (takes i j h.0 state (ltb-true _ _ (and_parts _ _ may_take).0)))
  step_taken i (event.Give j) step state h needs = stays i state step (λ k is. let shape = ap step_shape (sym h) ∙ is in cc)
  step_taken i event.End step state h needs = stays i state step (λ k is. let shape = ap step_shape (sym h.1) ∙ is in cc)
  step_taken i event.Begin step state h needs = stays i state step (λ k is. let shape = ap step_shape (sym h) ∙ is in cc)
  step_taken i event.Quit step state h needs = stays i state step (λ k is. let shape = ap step_shape (sym h) ∙ is in cc)
  step_taken i event.Hungry step state h needs = stays i state step (λ k is. let shape = ap step_shape (sym h) ∙ is in cc)
  step_taken i (event.Ask j) step state h needs = stays i state step (λ k is. let shape = ap step_shape (sym h) ∙ is in cc)
  step_taken i (event.Done j) step state h needs = stays i state step (λ k is. let shape = ap step_shape (sym h) ∙ is in cc)
  step_taken i (event.Close j) step state h needs = stays i state step (λ k is. let shape = ap step_shape (sym h) ∙ is in cc)

  -- the number of Takes of one event and more
  takes_more : (i : ℕ) (kind : EventKind) (kinds : List EventKind) → takes_at i (kind ∷ kinds) ≡ takes_at i (kind ∷ []) + takes_at i kinds
  takes_more i (event.Take j) kinds = omega arith
  takes_more i kind kinds = omega arith

  go_taken : (i : ℕ) (kinds : List EventKind) (state new : LocalState) → Go plan s state kinds new → HasTaken i state (takes_at i kinds) new
  go_taken i [] state new go = none_taken i state new (ap (λ (x : LocalState). (traffic_at x i).taken) (sym go))
  go_taken i (kind ∷ kinds) state new go =
      let one = step_taken i kind go.0 state go.1 go.2 in
      let rest = go_taken i kinds (after plan s state go.0) new go.3 in
      record {
        letters = one.letters ++ rest.letters;
        is = rest.is ∙ ap (λ (x : List Letter). x ++ rest.letters) one.is ∙ append_assoc (traffic_at state i).taken one.letters rest.letters;
        many = omega (arith, length-append one.letters rest.letters, one.many, rest.many, takes_more i kind kinds);
      }

  -- ---- one wait

  led_then : (steps : List Step) (step : Step) (state mid : LocalState) → LeadTo plan s state steps mid → may plan s mid step ≡ true → LeadTo plan s state (steps ++ step ∷ []) (after plan s mid step)
  led_then [] step state mid run needs = (subst (λ (x : LocalState). may plan s x step ≡ true) (sym run) needs, ap (λ (x : LocalState). after plan s x step) run)
  led_then (first ∷ steps) step state mid run needs = (run.0, led_then steps step (after plan s state first) mid run.1 needs)

  module _ (end : LocalState) (journal : List EventKind) (go : Go plan s (start_of plan s) journal end) (i : ℕ) (first next : List EventKind) (waits : NeighbourWaits end i journal first next) where
    cut : (mid : LocalState) × Go plan s (start_of plan s) first mid × Go plan s mid (event.Take i ∷ next ++ waits.rest) end
    cut = go_cut plan s first (event.Take i ∷ next ++ waits.rest) (start_of plan s) end (subst (λ (x : List EventKind). Go plan s (start_of plan s) x end) (waits.stands ∙ append_assoc first (event.Take i ∷ next) waits.rest) go)

    abbrev mid : LocalState
    mid = cut.0

    -- what was taken by then
    before : HasTaken i (start_of plan s) (takes_at i first) mid
    before = go_taken i first (start_of plan s) mid cut.1

    taken_by_then : (traffic_at mid i).taken ≡ before.letters
    taken_by_then = before.is ∙ ap (λ (t : Traffic). t.taken ++ before.letters) (no_traffic_yet (edges_of plan s) i)

    -- the letter, and what was taken behind it
    abbrev taking : (step : Step) × IsStepFor (event.Take i) step × (may plan s mid step ≡ true) × Go plan s (after plan s mid step) (next ++ waits.rest) end
    taking = cut.2

    abbrev letter_there : Letter
    letter_there = taking.1.0

    may_take : may plan s mid (Take i letter_there) ≡ true
    may_take = subst (λ (x : Step). may plan s mid x ≡ true) taking.1.1 taking.2

    on : Go plan s (after plan s mid (Take i letter_there)) (next ++ waits.rest) end
    on = subst (λ (x : Step). Go plan s (after plan s mid x) (next ++ waits.rest) end) taking.1.1 taking.3

    later : HasTaken i (after plan s mid (Take i letter_there)) (takes_at i (next ++ waits.rest)) end
    later = go_taken i (next ++ waits.rest) (after plan s mid (Take i letter_there)) end on

    all_taken : (traffic_at end i).taken ≡ before.letters ++ letter_there ∷ later.letters
    all_taken = later.is
        ∙ ap (λ (x : Traffic). x.taken ++ later.letters) (get_or-set_same mid.traffic i _ no_traffic (ltb-true _ _ (and_parts _ _ may_take).0))
        ∙ append_assoc (traffic_at mid i).taken (letter_there ∷ []) later.letters
        ∙ ap (λ (x : List Letter). x ++ letter_there ∷ later.letters) taken_by_then

    -- the letter is the Request
    is_request : letter_there ≡ letter.Request waits.edge
    is_request =
        let at : slice_get (before.letters ++ letter_there ∷ later.letters) (length before.letters) ≡ Some (letter.Request waits.edge)
        = ap₂ (λ (x : List Letter) (n : ℕ). slice_get x n) (sym all_taken) before.many ∙ waits.asked in
        let w = next_of before.letters (letter_there ∷ later.letters) (letter.Request waits.edge) at in
        let same : letter_there ∷ later.letters ≡ letter.Request waits.edge ∷ w.0 = w.1 in
        cc

    may_request : may plan s mid (Take i (letter.Request waits.edge)) ≡ true
    may_request = subst (λ (l : Letter). may plan s mid (Take i l) ≡ true) is_request may_take

    led_to : IsLed (start_of plan s) first mid
    led_to = go_led first (start_of plan s) mid cut.1

    asked : IsAskedNow plan s mid i waits.edge
    asked = asked_now plan s mid led_to.steps i waits.edge led_to.led may_request

    abbrev asked_state : LocalState
    asked_state = after plan s mid (Take i (letter.Request waits.edge))

    reached : LeadTo plan s (start_of plan s) (led_to.steps ++ Take i (letter.Request waits.edge) ∷ []) asked_state
    reached = led_then led_to.steps (Take i (letter.Request waits.edge)) (start_of plan s) mid led_to.led may_request

    -- the events while the neighbour waits
    while : (new : LocalState) × Go plan s asked_state next new × Go plan s new waits.rest end
    while = go_cut plan s next waits.rest asked_state end (subst (λ (l : Letter). Go plan s (after plan s mid (Take i l)) (next ++ waits.rest) end) is_request on)

    led_on : IsLed asked_state next while.0
    led_on = go_led next asked_state while.0 while.1

    no_give : list_any (is_give_at i) led_on.steps ≡ false
    no_give = led_on.gives i ∙ waits.not_given

    one : meals_begun next ≤ 1
    one =
        let few : begins_in led_on.steps ≤ 1 = asker_first plan s i asked_state while.0 (led_to.steps ++ Take i (letter.Request waits.edge) ∷ []) led_on.steps reached asked.within asked.one_fork asked.one_token led_on.led no_give in
        omega (arith, few, led_on.begins)

    -- the log in hand
    same_log : log_after end i s first ≡ hand_at s mid i
    same_log =
        let ate : meals_begun first ≡ mid.ate = omega (arith, go_ate plan s first (start_of plan s) mid cut.1) in
        let letters : take (takes_at i first) (traffic_at end i).taken ≡ (traffic_at mid i).taken
        = ap₂ (λ (n : ℕ) (x : List Letter). take n x) (sym before.many) all_taken ∙ take-append_seam before.letters (letter_there ∷ later.letters) ∙ sym taken_by_then in
        ap₂ (λ (n : ℕ) (x : List Letter). with_meals_to s n (last_log_or [] x)) ate letters

    none : is_dirty (log_after end i s first) ≡ true → meals_begun next ≡ 0
    none dirty = sym led_on.begins
        ∙ asker_next plan s i asked_state while.0 (led_to.steps ++ Take i (letter.Request waits.edge) ∷ []) led_on.steps reached asked.within asked.one_fork asked.one_token
        (ap is_dirty (asked.same_hand ∙ sym same_log) ∙ dirty) led_on.led no_give

  go_waits : (end : LocalState) (journal : List EventKind) → Go plan s (start_of plan s) journal end → AskersWaitForOneMeal s end journal
  go_waits end journal go = record { at_most_one = one end journal go; none_if_dirty = none end journal go }

  -- ---- journals, and lists of events

  pub journal_waits : (journal : List EventKind) (state : LocalState) → IsJournal plan s journal state → AskersWaitForOneMeal s state journal
  journal_waits journal state is = go_waits state journal (journal_goes plan s (λ i. (traffic_at state i).taken) state.must_quit journal (start_of plan s) state is)

  pub list_waits : (events : List Event) (world : WorldState) → s < site_count plan → Reaches plan events world → AskersWaitForOneMeal s (state_of world s) (part_of s events)
  list_waits events world is_site h = go_waits (state_of world s) (part_of s events)
      (subst (λ (x : LocalState). Go plan s x (part_of s events) (state_of world s)) (start_state plan s is_site)
      (events_go plan s events (start plan) world (length-map-range_with_len (start_of plan) 0 (site_count plan)) h))

  pub order_waits : (journals : List (List EventKind)) (events : List Event) (order : IsWholeOrder plan journals events) → s < site_count plan → AskersWaitForOneMeal s (state_of order.world s) (journal_of journals s)
  order_waits journals events order is_site = subst (AskersWaitForOneMeal s (state_of order.world s)) (order.holds_journals s) (list_waits events order.world is_site order.accepted)
