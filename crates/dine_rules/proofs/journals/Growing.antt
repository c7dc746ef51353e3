-- A journal grows by each event of its site.
use Rattle.std.proofs.Common.{◌≡◌, ℕ, nat_lt, Bool, true, false, not, ◌&&◌, List, [], ◌∷◌, ◌++◌, length, get_or, slice_get, slice_set, Option, Some, refl, sym, ◌∙◌, ap, subst, inl, inr}
use Rattle.std.specs.Option.{option_and_then, option_map}
use Rattle.std.proofs.lemmas.Bool.{and_parts, false≢true, false_from_ne_true, ltb-true, not-true, true≢false}
use Rattle.std.proofs.lemmas.List.{get_or-set_same}
use Rattle.std.proofs.lemmas.Option.{same_Some}
use Rattle.dine_graph.specs.Plan.{SeenPlan, job_count, resigns}
use Rattle.dine_rules.specs.declared.letters.Letter.{Letter}
use Rattle.dine_rules.specs.declared.events.EventKind.{EventKind}
use Rattle.dine_rules.specs.declared.events.EventKind.TheVariants as event
use Rattle.dine_rules.specs.declared.phase.Phase.TheVariants.{Thinking}
use Rattle.dine_rules.specs.Local.{LocalState, Traffic, is_eating, is_thinking, no_traffic, start_of, traffic_at}
use Rattle.dine_rules.specs.Steps.{Step, Give, Ask, Hungry, Begin, End, Quit, Done, Close, Take, after, drops_jobs, may, step_by}
use Rattle.dine_rules.specs.Journals.{IsJournal, fails_before, next_of_these, state_after, state_after_all}
use Rattle.dine_rules.proofs.shared.journals.JournalStates.{by_own_step, own_step}
use Rattle.dine_rules.proofs.shared.lists.Options.{and_then_parts, option_map_parts}
use Rattle.dine_rules.proofs.shared.counting.Persistence.{IsLonger, longer_get, longer_same, set_cases}
use Rattle.dine_rules.proofs.shared.one_place.Keeping.{hungry_not_thinking}
use Rattle.dine_rules.proofs.shared.one_site.SiteSteps.{not_thinking_while_eating}
use Rattle.dine_rules.proofs.shared.one_site.Shapes.{by_moves, moved, step_shape}

-- ---- the letters that a site takes only grow

longer_taken : (traffics : List Traffic) (k j : ℕ) (traffic : Traffic) → IsLonger (get_or traffics k no_traffic).taken traffic.taken → IsLonger (get_or traffics j no_traffic).taken (get_or (slice_set traffics k traffic) j no_traffic).taken
longer_taken traffics k j traffic longer = elim (set_cases traffics k j traffic no_traffic) [
  | inl same ↦ subst (λ (x : Traffic). IsLonger (get_or traffics j no_traffic).taken x.taken) (sym same) (longer_same (get_or traffics j no_traffic).taken)
  | inr w ↦ subst (λ (x : Traffic). IsLonger (get_or traffics j no_traffic).taken x.taken) (sym w.1)
      (subst (λ (x : ℕ). IsLonger (get_or traffics x no_traffic).taken traffic.taken) (sym w.0) longer)
]

step_takes : (plan : SeenPlan) (s : ℕ) (state : LocalState) (step : Step) (j : ℕ) → IsLonger (traffic_at state j).taken (traffic_at (after plan s state step) j).taken
step_takes plan s state step j = by_moves plan s state (λ new. IsLonger (traffic_at state j).taken (traffic_at new j).taken) (step_shape step) (after plan s state step) (moved plan s state step)
    (λ i l is. longer_taken state.traffic i j _ (longer_same (traffic_at state i).taken))
    (λ i l is. longer_taken state.traffic i j _ (record { more = l ∷ []; is = refl }))
    (λ same is. subst (λ (t : List Traffic). IsLonger (traffic_at state j).taken (get_or t j no_traffic).taken) (sym same) (longer_same (traffic_at state j).taken))

-- ---- with more letters behind them a site does the same

module _ (plan : SeenPlan) (s : ℕ) (letters more : ℕ → List Letter) (longer : (i : ℕ) → IsLonger (letters i) (more i)) where
  same_step : (failed : Bool) (state : LocalState) (kind : EventKind) (step : Step) → step_by failed (next_of_these letters state) kind ≡ Some step → step_by failed (next_of_these more state) kind ≡ Some step
  same_step failed state (event.Take i) step h =
      let w = option_map_parts (Take i) (next_of_these letters state i) step h in
      ap (option_map (Take i)) (longer_get (letters i) (more i) (length (traffic_at state i).taken) w.0 (longer i) w.1) ∙ ap (λ (x : Step). Some x) w.2
  same_step failed state kind step h = h

  leads_with_more : (last : Bool) (kinds : List EventKind) (state end : LocalState) → state_after_all plan s letters last state kinds ≡ Some end → state_after_all plan s more last state kinds ≡ Some end
  leads_with_more last [] state end h = h
  leads_with_more last (kind ∷ kinds) state end h =
      let failed : Bool = fails_before last kinds in
      let w = and_then_parts (λ (x : LocalState). state_after_all plan s letters last x kinds) (state_after plan s letters failed state kind) end h in
      let one = own_step plan s letters failed state w.0 kind w.1 in
      let next : state_after plan s more failed state kind ≡ Some w.0 = by_own_step plan s more failed state kind one.step (same_step failed state kind one.step one.step_is) one.needs ∙ ap (λ (x : LocalState). Some x) one.changes in
      ap (λ (o : Option LocalState). option_and_then (λ (x : LocalState). state_after_all plan s more last x kinds) o) next ∙ leads_with_more last kinds w.0 end w.2

-- ---- who has to quit

-- a site that has to quit thinks
abbrev MustThinks : LocalState → Type 0
MustThinks state = state.must_quit ≡ true → is_thinking state.phase ≡ true

module _ (plan : SeenPlan) (s : ℕ) where
  -- each step keeps that
  step_must : (state : LocalState) (step : Step) → MustThinks state → may plan s state step ≡ true → MustThinks (after plan s state step)
  step_must state Hungry thinks h must =
      let stays = and_parts (not state.must_quit) (not state.has_quit) (and_parts (is_thinking state.phase && nat_lt state.ate (job_count plan s)) (not state.must_quit && not state.has_quit) h).1 in
      absurd (true≢false (sym must ∙ not-true state.must_quit stays.0))
  step_must state Begin thinks h must = absurd (hungry_not_thinking state.phase (and_parts _ _ h).0 (thinks must))
  step_must state (End failed) thinks h must = refl
  step_must state Quit thinks h must = absurd (false≢true must)
  step_must state step thinks h must = thinks must

  -- and so do the events of a journal
  leads_must : (letters : ℕ → List Letter) (last : Bool) (kinds : List EventKind) (state end : LocalState) → MustThinks state → state_after_all plan s letters last state kinds ≡ Some end → MustThinks end
  leads_must letters last [] state end thinks h = subst MustThinks (same_Some state end h) thinks
  leads_must letters last (kind ∷ kinds) state end thinks h =
      let failed : Bool = fails_before last kinds in
      let w = and_then_parts (λ (x : LocalState). state_after_all plan s letters last x kinds) (state_after plan s letters failed state kind) end h in
      let one = own_step plan s letters failed state w.0 kind w.1 in
      leads_must letters last kinds w.0 end (subst MustThinks one.changes (step_must state one.step thinks one.needs)) w.2

  -- After an event the journal shows of the meal before it what it showed: it failed where the site had to quit.
  shows_same : (state : LocalState) (failed : Bool) (next : ℕ → Option Letter) (kind : EventKind) (step : Step) → MustThinks state → step_by failed next kind ≡ Some step → may plan s state step ≡ true
      → fails_before (after plan s state step).must_quit (kind ∷ []) ≡ state.must_quit
  shows_same state failed next event.Quit step thinks is h =
      let may_quit : may plan s state Quit ≡ true = subst (λ (x : Step). may plan s state x ≡ true) (sym (same_Some Quit step is)) h in
      sym (and_parts (is_thinking state.phase) state.must_quit may_quit).1
  shows_same state failed next event.End step thinks is h =
      let eats : is_eating state.phase ≡ true = subst (λ (x : Step). may plan s state x ≡ true) (sym (same_Some (End failed) step is)) h in
      sym (false_from_ne_true state.must_quit (λ must. not_thinking_while_eating state.phase eats (thinks must)))
  shows_same state failed next (event.Take i) step thinks is h = let w = option_map_parts (Take i) (next i) step is in ap (λ (x : Step). (after plan s state x).must_quit) (sym w.2)
  shows_same state failed next (event.Give i) step thinks is h = ap (λ (x : Step). (after plan s state x).must_quit) (sym (same_Some (Give i) step is))
  shows_same state failed next event.Begin step thinks is h = ap (λ (x : Step). (after plan s state x).must_quit) (sym (same_Some Begin step is))
  shows_same state failed next event.Hungry step thinks is h = ap (λ (x : Step). (after plan s state x).must_quit) (sym (same_Some Hungry step is))
  shows_same state failed next (event.Ask i) step thinks is h = ap (λ (x : Step). (after plan s state x).must_quit) (sym (same_Some (Ask i) step is))
  shows_same state failed next (event.Done i) step thinks is h = ap (λ (x : Step). (after plan s state x).must_quit) (sym (same_Some (Done i) step is))
  shows_same state failed next (event.Close i) step thinks is h = ap (λ (x : Step). (after plan s state x).must_quit) (sym (same_Some (Close i) step is))

-- ---- an event more behind the others

-- what is shown of a meal before them
shown_with : (last : Bool) (kinds : List EventKind) (kind : EventKind) → fails_before last (kinds ++ kind ∷ []) ≡ fails_before (fails_before last (kind ∷ [])) kinds
shown_with last [] kind = refl
shown_with last (event.Quit ∷ kinds) kind = refl
shown_with last (event.End ∷ kinds) kind = refl
shown_with last (other ∷ kinds) kind = shown_with last kinds kind

then_event : (plan : SeenPlan) (s : ℕ) (letters : ℕ → List Letter) (last : Bool) (kinds : List EventKind) (from state new : LocalState) (kind : EventKind)
    → state_after_all plan s letters (fails_before last (kind ∷ [])) from kinds ≡ Some state
    → state_after plan s letters last state kind ≡ Some new → state_after_all plan s letters last from (kinds ++ kind ∷ []) ≡ Some new
then_event plan s letters last [] from state new kind h more =
    ap (λ (x : LocalState). option_and_then (λ (y : LocalState). Some y) (state_after plan s letters last x kind)) (same_Some from state h) ∙ ap (option_and_then (λ (y : LocalState). Some y)) more
then_event plan s letters last (first ∷ kinds) from state new kind h more =
    let before : Bool = fails_before last (kind ∷ []) in
    let w = and_then_parts (λ (x : LocalState). state_after_all plan s letters before x kinds) (state_after plan s letters (fails_before before kinds) from first) state h in
    ap (λ (b : Bool). option_and_then (λ (x : LocalState). state_after_all plan s letters last x (kinds ++ kind ∷ [])) (state_after plan s letters b from first)) (shown_with last kinds kind)
    ∙ ap (option_and_then (λ (x : LocalState). state_after_all plan s letters last x (kinds ++ kind ∷ []))) w.1 ∙ then_event plan s letters last kinds w.0 state new kind w.2 more

-- the letter that a Take took is the next of those that the site has taken then
last_letter : (letters : List Letter) (l : Letter) → slice_get (letters ++ l ∷ []) (length letters) ≡ Some l
last_letter [] l = refl
last_letter (first ∷ letters) l = last_letter letters l

own_letter : (plan : SeenPlan) (s : ℕ) (state : LocalState) (i : ℕ) (next : ℕ → Option Letter) (step : Step) → option_map (Take i) (next i) ≡ Some step → may plan s state step ≡ true
    → option_map (Take i) (next_of_these (λ j. (traffic_at (after plan s state step) j).taken) state i) ≡ Some step
own_letter plan s state i next step h needs =
    let w = option_map_parts (Take i) (next i) step h in
    subst (λ (x : Step). option_map (Take i) (next_of_these (λ j. (traffic_at (after plan s state x) j).taken) state i) ≡ Some x) w.2
    (ap (λ (t : Traffic). option_map (Take i) (slice_get t.taken (length (traffic_at state i).taken)))
    (get_or-set_same state.traffic i _ no_traffic (ltb-true _ _ (and_parts _ _ (let may_take : may plan s state (Take i w.0) ≡ true = subst (λ (x : Step). may plan s state x ≡ true) (sym w.2) needs in may_take)).0))
    ∙ ap (option_map (Take i)) (last_letter (traffic_at state i).taken w.0))

-- a meal that made the site drop its jobs failed; one that did not may as well not have failed
drops_again : (failed resigning left : Bool) → (((failed && resigning && left) && resigning) && left) ≡ (failed && resigning && left)
drops_again true true true = refl
drops_again true true false = refl
drops_again true false left = refl
drops_again false resigning left = refl

-- The event leads to the state with the outcome that the state shows.
event_shown : (plan : SeenPlan) (s : ℕ) (state : LocalState) (failed : Bool) (next : ℕ → Option Letter) (kind : EventKind) (step : Step) → step_by failed next kind ≡ Some step → may plan s state step ≡ true
    → state_after plan s (λ i. (traffic_at (after plan s state step) i).taken) (after plan s state step).must_quit state kind ≡ Some (after plan s state step)
event_shown plan s state failed next event.End step h needs =
    let same : End failed ≡ step = same_Some (End failed) step h in
    let eats : is_eating state.phase ≡ true = subst (λ (x : Step). may plan s state x ≡ true) (sym same) needs in
    subst (λ (x : Step). state_after plan s (λ i. (traffic_at (after plan s state x) i).taken) (after plan s state x).must_quit state event.End ≡ Some (after plan s state x)) same
    (by_own_step plan s (λ i. (traffic_at (after plan s state (End failed)) i).taken) (drops_jobs plan s state failed) state event.End (End (drops_jobs plan s state failed)) refl eats
    ∙ ap (λ (b : Bool). Some (record state { phase = Thinking; must_quit = b })) (drops_again failed (resigns plan s) (nat_lt state.ate (job_count plan s))))
event_shown plan s state failed next (event.Take i) step h needs = by_own_step plan s (λ j. (traffic_at (after plan s state step) j).taken) (after plan s state step).must_quit state (event.Take i) step (own_letter plan s state i next step h needs) needs
event_shown plan s state failed next kind step h needs = by_own_step plan s (λ i. (traffic_at (after plan s state step) i).taken) (after plan s state step).must_quit state kind step h needs

-- The journal of a site, and an event more that the site does next.
pub journal_grows : (plan : SeenPlan) (s : ℕ) (journal : List EventKind) (state : LocalState) (kind : EventKind) (failed : Bool) (next : ℕ → Option Letter) (step : Step) → IsJournal plan s journal state
    → step_by failed next kind ≡ Some step → may plan s state step ≡ true → IsJournal plan s (journal ++ kind ∷ []) (after plan s state step)
journal_grows plan s journal state kind failed next step is h needs =
    let new : LocalState = after plan s state step in
    let letters : ℕ → List Letter = λ i. (traffic_at (after plan s state step) i).taken in
    let thinks : MustThinks state = leads_must plan s (λ i. (traffic_at state i).taken) state.must_quit journal (start_of plan s) state (λ must. absurd (false≢true must)) is in
    let before = leads_with_more plan s (λ i. (traffic_at state i).taken) letters (step_takes plan s state step) state.must_quit journal (start_of plan s) state is in
    then_event plan s letters new.must_quit journal (start_of plan s) state new kind
    (ap (λ (b : Bool). state_after_all plan s letters b (start_of plan s) journal) (shows_same plan s state failed next kind step thinks h needs) ∙ before)
    (event_shown plan s state failed next kind step h needs)

pub journal_starts : (plan : SeenPlan) (s : ℕ) → IsJournal plan s [] (start_of plan s)
journal_starts plan s = refl
