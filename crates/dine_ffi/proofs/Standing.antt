-- A site that represents a state, after each of its steps.
use Rattle.std.proofs.Common.{◌≡◌, ◌≢◌, ℕ, ◌+◌, ◌<◌, ◌≤◌, ◌==◌, Bool, true, false, cond, List, [], ◌∷◌, ◌++◌, append-nil, length, get_or, map, slice_get, slice_set, Option, Some, None, refl, sym, ◌∙◌, ap, subst, inl, inr, arith}
use Rattle.std.proofs.lemmas.Bool.{and_parts, cases_Bool, cases_eq, cond-false, cond-true, false≢true}
use Rattle.std.proofs.lemmas.List.{get_or-map, get_or-set_other, get_or-set_same, length-map, length-set, same_from_push}
use Rattle.std.proofs.lemmas.Option.{same_Some}
use Rattle.dine_token.specs.Fork.{SeenFork}
use Rattle.dine_token.specs.Meal.{SeenMeal}
use Rattle.dine_graph.specs.Plan.{SeenPlan, edges_of, lo_of}
use Rattle.dine_rules.specs.declared.letters.Letter.{Letter}
use Rattle.dine_rules.specs.declared.letters.Letter.TheVariants.{Fork, Request, Done, Close}
use Rattle.dine_rules.specs.declared.phase.Phase.{Phase}
use Rattle.dine_rules.specs.declared.phase.Phase.TheVariants as phase
use Rattle.dine_rules.specs.Holdings.{EatsWithAll, forks_held}
use Rattle.dine_rules.specs.Letters.{forks_among, forks_in}
use Rattle.dine_rules.specs.Local.{LocalState, Traffic, edge_at, is_eating, is_thinking, no_traffic, start_of, traffic_at}
use Rattle.dine_rules.specs.Steps as step
use Rattle.dine_rules.specs.Steps.{Step, after, may, opened_fork, with_put}
use Rattle.dine_rules.specs.Streams.{KeepsStreams}
use Rattle.dine_rules.proofs.shared.links.Eaters.{start_eats_with_all, step_eats_with_all}
use Rattle.dine_rules.proofs.shared.lists.Counting.{forks_in-append}
use Rattle.dine_rules.proofs.shared.one_site.Site.{start_keeps}
use Rattle.dine_site.specs.Core.{Refines, forks_in_hand}
use Rattle.dine_site.specs.Places.{IsMealOf}
use Rattle.dine_site.specs.Standing.{CorePuts, CoreStep, CoreSteps, all_places}
use Rattle.dine_world.specs.WorldSites.{meal_of}
use Rattle.dine_world.proofs.shared.all_sites.OpenedSites.{meal-taken, meal_is, within_of}
use Rattle.dine_wire.specs.Carried.{fork_for_next, kept_forks}
use Rattle.dine_wire.proofs.shared.CarriedGrowth.{kept-append, last_is_kept, none_is_kept}
use Rattle.dine_ffi.specs.Acts.{put_step as step_of_put}
use Rattle.dine_ffi.specs.OwnSites.{IsOpened, IsShelfOf, OwnStep, OwnSteps, SeenOwnSite, SiteBegins, SiteEnds, SitePuts, SiteSteps, SiteTakes, StandsFor}
use Rattle.dine_ffi.specs.Shelves.{first_kept, kept_at, put_away}
use Rattle.dine_ffi.specs.declared.acts.PutKind.{PutKind}
use Rattle.dine_ffi.specs.declared.acts.PutKind.TheVariants as kind

-- ---- phases and meals

thinking_awake : (p : Phase) → is_thinking p ≡ true → is_eating p ≡ false
thinking_awake phase.Thinking h = refl
thinking_awake phase.Hungry h = refl
thinking_awake phase.Eating h = absurd (false≢true h)

-- a site that does not eat has no meal
pub meal_none : (plan : SeenPlan) (s : ℕ) (state : LocalState) → is_eating state.phase ≡ false → meal_of plan s state ≡ None
meal_none plan s state awake = cond-false (is_eating state.phase) (Some (record { site = s; k = state.ate; forks = forks_in_hand plan s state (all_places state) })) None awake

pub meal_some : (plan : SeenPlan) (s : ℕ) (state : LocalState) → is_eating state.phase ≡ true → meal_of plan s state ≡ Some (record { site = s; k = state.ate; forks = forks_in_hand plan s state (all_places state) })
meal_some plan s state eating = cond-true (is_eating state.phase) (Some (record { site = s; k = state.ate; forks = forks_in_hand plan s state (all_places state) })) None eating

-- a site with a meal eats, with the forks of the state
meal_forks : (plan : SeenPlan) (s : ℕ) (state : LocalState) (meal : SeenMeal) → Some meal ≡ meal_of plan s state → meal.forks ≡ forks_in_hand plan s state (all_places state)
meal_forks plan s state meal is = elim (cases_Bool (is_eating state.phase)) [
  | inl eating ↦ ap (λ (m : SeenMeal). m.forks) (same_Some meal (record { site = s; k = state.ate; forks = forks_in_hand plan s state (all_places state) }) (is ∙ meal_some plan s state eating))
  | inr awake ↦ absurd (let none = is ∙ meal_none plan s state awake in cc)
]

-- ---- a step

module _ (state : LocalState) (old new : SeenOwnSite) (is : StandsFor state old) (same_plan : new.plan ≡ old.plan) (same_run : new.run ≡ old.run) where
  abbrev plan : SeenPlan
  plan = old.plan

  abbrev s : ℕ
  s = old.core.site

  pub stepped : (step : Step) → CoreStep plan state step old.core new.core → new.meal ≡ meal_of plan s (after plan s state step) → IsShelfOf plan s (after plan s state step) new.shelf → OwnStep state step old new
  stepped step did meal shelf =
      let next : LocalState = after plan s state step in
      record {
        allowed = did.allowed.needs;
        plan = same_plan;
        run = same_run;
        site = did.site;
        stands = record {
          core = subst (λ (p : SeenPlan). Refines p next new.core) (sym same_plan) did.stands;
          keeps = subst (λ (p : SeenPlan). KeepsStreams p new.core.site next) (sym same_plan) did.keeps;
          eats_with_all = subst (λ (p : SeenPlan). EatsWithAll p new.core.site next) (sym same_plan) (subst (λ (x : ℕ). EatsWithAll plan x next) (sym did.site) (step_eats_with_all plan s state step is.eats_with_all did.allowed.needs));
          meal = meal ∙ ap (λ (x : ℕ). meal_of plan x next) (sym did.site) ∙ ap (λ (p : SeenPlan). meal_of p new.core.site next) (sym same_plan);
          shelf = subst (λ (p : SeenPlan). IsShelfOf p new.core.site next new.shelf) (sym same_plan) (subst (λ (x : ℕ). IsShelfOf plan x next new.shelf) (sym did.site) shelf);
        };
      }

  -- a step that puts and takes no letter keeps the shelf
  abbrev SameShelf : Type 0
  SameShelf = new.shelf ≡ old.shelf

  pub hungry_step : CoreSteps step.Hungry old.core new.core → new.meal ≡ None → SameShelf → OwnStep state step.Hungry old new
  hungry_step steps none shelf = stepped step.Hungry (steps plan state is.keeps is.core) none (subst (IsShelfOf plan s (after plan s state step.Hungry)) (sym shelf) (record { count = is.shelf.count; each = is.shelf.each }))

  pub quit_step : CoreSteps step.Quit old.core new.core → new.meal ≡ None → SameShelf → OwnStep state step.Quit old new
  quit_step steps none shelf =
      let did = steps plan state is.keeps is.core in
      let awake : is_eating state.phase ≡ false = thinking_awake state.phase (and_parts _ _ did.allowed.needs).0 in
      stepped step.Quit did (none ∙ sym (meal_none plan s (after plan s state step.Quit) awake))
      (subst (IsShelfOf plan s (after plan s state step.Quit)) (sym shelf) (record { count = is.shelf.count; each = is.shelf.each }))

  pub begin_step : CoreSteps step.Begin old.core new.core → (meal : SeenMeal) → new.meal ≡ Some meal → IsMealOf new.core meal
      → meal.forks ≡ forks_in_hand plan s (after plan s state step.Begin) (all_places state) → SameShelf → OwnStep state step.Begin old new
  begin_step steps meal has fits forks shelf =
      let did = steps plan state is.keeps is.core in
      stepped step.Begin did
      (has ∙ ap (λ (m : SeenMeal). Some m) (meal_is meal s (state.ate + 1) (forks_in_hand plan s (after plan s state step.Begin) (all_places state)) (fits.site ∙ did.site) (fits.k ∙ did.stands.ate) forks))
      (subst (IsShelfOf plan s (after plan s state step.Begin)) (sym shelf) (record { count = is.shelf.count; each = is.shelf.each }))

  pub end_step : (failed : Bool) → CoreStep plan state (step.End failed) old.core new.core → new.meal ≡ None → SameShelf → OwnStep state (step.End failed) old new
  end_step failed did none shelf = stepped (step.End failed) did none (subst (IsShelfOf plan s (after plan s state (step.End failed))) (sym shelf) (record { count = is.shelf.count; each = is.shelf.each }))

  -- ---- a letter that is put or taken

  module _ (i : ℕ) (l : Letter) (within : i < length state.traffic) where
    abbrev edge : ℕ
    edge = edge_at plan s i

    abbrev t : Traffic
    t = traffic_at state i

    abbrev starts : ℕ
    starts = cond (lo_of plan edge == s) 1 0

    -- the state with other traffic at the place
    abbrev changed_to : Traffic → LocalState
    changed_to changed = record state { traffic = slice_set state.traffic i changed }

    -- the numbers of forks there
    record Counted (traffic : Traffic) : Type 0 where
      sum : forks_held plan s edge traffic + forks_in traffic.put ≡ starts + forks_in traffic.taken
      most : forks_held plan s edge traffic ≤ 1

    counted : (next : LocalState) → KeepsStreams plan s next → i < length next.traffic → Counted (traffic_at next i)
    counted next keeps h = let at = keeps.places i h in record { sum = at.forks_counted; most = at.one_fork }

    counted_changed : (changed : Traffic) → KeepsStreams plan s (changed_to changed) → Counted changed
    counted_changed changed keeps = subst Counted (get_or-set_same state.traffic i changed no_traffic within) (counted (changed_to changed) keeps (omega (arith, within, length-set state.traffic i changed)))

    -- the shelf, if it keeps at this place what the new traffic asks for, and else is as it was
    shelf_with : (changed : Traffic) (shelf : List (Option SeenFork)) → length shelf ≡ length old.shelf → kept_at i shelf ≡ fork_for_next plan s edge changed
        → ((j : ℕ) → j ≢ i → kept_at j shelf ≡ kept_at j old.shelf) → IsShelfOf plan s (changed_to changed) shelf
    shelf_with changed shelf count here others = record {
      count = count ∙ is.shelf.count ∙ sym (length-set state.traffic i changed);
      each = λ j h. elim (cases_eq j i) [
        | inl same ↦
            subst (λ (k : ℕ). kept_at k shelf ≡ fork_for_next plan s (edge_at plan s k) (get_or (slice_set state.traffic i changed) k no_traffic)) (sym same)
            (here ∙ ap (fork_for_next plan s edge) (sym (get_or-set_same state.traffic i changed no_traffic within)))
        | inr other ↦ others j other ∙ is.shelf.each j (omega (arith, h, length-set state.traffic i changed))
            ∙ ap (fork_for_next plan s (edge_at plan s j)) (sym (get_or-set_other state.traffic i j changed no_traffic other))
      ];
    }

    -- the same shelf, if what is asked for stays
    shelf_same : (changed : Traffic) → fork_for_next plan s edge changed ≡ fork_for_next plan s edge t → IsShelfOf plan s (changed_to changed) old.shelf
    shelf_same changed same = shelf_with changed old.shelf refl (is.shelf.each i within ∙ sym same) (λ j other. refl)

    -- the shelf with another fork at the place, or none
    shelf_set : (changed : Traffic) (kept : Option SeenFork) → fork_for_next plan s edge changed ≡ kept → IsShelfOf plan s (changed_to changed) (slice_set old.shelf i kept)
    shelf_set changed kept asked = shelf_with changed (slice_set old.shelf i kept) (length-set old.shelf i kept)
        (get_or-set_same old.shelf i kept None (omega (arith, within, is.shelf.count)) ∙ sym asked) (λ j other. get_or-set_other old.shelf i j kept None other)

    abbrev more_put : Traffic
    more_put = record t { put = t.put ++ l ∷ [] }

    abbrev more_taken : Traffic
    more_taken = record t { taken = t.taken ++ l ∷ [] }

    -- a word that is put or taken changes nothing of what is kept
    word_put : forks_among (l ∷ []) ≡ [] → fork_for_next plan s edge more_put ≡ fork_for_next plan s edge t
    word_put none = ap (λ (kept : List SeenFork). slice_get kept (forks_in t.taken)) (kept-append plan s edge t.put (l ∷ []) ∙ ap (λ (more : List SeenFork). kept_forks plan s edge t.put ++ more) none ∙ append-nil (kept_forks plan s edge t.put))

    word_taken : forks_in (l ∷ []) ≡ 0 → fork_for_next plan s edge more_taken ≡ fork_for_next plan s edge t
    word_taken none = ap (slice_get (kept_forks plan s edge t.put)) (let e : forks_in (t.taken ++ l ∷ []) ≡ forks_in t.taken = omega (arith, forks_in-append t.taken (l ∷ []), none) in e)

    -- a Fork that is put is kept
    fork_put : (fork : SeenFork) → l ≡ Fork fork → KeepsStreams plan s (changed_to more_put) → fork_for_next plan s edge more_put ≡ Some fork
    fork_put fork is_fork keeps =
        let one : forks_in (l ∷ []) ≡ 1 = ap (λ (x : Letter). forks_in (x ∷ [])) is_fork in
        let before = counted state is.keeps within in
        let now = counted_changed more_put keeps in
        let away : forks_held plan s edge more_put ≡ 0 = omega (arith, before.sum, before.most, now.sum, one, forks_in-append t.put (l ∷ [])) in
        let w = last_is_kept plan s edge (forks_held plan s edge more_put) more_put now.sum away in
        let behind : kept_forks plan s edge more_put.put ≡ kept_forks plan s edge t.put ++ fork ∷ [] =
        kept-append plan s edge t.put (l ∷ []) ∙ ap (λ (x : Letter). kept_forks plan s edge t.put ++ forks_among (x ∷ [])) is_fork in
        w.3 ∙ ap (λ (f : SeenFork). Some f) (same_from_push w.0 (kept_forks plan s edge t.put) w.1 fork (sym w.2 ∙ behind)).1

    -- a Fork that is taken is kept no more
    fork_taken : (fork : SeenFork) → l ≡ Fork fork → KeepsStreams plan s (changed_to more_taken) → fork_for_next plan s edge more_taken ≡ None
    fork_taken fork is_fork keeps =
        let one : forks_in (l ∷ []) ≡ 1 = ap (λ (x : Letter). forks_in (x ∷ [])) is_fork in
        let before = counted state is.keeps within in
        let now = counted_changed more_taken keeps in
        let here : forks_held plan s edge more_taken ≡ 1 = omega (arith, before.sum, now.sum, now.most, one, forks_in-append t.taken (l ∷ [])) in
        none_is_kept plan s edge (forks_held plan s edge more_taken) more_taken now.sum here

    -- ---- the step

    -- a site that does not eat puts the letter
    pub put_step : (step : Step) → CorePuts i step old.core new.core l → is_eating state.phase ≡ false → new.meal ≡ None → new.shelf ≡ put_away i l old.shelf → OwnStep state step old new
    put_step step puts awake none shelf =
        let did = puts plan state is.keeps is.core in
        let next : LocalState = with_put i l state in
        let keeps : KeepsStreams plan s next = subst (KeepsStreams plan s) did.0 (subst (λ (x : ℕ). KeepsStreams plan x (after plan s state step)) did.1.site did.1.keeps) in
        stepped step did.1
        (none ∙ sym (meal_none plan s next awake) ∙ ap (meal_of plan s) (sym did.0))
        (subst (λ (x : LocalState). IsShelfOf plan s x new.shelf) (sym did.0) (subst (IsShelfOf plan s next) (sym shelf) (shelf_put l refl keeps)))
      where
        shelf_put : (x : Letter) → l ≡ x → KeepsStreams plan s (changed_to more_put) → IsShelfOf plan s (changed_to more_put) (put_away i x old.shelf)
        shelf_put (Fork fork) same keeps = shelf_set more_put (Some fork) (fork_put fork same keeps)
        shelf_put (Request e) same keeps = shelf_same more_put (word_put (ap (λ (x : Letter). forks_among (x ∷ [])) same))
        shelf_put Done same keeps = shelf_same more_put (word_put (ap (λ (x : Letter). forks_among (x ∷ [])) same))
        shelf_put Close same keeps = shelf_same more_put (word_put (ap (λ (x : Letter). forks_among (x ∷ [])) same))

    -- the site takes a letter other than a Fork
    pub word_step : forks_in (l ∷ []) ≡ 0 → CoreSteps (step.Take i l) old.core new.core → new.meal ≡ old.meal → new.shelf ≡ old.shelf → OwnStep state (step.Take i l) old new
    word_step none steps meal shelf =
        let did = steps plan state is.keeps is.core in
        stepped (step.Take i l) did (meal ∙ is.meal ∙ sym (meal-taken plan s state i l is.eats_with_all did.allowed.needs))
        (subst (IsShelfOf plan s (changed_to more_taken)) (sym shelf) (shelf_same more_taken (word_taken none)))

    -- the site takes a Fork
    pub fork_step : (fork : SeenFork) → l ≡ Fork fork → CoreSteps (step.Take i l) old.core new.core → new.meal ≡ old.meal → new.shelf ≡ slice_set old.shelf i None → OwnStep state (step.Take i l) old new
    fork_step fork same steps meal shelf =
        let did = steps plan state is.keeps is.core in
        let keeps : KeepsStreams plan s (changed_to more_taken) = subst (λ (x : ℕ). KeepsStreams plan x (changed_to more_taken)) did.site did.keeps in
        stepped (step.Take i l) did (meal ∙ is.meal ∙ sym (meal-taken plan s state i l is.eats_with_all did.allowed.needs))
        (subst (IsShelfOf plan s (changed_to more_taken)) (sym shelf) (shelf_set more_taken None (fork_taken fork same keeps)))

-- ---- the start

-- a site at the start
pub start_stands : (own : SeenOwnSite) → Refines own.plan (start_of own.plan own.core.site) own.core → own.meal ≡ None
    → own.shelf ≡ map (first_kept own.plan own.core.site) (edges_of own.plan own.core.site) → StandsFor (start_of own.plan own.core.site) own
start_stands own core meal shelf =
    let plan = own.plan in
    let s = own.core.site in
    record {
      core = core;
      keeps = start_keeps plan s core.is_plan core.is_site;
      eats_with_all = start_eats_with_all plan s;
      meal = meal;
      shelf = record {
        count = ap length shelf ∙ length-map (edges_of plan s) (first_kept plan s) ∙ sym (length-map (edges_of plan s) (λ (edge : ℕ). no_traffic));
        each = λ i h.
            let within : i < length (edges_of plan s) = omega (arith, h, length-map (edges_of plan s) (λ (edge : ℕ). no_traffic)) in
            ap (kept_at i) shelf ∙ get_or-map (first_kept plan s) (edges_of plan s) i 0 None within ∙ first_is plan s (edge_at plan s i)
            ∙ ap (fork_for_next plan s (edge_at plan s i)) (sym (get_or-map (λ (edge : ℕ). no_traffic) (edges_of plan s) i 0 no_traffic within));
      };
    }
  where
    first_is : (plan : SeenPlan) (s edge : ℕ) → first_kept plan s edge ≡ fork_for_next plan s edge no_traffic
    first_is plan s edge = by (lo_of plan edge == s)
      where
        by : (b : Bool) → cond b None (Some (opened_fork plan edge)) ≡ slice_get (cond b [] (opened_fork plan edge ∷ [])) 0
        by true = refl
        by false = refl

-- ---- the calls

pub opened_stands : (plan : SeenPlan) (run number : ℕ) (own : SeenOwnSite) → IsOpened plan run number own → StandsFor (start_of plan number) own
opened_stands plan run number own is =
    subst (λ (s : ℕ). StandsFor (start_of plan s) own) is.site (subst (λ (p : SeenPlan). StandsFor (start_of p own.core.site) own) is.plan_is
    (start_stands own
    (subst (λ (p : SeenPlan). Refines p (start_of p own.core.site) own.core) (sym is.plan_is) is.fresh.stands) is.meal
    (is.shelf ∙ ap (λ (s : ℕ). map (first_kept plan s) (edges_of plan s)) (sym is.site) ∙ ap (λ (p : SeenPlan). map (first_kept p own.core.site) (edges_of p own.core.site)) (sym is.plan_is))))

pub hungry_call : (old new : SeenOwnSite) → SiteSteps step.Hungry old new → OwnSteps step.Hungry old new
hungry_call old new did state is =
    let awake : is_eating state.phase ≡ false = thinking_awake state.phase (and_parts _ _ (and_parts _ _ (did.core old.plan state is.keeps is.core).allowed.needs).0).0 in
    hungry_step state old new is did.plan did.run did.core (did.meal ∙ is.meal ∙ meal_none old.plan old.core.site state awake) did.shelf

pub quit_call : (old new : SeenOwnSite) → SiteSteps step.Quit old new → OwnSteps step.Quit old new
quit_call old new did state is =
    let awake : is_eating state.phase ≡ false = thinking_awake state.phase (and_parts _ _ (did.core old.plan state is.keeps is.core).allowed.needs).0 in
    quit_step state old new is did.plan did.run did.core (did.meal ∙ is.meal ∙ meal_none old.plan old.core.site state awake) did.shelf

pub begin_call : (old new : SeenOwnSite) → SiteBegins old new → OwnSteps step.Begin old new
begin_call old new did state is = begin_step state old new is did.plan did.run did.core did.begun did.meal did.fits (did.forks old.plan state is.keeps is.core) did.shelf

pub end_call : (failed : Bool) (old new : SeenOwnSite) → SiteEnds failed old new → OwnSteps (step.End failed) old new
end_call failed old new did state is =
    end_step state old new is did.plan did.run failed (did.core old.plan state is.keeps is.core (meal_forks old.plan old.core.site state did.ended (sym did.was ∙ is.meal))) did.meal did.shelf

put_within : (plan : SeenPlan) (s : ℕ) (state : LocalState) (k : PutKind) (i : ℕ) → may plan s state (step_of_put k i) ≡ true → i < length state.traffic
put_within plan s state kind.Give i h = within_of i (length state.traffic) _ h
put_within plan s state kind.Ask i h = within_of i (length state.traffic) _ h
put_within plan s state kind.Done i h = within_of i (length state.traffic) _ h
put_within plan s state kind.Close i h = within_of i (length state.traffic) _ h
put_within plan s state kind.Break i h = within_of i (length state.traffic) _ h

pub put_call : (k : PutKind) (i : ℕ) (l : Letter) (old new : SeenOwnSite) → SitePuts i (step_of_put k i) old new l → OwnSteps (step_of_put k i) old new
put_call k i l old new did state is =
    let awake : is_eating state.phase ≡ false = sym (ap is_eating is.core.phase) ∙ did.awake in
    let within = put_within old.plan old.core.site state k i (did.core old.plan state is.keeps is.core).1.allowed.needs in
    put_step state old new is did.plan did.run i l within (step_of_put k i) did.core awake (did.meal ∙ is.meal ∙ meal_none old.plan old.core.site state awake) did.shelf

pub take_call : (bytes : List ℕ) (i : ℕ) (l : Letter) (old new : SeenOwnSite) → SiteTakes bytes i l old new → OwnSteps (step.Take i l) old new
take_call bytes i (Fork fork) old new did state is = fork_step state old new is did.plan did.run i (Fork fork) (within_of i (length state.traffic) _ (did.core old.plan state is.keeps is.core).allowed.needs) fork refl did.core did.meal did.shelf
take_call bytes i (Request e) old new did state is = word_step state old new is did.plan did.run i (Request e) (within_of i (length state.traffic) _ (did.core old.plan state is.keeps is.core).allowed.needs) refl did.core did.meal did.shelf
take_call bytes i Done old new did state is = word_step state old new is did.plan did.run i Done (within_of i (length state.traffic) _ (did.core old.plan state is.keeps is.core).allowed.needs) refl did.core did.meal did.shelf
take_call bytes i Close old new did state is = word_step state old new is did.plan did.run i Close (within_of i (length state.traffic) _ (did.core old.plan state is.keeps is.core).allowed.needs) refl did.core did.meal did.shelf
