-- The states of a site that its journal leads through, and that journals fix the world.
use Rattle.std.proofs.Common.{◌≡◌, ℕ, suc, ◌+◌, ◌-◌, ◌<◌, ◌≤◌, Bool, true, cond, List, [], ◌∷◌, ◌++◌, length, slice_get, Option, Some, None, refl, sym, ◌∙◌, ap, subst, inl, inr, arith, append_assoc}
use Rattle.std.specs.Option.{option_and_then}
use Rattle.std.proofs.lemmas.Bool.{and_parts, cases_eq, cond-true, ltb-true}
use Rattle.std.proofs.lemmas.List.{ext_get_or, get_or-set_same, get_or-set_other}
use Rattle.std.proofs.lemmas.Option.{same_Some}
use Rattle.dine_graph.specs.Plan.{SeenPlan, IsPlan, edges_of, job_count, job_of, site_count}
use Rattle.dine_rules.specs.declared.letters.Letter.{Letter}
use Rattle.dine_rules.specs.declared.events.Event.{Event}
use Rattle.dine_rules.specs.declared.events.EventKind.{EventKind}
use Rattle.dine_rules.specs.declared.events.EventKind.TheVariants as event
use Rattle.dine_rules.specs.Local.{LocalState, edge_at, is_eating, meal_fails, neighbour_at, start_of, traffic_at}
use Rattle.dine_rules.specs.Steps.{Step, Hungry, Begin, End, Take, after, may, step_by}
use Rattle.dine_rules.specs.Streams.{KeepsStreams}
use Rattle.dine_rules.specs.World.{WorldState, LinksAreOrdered, Reaches, after_events, local_after, next_letter, no_state, place_of, put_to, start, state_of, step_of, world_after}
use Rattle.dine_rules.specs.Journals.{FailAsShown, IsJournal, IsOrderOf, fails_before, journal_of, next_of_these, outcomes_in, part_of, state_after, state_after_all}
use Rattle.dine_rules.proofs.shared.links.Across.{across}
use Rattle.dine_rules.proofs.shared.lists.Counting.{slice_get-before}
use Rattle.dine_rules.proofs.shared.lists.Options.{and_then_parts, cond_some_parts, option_map_parts}
use Rattle.dine_rules.proofs.journals.Parts.{part-other, part-same}
use Rattle.dine_rules.proofs.shared.counting.Effects.{eating_counts, hungry_counts, thinking_counts}
use Rattle.dine_rules.proofs.shared.counting.Persistence.{IsLonger, longer_get, longer_same, step_puts}
use Rattle.dine_rules.proofs.shared.links.WorldStreams.{IsStepOf, WorldKeeps, event_is_step, event_keeps, reached_kept, start_kept, start_state}

-- an event of a site is a step that it may do
pub record IsOwnStep (plan : SeenPlan) (s : ℕ) (letters : ℕ → List Letter) (failed : Bool) (state : LocalState) (kind : EventKind) (new : LocalState) : Type 0 where
  pub step : Step
  pub step_is : step_by failed (next_of_these letters state) kind ≡ Some step
  pub needs : may plan s state step ≡ true
  pub changes : after plan s state step ≡ new

pub own_step : (plan : SeenPlan) (s : ℕ) (letters : ℕ → List Letter) (failed : Bool) (state new : LocalState) (kind : EventKind) → state_after plan s letters failed state kind ≡ Some new → IsOwnStep plan s letters failed state kind new
own_step plan s letters failed state new kind h =
    let w = and_then_parts (local_after plan s state) (step_by failed (next_of_these letters state) kind) new h in
    let done = cond_some_parts (may plan s state w.0) (Some (after plan s state w.0)) new w.2 in
    record { step = w.0; step_is = w.1; needs = done.0; changes = same_Some (after plan s state w.0) new done.1 }

-- and a step that it may do is an event
pub by_own_step : (plan : SeenPlan) (s : ℕ) (letters : ℕ → List Letter) (failed : Bool) (state : LocalState) (kind : EventKind) (step : Step) → step_by failed (next_of_these letters state) kind ≡ Some step → may plan s state step ≡ true
    → state_after plan s letters failed state kind ≡ Some (after plan s state step)
by_own_step plan s letters failed state kind step is needs = ap (option_and_then (local_after plan s state)) is ∙ cond-true (may plan s state step) (Some (after plan s state step)) None needs

-- ---- the letters that a site puts only grow

longer_more : (first second third : List Letter) → IsLonger first second → IsLonger second third → IsLonger first third
longer_more first second third a b = record { more = a.more ++ b.more; is = b.is ∙ ap (λ (x : List Letter). x ++ b.more) a.is ∙ append_assoc first a.more b.more }

pub puts_grow : (plan : SeenPlan) (s : ℕ) (letters : ℕ → List Letter) (last : Bool) (kinds : List EventKind) (state end : LocalState) (j : ℕ) → state_after_all plan s letters last state kinds ≡ Some end
    → IsLonger (traffic_at state j).put (traffic_at end j).put
puts_grow plan s letters last [] state end j h = subst (λ (x : LocalState). IsLonger (traffic_at state j).put (traffic_at x j).put) (same_Some state end h) (longer_same (traffic_at state j).put)
puts_grow plan s letters last (kind ∷ kinds) state end j h =
    let w = and_then_parts (λ (x : LocalState). state_after_all plan s letters last x kinds) (state_after plan s letters (fails_before last kinds) state kind) end h in
    let one = own_step plan s letters (fails_before last kinds) state w.0 kind w.1 in
    longer_more (traffic_at state j).put (traffic_at w.0 j).put (traffic_at end j).put
    (subst (λ (x : LocalState). IsLonger (traffic_at state j).put (traffic_at x j).put) one.changes (step_puts plan s state one.step j))
    (puts_grow plan s letters last kinds w.0 end j w.2)

-- ---- the outcomes of meals

-- how many meals a site ended
abbrev pub ended : LocalState → ℕ
ended state = state.ate - cond {A = ℕ} (is_eating state.phase) 1 0

-- The events of a site that does them from this state on show an outcome of each meal, and P holds of the meal's
-- number, from 1, and this outcome.
abbrev pub Shows : (ℕ → Bool → Type 0) → Bool → LocalState → List EventKind → Type 0
Shows P last state kinds = (k : ℕ) (failed : Bool) → slice_get (outcomes_in last kinds) k ≡ Some failed → P (ended state + k + 1) failed

-- the plan's job of this number, if there is one, has this outcome
abbrev pub FailsSo : SeenPlan → ℕ → ℕ → Bool → Type 0
FailsSo plan s n failed = n ≤ job_count plan s → (job_of plan s n).fails ≡ failed

-- only an End ends a meal
is_end : (failed : Bool) (next : ℕ → Option Letter) (kind : EventKind) (g : Bool) → step_by failed next kind ≡ Some (End g) → kind ≡ event.End
is_end failed next (event.Take i) g h = let w = option_map_parts (Take i) (next i) (End g) h in let differs : ◌≡◌ {A = Step} (Take i w.0) (End g) = w.2 in absurd cc
is_end failed next event.End g h = refl
is_end failed next kind g h = absurd cc

module _ (plan : SeenPlan) (s : ℕ) (last : Bool) (state : LocalState) where
  -- each other step leaves the number of meals that ended
  ended_stays : (step : Step) → ((g : Bool) → step ≡ End g → ⊥) → may plan s state step ≡ true → ended (after plan s state step) ≡ ended state
  ended_stays (End g) other h = absurd (other g refl)
  ended_stays Hungry other h = omega (arith, thinking_counts state.phase (and_parts _ _ (and_parts _ _ h).0).0)
  ended_stays Begin other h = omega (arith, hungry_counts state.phase (and_parts _ _ h).0)
  ended_stays step other h = refl

  module _ (P : ℕ → Bool → Type 0) where
    -- so the rest of the events shows the same after each of them
    pub shows_next : (rest : List EventKind) (failed : Bool) (next : ℕ → Option Letter) (kind : EventKind) (step : Step) → KeepsStreams plan s state → step_by failed next kind ≡ Some step → may plan s state step ≡ true
        → Shows P last state (kind ∷ rest) → Shows P last (after plan s state step) rest
    shows_next rest failed next event.End step keeps is needs shows k f h =
        let same : End failed ≡ step = same_Some (End failed) step is in
        let eats : is_eating state.phase ≡ true = subst (λ (x : Step). may plan s state x ≡ true) (sym same) needs in
        let number : ended state + suc k + 1 ≡ ended (after plan s state (End failed)) + k + 1 = omega (arith, eating_counts state.phase eats, keeps.eater_has_begun eats) in
        subst (λ (x : Step). P (ended (after plan s state x) + k + 1) f) same (subst (λ (n : ℕ). P n f) number (shows (suc k) f h))
    shows_next rest failed next kind step keeps is needs shows k f h =
        let same : ended (after plan s state step) ≡ ended state = ended_stays step (λ g same. let ends = is_end failed next kind g (is ∙ ap (λ (x : Step). Some x) same) in cc) needs in
        subst (λ (n : ℕ). P (n + k + 1) f) (sym same) (shows k f h)

    -- a meal that ends now has the outcome that is shown
    pub shows_now : (rest : List EventKind) (kind : EventKind) → kind ≡ event.End → KeepsStreams plan s state → is_eating state.phase ≡ true → Shows P last state (kind ∷ rest) → P state.ate (fails_before last rest)
    shows_now rest kind is keeps eats shows =
        let number : ended state + 0 + 1 ≡ state.ate = omega (arith, eating_counts state.phase eats, keeps.eater_has_begun eats) in
        let first : slice_get (outcomes_in last (kind ∷ rest)) 0 ≡ Some (fails_before last rest) = ap (λ (x : EventKind). slice_get (outcomes_in last (x ∷ rest)) 0) is in
        subst (λ (n : ℕ). P n (fails_before last rest)) number (shows 0 (fails_before last rest) first)

-- the same of each site in a world
module _ (plan : SeenPlan) (P : ℕ → ℕ → Bool → Type 0) (last : ℕ → Bool) where
  abbrev pub ShowsEach : WorldState → List Event → Type 0
  ShowsEach world events = (s : ℕ) → s < site_count plan → Shows (P s) (last s) (state_of world s) (part_of s events)

  -- the events behind an event show the same
  pub shows_on : (world next : WorldState) (e : Event) (events : List Event) → WorldKeeps plan world → world_after plan world e ≡ Some next → ShowsEach world (e ∷ events) → ShowsEach next events
  shows_on world next e events kept h shows s is_site = elim (cases_eq e.site s) [
    | inl same ↦ subst (λ (x : ℕ). Shows (P x) (last x) (state_of next x) (part_of x events)) same here
    | inr differs ↦ subst (λ (x : LocalState). Shows (P s) (last s) x (part_of s events)) (sym (ap (λ (x : WorldState). state_of x s) one.changes ∙ get_or-set_other world e.site s _ no_state (λ is. differs (sym is))))
        (subst (Shows (P s) (last s) (state_of world s)) (part-other s e events differs) (shows s is_site))
  ] where
    one : IsStepOf plan world e next
    one = event_is_step plan world e next h

    here : Shows (P e.site) (last e.site) (state_of next e.site) (part_of e.site events)
    here =
        let stands : after plan e.site (state_of world e.site) one.step ≡ state_of next e.site = sym (ap (λ (x : WorldState). state_of x e.site) one.changes
        ∙ get_or-set_same world e.site (after plan e.site (state_of world e.site) one.step) no_state (let n = kept.sites in let m = one.is_site in omega arith)) in
        subst (λ (x : LocalState). Shows (P e.site) (last e.site) x (part_of e.site events)) stands
        (shows_next plan e.site (last e.site) (state_of world e.site) (P e.site) (part_of e.site events) (meal_fails plan e.site (state_of world e.site)) (next_letter plan world e.site) e.kind one.step (kept.keeps e.site one.is_site) one.step_is one.needs
        (subst (Shows (P e.site) (last e.site) (state_of world e.site)) (part-same e.site e events refl) (shows e.site one.is_site)))

-- ---- journals fix the world

-- what the site took in the end
abbrev pub taken_in : WorldState → ℕ → ℕ → List Letter
taken_in states s i = (traffic_at (state_of states s) i).taken

module _ (plan : SeenPlan) (is_plan : IsPlan plan) (states : WorldState) (links : LinksAreOrdered plan states) where
  -- whether each site has to quit in the end
  abbrev pub must : ℕ → Bool
  must s = (state_of states s).must_quit

  -- from its state in the world, these events lead each site to its state in the end
  abbrev pub LeadsEach : WorldState → List Event → Type 0
  LeadsEach world events = (s : ℕ) → s < site_count plan → state_after_all plan s (taken_in states s) (must s) (state_of world s) (part_of s events) ≡ Some (state_of states s)

  -- and the plan's jobs fail as these events show
  abbrev pub AgreesEach : WorldState → List Event → Type 0
  AgreesEach world events = ShowsEach plan (FailsSo plan) must world events

  module _ (world : WorldState) (kept : WorldKeeps plan world) (events : List Event) (leads : LeadsEach world events) (s : ℕ) (is_site : s < site_count plan) where
    -- the letter that lies next in a link of the world is the one that the site took in the end
    pub same_letter : (i : ℕ) (l taken : Letter) → i < length (edges_of plan s) → next_letter plan world s i ≡ Some l → next_of_these (taken_in states s) (state_of world s) i ≡ Some taken → l ≡ taken
    same_letter i l taken within here there =
        let over = across plan s i is_plan within in
        let k : ℕ = length (traffic_at (state_of world s) i).taken in
        let other : ℕ = neighbour_at plan s i in
        let place : ℕ = place_of plan other (edge_at plan s i) in
        let put : slice_get (put_to plan states s i) k ≡ Some l = longer_get (put_to plan world s i) (put_to plan states s i) k l
        (puts_grow plan other (taken_in states other) (must other) (part_of other events) (state_of world other) (state_of states other) place (leads other over.is_site)) here in
        let prefix = links s i is_site within in
        let came : slice_get (put_to plan states s i) k ≡ Some taken = ap (λ (x : List Letter). slice_get x k) (sym prefix.1) ∙ slice_get-before (taken_in states s i) prefix.0 taken k there in
        same_Some l taken (sym put ∙ came)

    -- so an event is the same step here and there
    same_step : (failed : Bool) (kind : EventKind) (one two : Step) → (kind ≡ event.End → is_eating (state_of world s).phase ≡ true → meal_fails plan s (state_of world s) ≡ failed)
        → step_of plan world s kind ≡ Some one → step_by failed (next_of_these (taken_in states s) (state_of world s)) kind ≡ Some two → may plan s (state_of world s) one ≡ true → one ≡ two
    same_step failed event.End one two outcome here there needs =
        let is : End (meal_fails plan s (state_of world s)) ≡ one = same_Some (End (meal_fails plan s (state_of world s))) one here in
        let eats : is_eating (state_of world s).phase ≡ true = subst (λ (x : Step). may plan s (state_of world s) x ≡ true) (sym is) needs in
        sym is ∙ ap End (outcome refl eats) ∙ same_Some (End failed) two there
    same_step failed (event.Take i) one two outcome here there needs =
        let v = option_map_parts (Take i) (next_letter plan world s i) one here in
        let w = option_map_parts (Take i) (next_of_these (taken_in states s) (state_of world s) i) two there in
        let may_take : may plan s (state_of world s) (Take i v.0) ≡ true = subst (λ (x : Step). may plan s (state_of world s) x ≡ true) (sym v.2) needs in
        let within : i < length (state_of world s).traffic = ltb-true _ _ (and_parts _ _ may_take).0 in
        sym v.2 ∙ ap (Take i) (same_letter i v.0 w.0 (let e = (kept.keeps s is_site).every_place in omega arith) v.1 w.1) ∙ w.2
    same_step failed kind one two outcome here there needs = same_Some one two (sym here ∙ there)

  -- an event more leads each site on
  pub leads_on : (world next : WorldState) (e : Event) (events : List Event) → WorldKeeps plan world → world_after plan world e ≡ Some next → AgreesEach world (e ∷ events) → LeadsEach world (e ∷ events) → LeadsEach next events
  leads_on world next e events kept h agrees leads s is_site = elim (cases_eq e.site s) [
    | inl same ↦ subst (λ (x : ℕ). state_after_all plan x (taken_in states x) (must x) (state_of next x) (part_of x events) ≡ Some (state_of states x)) same here
    | inr differs ↦ ap (λ (x : LocalState). state_after_all plan s (taken_in states s) (must s) x (part_of s events)) (ap (λ (x : WorldState). state_of x s) one.changes ∙ get_or-set_other world e.site s _ no_state (λ is. differs (sym is)))
        ∙ ap (state_after_all plan s (taken_in states s) (must s) (state_of world s)) (sym (part-other s e events differs)) ∙ leads s is_site
  ] where
    one : IsStepOf plan world e next
    one = event_is_step plan world e next h

    failed : Bool
    failed = fails_before (must e.site) (part_of e.site events)

    here : state_after_all plan e.site (taken_in states e.site) (must e.site) (state_of next e.site) (part_of e.site events) ≡ Some (state_of states e.site)
    here =
        let both = ap (state_after_all plan e.site (taken_in states e.site) (must e.site) (state_of world e.site)) (sym (part-same e.site e events refl)) ∙ leads e.site one.is_site in
        let w = and_then_parts (λ (x : LocalState). state_after_all plan e.site (taken_in states e.site) (must e.site) x (part_of e.site events)) (state_after plan e.site (taken_in states e.site) failed (state_of world e.site) e.kind) (state_of states e.site) both in
        let own = own_step plan e.site (taken_in states e.site) failed (state_of world e.site) w.0 e.kind w.1 in
        let step : one.step ≡ own.step = same_step world kept (e ∷ events) leads e.site one.is_site failed e.kind one.step own.step
        (λ is eats. shows_now plan e.site (must e.site) (state_of world e.site) (FailsSo plan e.site) (part_of e.site events) e.kind is (kept.keeps e.site one.is_site) eats
        (subst (Shows (FailsSo plan e.site) (must e.site) (state_of world e.site)) (part-same e.site e events refl) (agrees e.site one.is_site)) (kept.keeps e.site one.is_site).ate_within) one.step_is own.step_is one.needs in
        let stands : state_of next e.site ≡ w.0 = ap (λ (x : WorldState). state_of x e.site) one.changes
        ∙ get_or-set_same world e.site (after plan e.site (state_of world e.site) one.step) no_state (let n = kept.sites in let m = one.is_site in omega arith)
        ∙ ap (after plan e.site (state_of world e.site)) step ∙ own.changes in
        ap (λ (x : LocalState). state_after_all plan e.site (taken_in states e.site) (must e.site) x (part_of e.site events)) stands ∙ w.2

  -- in the end each site is in its state
  ends_there : (world end : WorldState) (events : List Event) → WorldKeeps plan world → after_events plan world events ≡ Some end → AgreesEach world events → LeadsEach world events → (s : ℕ) → s < site_count plan → state_of end s ≡ state_of states s
  ends_there world end [] kept h agrees leads s is_site = ap (λ (x : WorldState). state_of x s) (sym (same_Some world end h)) ∙ same_Some (state_of world s) (state_of states s) (leads s is_site)
  ends_there world end (e ∷ events) kept h agrees leads s is_site =
      let w = and_then_parts (λ (x : WorldState). after_events plan x events) (world_after plan world e) end h in
      ends_there w.0 end events (event_keeps plan world w.0 e is_plan kept w.1) w.2 (shows_on plan (FailsSo plan) must world w.0 e events kept w.1 agrees) (leads_on world w.0 e events kept w.1 agrees leads) s is_site

  -- An accepted order of the sites' journals leads to the world in which each site has the state that its journal led
  -- it to.
  pub journals_fix : (journals : List (List EventKind)) (events : List Event) (world : WorldState) → length states ≡ site_count plan
      → ((s : ℕ) → s < site_count plan → IsJournal plan s (journal_of journals s) (state_of states s))
      → FailAsShown plan journals states → IsOrderOf journals events → Reaches plan events world → world ≡ states
  journals_fix journals events world sites each outcomes holds reached =
      let kept = reached_kept plan events world is_plan reached in
      ext_get_or no_state world states (kept.sites ∙ sym sites) (λ s within. ends_there (start plan) world events (start_kept plan is_plan) reached
      (λ t is_site k failed is few. let number : ended (start_of plan t) + k + 1 ≡ k + 1 = omega arith in
      let fewer : k < job_count plan t = let e : ended (start_of plan t) + k + 1 ≤ job_count plan t = subst (λ (x : LocalState). ended x + k + 1 ≤ job_count plan t) (start_state plan t is_site) few in omega arith in
      ap (λ (x : LocalState). (job_of plan t (ended x + k + 1)).fails) (start_state plan t is_site) ∙ ap (λ (n : ℕ). (job_of plan t n).fails) number
      ∙ outcomes t k failed is_site fewer (ap (λ (x : List EventKind). slice_get (outcomes_in (must t) x) k) (sym (holds t)) ∙ is))
      (λ t is_site. ap (λ (x : LocalState). state_after_all plan t (taken_in states t) (must t) x (part_of t events)) (start_state plan t is_site)
      ∙ ap (state_after_all plan t (taken_in states t) (must t) (start_of plan t)) (holds t) ∙ each t is_site)
      s (let n = kept.sites in omega arith))
