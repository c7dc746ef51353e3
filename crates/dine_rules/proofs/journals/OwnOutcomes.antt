-- Where the sites that resign did so as the plan says, an order for the plan that the journals show is one for the
-- plan.
use Rattle.std.proofs.Common.{◌≡◌, if◌then◌else◌, ℕ, ◌+◌, ◌<◌, nat_lt, Bool, true, false, ◌&&◌, List, [], ◌∷◌, slice_get, Option, Some, None, refl, sym, ◌∙◌, ap, subst, arith}
use Rattle.std.specs.Option.{option_and_then}
use Rattle.std.proofs.lemmas.Bool.{ltb-true}
use Rattle.std.proofs.lemmas.Option.{same_Some}
use Rattle.dine_graph.specs.Plan.{SeenPlan, IsPlan, job_count, job_of, resigns, site_count}
use Rattle.dine_rules.specs.declared.letters.Letter.{Letter}
use Rattle.dine_rules.specs.declared.events.Event.{Event}
use Rattle.dine_rules.specs.declared.events.EventKind.{EventKind}
use Rattle.dine_rules.specs.declared.events.EventKind.TheVariants as event
use Rattle.dine_rules.specs.declared.phase.Phase.TheVariants.{Thinking}
use Rattle.dine_rules.specs.Journals.{IsWholeOrder, journal_of, outcomes_in, part_of}
use Rattle.dine_rules.specs.Local.{LocalState, is_eating, meal_fails, start_of}
use Rattle.dine_rules.specs.Shown.{ResignAsPlanned, plan_shown, shown_by}
use Rattle.dine_rules.specs.Steps.{End, Step, may, step_by}
use Rattle.dine_rules.specs.World.{Reaches, WorldState, after_events, local_after, next_letter, start, state_of, step_of, world_after}
use Rattle.dine_rules.proofs.shared.journals.JournalStates.{Shows, ShowsEach, ended, shows_now, shows_on}
use Rattle.dine_rules.proofs.shared.journals.OtherOutcomes.{complete-same, jobs-same, plan-stays, start-same, step-same, world_by_site}
use Rattle.dine_rules.proofs.journals.Parts.{part-same}
use Rattle.dine_rules.proofs.shared.journals.Shown.{fail_as_shown, sites_shown}
use Rattle.dine_rules.proofs.shared.links.WorldStreams.{WorldKeeps, event_is_step, event_keeps, start_kept, start_state}
use Rattle.dine_rules.proofs.shared.lists.Options.{and_then_parts}

-- a failure counts only at a site that resigns and has jobs left
counts_only : (f g resigns left : Bool) → (resigns ≡ true → left ≡ true → f ≡ g) → (f && resigns && left) ≡ (g && resigns && left)
counts_only f g true true same = ap (λ (b : Bool). b && true && true) (same refl refl)
counts_only true true resigns left same = refl
counts_only false false resigns left same = refl
counts_only true false true false same = refl
counts_only true false false left same = refl
counts_only false true true false same = refl
counts_only false true false left same = refl

module _ (plan : SeenPlan) (journals : List (List EventKind)) (is_plan : IsPlan plan) (planned : ResignAsPlanned plan journals) where
  abbrev other : SeenPlan
  other = plan_shown plan journals

  abbrev fails : List (List Bool)
  fails = shown_by plan journals

  -- a job has the same outcome in both plans, if its outcome counts
  abbrev IsSame : ℕ → ℕ → Bool → Type 0
  IsSame s n failed = resigns plan s ≡ true → n < job_count plan s → (job_of other s n).fails ≡ (job_of plan s n).fails

  abbrev EachSame : WorldState → List Event → Type 0
  EachSame world events = ShowsEach other IsSame (λ s. false) world events

  -- then an event does the same
  heeds : (s : ℕ) (state : LocalState) (f g : Bool) (next : ℕ → Option Letter) (kind : EventKind) → (kind ≡ event.End → resigns plan s ≡ true → state.ate < job_count plan s → f ≡ g)
      → option_and_then (local_after plan s state) (step_by f next kind) ≡ option_and_then (local_after plan s state) (step_by g next kind)
  heeds s state f g next event.End same = ap (λ (b : Bool). if may plan s state (End f) then Some (record state { phase = Thinking; must_quit = b }) else None)
      (counts_only f g (resigns plan s) (nat_lt state.ate (job_count plan s)) (λ does left. same refl does (ltb-true state.ate (job_count plan s) left)))
  heeds s state f g next kind same = refl

  -- a site that ends a meal eats
  eats_at : (state : LocalState) (s : ℕ) (f : Bool) (next : ℕ → Option Letter) (kind : EventKind) (step : Step) → kind ≡ event.End → step_by f next kind ≡ Some step → may other s state step ≡ true → is_eating state.phase ≡ true
  eats_at state s f next kind step ends is needs =
      let step_is : End f ≡ step = same_Some (End f) step (ap (step_by f next) (sym ends) ∙ is) in
      subst (λ (x : Step). may other s state x ≡ true) (sym step_is) needs

  world_same : (world next : WorldState) (e : Event) (events : List Event) → WorldKeeps other world → EachSame world (e ∷ events) → world_after other world e ≡ Some next → world_after plan world e ≡ Some next
  world_same world next e events kept same h =
      let one = event_is_step other world e next h in
      let state : LocalState = state_of world e.site in
      sym (world_by_site plan fails world e (
      step-same plan fails e.site state (step_of other world e.site e.kind)
      ∙ heeds e.site state (meal_fails other e.site state) (meal_fails plan e.site state) (next_letter plan world e.site) e.kind
      (λ ends. shows_now other e.site false state (IsSame e.site) (part_of e.site events) e.kind ends (kept.keeps e.site one.is_site)
      (eats_at state e.site (meal_fails other e.site state) (next_letter other world e.site) e.kind one.step ends one.step_is one.needs)
      (subst (Shows (IsSame e.site) false state) (part-same e.site e events refl) (same e.site one.is_site)))
      )) ∙ h

  events_same : (events : List Event) (world end : WorldState) → WorldKeeps other world → EachSame world events → after_events other world events ≡ Some end → after_events plan world events ≡ Some end
  events_same [] world end kept same h = h
  events_same (e ∷ events) world end kept same h =
      let w = and_then_parts (λ (x : WorldState). after_events other x events) (world_after other world e) end h in
      ap (option_and_then (λ (x : WorldState). after_events plan x events)) (world_same world w.0 e events kept same w.1)
      ∙ events_same events w.0 end (event_keeps other world w.0 e (plan-stays plan fails is_plan) kept w.1) (shows_on other IsSame (λ s. false) world w.0 e events kept w.1 same) w.2

  module _ (events : List Event) (order : IsWholeOrder other journals events) where
    -- at the start
    first_same : EachSame (start other) events
    first_same s is_site k failed shown does few =
        let at : state_of (start other) s ≡ start_of other s = start_state other s is_site in
        let number : ended (state_of (start other) s) + k + 1 ≡ k + 1 = ap (λ (x : LocalState). ended x + k + 1) at ∙ (let n : ended (start_of other s) + k + 1 ≡ k + 1 = omega arith in n) in
        let here : s < site_count plan = omega (arith, is_site, sites_shown plan journals) in
        let below : k + 1 < job_count plan s = omega (arith, few, number) in
        let in_journal : slice_get (outcomes_in false (journal_of journals s)) k ≡ Some failed = ap (λ (x : List EventKind). slice_get (outcomes_in false x) k) (sym (order.holds_journals s)) ∙ shown in
        let own : (job_of plan s (k + 1)).fails ≡ failed = planned s k failed here does below in_journal in
        let theirs : (job_of other s (k + 1)).fails ≡ failed = fail_as_shown plan journals [] (λ t h. refl) s k failed is_site (omega (arith, below, jobs-same plan fails s)) in_journal in
        ap (λ (n : ℕ). (job_of other s n).fails) number ∙ theirs ∙ sym own ∙ ap (λ (n : ℕ). (job_of plan s n).fails) (sym number)

    -- the plan itself leads to the same world
    pub own_world : Reaches plan events order.world
    own_world = ap (λ (x : WorldState). after_events plan x events) (sym (start-same plan fails))
        ∙ events_same events (start other) order.world (start_kept other (plan-stays plan fails is_plan)) first_same order.accepted

    pub own_order : IsWholeOrder plan journals events
    own_order = record {
      world = order.world;
      holds_journals = order.holds_journals;
      accepted = own_world;
      complete = complete-same plan fails order.world order.complete;
    }
