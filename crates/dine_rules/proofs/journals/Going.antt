-- The events of a site, in its journal and in a list of events, are steps of it.
use Rattle.std.proofs.Common.{◌≡◌, ℕ, suc, ◌+◌, Bool, true, List, [], ◌∷◌, ◌++◌, length, Option, Some, refl, sym, ◌∙◌, ap, ap₂, subst, inl, inr, arith}
use Rattle.std.proofs.lemmas.Bool.{cases_eq}
use Rattle.std.proofs.lemmas.List.{get_or-set_same, get_or-set_other, length-set}
use Rattle.std.proofs.lemmas.Option.{same_Some}
use Rattle.dine_graph.specs.Plan.{SeenPlan, site_count}
use Rattle.dine_rules.specs.declared.letters.Letter.{Letter}
use Rattle.dine_rules.specs.declared.events.Event.{Event}
use Rattle.dine_rules.specs.declared.events.EventKind.{EventKind}
use Rattle.dine_rules.specs.declared.events.EventKind.TheVariants as event
use Rattle.dine_rules.specs.Askers.{meals_begun}
use Rattle.dine_rules.specs.Journals.{fails_before, next_of_these, part_of, state_after, state_after_all}
use Rattle.dine_rules.specs.Local.{LocalState, meal_fails}
use Rattle.dine_rules.specs.Steps as its
use Rattle.dine_rules.specs.declared.events.Shape.TheVariants.{Takes}
use Rattle.dine_rules.specs.Steps.{Begin, Step, Take, after, may, step_by}
use Rattle.dine_rules.specs.World.{WorldState, after_events, next_letter, no_state, state_of, world_after}
use Rattle.dine_rules.proofs.shared.journals.JournalStates.{own_step}
use Rattle.dine_rules.proofs.journals.Parts.{part-other, part-same}
use Rattle.dine_rules.proofs.shared.links.WorldStreams.{event_is_step}
use Rattle.dine_rules.proofs.shared.lists.Options.{and_then_parts, option_map_parts}

-- ---- an event and its step

-- the step that an event is done by, if it has a letter for each Take
abbrev pub IsStepFor : EventKind → Step → Type 0
IsStepFor (event.Take i) step = (l : Letter) × (step ≡ Take i l)
IsStepFor (event.Give i) step = step ≡ its.Give i
IsStepFor event.End step = (failed : Bool) × (step ≡ its.End failed)
IsStepFor event.Begin step = step ≡ Begin
IsStepFor event.Quit step = step ≡ its.Quit
IsStepFor event.Hungry step = step ≡ its.Hungry
IsStepFor (event.Ask i) step = step ≡ its.Ask i
IsStepFor (event.Done i) step = step ≡ its.Done i
IsStepFor (event.Close i) step = step ≡ its.Close i

pub step_for : (failed : Bool) (next : ℕ → Option Letter) (kind : EventKind) (step : Step) → step_by failed next kind ≡ Some step → IsStepFor kind step
step_for failed next (event.Take i) step h = let w = option_map_parts (Take i) (next i) step h in (w.0, sym w.2)
step_for failed next (event.Give i) step h = sym (same_Some (its.Give i) step h)
step_for failed next event.End step h = (failed, sym (same_Some (its.End failed) step h))
step_for failed next event.Begin step h = sym (same_Some Begin step h)
step_for failed next event.Quit step h = sym (same_Some its.Quit step h)
step_for failed next event.Hungry step h = sym (same_Some its.Hungry step h)
step_for failed next (event.Ask i) step h = sym (same_Some (its.Ask i) step h)
step_for failed next (event.Done i) step h = sym (same_Some (its.Done i) step h)
step_for failed next (event.Close i) step h = sym (same_Some (its.Close i) step h)

-- ---- events in a row

module _ (plan : SeenPlan) (s : ℕ) where
  -- one step after the other, one for each event
  abbrev pub Go : LocalState → List EventKind → LocalState → Type 0
  Go state [] new = state ≡ new
  Go state (kind ∷ kinds) new = (step : Step) × IsStepFor kind step × (may plan s state step ≡ true) × Go (after plan s state step) kinds new

  -- they can be cut
  pub go_cut : (kinds more : List EventKind) (state new : LocalState) → Go state (kinds ++ more) new → (mid : LocalState) × Go state kinds mid × Go mid more new
  go_cut [] more state new go = (state, refl, go)
  go_cut (kind ∷ kinds) more state new go =
      let w = go_cut kinds more (after plan s state go.0) new go.3 in
      (w.0, (go.0, go.1, go.2, w.1), w.2)

  -- each Begin is a meal
  step_ate : (kind : EventKind) (step : Step) (kinds : List EventKind) (state : LocalState) → IsStepFor kind step → (after plan s state step).ate + meals_begun kinds ≡ state.ate + meals_begun (kind ∷ kinds)
  step_ate (event.Take j) step kinds state h = ap (λ (x : Step). (after plan s state x).ate + meals_begun kinds) h.1
  step_ate (event.Give j) step kinds state h = ap (λ (x : Step). (after plan s state x).ate + meals_begun kinds) h
  step_ate event.End step kinds state h = ap (λ (x : Step). (after plan s state x).ate + meals_begun kinds) h.1
  step_ate event.Begin step kinds state h =
      let more : state.ate + 1 + meals_begun kinds ≡ state.ate + suc (meals_begun kinds) = omega arith in
      ap (λ (x : Step). (after plan s state x).ate + meals_begun kinds) h ∙ more
  step_ate event.Quit step kinds state h = ap (λ (x : Step). (after plan s state x).ate + meals_begun kinds) h
  step_ate event.Hungry step kinds state h = ap (λ (x : Step). (after plan s state x).ate + meals_begun kinds) h
  step_ate (event.Ask j) step kinds state h = ap (λ (x : Step). (after plan s state x).ate + meals_begun kinds) h
  step_ate (event.Done j) step kinds state h = ap (λ (x : Step). (after plan s state x).ate + meals_begun kinds) h
  step_ate (event.Close j) step kinds state h = ap (λ (x : Step). (after plan s state x).ate + meals_begun kinds) h

  pub go_ate : (kinds : List EventKind) (state new : LocalState) → Go state kinds new → new.ate ≡ state.ate + meals_begun kinds
  go_ate [] state new go = let same : state.ate ≡ new.ate = ap (λ (x : LocalState). x.ate) go in omega (arith, same)
  go_ate (kind ∷ kinds) state new go = go_ate kinds (after plan s state go.0) new go.3 ∙ step_ate kind go.0 kinds state go.1

  -- the events of a journal go so
  pub journal_goes : (letters : ℕ → List Letter) (last : Bool) (kinds : List EventKind) (state end : LocalState) → state_after_all plan s letters last state kinds ≡ Some end → Go state kinds end
  journal_goes letters last [] state end h = same_Some state end h
  journal_goes letters last (kind ∷ kinds) state end h =
      let w = and_then_parts (λ (x : LocalState). state_after_all plan s letters last x kinds) (state_after plan s letters (fails_before last kinds) state kind) end h in
      let own = own_step plan s letters (fails_before last kinds) state w.0 kind w.1 in (
        own.step,
        step_for (fails_before last kinds) (next_of_these letters state) kind own.step own.step_is,
        own.needs,
        subst (λ (x : LocalState). Go x kinds end) (sym own.changes) (journal_goes letters last kinds w.0 end w.2),
      )

  -- and so do those of a site in a list that the world accepts
  pub events_go : (events : List Event) (world new : WorldState) → length world ≡ site_count plan → after_events plan world events ≡ Some new → Go (state_of world s) (part_of s events) (state_of new s)
  events_go [] world new sites h = ap (λ (x : WorldState). state_of x s) (same_Some world new h)
  events_go (e ∷ events) world new sites h =
      let w = and_then_parts (λ next. after_events plan next events) (world_after plan world e) new h in
      let one = event_is_step plan world e w.0 w.1 in
      let rest = events_go events w.0 new (ap length one.changes ∙ length-set world e.site (after plan e.site (state_of world e.site) one.step) ∙ sites) w.2 in
      elim (cases_eq e.site s) [
        | inl same ↦
            let here : state_of w.0 s ≡ after plan s (state_of world s) one.step = ap₂ (λ (x : WorldState) (t : ℕ). state_of x t) one.changes (sym same)
            ∙ get_or-set_same world e.site (after plan e.site (state_of world e.site) one.step) no_state (let m = one.is_site in omega arith)
            ∙ ap (λ (t : ℕ). after plan t (state_of world t) one.step) same in
            subst (λ (x : List EventKind). Go (state_of world s) x (state_of new s)) (sym (part-same s e events same)) (
              one.step,
              step_for (meal_fails plan e.site (state_of world e.site)) (next_letter plan world e.site) e.kind one.step one.step_is,
              subst (λ (t : ℕ). may plan t (state_of world t) one.step ≡ true) same one.needs,
              subst (λ (x : LocalState). Go x (part_of s events) (state_of new s)) here rest,
            )
        | inr differs ↦
            let here : state_of w.0 s ≡ state_of world s = ap (λ (x : WorldState). state_of x s) one.changes
            ∙ get_or-set_other world e.site s (after plan e.site (state_of world e.site) one.step) no_state (λ is. differs (sym is)) in
            subst (λ (x : List EventKind). Go (state_of world s) x (state_of new s)) (sym (part-other s e events differs))
            (subst (λ (x : LocalState). Go x (part_of s events) (state_of new s)) here rest)
      ]
