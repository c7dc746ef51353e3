-- At no point of a list of events that the world accepts are two neighbours in a meal.
use Rattle.std.proofs.Common.{◌≡◌, ℕ, ◌<◌, Bool, true, false, List, [], ◌∷◌, ◌++◌, Option, Some, refl, sym, ◌∙◌, ap, subst, inl, inr, arith}
use Rattle.std.specs.Option.{option_and_then}
use Rattle.std.proofs.lemmas.Bool.{and_parts, cases_eq}
use Rattle.std.proofs.lemmas.List.{get_or-set_same, get_or-set_other}
use Rattle.std.proofs.lemmas.Option.{same_Some}
use Rattle.dine_graph.specs.Plan.{SeenPlan, IsPlan, site_count}
use Rattle.dine_rules.specs.declared.events.Event.{Event}
use Rattle.dine_rules.specs.declared.events.EventKind.{EventKind}
use Rattle.dine_rules.specs.declared.events.EventKind.TheVariants as event
use Rattle.dine_rules.specs.declared.letters.Letter.{Letter}
use Rattle.dine_rules.specs.declared.phase.Phase.{Phase}
use Rattle.dine_rules.specs.declared.phase.Phase.TheVariants as phase
use Rattle.dine_rules.specs.EatingApart.{NeighboursEatApart, eats_after, is_in_meal}
use Rattle.dine_rules.specs.Journals.{part_of}
use Rattle.dine_rules.specs.Local.{LocalState, is_eating, is_thinking, meal_fails, neighbour_at}
use Rattle.dine_rules.specs.Steps as step
use Rattle.dine_rules.specs.Steps.{Step, after, may, step_by}
use Rattle.dine_rules.specs.World.{WorldState, Reaches, after_events, next_letter, no_state, start, state_of, world_after}
use Rattle.dine_rules.proofs.journals.Parts.{part-other, part-same}
use Rattle.dine_rules.proofs.shared.links.Across.{across}
use Rattle.dine_rules.proofs.shared.links.EatersApart.{eater_alone}
use Rattle.dine_rules.proofs.shared.links.WorldStreams.{IsStepOf, WorldKeeps, and_then_parts, event_is_step, event_keeps, option_map_parts, start_kept, start_state}

not_while_thinking : (p : Phase) → is_thinking p ≡ true → is_eating p ≡ false
not_while_thinking phase.Thinking h = refl
not_while_thinking phase.Hungry h = refl
not_while_thinking phase.Eating h = sym h

-- a step changes whether its site eats as its event tells
eats_by_step : (plan : SeenPlan) (s : ℕ) (state : LocalState) (failed : Bool) (next : ℕ → Option Letter) (kind : EventKind) (one : Step) → step_by failed next kind ≡ Some one → may plan s state one ≡ true
    → is_eating (after plan s state one).phase ≡ eats_after (is_eating state.phase) (kind ∷ [])
eats_by_step plan s state failed next (event.Take i) one h needs = let w = option_map_parts (step.Take i) (next i) one h in subst (λ (x : Step). is_eating (after plan s state x).phase ≡ is_eating state.phase) w.2 refl
eats_by_step plan s state failed next (event.Give i) one h needs = subst (λ (x : Step). is_eating (after plan s state x).phase ≡ is_eating state.phase) (same_Some (step.Give i) one h) refl
eats_by_step plan s state failed next event.End one h needs = subst (λ (x : Step). is_eating (after plan s state x).phase ≡ false) (same_Some (step.End failed) one h) refl
eats_by_step plan s state failed next event.Begin one h needs = subst (λ (x : Step). is_eating (after plan s state x).phase ≡ true) (same_Some step.Begin one h) refl
eats_by_step plan s state failed next event.Quit one h needs = subst (λ (x : Step). is_eating (after plan s state x).phase ≡ is_eating state.phase) (same_Some step.Quit one h) refl
eats_by_step plan s state failed next event.Hungry one h needs =
    let may_be : may plan s state step.Hungry ≡ true = subst (λ (x : Step). may plan s state x ≡ true) (sym (same_Some step.Hungry one h)) needs in
    subst (λ (x : Step). is_eating (after plan s state x).phase ≡ is_eating state.phase) (same_Some step.Hungry one h) (sym (not_while_thinking state.phase (and_parts _ _ (and_parts _ _ may_be).0).0))
eats_by_step plan s state failed next (event.Ask i) one h needs = subst (λ (x : Step). is_eating (after plan s state x).phase ≡ is_eating state.phase) (same_Some (step.Ask i) one h) refl
eats_by_step plan s state failed next (event.Done i) one h needs = subst (λ (x : Step). is_eating (after plan s state x).phase ≡ is_eating state.phase) (same_Some (step.Done i) one h) refl
eats_by_step plan s state failed next (event.Close i) one h needs = subst (λ (x : Step). is_eating (after plan s state x).phase ≡ is_eating state.phase) (same_Some (step.Close i) one h) refl

eats_first : (eats : Bool) (kind : EventKind) (kinds : List EventKind) → eats_after (eats_after eats (kind ∷ [])) kinds ≡ eats_after eats (kind ∷ kinds)
eats_first eats (event.Take i) kinds = refl
eats_first eats (event.Give i) kinds = refl
eats_first eats event.End kinds = refl
eats_first eats event.Begin kinds = refl
eats_first eats event.Quit kinds = refl
eats_first eats event.Hungry kinds = refl
eats_first eats (event.Ask i) kinds = refl
eats_first eats (event.Done i) kinds = refl
eats_first eats (event.Close i) kinds = refl

-- the front of events that the world accepts leads to a world
front_leads : (plan : SeenPlan) (before rest : List Event) (world end : WorldState) → after_events plan world (before ++ rest) ≡ Some end → (mid : WorldState) × (after_events plan world before ≡ Some mid)
front_leads plan [] rest world end h = (world, refl)
front_leads plan (e ∷ before) rest world end h =
    let w = and_then_parts (λ (x : WorldState). after_events plan x (before ++ rest)) (world_after plan world e) end h in
    let later = front_leads plan before rest w.0 end w.2 in
    (later.0, ap (option_and_then (λ (x : WorldState). after_events plan x before)) w.1 ∙ later.1)

module _ (plan : SeenPlan) (is_plan : IsPlan plan) where
  -- one event more, of the site or of another
  eats_on : (world new : WorldState) (e : Event) (events : List Event) → WorldKeeps plan world → world_after plan world e ≡ Some new → (s : ℕ)
      → eats_after (is_eating (state_of new s).phase) (part_of s events) ≡ eats_after (is_eating (state_of world s).phase) (part_of s (e ∷ events))
  eats_on world new e events kept h s = elim (cases_eq e.site s) [
    | inl same ↦ subst (λ (x : ℕ). eats_after (is_eating (state_of new x).phase) (part_of x events) ≡ eats_after (is_eating (state_of world x).phase) (part_of x (e ∷ events))) same here
    | inr differs ↦ ap (λ (x : WorldState). eats_after (is_eating (state_of x s).phase) (part_of s events)) one.changes
        ∙ ap (λ (x : LocalState). eats_after (is_eating x.phase) (part_of s events)) (get_or-set_other world e.site s (after plan e.site (state_of world e.site) one.step) no_state (λ is. differs (sym is)))
        ∙ ap (eats_after (is_eating (state_of world s).phase)) (sym (part-other s e events differs))
  ] where
    one : IsStepOf plan world e new
    one = event_is_step plan world e new h

    here : eats_after (is_eating (state_of new e.site).phase) (part_of e.site events) ≡ eats_after (is_eating (state_of world e.site).phase) (part_of e.site (e ∷ events))
    here =
        let stands : state_of new e.site ≡ after plan e.site (state_of world e.site) one.step = ap (λ (x : WorldState). state_of x e.site) one.changes
        ∙ get_or-set_same world e.site (after plan e.site (state_of world e.site) one.step) no_state (let n = kept.sites in let m = one.is_site in omega arith) in
        ap (λ (x : LocalState). eats_after (is_eating x.phase) (part_of e.site events)) stands
        ∙ ap (λ (b : Bool). eats_after b (part_of e.site events)) (eats_by_step plan e.site (state_of world e.site) (meal_fails plan e.site (state_of world e.site)) (next_letter plan world e.site) e.kind one.step one.step_is one.needs)
        ∙ eats_first (is_eating (state_of world e.site).phase) e.kind (part_of e.site events)
        ∙ ap (eats_after (is_eating (state_of world e.site).phase)) (sym (part-same e.site e events refl))

  eats_along : (events : List Event) (world end : WorldState) → WorldKeeps plan world → after_events plan world events ≡ Some end → (s : ℕ) → is_eating (state_of end s).phase ≡ eats_after (is_eating (state_of world s).phase) (part_of s events)
  eats_along [] world end kept h s = ap (λ (x : WorldState). is_eating (state_of x s).phase) (sym (same_Some world end h))
  eats_along (e ∷ events) world end kept h s =
      let w = and_then_parts (λ (x : WorldState). after_events plan x events) (world_after plan world e) end h in
      eats_along events w.0 end (event_keeps plan world w.0 e is_plan kept w.1) w.2 s ∙ eats_on world w.0 e events kept w.1 s

  -- a site eats in the world exactly where it is in a meal
  eats_in : (events : List Event) (world : WorldState) → Reaches plan events world → (s : ℕ) → s < site_count plan → is_eating (state_of world s).phase ≡ is_in_meal s events
  eats_in events world reached s is_site = eats_along events (start plan) world (start_kept plan is_plan) reached s ∙ ap (λ (x : LocalState). eats_after (is_eating x.phase) (part_of s events)) (start_state plan s is_site)

  pub eat_apart : (events : List Event) (world : WorldState) → Reaches plan events world → NeighboursEatApart plan events
  eat_apart events world reached before rest s i split is_site within eats =
      let mid = front_leads plan before rest (start plan) world (ap (after_events plan (start plan)) (sym split) ∙ reached) in
      sym (eats_in before mid.0 mid.1 (neighbour_at plan s i) (across plan s i is_plan within).is_site)
      ∙ eater_alone plan before mid.0 s i is_plan mid.1 is_site within (eats_in before mid.0 mid.1 s is_site ∙ eats)
