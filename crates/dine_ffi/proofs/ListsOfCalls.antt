-- A list of calls of a site leads where the steps of those that did not refuse lead.
use Rattle.std.proofs.Common.{◌≡◌, ◌⊎◌, ℕ, ℤ, pos, negsuc, Bool, true, false, cond, List, [], ◌∷◌, Option, Some, None, refl, sym, ◌∙◌, ap, subst, inl, inr}
use Rattle.std.proofs.lemmas.Bool.{cases_eq}
use Rattle.dine_graph.specs.Plan.{SeenPlan}
use Rattle.dine_rules.specs.declared.events.EventKind.{EventKind}
use Rattle.dine_rules.specs.declared.events.EventKind.TheVariants as kinds
use Rattle.dine_rules.specs.Local.{LocalState, is_eating, start_of}
use Rattle.dine_rules.specs.Steps as step
use Rattle.dine_rules.specs.Steps.{LocalStep, Step, after}
use Rattle.dine_site.specs.NextEvent.{next_of}
use Rattle.dine_site.specs.Places.{has_all_said}
use Rattle.dine_ffi.specs.Acts.{put_step}
use Rattle.dine_ffi.specs.Calls.{AreStepsOf, Call, CallsLead, IsStepOf, IsStepOfEvent, Returns, StepsLead, step_of_act}
use Rattle.dine_ffi.specs.Calls.Call.{Hungry, Begin, End, Quit, Put, Act, Turn, Take}
use Rattle.dine_ffi.specs.Events.{kind_numbered}
use Rattle.dine_ffi.specs.OwnSites.{ActsAs, ActsOrRefuses, IsOpened, OwnSteps, SeenOwnSite, StandsFor, TurnsOrRefuses}
use Rattle.dine_ffi.specs.declared.acts.PutKind.TheVariants as put
use Rattle.dine_ffi.specs.declared.event.DineEvent.{DineEvent}
use Rattle.dine_ffi.proofs.Standing.{begin_call, end_call, hungry_call, opened_stands, put_call, quit_call, take_call}
use Rattle.dine_ffi.proofs.Turns.{numbered, of_site}

-- a call that did not refuse did the step that it names
record DidStep (call : Call) (old new : SeenOwnSite) : Type 0 where
  did : Step
  names : IsStepOf old.plan old.run old.core.site call did
  steps : OwnSteps did old new

-- a call for an event of this kind did its step
acted : (k : Option EventKind) (out out_new : List ℕ) (n : ℕ) (old new : SeenOwnSite) → ActsAs k out out_new (pos n) old new → (did : Step) × (step_of_act k ≡ Some did) × OwnSteps did old new
acted None out out_new n old new is = absurd (let never : pos n ≡ negsuc 3 = is.0 in cc)
acted (Some (kinds.Take i)) out out_new n old new is = absurd (let never : pos n ≡ negsuc 3 = is.0 in cc)
acted (Some kinds.Hungry) out out_new n old new is = (step.Hungry, refl, hungry_call old new is.0.1)
acted (Some kinds.Begin) out out_new n old new is = (step.Begin, refl, begin_call old new is.0.1)
acted (Some kinds.End) out out_new n old new is = (step.End false, refl, end_call false old new is.0.1)
acted (Some kinds.Quit) out out_new n old new is = (step.Quit, refl, quit_call old new is.0.1)
acted (Some (kinds.Give i)) out out_new n old new is = (step.Give i, refl, put_call put.Give i is.0 old new is.1)
acted (Some (kinds.Ask i)) out out_new n old new is = (step.Ask i, refl, put_call put.Ask i is.0 old new is.1)
acted (Some (kinds.Done i)) out out_new n old new is = (step.Done i, refl, put_call put.Done i is.0 old new is.1)
acted (Some (kinds.Close i)) out out_new n old new is = (step.Close i, refl, put_call put.Close i is.0 old new is.1)

-- one that refused changed nothing
not_acted : (k : Option EventKind) (out out_new : List ℕ) (n : ℕ) (old new : SeenOwnSite) → ActsAs k out out_new (negsuc n) old new → new ≡ old
not_acted None out out_new n old new is = is.1
not_acted (Some (kinds.Take i)) out out_new n old new is = is.1
not_acted (Some kinds.Hungry) out out_new n old new is = is.0.0
not_acted (Some kinds.Begin) out out_new n old new is = is.0.0
not_acted (Some kinds.End) out out_new n old new is = is.0.0
not_acted (Some kinds.Quit) out out_new n old new is = is.0.0
not_acted (Some (kinds.Give i)) out out_new n old new is = is.0
not_acted (Some (kinds.Ask i)) out out_new n old new is = is.0
not_acted (Some (kinds.Done i)) out out_new n old new is = is.0
not_acted (Some (kinds.Close i)) out out_new n old new is = is.0

-- the same whether the event is one of the site or not
act_did : (event : DineEvent) (out out_new : List ℕ) (n : ℕ) (old new : SeenOwnSite) → ActsOrRefuses event out out_new (pos n) old new
    → (event.site ≡ old.core.site) ⊎ (event.site ≡ old.core.site → ⊥) → DidStep (Act event) old new
act_did event out out_new n old new is (inl same) =
    let w = acted (kind_numbered event.kind event.place) out out_new n old new (is.0 same) in
    record { did = w.0; names = (same, w.1); steps = w.2 }
act_did event out out_new n old new is (inr other) = absurd (let never : pos n ≡ negsuc 3 = (is.1 other).0 in cc)

act_did_nothing : (event : DineEvent) (out out_new : List ℕ) (n : ℕ) (old new : SeenOwnSite) → ActsOrRefuses event out out_new (negsuc n) old new
    → (event.site ≡ old.core.site) ⊎ (event.site ≡ old.core.site → ⊥) → new ≡ old
act_did_nothing event out out_new n old new is (inl same) = not_acted (kind_numbered event.kind event.place) out out_new n old new (is.0 same)
act_did_nothing event out out_new n old new is (inr other) = (is.1 other).1

-- a turn that did not refuse did the step of the event that it wrote
turn_did : (event before : DineEvent) (out out_new : List ℕ) (n : ℕ) (old new : SeenOwnSite) → TurnsOrRefuses before event out out_new (pos n) old new
    → (next : Option EventKind) → next_of old.core ≡ next → (eats : Bool) → is_eating old.core.phase ≡ eats → DidStep (Turn event) old new
turn_did event before out out_new n old new is next found true eats = absurd (let never : pos n ≡ negsuc 6 = (is.eats eats).0 in cc)
turn_did event before out out_new n old new is None found false awake = absurd (never (has_all_said old.core) (is.idle awake found).0)
  where
    never : (b : Bool) → pos n ≡ cond b (negsuc 16) (negsuc 15) → ⊥
    never true same = cc
    never false same = cc
turn_did event before out out_new n old new is (Some next) found false awake =
    let s = old.core.site in
    let did = is.acts awake next found in
    let w = acted (Some next) out out_new n old new did.0 in
    record {
      did = w.0;
      names = subst (λ (it : DineEvent). IsStepOfEvent s it w.0) (sym did.1) (of_site s next, ap step_of_act (numbered s next) ∙ w.1);
      steps = w.2;
    }

turn_did_nothing : (event before : DineEvent) (out out_new : List ℕ) (n : ℕ) (old new : SeenOwnSite) → TurnsOrRefuses before event out out_new (negsuc n) old new
    → (next : Option EventKind) → next_of old.core ≡ next → (eats : Bool) → is_eating old.core.phase ≡ eats → new ≡ old
turn_did_nothing event before out out_new n old new is next found true eats = (is.eats eats).1.site_stays
turn_did_nothing event before out out_new n old new is None found false awake = (is.idle awake found).1.site_stays
turn_did_nothing event before out out_new n old new is (Some next) found false awake = not_acted (Some next) out out_new n old new (is.acts awake next found).0

did_step : (call : Call) (n : ℕ) (old new : SeenOwnSite) → Returns call (pos n) old new → DidStep call old new
did_step Hungry n old new is = record { did = step.Hungry; names = refl; steps = hungry_call old new is.1 }
did_step Begin n old new is = record { did = step.Begin; names = refl; steps = begin_call old new is.1 }
did_step (End failed) n old new is = record { did = step.End failed; names = refl; steps = end_call failed old new is.1 }
did_step Quit n old new is = record { did = step.Quit; names = refl; steps = quit_call old new is.1 }
did_step (Put kind i) n old new is = record { did = put_step kind i; names = refl; steps = put_call kind i is.2.0 old new is.2.1 }
did_step (Act event) n old new is = act_did event is.0 is.1 n old new is.2 (cases_eq event.site old.core.site)
did_step (Turn event) n old new is = turn_did event is.0 is.1 is.2 n old new is.3 (next_of old.core) refl (is_eating old.core.phase) refl
did_step (Take bytes) n old new is =
    let w = is.outcome in
    record { did = step.Take w.0 w.1; names = (w.0, w.1, refl, w.3.arrives.are); steps = take_call bytes w.0 w.1 old new w.3 }

-- a call that refused changed nothing
did_nothing : (call : Call) (n : ℕ) (state : LocalState) (old new : SeenOwnSite) → StandsFor state old → Returns call (negsuc n) old new → new ≡ old
did_nothing Hungry n state old new stands is = is.0
did_nothing Begin n state old new stands is = is.0
did_nothing (End failed) n state old new stands is = is.0
did_nothing Quit n state old new stands is = is.0
did_nothing (Put kind i) n state old new stands is = is.2.0
did_nothing (Act event) n state old new stands is = act_did_nothing event is.0 is.1 n old new is.2 (cases_eq event.site old.core.site)
did_nothing (Turn event) n state old new stands is = turn_did_nothing event is.0 is.1 is.2 n old new is.3 (next_of old.core) refl (is_eating old.core.phase) refl
did_nothing (Take bytes) n state old new stands is = (is.outcome state stands).0

abbrev Leads : SeenPlan → ℕ → ℕ → List (Call × ℤ) → LocalState → SeenOwnSite → Type 0
Leads plan run s calls start new = (steps : List Step) × (state : LocalState) × AreStepsOf plan run s calls steps × StepsLead plan s steps start state × StandsFor state new

lead : (plan : SeenPlan) (run s : ℕ) (calls : List (Call × ℤ)) (state : LocalState) (old new : SeenOwnSite) → old.plan ≡ plan → old.run ≡ run → old.core.site ≡ s → StandsFor state old → CallsLead calls old new → Leads plan run s calls state new
lead plan run s [] state old new same_plan same_run same_site stands is = ([], state, refl, refl, subst (StandsFor state) (sym is) stands)
lead plan run s ((call, pos n) ∷ calls) state old new same_plan same_run same_site stands is =
    let one = did_step call n old is.0 is.1 in
    let own = one.steps state stands in
    let next : LocalState = after old.plan old.core.site state one.did in
    let rest = lead plan run s calls next is.0 new (own.plan ∙ same_plan) (own.run ∙ same_run) (own.site ∙ same_site) own.stands is.2 in
    let names : IsStepOf plan run s call one.did = subst (λ (p : SeenPlan). IsStepOf p run s call one.did) same_plan
    (subst (λ (r : ℕ). IsStepOf old.plan r s call one.did) same_run (subst (λ (x : ℕ). IsStepOf old.plan old.run x call one.did) same_site one.names)) in
    let step_is : LocalStep plan s state one.did next = subst (λ (p : SeenPlan). LocalStep p s state one.did next) same_plan
    (subst (λ (x : ℕ). LocalStep old.plan x state one.did next) same_site (record { needs = own.allowed; changes = refl })) in
    (one.did ∷ rest.0, rest.1, (names, rest.2), (next, step_is, rest.3), rest.4)
lead plan run s ((call, negsuc n) ∷ calls) state old new same_plan same_run same_site stands is =
    lead plan run s calls state old new same_plan same_run same_site stands
    (subst (λ (x : SeenOwnSite). CallsLead calls x new) (did_nothing call n state old is.0 stands is.1) is.2)

pub from_opened : (plan : SeenPlan) (run number : ℕ) (opened own : SeenOwnSite) (calls : List (Call × ℤ)) → IsOpened plan run number opened → CallsLead calls opened own → Leads plan run number calls (start_of plan number) own
from_opened plan run number opened own calls is lead_there = lead plan run number calls (start_of plan number) opened own is.plan_is is.run_is is.site (opened_stands plan run number opened is) lead_there
