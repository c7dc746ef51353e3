-- Lists of calls of one site, and the steps of the rules that they do.
use Rattle.std.specs.Prelude.{◌≡◌, ℕ, ℤ, pos, negsuc, Bool, false, List, [], ◌∷◌, Option, Some, None}
use Rattle.dine_graph.specs.Plan.{SeenPlan}
use Rattle.dine_rules.specs.declared.events.EventKind.{EventKind}
use Rattle.dine_rules.specs.declared.events.EventKind.TheVariants as kinds
use Rattle.dine_rules.specs.declared.letters.Letter.{Letter}
use Rattle.dine_rules.specs.Local.{LocalState, edge_at}
use Rattle.dine_rules.specs.Steps as step
use Rattle.dine_rules.specs.Steps.{LocalStep, Step}
use Rattle.dine_wire.specs.Carried.{letter_bytes}
use Rattle.dine_ffi.specs.Acts.{put_step}
use Rattle.dine_ffi.specs.Events.{kind_numbered}
use Rattle.dine_ffi.specs.OwnSites.{ActsOrRefuses, BeginsOrRefuses, EndsOrRefuses, PutsOrRefuses, SeenOwnSite, StepsOrRefuses, TakesOrRefuses, TurnsOrRefuses}
use Rattle.dine_ffi.specs.declared.acts.PutKind.{PutKind}
use Rattle.dine_ffi.specs.declared.event.DineEvent.{DineEvent}

-- A call that may change a site: an End with whether the job failed, a letter to be put at a place, an event to be
-- done, a turn with the event that it wrote, or the bytes of a letter to be taken.
pub data Call : Type 0 where
  Hungry : Call
  Begin : Call
  End : Bool → Call
  Quit : Call
  Put : PutKind → ℕ → Call
  Act : DineEvent → Call
  Turn : DineEvent → Call
  Take : List ℕ → Call

-- the call returned this, and made of the one site the other, as its contract says
abbrev pub Returns : Call → ℤ → SeenOwnSite → SeenOwnSite → Type 0
Returns Hungry result old new = StepsOrRefuses step.Hungry result old new
Returns Begin result old new = BeginsOrRefuses result old new
Returns (End failed) result old new = EndsOrRefuses failed result old new
Returns Quit result old new = StepsOrRefuses step.Quit result old new
Returns (Put kind i) result old new = (out : List ℕ) × (out_new : List ℕ) × PutsOrRefuses i (put_step kind i) out out_new result old new
Returns (Act event) result old new = (out : List ℕ) × (out_new : List ℕ) × ActsOrRefuses event out out_new result old new
Returns (Turn event) result old new = (before : DineEvent) × (out : List ℕ) × (out_new : List ℕ) × TurnsOrRefuses before event out out_new result old new
Returns (Take bytes) result old new = TakesOrRefuses bytes result old new

-- the calls, each with what it returned, lead from the one site to the other, one after the other
abbrev pub CallsLead : List (Call × ℤ) → SeenOwnSite → SeenOwnSite → Type 0
CallsLead [] old new = new ≡ old
CallsLead (call ∷ calls) old new = (next : SeenOwnSite) × Returns call.0 call.1 old next × CallsLead calls next new

-- the step that a call for an event of this kind does: a job that ends went well, and a letter is taken by another call
abbrev pub step_of_act : Option EventKind → Option Step
step_of_act None = None
step_of_act (Some kind) = step.step_by false (λ i. None) kind

-- the step of an event of this site
abbrev pub IsStepOfEvent : ℕ → DineEvent → Step → Type 0
IsStepOfEvent s event did = (event.site ≡ s) × (step_of_act (kind_numbered event.kind event.place) ≡ Some did)

-- The step that the call names, at this site of the plan. A turn names it by the event that it writes, and a Take takes
-- the letter of the run whose bytes these are.
abbrev pub IsStepOf : SeenPlan → ℕ → ℕ → Call → Step → Type 0
IsStepOf plan run s Hungry did = did ≡ step.Hungry
IsStepOf plan run s Begin did = did ≡ step.Begin
IsStepOf plan run s (End failed) did = did ≡ step.End failed
IsStepOf plan run s Quit did = did ≡ step.Quit
IsStepOf plan run s (Put kind i) did = did ≡ put_step kind i
IsStepOf plan run s (Act event) did = IsStepOfEvent s event did
IsStepOf plan run s (Turn event) did = IsStepOfEvent s event did
IsStepOf plan run s (Take bytes) did = (i : ℕ) × (letter : Letter) × (did ≡ step.Take i letter) × (bytes ≡ letter_bytes run (edge_at plan s i) letter)

-- the steps are those of the calls that did not refuse, in order
abbrev pub AreStepsOf : SeenPlan → ℕ → ℕ → List (Call × ℤ) → List Step → Type 0
AreStepsOf plan run s [] steps = steps ≡ []
AreStepsOf plan run s ((call, pos n) ∷ calls) [] = ⊥
AreStepsOf plan run s ((call, pos n) ∷ calls) (did ∷ steps) = IsStepOf plan run s call did × AreStepsOf plan run s calls steps
AreStepsOf plan run s ((call, negsuc n) ∷ calls) steps = AreStepsOf plan run s calls steps

-- the rules allow the steps, one after the other, and they lead from the one state to the other
abbrev pub StepsLead : SeenPlan → ℕ → List Step → LocalState → LocalState → Type 0
StepsLead plan s [] old new = new ≡ old
StepsLead plan s (did ∷ steps) old new = (next : LocalState) × LocalStep plan s old did next × StepsLead plan s steps next new
