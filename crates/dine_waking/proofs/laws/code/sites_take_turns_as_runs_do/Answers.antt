-- by the manner and by the step
use Rattle.std.proofs.Common.{◌≡◌, ◌⊎◌, ℕ, true, false, Option, None, Some, inl, inr, refl, ◌∙◌, ap}
use Rattle.std.proofs.lemmas.Bool.{false≢true}
use Rattle.dine_rules.specs.declared.events.EventKind.{EventKind}
use Rattle.dine_rules.specs.declared.events.EventKind.TheVariants as event
use Rattle.dine_rules.specs.Steps.{Step, Give, Ask, Hungry, Begin, End, Quit, Done, Close, Break, Take}
use Rattle.dine_site_thread.specs.Doings.{IsInTurn, MayTakeBefore, is_on_call, own_event}
use Rattle.dine_site_thread.specs.declared.manner.Manner.{Manner}
use Rattle.dine_site_thread.specs.declared.manner.Manner.TheVariants.{Eager, Greedy, Patient, OnCall}
use Rattle.dine_waking.specs.Runs.{takes_letters}
use Rattle.dine_waking.proofs.laws.code.sites_take_turns_as_runs_do.Goals as goal

acts : (manner : Manner) (next : Option EventKind) (step : Step) (kind : EventKind) → own_event step ≡ Some kind → IsInTurn manner next step → next ≡ Some kind
acts manner next (Give i) kind is turn = turn ∙ is
acts manner next (Ask i) kind is turn = turn ∙ is
acts manner next Hungry kind is turn = turn ∙ is
acts manner next Begin kind is turn = turn ∙ is
acts manner next (End failed) kind is turn = turn ∙ is
acts manner next Quit kind is turn = turn ∙ is
acts manner next (Done i) kind is turn = turn ∙ is
acts manner next (Close i) kind is turn = turn ∙ is
acts manner next (Break i) kind is turn = turn ∙ is
acts manner next (Take i l) kind is turn = absurd (let e : None ≡ Some kind = is in cc)

takes : (manner : Manner) (next : Option EventKind) → is_on_call manner ≡ false → MayTakeBefore manner next → takes_letters next ≡ true
takes Eager next other none = ap takes_letters none
takes Greedy next other may = elim may [
  | inl none ↦ ap takes_letters none
  | inr begin ↦ ap takes_letters begin
]
takes (Patient k) next other may = elim may [
  | inl none ↦ ap takes_letters none
  | inr begin ↦ ap takes_letters begin
]
takes (OnCall k) next other may = absurd (let e : true ≡ false = other in cc)

takes_on_call : (k : ℕ) (next : Option EventKind) → MayTakeBefore (OnCall k) next → (takes_letters next ≡ true) ⊎ (next ≡ Some event.Hungry)
takes_on_call k next may = elim may [
  | inl none ↦ inl (ap takes_letters none)
  | inr later ↦ elim later [
    | inl begin ↦ inl (ap takes_letters begin)
    | inr hungry ↦ inr hungry
  ]
]

patiently : (k : ℕ) (next : Option EventKind) → takes_letters next ≡ true → MayTakeBefore (Patient k) next
patiently k None is = inl refl
patiently k (Some event.Begin) is = inr refl
patiently k (Some event.End) is = absurd (false≢true is)
patiently k (Some event.Quit) is = absurd (false≢true is)
patiently k (Some event.Hungry) is = absurd (false≢true is)
patiently k (Some (event.Take i)) is = absurd (false≢true is)
patiently k (Some (event.Give i)) is = absurd (false≢true is)
patiently k (Some (event.Ask i)) is = absurd (false≢true is)
patiently k (Some (event.Done i)) is = absurd (false≢true is)
patiently k (Some (event.Close i)) is = absurd (false≢true is)

pub returns : goal.returns
returns c = record {
  acts = λ manner plan s state step kind is turn. acts manner _ step kind is turn;
  takes = λ manner plan s state i letter other turn. takes manner _ other turn;
  patient = λ plan s k state i letter. (patiently k _, takes (Patient k) _ refl);
  on_call = λ k plan s state i letter turn. takes_on_call k _ turn;
  eager = λ plan s checked old new hears letter. (λ manner. manner, λ turn. turn);
}
