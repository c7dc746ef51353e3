use Rattle.std.proofs.Common.{◌≡◌, ℕ, Bool, true, false, cond, List, [], ◌∷◌, length, Option, Some, None, option_map, refl, sym, ◌∙◌, ap, subst, inl, inr, arith}
use Rattle.std.proofs.lemmas.Bool.{cases_Bool, false≢true}
use Rattle.std.proofs.lemmas.Option.{same_Some}
use Rattle.dine_graph.specs.Plan.{SeenPlan}
use Rattle.dine_rules.specs.declared.events.EventKind.{EventKind}
use Rattle.dine_rules.specs.declared.events.EventKind.TheVariants as event
use Rattle.dine_rules.specs.Local.{LocalState}
use Rattle.dine_rules.specs.Steps.{Step, Give, Ask, Hungry, Begin, End, Quit, Done, Close, Break, Take, after}
use Rattle.dine_site_thread.specs.declared.manner.Manner.TheVariants.{Eager}
use Rattle.dine_site_thread.specs.Doings.{AreInTurn, IsInTurn, brought_in, is_brought, own_event}
use Rattle.dine_site_thread.proofs.laws.letters_and_outcomes_fix_the_steps.Goals as goal

-- whether something comes in a step, by its event
abbrev comes_in : Option EventKind → Bool
comes_in (Some event.End) = true
comes_in (Some kind) = false
comes_in None = true

comes : (step : Step) → is_brought step ≡ comes_in (own_event step)
comes (Give i) = refl
comes (Ask i) = refl
comes Hungry = refl
comes Begin = refl
comes (End failed) = refl
comes Quit = refl
comes (Done i) = refl
comes (Close i) = refl
comes (Break i) = refl
comes (Take i l) = refl

-- the step of an event in which nothing comes
abbrev step_of : EventKind → Step
step_of (event.Give i) = Give i
step_of (event.Ask i) = Ask i
step_of event.Hungry = Hungry
step_of event.Begin = Begin
step_of event.Quit = Quit
step_of (event.Done i) = Done i
step_of (event.Close i) = Close i
step_of kind = Hungry

own_step : (step : Step) → is_brought step ≡ false → option_map step_of (own_event step) ≡ Some step
own_step (Give i) none = refl
own_step (Ask i) none = refl
own_step Hungry none = refl
own_step Begin none = refl
own_step (End failed) none = absurd (false≢true (sym none))
own_step Quit none = refl
own_step (Done i) none = refl
own_step (Close i) none = refl
own_step (Break i) none = absurd (false≢true (sym none))
own_step (Take i l) none = absurd (false≢true (sym none))

-- the first step of each of two lists, and what comes in the others
record SameFirst (step other : Step) (steps others : List Step) : Type 0 where
  pub first : step ≡ other
  pub rest : brought_in steps ≡ brought_in others

brought_first : (step : Step) (steps : List Step) (b : Bool) → is_brought step ≡ b → brought_in (step ∷ steps) ≡ cond b (step ∷ brought_in steps) (brought_in steps)
brought_first step steps b is = ap (λ (x : Bool). cond x (step ∷ brought_in steps) (brought_in steps)) is

abbrev first_of : Step → List Step → Step
first_of d [] = d
first_of d (step ∷ steps) = step

abbrev rest_of : List Step → List Step
rest_of [] = []
rest_of (step ∷ steps) = steps

same_first : (step other : Step) (steps others : List Step) → own_event step ≡ own_event other → brought_in (step ∷ steps) ≡ brought_in (other ∷ others) → SameFirst step other steps others
same_first step other steps others same brought =
    let alike : is_brought other ≡ is_brought step = comes other ∙ ap comes_in (sym same) ∙ sym (comes step) in
    elim (cases_Bool (is_brought step)) [
      | inl brings ↦
          let both : step ∷ brought_in steps ≡ other ∷ brought_in others = sym (brought_first step steps true brings) ∙ brought ∙ brought_first other others true (alike ∙ brings) in
          record { first = ap (first_of step) both; rest = ap rest_of both }
      | inr alone ↦
          record {
            first = same_Some step other (sym (own_step step alone) ∙ ap (option_map step_of) same ∙ own_step other (alike ∙ alone));
            rest = sym (brought_first step steps false alone) ∙ brought ∙ brought_first other others false (alike ∙ alone);
          }
    ]

-- the turn of an eager site: each step is the first event that needs no letter, or takes one if there is no such event
eager_turn : (next : Option EventKind) (step : Step) → IsInTurn Eager next step → next ≡ own_event step
eager_turn next (Give i) turn = turn
eager_turn next (Ask i) turn = turn
eager_turn next Hungry turn = turn
eager_turn next Begin turn = turn
eager_turn next (End failed) turn = turn
eager_turn next Quit turn = turn
eager_turn next (Done i) turn = turn
eager_turn next (Close i) turn = turn
eager_turn next (Break i) turn = turn
eager_turn next (Take i l) turn = turn

fixed : (plan : SeenPlan) (s : ℕ) (steps others : List Step) (state : LocalState) → AreInTurn Eager plan s state steps → AreInTurn Eager plan s state others → length steps ≡ length others → brought_in steps ≡ brought_in others → steps ≡ others
fixed plan s [] [] state turns other_turns long brought = refl
fixed plan s [] (other ∷ others) state turns other_turns long brought = absurd (omega (arith, long))
fixed plan s (step ∷ steps) [] state turns other_turns long brought = absurd (omega (arith, long))
fixed plan s (step ∷ steps) (other ∷ others) state turns other_turns long brought =
    let same = same_first step other steps others (sym (eager_turn _ step turns.0) ∙ eager_turn _ other other_turns.0) brought in
    let there : AreInTurn Eager plan s (after plan s state step) others = subst (λ (x : Step). AreInTurn Eager plan s (after plan s state x) others) (sym same.first) other_turns.1 in
    let rest = fixed plan s steps others (after plan s state step) turns.1 there (omega (arith, long)) same.rest in
    ap (λ (x : Step). x ∷ steps) same.first ∙ ap (λ (xs : List Step). other ∷ xs) rest

pub returns : goal.returns
returns c = record { fixed = λ plan s state steps others turns other_turns long brought. fixed plan s steps others state turns other_turns long brought }
