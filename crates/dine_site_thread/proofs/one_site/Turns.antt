-- What a site did: it grows by each event, done in its turn.
use Rattle.std.proofs.Common.{◌≡◌, ℕ, Bool, true, false, not, cond, List, [], ◌∷◌, ◌++◌, map, Option, Some, refl, sym, ◌∙◌, ap, ap₂, subst, inl}
use Rattle.std.specs.List.{find}
use Rattle.std.proofs.lemmas.Bool.{and_left, and_right}
use Rattle.std.specs.Option.{option_or}
use Rattle.std.proofs.lemmas.List.{map_push}
use Rattle.std.proofs.lemmas.List.Folds.{find-append}
use Rattle.dine_graph.specs.Plan.{SeenPlan}
use Rattle.dine_rules.specs.declared.events.EventKind.{EventKind}
use Rattle.dine_rules.specs.declared.events.EventKind.TheVariants as event
use Rattle.dine_rules.specs.declared.letters.Letter.{Letter}
use Rattle.dine_rules.specs.Journals.{IsJournal}
use Rattle.dine_rules.specs.Local.{LocalState, is_eating, start_of}
use Rattle.dine_rules.specs.StepLists.{LeadTo}
use Rattle.dine_rules.specs.Steps.{Step, Give, Ask, Hungry, Begin, End, Quit, Done, Close, Break, Take, may, after, step_by}
use Rattle.dine_rules.specs.World.{placeless_kinds}
use Rattle.dine_site.specs.NextEvent.{may_by_itself, next_event}
use Rattle.dine_site.specs.Standing.{all_places}
use Rattle.dine_site_thread.specs.declared.manner.Manner.{Manner}
use Rattle.dine_site_thread.specs.declared.manner.Manner.TheVariants.{Eager, Greedy, Patient, OnCall}
use Rattle.dine_site_thread.specs.Doings.{AreInTurn, HasActed, IsInTurn, event_of, own_event}

-- what a law says: a journal grows by each event that its site may do
abbrev pub JournalsGrow : Type 0
JournalsGrow = (plan : SeenPlan) (s : ℕ) (journal : List EventKind) (state : LocalState) (kind : EventKind) (failed : Bool) (next : ℕ → Option Letter) (step : Step) → IsJournal plan s journal state
    → step_by failed next kind ≡ Some step → may plan s state step ≡ true → IsJournal plan s (journal ++ kind ∷ []) (after plan s state step)

-- one step more
pub led_more : (plan : SeenPlan) (s : ℕ) (steps : List Step) (start state : LocalState) (step : Step) → LeadTo plan s start steps state → may plan s state step ≡ true
    → LeadTo plan s start (steps ++ step ∷ []) (after plan s state step)
led_more plan s [] start state step same needs = (ap (λ (x : LocalState). may plan s x step) same ∙ needs, ap (λ (x : LocalState). after plan s x step) same)
led_more plan s (first ∷ steps) start state step led needs = (led.0, led_more plan s steps (after plan s start first) state step led.1 needs)

turns_more : (manner : Manner) (plan : SeenPlan) (s : ℕ) (steps : List Step) (start state : LocalState) (step : Step) → LeadTo plan s start steps state → AreInTurn manner plan s start steps → IsInTurn manner (next_event plan s state) step
    → AreInTurn manner plan s start (steps ++ step ∷ [])
turns_more manner plan s [] start state step same turns turn = (subst (λ (x : LocalState). IsInTurn manner (next_event plan s x) step) (sym same) turn, tt)
turns_more manner plan s (first ∷ steps) start state step led turns turn = (turns.0, turns_more manner plan s steps (after plan s start first) state step led.1 turns.1 turn)

-- one event more
pub acted_more : JournalsGrow → (manner : Manner) (plan : SeenPlan) (s : ℕ) (journal : List EventKind) (state : LocalState) (kind : EventKind) (failed : Bool) (next : ℕ → Option Letter) (step : Step) → HasActed manner plan s journal state
    → step_by failed next kind ≡ Some step → event_of step ≡ Some kind → may plan s state step ≡ true → IsInTurn manner (next_event plan s state) step → HasActed manner plan s (journal ++ kind ∷ []) (after plan s state step)
acted_more grows manner plan s journal state kind failed next step acted is_step is_event needs turn = record {
  by_journal = grows plan s journal state kind failed next step acted.by_journal is_step needs;
  steps = acted.steps ++ step ∷ [];
  events = map_push event_of acted.steps step ∙ ap₂ (λ (before : List (Option EventKind)) (last : Option EventKind). before ++ last ∷ []) acted.events is_event ∙ sym (map_push Some journal kind);
  led = led_more plan s acted.steps (start_of plan s) state step acted.led needs;
  in_turn = turns_more manner plan s acted.steps (start_of plan s) state step acted.led acted.in_turn turn;
}

-- a step comes in its turn if it is the first event that needs no letter, and a Take if there is no such event
pub own_turn : (manner : Manner) (next : Option EventKind) (step : Step) → next ≡ own_event step → IsInTurn manner next step
own_turn manner next (Give i) is = is
own_turn manner next (Ask i) is = is
own_turn manner next Hungry is = is
own_turn manner next Begin is = is
own_turn manner next (End failed) is = is
own_turn manner next Quit is = is
own_turn manner next (Done i) is = is
own_turn manner next (Close i) is = is
own_turn manner next (Break i) is = is
own_turn Eager next (Take i l) is = is
own_turn Greedy next (Take i l) is = inl is
own_turn (Patient k) next (Take i l) is = inl is
own_turn (OnCall k) next (Take i l) is = inl is

-- none yet
pub acted_nothing : (manner : Manner) (plan : SeenPlan) (s : ℕ) (journal : List EventKind) → journal ≡ [] → HasActed manner plan s journal (start_of plan s)
acted_nothing manner plan s journal none = record {
  by_journal = subst (λ (kinds : List EventKind). IsJournal plan s kinds (start_of plan s)) (sym none) refl;
  steps = [];
  events = sym (ap (map Some) none);
  led = refl;
  in_turn = tt;
}

-- ---- a meal ends at once

past_gives : (test : EventKind → Bool) → ((i : ℕ) → test (event.Give i) ≡ false) → (places : List ℕ) (kinds : List EventKind) → find test (map event.Give places ++ kinds) ≡ find test kinds
past_gives test fails [] kinds = refl
past_gives test fails (i ∷ places) kinds = ap (λ (b : Bool). cond b (Some (event.Give i)) (find test (map event.Give places ++ kinds))) (fails i) ∙ past_gives test fails places kinds

found_first : (test : EventKind → Bool) (kind : EventKind) (kinds : List EventKind) → test kind ≡ true → find test (kind ∷ kinds) ≡ Some kind
found_first test kind kinds passes = ap (λ (b : Bool). cond b (Some kind) (find test kinds)) passes

found_before : (test : EventKind → Bool) (kinds others : List EventKind) (kind : EventKind) → find test kinds ≡ Some kind → find test (kinds ++ others) ≡ Some kind
found_before test kinds others kind found = find-append test kinds others ∙ ap (λ (o : Option EventKind). option_or o (find test others)) found

pub end_is_next : (plan : SeenPlan) (s : ℕ) (state : LocalState) → is_eating state.phase ≡ true → next_event plan s state ≡ Some event.End
end_is_next plan s state eating =
    let test : EventKind → Bool = may_by_itself plan s state in
    let places = all_places state in
    let gives = map event.Give places in
    let asks = map event.Ask places in
    let dones = map event.Done places in
    let first : find test (gives ++ placeless_kinds) ≡ Some event.End =
    past_gives test (λ i. and_right _ _ (and_left _ _ (and_left _ _ (ap not eating)))) places placeless_kinds ∙ found_first test event.End (event.Begin ∷ event.Quit ∷ event.Hungry ∷ []) eating in
    found_before test (gives ++ placeless_kinds ++ asks ++ dones) (map event.Close places) event.End
    (found_before test (gives ++ placeless_kinds ++ asks) dones event.End (found_before test (gives ++ placeless_kinds) asks event.End first))
