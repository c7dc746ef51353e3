-- The log of a thread goes on turn by turn.
use Rattle.std.proofs.Common.{◌≡◌, ℕ, Bool, true, List, [], ◌∷◌, ◌++◌, map, Option, Some, None, refl, sym, ◌∙◌, ap, ap₂, subst}
use Rattle.std.proofs.lemmas.List.{append_assoc, append-nil, map-append}
use Rattle.dine_graph.specs.Plan.{SeenPlan}
use Rattle.dine_rules.specs.declared.events.EventKind.{EventKind}
use Rattle.dine_rules.specs.declared.events.EventKind.TheVariants as event
use Rattle.dine_rules.specs.declared.letters.LetterKind.TheVariants as kind
use Rattle.dine_rules.specs.declared.letters.Letter.{Letter}
use Rattle.dine_rules.specs.declared.letters.Letter.TheVariants as letter
use Rattle.dine_rules.specs.Letters.{kind_of}
use Rattle.dine_token.specs.Fork.{SeenFork}
use Rattle.dine_rules.specs.Local.{LocalState, start_of}
use Rattle.dine_rules.specs.StepLists.{LeadTo}
use Rattle.dine_rules.specs.Steps.{Step, Begin, End, may, after}
use Rattle.dine_site.specs.Places.{OnHere}
use Rattle.dine_site.specs.declared.site.places.ForkSlot.{ForkSlot}
use Rattle.dine_site.specs.declared.site.places.ForkSlot.TheVariants.{Away, Here, InMeal}
use Rattle.dine_link.specs.declared.deed.Deed.{Deed}
use Rattle.dine_link.specs.declared.deed.Deed.TheVariants.{Did}
use Rattle.dine_link.specs.declared.wants.Wants.{Wants}
use Rattle.dine_site_thread.specs.declared.manner.Manner.{Manner}
use Rattle.dine_site_thread.specs.Doings.{event_of}
use Rattle.dine_site_thread.specs.Threads.{AreTurns, HasWorked, IsTurn, MayHaveSlept, MaySleep, Memo, Turn, Eats, after_all, checking, deeds_in, deeds_of, memo_after, memo_after_all, no_memo, steps_in, steps_of}

steps_more : (turns : List Turn) (turn : Turn) → steps_in (turns ++ turn ∷ []) ≡ steps_in turns ++ steps_of turn
steps_more [] turn = append-nil (steps_of turn)
steps_more (first ∷ turns) turn = ap (λ (xs : List Step). steps_of first ++ xs) (steps_more turns turn) ∙ sym (append_assoc (steps_of first) (steps_in turns) (steps_of turn))

deeds_more : (manner : Manner) (memo : Memo) (turns : List Turn) (turn : Turn) → deeds_in manner memo (turns ++ turn ∷ []) ≡ deeds_in manner memo turns ++ deeds_of manner (memo_after_all manner memo turns) turn
deeds_more manner memo [] turn = append-nil (deeds_of manner memo turn)
deeds_more manner memo (first ∷ turns) turn =
    let next : Memo = memo_after manner memo first in
    ap (λ (ds : List Deed). deeds_of manner memo first ++ ds) (deeds_more manner next turns turn) ∙ sym (append_assoc (deeds_of manner memo first) (deeds_in manner next turns) (deeds_of manner (memo_after_all manner next turns) turn))

memo_more : (manner : Manner) (memo : Memo) (turns : List Turn) (turn : Turn) → memo_after_all manner memo (turns ++ turn ∷ []) ≡ memo_after manner (memo_after_all manner memo turns) turn
memo_more manner memo [] turn = refl
memo_more manner memo (first ∷ turns) turn = memo_more manner (memo_after manner memo first) turns turn

led_on : (plan : SeenPlan) (s : ℕ) (xs ys : List Step) (start mid end : LocalState) → LeadTo plan s start xs mid → LeadTo plan s mid ys end → LeadTo plan s start (xs ++ ys) end
led_on plan s [] ys start mid end same led = subst (λ (x : LocalState). LeadTo plan s x ys end) (sym same) led
led_on plan s (x ∷ xs) ys start mid end was led = (was.0, led_on plan s xs ys (after plan s start x) mid end was.1 led)

led_rest : (plan : SeenPlan) (s : ℕ) (xs ys : List Step) (start end : LocalState) → LeadTo plan s start (xs ++ ys) end → LeadTo plan s (after_all plan s start xs) ys end
led_rest plan s [] ys start end led = led
led_rest plan s (x ∷ xs) ys start end led = led_rest plan s xs ys (after plan s start x) end led.1

turns_more : (manner : Manner) (plan : SeenPlan) (s : ℕ) (turns : List Turn) (start state : LocalState) (memo : Memo) (turn : Turn) → LeadTo plan s start (steps_in turns) state → AreTurns manner plan s start memo turns
    → IsTurn manner plan s state (memo_after_all manner memo turns) turn → AreTurns manner plan s start memo (turns ++ turn ∷ [])
turns_more manner plan s [] start state memo turn same are is = (subst (λ (x : LocalState). IsTurn manner plan s x memo turn) (sym same) is, tt)
turns_more manner plan s (first ∷ turns) start state memo turn led are is =
    (are.0, turns_more manner plan s turns (after_all plan s start (steps_of first)) state (memo_after manner memo first) turn (led_rest plan s (steps_of first) (steps_in turns) start state led) are.1 is)

-- one turn more
pub worked_more : (manner : Manner) (plan : SeenPlan) {s t : ℕ} {journal journal_more : List EventKind} {state new : LocalState} {memo memo_new : Memo} {deeds deeds_after : List Deed} (turn : Turn) (kinds : List EventKind) → HasWorked manner plan s journal state memo deeds
    → IsTurn manner plan s state memo turn → LeadTo plan s state (steps_of turn) new → map event_of (steps_of turn) ≡ map Some kinds → t ≡ s → journal_more ≡ journal ++ kinds → memo_new ≡ memo_after manner memo turn → deeds_after ≡ deeds ++ deeds_of manner memo turn
    → HasWorked manner plan t journal_more new memo_new deeds_after
worked_more manner plan {s} {t} {journal} {journal_more} {state} {new} {memo} {memo_new} {deeds} {deeds_after} turn kinds worked is led same site noted left logged =
    let now : memo ≡ memo_after_all manner no_memo worked.turns = worked.left in
    subst (λ (n : ℕ). HasWorked manner plan n journal_more new memo_new deeds_after) (sym site)
    (record {
      turns = worked.turns ++ turn ∷ [];
      noted = logged ∙ ap₂ (λ (ds : List Deed) (m : Memo). ds ++ deeds_of manner m turn) worked.noted now ∙ sym (deeds_more manner no_memo worked.turns turn);
      left = left ∙ ap (λ (m : Memo). memo_after manner m turn) now ∙ sym (memo_more manner no_memo worked.turns turn);
      events = ap (map event_of) (steps_more worked.turns turn) ∙ map-append event_of (steps_in worked.turns) (steps_of turn) ∙ ap₂ (λ (xs ys : List (Option EventKind)). xs ++ ys) worked.events same
          ∙ sym (map-append Some journal kinds) ∙ ap (map Some) (sym noted);
      led = subst (λ (xs : List Step). LeadTo plan s (start_of plan s) xs new) (sym (steps_more worked.turns turn)) (led_on plan s (steps_in worked.turns) (steps_of turn) (start_of plan s) state new worked.led led);
      in_turn = turns_more manner plan s worked.turns (start_of plan s) state no_memo turn worked.led worked.in_turn (subst (λ (m : Memo). IsTurn manner plan s state m turn) now is);
    })

-- none yet
pub worked_nothing : (manner : Manner) (plan : SeenPlan) (s : ℕ) (journal : List EventKind) (deeds : List Deed) → journal ≡ [] → deeds ≡ [] → HasWorked manner plan s journal (start_of plan s) no_memo deeds
worked_nothing manner plan s journal deeds none nothing = record { turns = []; noted = nothing; left = refl; events = sym (ap (map Some) none); led = refl; in_turn = tt }

-- a fork that is given is in hand, and its letter is a Fork
pub fork_given : (slot : ForkSlot) (l : Letter) (given : SeenFork → SeenFork) → OnHere (λ fork. l ≡ letter.Fork (given fork)) slot → kind_of l ≡ kind.Fork
fork_given Away l given is = absurd is
fork_given (Here fork) l given is = ap kind_of is
fork_given (InMeal meals) l given is = absurd is

-- a thread that fell asleep did so with its wants
pub slept_well : (manner : Manner) (plan : SeenPlan) (s : ℕ) (state : LocalState) (memo : Memo) (wants : Wants) (slept : Option Wants) → ((own : Wants) → slept ≡ Some own → own ≡ wants) → MaySleep manner plan s state memo wants → MayHaveSlept manner plan s state memo slept
slept_well manner plan s state memo wants None these may_sleep = tt
slept_well manner plan s state memo wants (Some own) these may_sleep = subst (MaySleep manner plan s state memo) (sym (these own refl)) may_sleep

-- a meal: it ends with the site that it began with
pub meal_led : (plan : SeenPlan) (s t : ℕ) (state : LocalState) (failed : Bool) → t ≡ s → may plan s state Begin ≡ true → may plan t (after plan s state Begin) (End failed) ≡ true
    → LeadTo plan s state (Begin ∷ End failed ∷ []) (after plan t (after plan s state Begin) (End failed))
meal_led plan s t state failed same begins ends =
    (begins, (subst (λ (n : ℕ). may plan n (after plan s state Begin) (End failed) ≡ true) same ends, ap (λ (n : ℕ). after plan n (after plan s state Begin) (End failed)) (sym same)))

-- what the log has after a meal
pub meal_logged : (manner : Manner) (memo : Memo) (before old first second : List Deed) → old ≡ before ++ checking manner memo.tally → first ≡ old ++ Did event.Begin ∷ [] → second ≡ first ++ Did event.End ∷ [] → (failed : Bool) → second ≡ before ++ deeds_of manner memo (Eats failed)
meal_logged manner memo before old first second checked begun ended failed =
    let check : List Deed = checking manner memo.tally in
    ended ∙ ap (λ (ds : List Deed). ds ++ Did event.End ∷ []) (begun ∙ ap (λ (ds : List Deed). ds ++ Did event.Begin ∷ []) checked)
    ∙ append_assoc (before ++ check) (Did event.Begin ∷ []) (Did event.End ∷ []) ∙ append_assoc before check (Did event.Begin ∷ Did event.End ∷ [])
