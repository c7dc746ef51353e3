-- What the step of an event does, by the shape of the event.
use Rattle.std.proofs.Common.{◌≡◌, ℕ, List, Option, Some, None, refl, sym, ◌∙◌, ap, subst, option_map}
use Rattle.std.proofs.lemmas.Bool.{and_parts, false≢true, ltb-true, not-true}
use Rattle.std.proofs.lemmas.Option.{same_Some}
use Rattle.std.specs.Prelude.{Bool, true, false}
use Rattle.dine_graph.specs.Plan.{SeenPlan}
use Rattle.dine_rules.specs.declared.events.EventKind.{EventKind}
use Rattle.dine_rules.specs.declared.events.EventKind.TheVariants as event
use Rattle.dine_rules.specs.declared.letters.Letter.{Letter}
use Rattle.dine_rules.specs.declared.letters.Letter.TheVariants as letter
use Rattle.dine_rules.specs.Holdings.{EatsWithAll}
use Rattle.dine_rules.specs.Local.{LocalState, edge_at, is_eating, is_hungry, is_thinking}
use Rattle.dine_rules.specs.declared.events.Shape.{Shape}
use Rattle.dine_rules.specs.declared.events.Shape.TheVariants.{Takes, Puts, Alone}
use Rattle.dine_rules.specs.Steps.{Step, Give, Ask, Hungry, Begin, End, Quit, Done, Close, Break, Take, after, may, shape_of, step_by, with_put}
use Rattle.dine_site.specs.Core.{SeenCore}
use Rattle.dine_site.specs.NextEvent.{can_by_itself}
use Rattle.dine_world.specs.WorldSites.{can_do, meal_of}
use Rattle.dine_rules.proofs.shared.links.WorldStreams.{option_map_parts}
use Rattle.dine_world.proofs.shared.all_sites.OpenedSites.{meal-awake, meal-put, meal-taken}

abbrev puts_letter : Shape → Bool
puts_letter (Takes i) = false
puts_letter (Puts i) = true
puts_letter Alone = false

-- the step of an event is the same by other next letters, but for the one that it takes
pub step_alike : (failed : Bool) (kind : EventKind) (next other : ℕ → Option Letter) → ((i : ℕ) → shape_of kind ≡ Takes i → next i ≡ other i) → step_by failed next kind ≡ step_by failed other kind
step_alike failed (event.Take i) next other same = ap (option_map (Take i)) (same i refl)
step_alike failed (event.Give i) next other same = refl
step_alike failed event.End next other same = refl
step_alike failed event.Begin next other same = refl
step_alike failed event.Quit next other same = refl
step_alike failed event.Hungry next other same = refl
step_alike failed (event.Ask i) next other same = refl
step_alike failed (event.Done i) next other same = refl
step_alike failed (event.Close i) next other same = refl

-- no shape takes and puts
pub puts_not_takes : (shape : Shape) (i j : ℕ) → shape ≡ Puts i → shape ≡ Takes j → ⊥
puts_not_takes shape i j puts takes = false≢true (ap puts_letter (sym takes ∙ puts))

-- an event that takes is a Take
pub take_is : (kind : EventKind) (i : ℕ) → shape_of kind ≡ Takes i → kind ≡ event.Take i
take_is (event.Take j) i is = (let same : j ≡ i = cc in ap event.Take same)
take_is (event.Give j) i is = absurd cc
take_is event.End i is = absurd cc
take_is event.Begin i is = absurd cc
take_is event.Quit i is = absurd cc
take_is event.Hungry i is = absurd cc
take_is (event.Ask j) i is = absurd cc
take_is (event.Done j) i is = absurd cc
take_is (event.Close j) i is = absurd cc

-- an event that a site can do, and that takes no letter, it can do by itself
pub own_can : (links : List (List Letter)) (core : SeenCore) (kind : EventKind) → ((i : ℕ) → shape_of kind ≡ Takes i → ⊥) → can_do links core kind ≡ true → can_by_itself core kind ≡ true
own_can links core (event.Take i) other can = absurd (other i refl)
own_can links core (event.Give i) other can = can
own_can links core event.End other can = can
own_can links core event.Begin other can = can
own_can links core event.Quit other can = can
own_can links core event.Hungry other can = can
own_can links core (event.Ask i) other can = can
own_can links core (event.Done i) other can = can
own_can links core (event.Close i) other can = can

-- and the other way round
pub can_is_own : (links : List (List Letter)) (core : SeenCore) (kind : EventKind) → ((i : ℕ) → kind ≡ event.Take i → ⊥) → can_by_itself core kind ≡ can_do links core kind
can_is_own links core (event.Take i) other = absurd (other i refl)
can_is_own links core (event.Give i) other = refl
can_is_own links core event.End other = refl
can_is_own links core event.Begin other = refl
can_is_own links core event.Quit other = refl
can_is_own links core event.Hungry other = refl
can_is_own links core (event.Ask i) other = refl
can_is_own links core (event.Done i) other = refl
can_is_own links core (event.Close i) other = refl

module _ (plan : SeenPlan) (s : ℕ) (state : LocalState) where
  -- a step that takes takes the next letter, one that puts puts some letter, and all others leave the letters
  abbrev pub Does : (ℕ → Option Letter) → Shape → Step → Type 0
  Does next (Takes i) one = (l : Letter) × (next i ≡ Some l) × (Take i l ≡ one)
  Does next (Puts i) one = (l : Letter) × (after plan s state one ≡ with_put i l state)
  Does next Alone one = (after plan s state one).traffic ≡ state.traffic

  plain : (next : ℕ → Option Letter) (shape : Shape) (first one : Step) → ◌≡◌ {A = Option Step} (Some first) (Some one) → Does next shape first → Does next shape one
  plain next shape first one is = subst (Does next shape) (same_Some first one is)

  pub does : (failed : Bool) (next : ℕ → Option Letter) (kind : EventKind) (one : Step) → step_by failed next kind ≡ Some one → Does next (shape_of kind) one
  does failed next (event.Take i) one is = option_map_parts (Take i) (next i) one is
  does failed next (event.Give i) one is = plain next (Puts i) (Give i) one is (_, refl)
  does failed next event.End one is = plain next Alone (End failed) one is refl
  does failed next event.Begin one is = plain next Alone Begin one is refl
  does failed next event.Quit one is = plain next Alone Quit one is refl
  does failed next event.Hungry one is = plain next Alone Hungry one is refl
  does failed next (event.Ask i) one is = plain next (Puts i) (Ask i) one is (_, refl)
  does failed next (event.Done i) one is = plain next (Puts i) (Done i) one is (_, refl)
  does failed next (event.Close i) one is = plain next (Puts i) (Close i) one is (_, refl)

  -- a step that puts a letter leaves the meal
  pub meal-after : (one : Step) (i : ℕ) (l : Letter) → EatsWithAll plan s state → after plan s state one ≡ with_put i l state → may plan s state one ≡ true → meal_of plan s (after plan s state one) ≡ meal_of plan s state
  meal-after (Give j) i l eats is needs =
      let parts = and_parts _ _ needs in
      meal-awake plan s state j (ltb-true _ _ parts.0) l (not-true _ (and_parts _ _ (and_parts _ _ parts.1).0).0) _ _
  meal-after (Ask j) i l eats is needs = meal-put plan s state j (ltb-true _ _ (and_parts _ _ needs).0) (letter.Request (edge_at plan s j)) refl
  meal-after Hungry i l eats is needs = absurd (false≢true (ap (λ (x : LocalState). is_thinking x.phase) is ∙ (and_parts _ _ (and_parts _ _ needs).0).0))
  meal-after Begin i l eats is needs = absurd (false≢true (ap (λ (x : LocalState). is_hungry x.phase) is ∙ (and_parts _ _ needs).0))
  meal-after Quit i l eats is needs = absurd (false≢true (ap (λ (x : LocalState). x.must_quit) is ∙ (and_parts _ _ needs).1))
  meal-after (End failed) i l eats is needs = absurd (false≢true (ap (λ (x : LocalState). is_eating x.phase) is ∙ needs))
  meal-after (Done j) i l eats is needs = meal-put plan s state j (ltb-true _ _ (and_parts _ _ needs).0) letter.Done refl
  meal-after (Close j) i l eats is needs = meal-put plan s state j (ltb-true _ _ (and_parts _ _ needs).0) letter.Close refl
  meal-after (Break j) i l eats is needs = meal-put plan s state j (ltb-true _ _ (and_parts _ _ needs).0) letter.Close refl
  meal-after (Take j m) i l eats is needs = meal-taken plan s state j m eats needs
