-- The events that put a letter: each is the step that it names.
use Rattle.std.proofs.Common.{◌≡◌, ℕ, Bool, Some, None, sym, ◌∙◌, ap, subst}
use Rattle.std.proofs.lemmas.Option.{same_Some}
use Rattle.dine_rules.specs.declared.events.EventKind.{EventKind}
use Rattle.dine_rules.specs.declared.letters.Letter.{Letter}
use Rattle.dine_rules.specs.declared.events.Shape.{Shape}
use Rattle.dine_rules.specs.declared.events.Shape.TheVariants.{Takes, Puts, Alone}
use Rattle.dine_rules.specs.Steps.{Step, shape_of, step_by}
use Rattle.dine_site.specs.Core.{SeenCore}
use Rattle.dine_site.specs.Standing.{CorePuts}

-- the place of a shape that puts
abbrev place_put : Shape → ℕ
place_put (Takes i) = 0
place_put (Puts i) = i
place_put Alone = 0

-- the step of an event is the one that was done
pub puts_as : (kind given : EventKind) (i : ℕ) (first : Step) (old new : SeenCore) (l : Letter) → kind ≡ given → shape_of given ≡ Puts i → ((failed : Bool) → step_by failed (λ place. None) given ≡ Some first) → CorePuts i first old new l
    → (failed : Bool) (j : ℕ) (one : Step) → shape_of kind ≡ Puts j → step_by failed (λ place. None) kind ≡ Some one → CorePuts j one old new l
puts_as kind given i first old new l is shape step did failed j one shape_is step_is =
    let place : i ≡ j = ap place_put (sym shape ∙ ap shape_of (sym is) ∙ shape_is) in
    let same : first ≡ one = same_Some _ _ (sym (step failed) ∙ ap (step_by failed (λ place. None)) (sym is) ∙ step_is) in
    subst (λ (k : ℕ). CorePuts k one old new l) place (subst (λ (x : Step). CorePuts i x old new l) same did)
