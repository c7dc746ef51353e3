use Rattle.std.proofs.Common.{◌≡◌, ℕ, ◌<◌, not, true, List, Option, Some, None, is_some, [], length, drop, get_or, set, inl, inr, refl, sym, ◌∙◌, ap, subst}
use Rattle.std.specs.List.{slice_get}
use Rattle.std.specs.Option.{MatchOption, option_and_then}
use Rattle.std.proofs.lemmas.Bool.{false≢true}
use Rattle.std.proofs.lemmas.Option.{get_or_from_slice_get, slice_get-get_or, slice_get_cases}
use Rattle.dine_rules.specs.declared.breach.Breach.{Breach}
use Rattle.dine_rules.specs.declared.letters.Letter.{Letter}
use Rattle.dine_rules.specs.Steps.{Take}
use Rattle.dine_site.specs.Core.{SeenCore}
use Rattle.dine_site.specs.LinkNumbers.{link_to}
use Rattle.dine_site.specs.Places.{place_at, after_take}
use Rattle.dine_site.specs.Standing.{CoreSteps}
use Rattle.dine_world.specs.WorldSites.{next_in}
use Rattle.dine_world.specs.private.StepsOfSites.{meets_no_breach}
use Rattle.dine_world.proofs.world.acts.take.Goals as goal

-- the link is there
link_within : (links : List (List Letter)) (core : SeenCore) (i n : ℕ) → n ≡ link_to core.site (place_at core i) → meets_no_breach core i (next_in links core i) ≡ true → n < length links
link_within links core i n is allowed =
    let read : Option (List Letter) → Option Letter = option_and_then (λ (letters : List Letter). slice_get letters 0) in
    elim (slice_get_cases links n).1 [
      | inl w ↦ w.1
      | inr w ↦ absurd (false≢true (sym (ap (λ (found : Option (List Letter)). meets_no_breach core i (read found)) w.1) ∙ ap (λ (m : ℕ). meets_no_breach core i (read (slice_get links m))) is ∙ allowed))
    ]

-- its first letter is the next
next_is : (links : List (List Letter)) (core : SeenCore) (i n : ℕ) (d : List Letter) (letter : Letter) → n ≡ link_to core.site (place_at core i) → n < length links
    → slice_get (get_or links n d) 0 ≡ Some letter → next_in links core i ≡ Some letter
next_is links core i n d letter is within first =
    let read : Option (List Letter) → Option Letter = option_and_then (λ (letters : List Letter). slice_get letters 0) in
    ap (λ (m : ℕ). read (slice_get links m)) (sym is) ∙ ap read (slice_get-get_or links n d within) ∙ first

no_breach : (breach : Option Breach) → not (is_some breach) ≡ true → breach ≡ None
no_breach None none = refl
no_breach (Some breach) none = absurd (false≢true none)

pub bounds-links-link : goal.bounds-links-link
bounds-links-link c = link_within c.args.links.now c.args.world_site.now.core c.args.i c.link_to-link.result c.link_to-link.ensures c.requires.allowed

pub take_in_turn-requires-clause-in_turn : goal.take_in_turn-requires-clause-in_turn
take_in_turn-requires-clause-in_turn c =
    let links : List (List Letter) = c.args.links.now in
    let core : SeenCore = c.args.world_site.now.core in
    let within = link_within links core c.args.i c.link_to-link.result c.link_to-link.ensures c.requires.allowed in
    let next = next_is links core c.args.i c.link_to-link.result c.index-links-link.result c.unwrap-letter.result c.link_to-link.ensures within (sym c.take.ensures.letter ∙ c.unwrap-letter.ensures) in
    no_breach _ (subst (λ (letter : Option Letter). meets_no_breach core c.args.i letter ≡ true) next c.requires.allowed)

pub returns-clause-links : goal.returns-clause-links
returns-clause-links c =
    let links : List (List Letter) = c.args.links.now in
    let n = c.link_to-link.result in
    let d : List Letter = c.index-links-link.result in
    let within = link_within links c.args.world_site.now.core c.args.i n c.link_to-link.ensures c.requires.allowed in
    let same : get_or links n [] ≡ get_or links n d = get_or_from_slice_get links n (get_or links n d) [] (slice_get-get_or links n d within) in
    ap (set links n) (c.take.ensures.rest ∙ ap (drop 1) (sym same)) ∙ ap (λ (m : ℕ). set links m (drop 1 (get_or links m []))) c.link_to-link.ensures

pub returns-clause-core : goal.returns-clause-core
returns-clause-core c =
    let links : List (List Letter) = c.args.links.now in
    let core : SeenCore = c.args.world_site.now.core in
    let i = c.args.i in
    let new : SeenCore = c.take_in_turn.new.self in
    let within = link_within links core i c.link_to-link.result c.link_to-link.ensures c.requires.allowed in
    let next = next_is links core i c.link_to-link.result c.index-links-link.result c.unwrap-letter.result c.link_to-link.ensures within (sym c.take.ensures.letter ∙ c.unwrap-letter.ensures) in
    let Stepped : Letter → Type 0 = λ (letter : Letter). (new ≡ after_take i letter core) × CoreSteps (Take i letter) core new in
    subst (λ (letter : Option Letter). MatchOption letter ⊥ Stepped) (sym next) (c.take_in_turn.ensures.core, c.take_in_turn.ensures.step)
