use Rattle.std.proofs.Common.{◌≡◌, ◌<◌, ◌++◌, ◌∷◌, [], List, length, map, take, set, get_or, sym, ◌∙◌, ap, subst, arith}
use Rattle.std.proofs.lemmas.List.{append-nil, at_drop_all, length-take-le, take_all}
use Rattle.std.proofs.lemmas.List.Edits.{map_over_more}
use Rattle.dine_token.specs.Fork.{SeenFork}
use Rattle.dine_site.specs.declared.site.places.Place.{Place}
use Rattle.dine_site.specs.Places.{place_in_meal, forks_of, OnHere}
use Rattle.dine_site.specs.private.PlaceSteps.{IsLiftable}
use Rattle.dine_site.proofs.shared.lists.Lists.{get_or-map_over, forks_of-few, forks_of-more, fork_is}
use Rattle.dine_site.proofs.site.meals.lift.Goals as goal

pub push_reserved-requires : goal.push_reserved-requires
push_reserved-requires c =
    let xs = c.args.places.now in
    let i = c.loop-place.place-index in
    let within : i < length xs = omega arith in
    omega (arith, within, ap length c.loop-place.invariant.1, forks_of-few (take i xs), length-take-le i xs (omega arith), c.loop-place.hands.ok.0, c.loop-place.invariant.2, c.requires.room)

pub loop-place-preserved : goal.loop-place-preserved
loop-place-preserved c =
    let xs = c.args.places.now in
    let ys = c.loop-place.places in
    let i = c.loop-place.place-index in
    let d = c.place-item.result in
    let f = place_in_meal c.args.site in
    let within : i < length xs = omega arith in
    let same = get_or-map_over f xs ys i d within c.loop-place.invariant.0 in
    let held = subst (λ (p : Place). OnHere (λ fork. c.lift.result ≡ fork) p.fork) same c.lift.ensures.held in
    let step = map_over_more f xs ys i d within c.loop-place.invariant.0 c.place-item.is in (
      ap (λ (place : Place). set ys i place) (c.lift.ensures.lifted ∙ ap f (sym c.place-item.is)) ∙ step,
      c.push_reserved.ensures.items ∙ ap (λ (l : List SeenFork). l ++ c.lift.result ∷ []) c.loop-place.invariant.1
          ∙ ap (λ (l : List SeenFork). forks_of (take i xs) ++ l) (sym (fork_is (get_or xs i d).fork c.lift.result held)) ∙ sym (forks_of-more xs i d within),
      c.push_reserved.ensures.capacity ∙ c.loop-place.invariant.2,
    )

pub lift-requires : goal.lift-requires
lift-requires c =
    let xs = c.args.places.now in
    let i = c.loop-place.place-index in
    let d = c.place-item.result in
    let within = c.loop-place-test.true in
    subst (IsLiftable c.args.site) (sym (get_or-map_over (place_in_meal c.args.site) xs c.loop-place.places i d within c.loop-place.invariant.0)) (c.requires.here i d within)

pub returns-clause-places : goal.returns-clause-places
returns-clause-places c =
    let xs = c.args.places.now in
    let i = c.loop-place.place-index in
    let done : List Place = map (place_in_meal c.args.site) (take i xs) in
    c.loop-place.invariant.0
    ∙ at_drop_all (λ (l : List Place). done ++ l) xs i c.loop-place-test.false ∙ append-nil done
    ∙ ap (map (place_in_meal c.args.site)) (take_all i xs c.loop-place-test.false)

pub returns-clause-hands : goal.returns-clause-hands
returns-clause-hands c = c.loop-place.invariant.1 ∙ ap forks_of (take_all c.loop-place.place-index c.args.places.now c.loop-place-test.false)
