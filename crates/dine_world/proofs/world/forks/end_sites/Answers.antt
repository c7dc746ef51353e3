use Rattle.std.proofs.Common.{◌≡◌, ◌+◌, ◌∷◌, ◌++◌, [], List, length, map, reverse, refl, sym, ◌∙◌, ap, arith}
use Rattle.std.proofs.lemmas.Grind.{common_steps}
use Rattle.std.proofs.lemmas.List.{length-append, length-map, length-reverse, append-nil, nil_from_length}
use Rattle.dine_world.specs.declared.world.sites.WorldSite.{WorldSite}
use Rattle.dine_site.specs.Core.{SeenCore}
use Rattle.dine_world.specs.private.Forks.{core_ended}
use Rattle.dine_world.specs.private.StepsOfSites.{HasOwnMeal}
use Rattle.dine_world.proofs.all_sites.HandsOut.{last_ended}
use Rattle.dine_world.proofs.all_sites.WorldOpened.{front_all, last_all}
use Rattle.dine_world.proofs.world.forks.end_sites.Goals as goal

pub end_site-requires : goal.end_site-requires
end_site-requires c = last_all HasOwnMeal c.loop-hands.sites.items c.take_last.new.self.items c.take_last.result c.take_last.ensures.items c.loop-hands.invariant.1

pub loop-hands-init : goal.loop-hands-init
loop-hands-init c =
    let cores : List SeenCore = map core_ended c.args.sites.items in
    (ap (λ (xs : List SeenCore). cores ++ reverse xs) c.requires.none ∙ append-nil cores, c.requires.own, refl)

pub loop-hands-preserved : goal.loop-hands-preserved
loop-hands-preserved c =
    let sites = c.loop-hands.sites.items in
    let front = c.take_last.new.self.items in
    let last = c.take_last.result in
    let hands = c.loop-hands.hands.items in
    let is = c.take_last.ensures.items in
    let pushed : c.push_reserved.new.self.items ≡ hands ++ core_ended last ∷ [] = c.push_reserved.ensures.items ∙ ap (λ (core : SeenCore). hands ++ core ∷ []) c.end_site.ensures in (
      ap (λ (xs : List SeenCore). map core_ended front ++ reverse xs) pushed ∙ last_ended sites front last hands is ∙ c.loop-hands.invariant.0,
      front_all HasOwnMeal sites front last is c.loop-hands.invariant.1,
      c.push_reserved.ensures.capacity ∙ c.loop-hands.invariant.2,
    )

pub loop-hands-smaller : goal.loop-hands-smaller
loop-hands-smaller c = omega (arith, ap length c.take_last.ensures.items, length-append c.take_last.new.self.items (c.take_last.result ∷ []))

pub push_reserved-requires : goal.push_reserved-requires
push_reserved-requires c =
    let sites = c.loop-hands.sites.items in
    let front = c.take_last.new.self.items in
    let hands = c.loop-hands.hands.items in
    let all : length sites + length hands ≡ length c.args.sites.items = omega (arith, ap length c.loop-hands.invariant.0, length-append (map core_ended sites) (reverse hands), length-map sites core_ended, length-reverse hands, length-map c.args.sites.items core_ended) in
    omega (arith, all, ap length c.take_last.ensures.items, length-append front (c.take_last.result ∷ []), c.requires.capacity, c.loop-hands.invariant.2)

pub returns : goal.returns
returns c =
    let none : c.loop-hands.sites.items ≡ [] = nil_from_length c.loop-hands.sites.items (grind (arith, common_steps)) in
    c.reverse.ensures.items ∙ ap (λ (xs : List WorldSite). map core_ended xs ++ reverse c.loop-hands.hands.items) (sym none) ∙ c.loop-hands.invariant.0
