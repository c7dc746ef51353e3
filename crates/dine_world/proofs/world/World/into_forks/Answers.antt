use Rattle.std.proofs.Common.{◌≡◌, map, List, length, sym, ◌∙◌, ap, subst, arith}
use Rattle.dine_token.specs.Fork.{SeenFork}
use Rattle.dine_rules.specs.declared.letters.Letter.{Letter}
use Rattle.dine_world.specs.declared.world.sites.WorldSite.{WorldSite}
use Rattle.dine_world.specs.declared.world.EdgeEnds.{EdgeEnds}
use Rattle.dine_world.specs.private.Forks.{HasAllForks, AreForksOf, at_rest, meal_ended}
use Rattle.dine_world.specs.private.WorldFields.{seen_world}
use Rattle.dine_world.specs.Worlds.{IsWorldOf}
use Rattle.dine_world.proofs.all_sites.ForkPlaces.{meals_fit}
use Rattle.dine_world.proofs.all_sites.HandsOut.{all_ended}
use Rattle.dine_world.proofs.all_sites.MealsEnded.{meal_ended_has_all, meal_ended_forks}
use Rattle.dine_world.proofs.world.World.into_forks.Goals as goal

pub end_sites-requires-clause-own : goal.end_sites-requires-clause-own
end_sites-requires-clause-own c = meals_fit c.self.inside c.self.invariant

pub end_sites-requires-clause-none : goal.end_sites-requires-clause-none
end_sites-requires-clause-none c = c.self.invariant.no_hands

pub end_sites-requires-clause-capacity : goal.end_sites-requires-clause-capacity
end_sites-requires-clause-capacity c = c.self.invariant.room_for_hands

pub collect-requires-clause-all : goal.collect-requires-clause-all
collect-requires-clause-all c =
    let seen = seen_world c.self.inside in
    let sites : map at_rest c.as_mut_slice.result.now ≡ map meal_ended seen.sites = ap (map at_rest) (c.as_mut_slice.ensures.value ∙ c.end_sites.ensures) ∙ all_ended seen.sites in
    subst (λ (x : List WorldSite). HasAllForks x c.as_mut_slice-2.result.now c.as_slice.result.now) (sym sites)
    (subst (λ (x : List (List Letter)). HasAllForks (map meal_ended seen.sites) x c.as_slice.result.now) (sym c.as_mut_slice-2.ensures.value)
    (subst (λ (x : List EdgeEnds). HasAllForks (map meal_ended seen.sites) seen.links x) (sym c.as_slice.ensures.value)
    (meal_ended_has_all c.self.invariant.plan c.self.invariant.state seen c.self.invariant.stands)))

pub returns : goal.returns
returns c plan world is =
    let seen = seen_world c.self.inside in
    let forks : List SeenFork = c.collect.new.forks.items in
    let sites : map at_rest c.as_mut_slice.result.now ≡ map meal_ended seen.sites = ap (map at_rest) (c.as_mut_slice.ensures.value ∙ c.end_sites.ensures) ∙ all_ended seen.sites in
    let are : AreForksOf (map meal_ended seen.sites) seen.links seen.edges forks = subst (λ (x : List EdgeEnds). AreForksOf (map meal_ended seen.sites) seen.links x forks) c.as_slice.ensures.value
    (subst (λ (x : List (List Letter)). AreForksOf (map meal_ended seen.sites) x c.as_slice.result.now forks) c.as_mut_slice-2.ensures.value
    (subst (λ (x : List WorldSite). AreForksOf x c.as_mut_slice-2.result.now c.as_slice.result.now forks) sites c.collect.ensures)) in
    meal_ended_forks plan world seen (subst (IsWorldOf plan world) (sym c.self.view_is) is) forks are

pub collect-requires-clause-none : goal.collect-requires-clause-none
collect-requires-clause-none c = c.self.invariant.no_forks

pub collect-requires-clause-capacity : goal.collect-requires-clause-capacity
collect-requires-clause-capacity c = omega (arith, ap length c.as_slice.ensures.value, c.self.invariant.room)
