use borrow.Author.Rules.{get_or_read}
use Rattle.std.proofs.Common.{◌≡◌, ℕ, ◌+◌, true, List, map, length, refl, sym, ◌∙◌, ap, subst, arith, rules}
use Rattle.std.specs.List.{All}
use Rattle.std.proofs.lemmas.Bool.{false≢true}
use Rattle.std.proofs.lemmas.List.{length-map}
use Rattle.dine_token.specs.Fork.{MayEat, after_meal}
use Rattle.dine_site.specs.declared.site.places.Place.{Place}
use Rattle.dine_site.specs.private.SiteFields.{seen_core, HasRoom}
use Rattle.dine_site.specs.Core.{SeenCore}
use Rattle.dine_rules.specs.Steps.{Begin}
use Rattle.dine_site.specs.Places.{can_begin, next_act, forks_of, place_in_meal, after_begin, IsMealOf, IsSound}
use Rattle.dine_site.proofs.one_site.CoreSteps.{stepped}
use Rattle.dine_site.proofs.shared.one_site.SiteTests.{may_begin}
use Rattle.dine_site.proofs.shared.one_site.Eating.{all_may_eat, forks_are_all, fork_at_place, is_meal, sound_begun, stands_begun, in_hand_begun}
use Rattle.dine_site.proofs.site.SiteCore.begin.Goals as goal

pub returns-clause-core : goal.returns-clause-core
returns-clause-core c =
    let begun_with : List Place → SeenCore = λ (places : List Place). record (after_begin (seen_core c.self.inside)) { places = places } in
    ap begun_with c.lift.ensures.places ∙ ap after_begin c.self.view_is

pub returns-clause-forks : goal.returns-clause-forks
returns-clause-forks c = search (rules, get_or_read)

pub begin-requires-clause-may_eat : goal.begin-requires-clause-may_eat
begin-requires-clause-may_eat c =
    let old = seen_core c.self.inside in
    let can : can_begin old ≡ true = subst (λ (core : SeenCore). can_begin core ≡ true) (sym c.self.view_is) c.requires in
    let is : c.lift.new.hands.items ≡ forks_of old.places = c.lift.ensures.hands in
    subst (All (MayEat old.site (old.ate + 1))) (sym is) (all_may_eat old c.self.invariant.sound can)

pub begin-requires-clause-countable : goal.begin-requires-clause-countable
begin-requires-clause-countable c =
    let old = seen_core c.self.inside in
    let can : can_begin old ≡ true = subst (λ (core : SeenCore). can_begin core ≡ true) (sym c.self.view_is) c.requires in
    let is : c.lift.new.hands.items ≡ forks_of old.places = c.lift.ensures.hands in
    let same : length c.lift.new.hands.items ≡ length old.places = ap length is ∙ ap length (forks_are_all old c.self.invariant.sound can) ∙ length-map old.places fork_at_place in
    omega (arith, same, c.self.invariant.room.few, c.lift.new.hands.ok.0)

pub invariant_of-self : goal.invariant_of-self
invariant_of-self c =
    let kept = c.self.invariant in
    let old = seen_core c.self.inside in
    let can : can_begin old ≡ true = subst (λ (core : SeenCore). can_begin core ≡ true) (sym c.self.view_is) c.requires in
    let is : c.lift.new.self ≡ map (place_in_meal old.site) old.places = c.lift.ensures.places in
    record {
      sound = subst (λ (l : List Place). IsSound (record (after_begin old) { places = l })) (sym is) (sound_begun old kept.sound can);
      no_hands = ap (λ v. v.items) c.replace-hands.ensures.after ∙ c.new.ensures.items;
      room_for_hands = λ h. absurd (false≢true (sym h));
      room = subst (λ (n : ℕ). HasRoom n c.self.inside.parts) (sym (ap length is ∙ length-map old.places (place_in_meal old.site))) kept.room;
    }

pub returns-clause-meal : goal.returns-clause-meal
returns-clause-meal c =
    let core = c.args.self.now in
    let sound : IsSound core = subst IsSound c.self.view_is c.self.invariant.sound in
    let site : c.begin.result.site ≡ core.site = c.begin.ensures.site ∙ ap (λ (now : SeenCore). now.site) c.self.view_is in
    let forks : c.begin.result.forks ≡ map (after_meal core.site (core.ate + 1) (next_act core)) (forks_of core.places) =
    returns-clause-forks c ∙ ap (λ (now : SeenCore). map (after_meal now.site (now.ate + 1) (next_act core)) (forks_of core.places)) c.self.view_is in
    let k : c.begin.result.k ≡ core.ate + 1 = c.begin.ensures.k ∙ ap (λ (now : SeenCore). now.ate + 1) c.self.view_is in
    subst (λ (new : SeenCore). IsMealOf new c.begin.result) (sym (returns-clause-core c)) (is_meal core sound c.requires c.begin.result site k forks)

pub returns-clause-step : goal.returns-clause-step
returns-clause-step c plan state keeps stands =
    let core = c.args.self.now in
    let sound : IsSound core = subst IsSound c.self.view_is c.self.invariant.sound in
    stepped plan state core stands keeps Begin _ _ (returns-clause-core c) refl tt (may_begin plan state core stands keeps c.requires) (stands_begun core sound c.requires plan state keeps stands)

pub returns-clause-in_hand : goal.returns-clause-in_hand
returns-clause-in_hand c plan state keeps stands =
    let core = c.args.self.now in
    let sound : IsSound core = subst IsSound c.self.view_is c.self.invariant.sound in
    let forks : c.begin.result.forks ≡ map (after_meal core.site (core.ate + 1) (next_act core)) (forks_of core.places) =
    returns-clause-forks c ∙ ap (λ (now : SeenCore). map (after_meal now.site (now.ate + 1) (next_act core)) (forks_of core.places)) c.self.view_is in
    forks ∙ in_hand_begun core sound c.requires plan state keeps stands
