use Rattle.std.proofs.Common.{◌≡◌, ◌∙◌, ℕ, Bool, true, List, length, vec_capacity, refl, sym, ap, subst, arith, ap₂}
use Rattle.std.proofs.lemmas.Grind.{common_steps}
use Rattle.dine_site.specs.declared.site.places.Place.{Place}
use Rattle.dine_rules.specs.Local.{is_eating}
use Rattle.dine_site.specs.private.SiteFields.{seen_core, HasRoom}
use Rattle.dine_site.specs.Core.{SeenCore}
use Rattle.dine_rules.specs.Steps.{End}
use Rattle.dine_site.specs.Places.{places_with_forks, drops_jobs, after_end, IsMealOf, IsSound}
use Rattle.dine_rules.specs.declared.phase.Phase.TheVariants.{Thinking}
use Rattle.dine_site.proofs.one_site.CoreSteps.{stepped}
use Rattle.dine_site.proofs.own_events.Marked.{length-places_with_forks}
use Rattle.dine_site.proofs.shared.one_site.SiteTests.{may_end}
use Rattle.dine_site.proofs.shared.one_site.Ending.{sound_ended, stands_ended}
use Rattle.dine_site.proofs.site.SiteCore.end.Goals as goal

pub returns-clause-core : goal.returns-clause-core
returns-clause-core c =
    let with_both : Bool → List Place → SeenCore = λ (must_quit : Bool) (places : List Place). record (seen_core c.self.inside) { phase = Thinking; must_quit = must_quit; places = places } in
    ap₂ with_both (c.drops_jobs-must_quit.ensures ∙ ap (drops_jobs c.args.failed) (sym c.self.view_is)) (c.put_back.ensures.places ∙ ap (places_with_forks c.self.inside.places) c.end-hands.ensures.forks)
    ∙ ap (after_end c.args.failed c.args.meal.forks) c.self.view_is

pub returns-clause-step : goal.returns-clause-step
returns-clause-step c plan state keeps stands forks =
    let core = c.args.self.now in
    let sound : IsSound core = subst IsSound c.self.view_is c.self.invariant.sound in
    stepped plan state core stands keeps (End c.args.failed) _ _ (returns-clause-core c) refl tt (may_end plan state core stands keeps c.args.failed c.requires.eating)
    (stands_ended core c.args.meal sound c.requires.eating c.requires.meal c.args.failed plan state stands forks)

pub invariant_of-self : goal.invariant_of-self
invariant_of-self c =
    let kept = c.self.invariant in
    let old = seen_core c.self.inside in
    let eating : is_eating old.phase ≡ true = subst (λ (core : SeenCore). is_eating core.phase ≡ true) (sym c.self.view_is) c.requires.eating in
    let is : IsMealOf old c.args.meal = subst (λ (core : SeenCore). IsMealOf core c.args.meal) (sym c.self.view_is) c.requires.meal in
    let laid : c.put_back.new.self ≡ places_with_forks old.places c.args.meal.forks = grind (arith, common_steps) in
    let drops : c.drops_jobs-must_quit.result ≡ drops_jobs c.args.failed old = c.drops_jobs-must_quit.ensures ∙ ap (drops_jobs c.args.failed) (sym c.self.view_is) in
    let same : length c.put_back.new.self ≡ length old.places = ap length laid ∙ length-places_with_forks old.places c.args.meal.forks in
    record {
      sound = subst (λ (b : Bool). IsSound (record (after_end c.args.failed c.args.meal.forks old) { must_quit = b; places = c.put_back.new.self })) (sym drops)
          (subst (λ (l : List Place). IsSound (record (after_end c.args.failed c.args.meal.forks old) { places = l })) (sym laid) (sound_ended old c.args.meal kept.sound eating is c.args.failed));
      no_hands = grind (arith, common_steps);
      room_for_hands = λ awake.
          omega (arith, same, c.put_back.ensures.room, ap vec_capacity c.replace.ensures.after, ap length c.end-hands.ensures.forks, is.count, c.end-hands.result.ok.0, c.end-hands.result.ok.1);
      room = subst (λ (n : ℕ). HasRoom n c.self.inside.parts) (sym same) kept.room;
    }
