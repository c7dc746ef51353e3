use mir.Syntax.{w64}
use mir.Val.{SFits}
use Rattle.std.proofs.Common.{rules, ◌≡◌, ℤ, Some, false, true, sym, ◌∙◌, ap, subst}
use Rattle.std.proofs.lemmas.Bool.{cond-false, cond-true}
use Rattle.std.proofs.lemmas.Int.{to_z-of_z}
use Rattle.dine_rules.specs.Local.{is_eating}
use Rattle.dine_site.specs.NextEvent.{next_event, next_of}
use Rattle.dine_site.specs.Places.{has_all_said}
use Rattle.dine_site.specs.Standing.{ForEachState}
use Rattle.dine_ffi.specs.Answers.{IsDoneOr, finished, waits}
use Rattle.dine_ffi.specs.OwnSites.{SeenOwnSite, TurnsOrRefuses}
use Rattle.dine_ffi.proofs.Turns.{both_stay, idle_turn, turned}
use Rattle.dine_ffi.proofs.own_site.OwnSite.turn.Goals as goal

pub returns-in-Some : goal.returns-in-Some
returns-in-Some c =
    let r = c.turn_to.result in
    let k = c.in-Some.kind in
    let old = c.args.self.now in
    let new = c.turn_to.new.self in
    let fits : SFits w64 r = search rules in
    let awake_inside : is_eating c.self.inside.core.phase ≡ false = search rules in
    let awake : is_eating old.core.phase ≡ false = sym (ap (λ (site : SeenOwnSite). is_eating site.core.phase) c.self.view_is) ∙ awake_inside in
    let found : next_of old.core ≡ Some k = sym (c.in-Some.ensures.next ∙ ap (λ (site : SeenOwnSite). next_of site.core) c.self.view_is) in
    let by_lists : ForEachState old.core (λ plan state. Some k ≡ next_event plan old.core.site state) =
    subst (λ (site : SeenOwnSite). ForEachState site.core (λ plan state. Some k ≡ next_event plan site.core.site state)) c.self.view_is c.in-Some.ensures.by_lists in
    record {
      turns = subst (λ (r : ℤ). TurnsOrRefuses c.args.event.now c.turn_to.new.event c.args.out.now c.turn_to.new.out r old new) (sym (to_z-of_z w64 r fits))
          (turned k c.args.event.now c.turn_to.new.event c.args.out.now c.turn_to.new.out r old new awake found by_lists c.turn_to.ensures.acts c.turn_to.ensures.event);
      unwritten = subst (λ (r : ℤ). IsDoneOr r (Unit {0}) ((c.turn_to.new.event ≡ c.args.event.now) × (c.turn_to.new.out ≡ c.args.out.now))) (sym (to_z-of_z w64 r fits))
          (both_stay _ _ _ r c.turn_to.ensures.event c.turn_to.ensures.unwritten);
    }

pub returns-in-None-clause-turns : goal.returns-in-None-clause-turns
returns-in-None-clause-turns c =
    let own = c.args.self.now in
    let awake : is_eating c.self.inside.core.phase ≡ false = search rules in
    let said : has_all_said own.core ≡ true = sym (ap (λ (site : SeenOwnSite). has_all_said site.core) c.self.view_is) ∙ sym c.is_finished.ensures.finished ∙ c.if-is_finished.true in
    idle_turn c.args.event.now c.args.out.now finished own (sym (ap (λ (site : SeenOwnSite). is_eating site.core.phase) c.self.view_is) ∙ awake)
    (c.in-None.ensures.next ∙ ap (λ (site : SeenOwnSite). next_of site.core) c.self.view_is) (sym (cond-true (has_all_said own.core) finished waits said))

pub returns-in-None-2-clause-turns : goal.returns-in-None-2-clause-turns
returns-in-None-2-clause-turns c =
    let own = c.args.self.now in
    let awake : is_eating c.self.inside.core.phase ≡ false = search rules in
    let said : has_all_said own.core ≡ false = sym (ap (λ (site : SeenOwnSite). has_all_said site.core) c.self.view_is) ∙ sym c.is_finished.ensures.finished ∙ c.if-is_finished.false in
    idle_turn c.args.event.now c.args.out.now waits own (sym (ap (λ (site : SeenOwnSite). is_eating site.core.phase) c.self.view_is) ∙ awake)
    (c.in-None.ensures.next ∙ ap (λ (site : SeenOwnSite). next_of site.core) c.self.view_is) (sym (cond-false (has_all_said own.core) finished waits said))
