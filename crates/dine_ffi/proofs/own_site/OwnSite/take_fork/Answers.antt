use mir.Syntax.{w64}
use mir.Val.{SFits}
use Rattle.std.proofs.Common.{rules, ◌≡◌, ℕ, zero, suc, ◌<◌, ℤ, List, [], ◌∷◌, length, slice_get, Some, None, sym, ap, subst, refl, inr, arith}
use Rattle.std.proofs.lemmas.Int.{to_z-of_z}
use Rattle.std.proofs.lemmas.List.{length-set}
use Rattle.dine_graph.specs.Plan.{SeenPlan}
use Rattle.dine_rules.specs.declared.letters.Letter.TheVariants as letter
use Rattle.dine_rules.proofs.shared.one_site.BreachLaw.{no_breach}
use Rattle.dine_wire.specs.Carried.{IsCarriedOn}
use Rattle.dine_ffi.specs.OwnSites.{ForkRefuses, SeenOwnSite, SiteTakesFork, StandsFor}
use Rattle.dine_ffi.specs.Shelves.{AwaitsFork, IsForkBreach, IsNotTakenBack, kept_at}
use Rattle.dine_ffi.specs.private.OwnSiteFields.{seen_own_site}
use Rattle.dine_ffi.proofs.Arrived.{fork_allowed, fork_breach, fork_refusal, goes_on, index_is}
use Rattle.dine_ffi.proofs.own_site.OwnSite.take_fork.Goals as goal

-- an element that is there is within the list
index_within : {X : Type 0} (l : List X) (i : ℕ) (x : X) → slice_get l i ≡ Some x → i < length l
index_within [] i x h = absurd cc
index_within (y ∷ ys) zero x h = omega arith
index_within (y ∷ ys) (suc i) x h = omega (arith, index_within ys i x h)

pub returns-in-Ok-take-clause-done : goal.returns-in-Ok-take-clause-done
returns-in-Ok-take-clause-done c =
    let w = c.in-Ok.ensures.back in
    let new : SeenOwnSite = record { plan = c.self.inside.plan; run = c.self.inside.run; core = c.take.new.core; meal = c.self.inside.meal; shelf = c.take_back.new.shelf.items } in
    let carried : IsCarriedOn c.self.inside.plan w.0 c.in-Ok.fork = subst (λ (p : SeenPlan). IsCarriedOn p w.0 c.in-Ok.fork) c.plan-2.ensures (record { meals = w.1; may = w.3; is = w.4 }) in
    λ done. (
      c.in-Ok.fork,
      subst (λ (old : SeenOwnSite). SiteTakesFork c.args.i c.args.note c.in-Ok.fork old new) c.self.view_is (record {
        note_is = w.5;
        goes_on = goes_on c.self.inside.plan c.self.inside.shelf.items c.args.i w.0 c.in-Ok.fork w.2 carried;
        core = c.in-Ok-take.ensures.step;
        shelf = w.6;
        plan = refl;
        run = refl;
        meal = refl;
      }),
    )

pub returns-in-Some-clause-why : goal.returns-in-Some-clause-why
returns-in-Some-clause-why c = λ refused state stands within.
    let r = c.in-Some.status in
    let fits : SFits w64 r = search rules in
    let own : SeenOwnSite = seen_own_site c.self.inside in
    let is : StandsFor state own = subst (StandsFor state) (sym c.self.view_is) stands in
    let here : c.args.i < length own.core.places = subst (λ (x : SeenOwnSite). c.args.i < length x.core.places) (sym c.self.view_is) within in
    let w = c.in-Some.ensures.breach here in
    let seen : IsForkBreach own.plan own.core c.args.i c.args.note w.0 = subst (λ (p : SeenPlan). IsForkBreach p own.core c.args.i c.args.note w.0) c.plan.ensures w.1 in
    subst (λ (n : ℤ). ForkRefuses c.args.i c.args.note n state c.args.self.now) (sym (to_z-of_z w64 r fits))
    (subst (ForkRefuses c.args.i c.args.note r state) c.self.view_is
    (inr (inr (w.0, w.2, seen, fork_breach state own is c.args.i c.args.note here w.0 seen))))

pub returns-in-Err-clause-why : goal.returns-in-Err-clause-why
returns-in-Err-clause-why c = λ refused state stands within.
    let r = c.in-Err.status in
    let fits : SFits w64 r = search rules in
    let own : SeenOwnSite = seen_own_site c.self.inside in
    let is : StandsFor state own = subst (StandsFor state) (sym c.self.view_is) stands in
    let here : c.args.i < length own.core.places = subst (λ (x : SeenOwnSite). c.args.i < length x.core.places) (sym c.self.view_is) within in
    let awaits : AwaitsFork own.plan own.core c.args.i c.args.note = subst (λ (p : SeenPlan). AwaitsFork p own.core c.args.i c.args.note) c.plan.ensures c.in_default.ensures.awaits in
    subst (λ (n : ℤ). ForkRefuses c.args.i c.args.note n state c.args.self.now) (sym (to_z-of_z w64 r fits))
    (subst (ForkRefuses c.args.i c.args.note r state) c.self.view_is
    (fork_refusal state own is c.args.i c.args.note here awaits r
    (subst (λ (p : SeenPlan). IsNotTakenBack p (kept_at c.args.i own.shelf) c.args.note r) c.plan-2.ensures
    (c.in-Err.ensures.why (omega (arith, here, is.core.degree, is.shelf.count))))))

pub put_away-requires : goal.put_away-requires
put_away-requires c =
    let w = c.in-Ok.ensures.back in
    omega (arith, index_within c.self.inside.shelf.items c.args.i (Some w.0) w.2, length-set c.self.inside.shelf.items c.args.i None, ap length w.6)

pub returns-in-Err-take-clause-why : goal.returns-in-Err-take-clause-why
returns-in-Err-take-clause-why c = λ refused state stands within.
    let w = c.in-Ok.ensures.back in
    let own : SeenOwnSite = seen_own_site c.self.inside in
    let is : StandsFor state own = subst (StandsFor state) (sym c.self.view_is) stands in
    let carried : IsCarriedOn own.plan w.0 c.in-Ok.fork = subst (λ (p : SeenPlan). IsCarriedOn p w.0 c.in-Ok.fork) c.plan-2.ensures (record { meals = w.1; may = w.3; is = w.4 }) in
    let awaits : AwaitsFork own.plan own.core c.args.i c.args.note = subst (λ (p : SeenPlan). AwaitsFork p own.core c.args.i c.args.note) c.plan.ensures c.in_default.ensures.awaits in
    let allowed = fork_allowed state own is c.args.i c.args.note awaits w.0 c.in-Ok.fork (index_is own.shelf c.args.i w.0 w.2) carried w.5 in
    let breach = c.in-Err-take.ensures.breach awaits.within in
    absurd (let none = no_breach own.plan own.core.site state c.args.i (letter.Fork c.in-Ok.fork) allowed in let some = breach.1 own.plan state is.keeps is.core in cc)

pub returns-in-Err-take-clause-refused : goal.returns-in-Err-take-clause-refused
returns-in-Err-take-clause-refused c = λ refused state stands.
    let w = c.in-Ok.ensures.back in
    let own : SeenOwnSite = seen_own_site c.self.inside in
    let is : StandsFor state own = subst (StandsFor state) (sym c.self.view_is) stands in
    let carried : IsCarriedOn own.plan w.0 c.in-Ok.fork = subst (λ (p : SeenPlan). IsCarriedOn p w.0 c.in-Ok.fork) c.plan-2.ensures (record { meals = w.1; may = w.3; is = w.4 }) in
    let awaits : AwaitsFork own.plan own.core c.args.i c.args.note = subst (λ (p : SeenPlan). AwaitsFork p own.core c.args.i c.args.note) c.plan.ensures c.in_default.ensures.awaits in
    let allowed = fork_allowed state own is c.args.i c.args.note awaits w.0 c.in-Ok.fork (index_is own.shelf c.args.i w.0 w.2) carried w.5 in
    let breach = c.in-Err-take.ensures.breach awaits.within in
    absurd (let none = no_breach own.plan own.core.site state c.args.i (letter.Fork c.in-Ok.fork) allowed in let some = breach.1 own.plan state is.keeps is.core in cc)
