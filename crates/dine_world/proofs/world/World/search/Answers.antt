use Rattle.std.proofs.Common.{◌<◌, Bool, List, count_by, sym, ◌∙◌, subst}
use Rattle.dine_world.specs.private.EnabledSites.{HasAllEnabled}
use Rattle.dine_world.proofs.enabled_events.FirstSite.{asleep, fewer, still_all, still_before}
use Rattle.dine_world.proofs.enabled_events.FirstEvents.{first_of_all, none_of_all, still_at}
use Rattle.dine_site.proofs.shared.lists.Options.{none_from}
use Rattle.dine_world.proofs.world.World.search.Goals as goal

pub returns-in-Some-first_at-clause-first : goal.returns-in-Some-first_at-clause-first
returns-in-Some-first_at-clause-first c plan world is =
    let seen = c.args.self.now in
    sym (first_of_all plan world seen is c.in-Some.site c.in-Some-first_at.kind (still_before seen c.loop-site.may_be_enabled c.loop-site.invariant c.in-Some.site (sym c.in-Some.ensures.value)) (sym c.first_at.ensures ∙ c.in-Some-first_at.is))

pub loop-site-smaller : goal.loop-site-smaller
loop-site-smaller c =
    subst (λ (may_be_enabled : List Bool). count_by (λ b. b) may_be_enabled < count_by (λ b. b) c.loop-site.may_be_enabled) (sym c.remove.ensures) (fewer c.loop-site.may_be_enabled c.in-Some.site (sym c.in-Some.ensures.value))

pub loop-site-preserved : goal.loop-site-preserved
loop-site-preserved c =
    let seen = c.args.self.now in
    let none = sym c.first_at.ensures ∙ none_from c.first_at.result c.in_default-first_at.not-Some in
    subst (HasAllEnabled seen) (sym c.remove.ensures) (asleep seen c.loop-site.may_be_enabled c.loop-site.invariant c.in-Some.site (still_at seen c.in-Some.site none))

pub returns-clause-first : goal.returns-clause-first
returns-clause-first c plan world is =
    let seen = c.args.self.now in
    sym (none_of_all plan world seen is (λ t h. still_all seen c.loop-site.may_be_enabled c.loop-site.invariant (sym c.first.ensures.value ∙ none_from c.first.result c.in_default.not-Some) t))
