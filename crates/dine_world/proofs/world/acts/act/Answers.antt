use Rattle.std.proofs.Common.{◌≡◌, ◌<◌, ℕ, ◌&&◌, nat_lt, true, length, None, is_some, option_map, refl, sym, ◌∙◌, ap, subst}
use Rattle.std.proofs.lemmas.Option.{same_Some}
use Rattle.dine_rules.specs.declared.events.EventKind.{EventKind}
use Rattle.dine_rules.specs.declared.events.EventKind.TheVariants as event
use Rattle.dine_rules.specs.declared.events.Shape.TheVariants.{Takes, Alone}
use Rattle.dine_rules.specs.Local.{LocalState}
use Rattle.dine_rules.specs.Steps.{Step, may, shape_of, with_taken}
use Rattle.dine_rules.specs.Steps as step
use Rattle.dine_site.specs.Core.{SeenCore}
use Rattle.dine_site.specs.Places.{breach_at, place_at}
use Rattle.dine_world.specs.WorldSites.{can_do, meal_of, next_in, outcomes_of}
use Rattle.dine_world.specs.private.StepsOfSites.{SiteStep, TakesAllowed, meets_no_breach, step_in}
use Rattle.dine_site.proofs.shared.one_site.Breaches.{breach_is, may_take}
use Rattle.dine_world.proofs.all_sites.Shapes.{own_can, puts_not_takes, take_is}
use Rattle.dine_world.proofs.shared.all_sites.OpenedSites.{none_applies, meal-taken, within_of}
use Rattle.dine_site.proofs.shared.lists.Options.{some_of}
use Rattle.dine_world.proofs.world.acts.act.Goals as goal

pub returns-in-Takes-clause-does : goal.returns-in-Takes-clause-does
returns-in-Takes-clause-does c plan state one keeps eats world_site is =
    let core = c.args.world_site.now.core in
    let i = c.in-Takes.i in
    let kind_is : c.args.kind ≡ event.Take i = take_is c.args.kind i (sym c.in-Takes.ensures) in
    let new = c.take.new.world_site in
    let links = c.args.links.now in
    let can : (nat_lt i (length core.places) && is_some (next_in links core i)) ≡ true = sym (ap (can_do links core) kind_is) ∙ c.requires.can in
    let turn : meets_no_breach core i (next_in links core i) ≡ true = subst (λ (k : EventKind). TakesAllowed links core (shape_of k)) kind_is c.requires.allowed in
    let did = some_of (next_in links core i) _ c.take.ensures.core in
    let l = did.0 in
    let same : step.Take i l ≡ one = same_Some _ _ (sym (ap (step_in c.args.world_site.now.outcomes links core) kind_is ∙ ap (option_map (step.Take i)) did.1) ∙ is) in
    let within : i < length core.places = within_of i (length core.places) _ can in
    let allowed : breach_at core.site core.ate (place_at core i) l ≡ None = none_applies _ (sym (ap (meets_no_breach core i) did.1) ∙ turn) in
    let may_be : may plan core.site state (step.Take i l) ≡ true = may_take plan state core world_site.core keeps i within l (sym (breach_is plan state core world_site.core keeps i within l) ∙ allowed) in
    let site : new.core.site ≡ core.site = ap (λ (x : SeenCore). x.site) did.2.0 in
    let next : LocalState = with_taken i l state in
    subst (λ (k : EventKind). SiteStep plan state k one c.args.world_site.now new links c.take.new.links) (sym kind_is)
    (subst (λ (x : Step). SiteStep plan state (event.Take i) x c.args.world_site.now new links c.take.new.links) same (record {
      site = site;
      stands = record {
        core = (did.2.1 plan state keeps world_site.core).stands;
        meal = c.take.ensures.meal ∙ world_site.meal ∙ sym (meal-taken plan core.site state i l eats may_be) ∙ ap (λ (x : ℕ). meal_of plan x next) (sym site);
        outcomes = c.take.ensures.outcomes ∙ world_site.outcomes ∙ ap (outcomes_of plan) (sym site);
      };
      letters = c.take.ensures.links;
    }))

pub returns-in-Puts-clause-does : goal.returns-in-Puts-clause-does
returns-in-Puts-clause-does c = c.put.ensures.does

pub returns-in-Alone-clause-does : goal.returns-in-Alone-clause-does
returns-in-Alone-clause-does c = c.act_alone.ensures c.args.links.now

pub put-requires-clause-can : goal.put-requires-clause-can
put-requires-clause-can c =
    own_can c.args.links.now c.args.world_site.now.core c.args.kind (λ j takes. puts_not_takes (shape_of c.args.kind) c.in-Puts.i j (sym c.in-Puts.ensures) takes) c.requires.can

pub act_alone-requires-clause-can : goal.act_alone-requires-clause-can
act_alone-requires-clause-can c =
    own_can c.args.links.now c.args.world_site.now.core c.args.kind (λ j takes. (let is : Alone ≡ Takes j = c.in-Alone.ensures ∙ takes in absurd cc)) c.requires.can

pub take-requires-clause-within : goal.take-requires-clause-within
take-requires-clause-within c =
    let core = c.args.world_site.now.core in
    within_of c.in-Takes.i (length core.places) _ (sym (ap (can_do c.args.links.now core) (take_is c.args.kind c.in-Takes.i (sym c.in-Takes.ensures))) ∙ c.requires.can)

pub take-requires-clause-allowed : goal.take-requires-clause-allowed
take-requires-clause-allowed c = subst (λ (kind : EventKind). TakesAllowed c.args.links.now c.args.world_site.now.core (shape_of kind)) (take_is c.args.kind c.in-Takes.i (sym c.in-Takes.ensures)) c.requires.allowed
