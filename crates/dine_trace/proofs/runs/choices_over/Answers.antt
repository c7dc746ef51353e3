-- The order that was found is one of the plan itself, and leads to the gathered forks.
use Rattle.std.proofs.Common.{◌≡◌, ◌∙◌, List, length, map, ap, subst, sym}
use Rattle.std.proofs.lemmas.Option.{same_Some}
use Rattle.dine_rules.specs.declared.events.Event.{Event}
use Rattle.dine_rules.specs.declared.events.EventKind.{EventKind}
use Rattle.dine_rules.specs.Schedules.{Counted}
use Rattle.dine_rules.specs.World.{Reaches, WorldState}
use Rattle.dine_world.specs.Worlds.{forks_seen}
use Rattle.dine_site_thread.specs.declared.manner.Manner.TheVariants.{Eager}
use Rattle.dine_threads.specs.declared.gathered.SiteOut.{SiteOut}
use Rattle.dine.specs.PlanDiners.{SeenPlanDiner}
use Rattle.dine_trace.proofs.runs.choices_over.Goals as goal

pub choices_of-requires : goal.choices_of-requires
choices_of-requires g c =
    let order = c.orders_of_plan_diners_are_of_the_plan.ensures.order Eager c.args.plan.now c.in_ok-diners.diners c.in_ok-gathered.gathered c.in_ok-events.events.items c.in_ok-diners.ensures.diners c.in_ok-gathered.ensures.ok c.in_ok-events.ensures.order in
    (order.world, subst (λ (events : List Event). Reaches c.args.plan.now events order.world) (sym c.as_slice.ensures.value) order.accepted)

pub returns : goal.returns
returns g c =
    let plan = c.args.plan.now in
    let diners = c.in_ok-diners.diners in
    let gathered = c.in_ok-gathered.gathered in
    let run = c.in_ok-gathered.ensures.ok in
    let events = c.in_ok-events.events.items in
    let shown = c.in_ok-events.ensures.order in
    let journals : List (List EventKind) = map (λ (out : SiteOut SeenPlanDiner). out.journal.items) gathered.sites.items in
    let order = c.orders_of_plan_diners_are_of_the_plan.ensures.order Eager plan diners gathered events c.in_ok-diners.ensures.diners run shown in
    let accepted = c.orders_of_plan_diners_are_of_the_plan.ensures.world Eager plan diners gathered events shown.world c.in_ok-diners.ensures.diners run shown shown.accepted in
    let same : shown.world ≡ order.world = same_Some shown.world order.world (sym accepted ∙ order.accepted) in
    let counted : List Event → Counted = λ some. record { world = order.world; events = length some } in
    let led = c.in_ok-choices_of.ensures order.world (subst (λ (some : List Event). Reaches plan some order.world) (sym c.as_slice.ensures.value) order.accepted) in
    let forks = c.orders_give_the_gathered_forks.ensures.by_the_plan plan _ gathered.links.items gathered.forks.items journals events shown.world run.whole.ordered.is_plan run.whole.headline (λ s is_site. (run.whole.acted s is_site).by_journal) shown.holds_journals shown.accepted in
    record {
      diners = diners;
      of_plan = c.in_ok-diners.ensures.diners;
      gathered = gathered;
      run = run;
      events = events;
      order = order;
      led = led ∙ ap counted c.as_slice.ensures.value;
      forks = forks ∙ ap (λ (w : WorldState). forks_seen plan w) same;
    }
