use Rattle.std.proofs.Common.{◌≡◌, ◌-◌, ◌≤◌, ℕ, sym, ◌∙◌, ap, subst, arith}
use Rattle.dine_graph.specs.Plan.{SeenPlan}
use Rattle.dine_rules.specs.World.{WorldState, enabled_events}
use Rattle.dine_world.specs.Worlds.{IsWorldOf, SeenWorld}
use Rattle.dine_rules.proofs.shared.ends_of_runs.Finishing.{none_first, stuck_is_complete}
use Rattle.dine_site.proofs.shared.lists.Options.{none_from}
use Rattle.dine_world.proofs.all_sites.WorldSchedules.{IsUnderWay, chosen_can, one_left, runs_to, under_way_at_start, under_way_next}
use Rattle.dine_world.proofs.world.World.finish.Goals as goal

pub loop-event-init : goal.loop-event-init
loop-event-init c =
    let kept = c.self.invariant in
    let bound : c.self.inside.bound ≡ c.args.self.now.bound = ap (λ (w : SeenWorld). w.bound) c.self.view_is in
    record {
      within = omega arith;
      bound = λ plan world stands. bound ∙ stands.bound;
      plan = kept.plan;
      world = kept.state;
      stood = subst (IsWorldOf kept.plan kept.state) c.self.view_is kept.stands;
      under_way = λ plan world stands. subst (λ (n : ℕ). IsUnderWay plan world n c.args.self.now) (sym (bound ∙ stands.bound)) (under_way_at_start plan world c.args.self.now stands);
    }

pub happen-requires : goal.happen-requires
happen-requires c =
    let kept = c.loop-event.invariant in
    let seen = c.first.new.self in
    let way = subst (IsUnderWay kept.plan kept.world c.loop-event.left) (sym c.first.ensures.same) (kept.under_way kept.plan kept.world kept.stood) in
    chosen_can kept.plan way.now.world seen 0 c.in-Some.event way.stands (sym c.in-Some.is ∙ c.first.ensures.first kept.plan way.now.world way.stands)

pub overflow_sub-left : goal.overflow_sub-left
overflow_sub-left c =
    let kept = c.loop-event.invariant in
    let way = subst (IsUnderWay kept.plan kept.world c.loop-event.left) (sym c.first.ensures.same) (kept.under_way kept.plan kept.world kept.stood) in
    one_left kept.plan kept.world c.loop-event.left c.first.new.self c.happen.new.self c.in-Some.event way c.happen.ensures

pub loop-event-smaller : goal.loop-event-smaller
loop-event-smaller c =
    let kept = c.loop-event.invariant in
    let way = subst (IsUnderWay kept.plan kept.world c.loop-event.left) (sym c.first.ensures.same) (kept.under_way kept.plan kept.world kept.stood) in
    omega (arith, one_left kept.plan kept.world c.loop-event.left c.first.new.self c.happen.new.self c.in-Some.event way c.happen.ensures)

pub loop-event-preserved : goal.loop-event-preserved
loop-event-preserved c =
    let kept = c.loop-event.invariant in
    let left = c.loop-event.left in
    let seen = c.first.new.self in
    let ways = λ (plan : SeenPlan) (world : WorldState) (stands : IsWorldOf plan world c.args.self.now). subst (IsUnderWay plan world left) (sym c.first.ensures.same) (kept.under_way plan world stands) in
    let some : 1 ≤ left = one_left kept.plan kept.world left seen c.happen.new.self c.in-Some.event (ways kept.plan kept.world kept.stood) c.happen.ensures in
    record {
      within = omega (arith, kept.within);
      bound = kept.bound;
      plan = kept.plan;
      world = kept.world;
      stood = kept.stood;
      under_way = λ plan world stands.
          let way = ways plan world stands in
          under_way_next plan world left (left - 1) seen c.happen.new.self c.in-Some.event way (omega (arith, some)) (sym c.in-Some.is ∙ c.first.ensures.first plan way.now.world way.stands) c.happen.ensures;
    }

pub returns-clause-run : goal.returns-clause-run
returns-clause-run c plan world stands =
    let kept = c.loop-event.invariant in
    let left = c.loop-event.left in
    let way = subst (IsUnderWay plan world left) (sym c.first.ensures.same) (kept.under_way plan world stands) in
    runs_to plan world left (c.self.inside.bound - left) c.first.new.self way (sym (none_from c.first.result c.in_default.not-Some) ∙ c.first.ensures.first plan way.now.world way.stands) (omega (arith, kept.within, kept.bound plan world stands))

pub returns-clause-complete : goal.returns-clause-complete
returns-clause-complete c plan world stands =
    let none = sym (none_from c.first.result c.in_default.not-Some) ∙ c.first.ensures.first plan world stands in
    stuck_is_complete plan stands.reached.events world stands.reached.is_plan stands.reached.reaches (none_first (enabled_events plan world) (sym none))
