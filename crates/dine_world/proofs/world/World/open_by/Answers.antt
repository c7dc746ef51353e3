use Rattle.std.proofs.Common.{Bool, List, arith, ap, length, subst, sym, ◌∙◌}
use Rattle.std.proofs.lemmas.List.FromFn.{length-map-range_with_len}
use Rattle.dine_graph.specs.Plan.{SeenPlan, edge_count, site_count}
use Rattle.dine_rules.specs.Outcomes.{with_outcomes}
use Rattle.dine_rules.proofs.shared.journals.OtherOutcomes.{plan-stays, sites-same}
use Rattle.dine_rules.specs.World.{start}
use Rattle.dine_world.specs.private.EnabledSites.{HasAllEnabled}
use Rattle.dine_world.specs.private.Counts.{HasCounts}
use Rattle.dine_world.specs.Worlds.{ends_seen, lists_of}
use Rattle.dine_world.proofs.enabled_events.FirstSite.{full_has_all}
use Rattle.dine_world.proofs.enabled_events.Counts.{full_has_counts}
use Rattle.dine_world.proofs.enabled_events.Inboxes.{none_heard}
use Rattle.dine_world.proofs.all_sites.GivenOutcomes.{bound_same}
use Rattle.dine_world.proofs.all_sites.WorldOpened.{opened}
use Rattle.dine_world.proofs.world.World.open_by.Goals as goal

pub returns : goal.returns
returns c =
    let plan : SeenPlan = c.args.plan.now in
    let fails : List (List Bool) = lists_of c.args.fails.now in
    opened (with_outcomes plan fails) _ (plan-stays plan fails c.edges.ensures.plan) c.in_ok-sites.ensures c.in_ok-links.ensures.count c.in_ok-links.ensures.empty c.in_ok-edges.ensures
    (c.bound_of-bound.ensures ∙ bound_same plan fails)

pub invariant_of-result : goal.invariant_of-result
invariant_of-result c = record {
  plan = with_outcomes c.args.plan.now (lists_of c.args.fails.now);
  state = start (with_outcomes c.args.plan.now (lists_of c.args.fails.now));
  stands = returns c;
  no_forks = c.in_ok-forks.ensures.items;
  room = omega (arith, ap length c.in_ok-edges.ensures, length-map-range_with_len (ends_seen c.args.plan.now) 0 (edge_count c.args.plan.now), c.in_ok-forks.ensures.capacity, c.edges.ensures.count);
  no_hands = c.in_ok-hands.ensures.items;
  room_for_hands = omega (arith, (returns c).sites.count, sites-same c.args.plan.now (lists_of c.args.fails.now), c.in_ok-hands.ensures.capacity, c.sites.ensures.count);
  may_be_enabled = subst (HasAllEnabled _) (sym c.full.ensures) (full_has_all _ (omega (arith, (returns c).sites.count, sites-same c.args.plan.now (lists_of c.args.fails.now), c.edges.ensures.plan.few_sites)));
  nonempty_inboxes = none_heard _ (site_count c.args.plan.now) _ ((returns c).sites.count ∙ sites-same c.args.plan.now (lists_of c.args.fails.now)) c.in_ok-links.ensures.empty c.in_ok-nonempty_inboxes.ensures;
  counts = subst (HasCounts _ _) (sym c.full-2.ensures) (full_has_counts _ _ (omega (arith, (returns c).sites.count, sites-same c.args.plan.now (lists_of c.args.fails.now), c.edges.ensures.plan.few_sites)) (c.in_ok-counts.ensures ∙ sym (sites-same c.args.plan.now (lists_of c.args.fails.now)) ∙ sym (returns c).sites.count));
}
