use Rattle.std.proofs.Common.{◌≡◌, arith, subst}
use Rattle.dine_graph.specs.Plan.{SeenPlan, site_count}
use Rattle.dine_rules.specs.Outcomes.{with_outcomes}
use Rattle.dine_world.specs.Worlds.{lists_of}
use Rattle.dine_rules.proofs.shared.journals.OtherOutcomes.{sites-same}
use Rattle.dine_world.proofs.all_sites.WorldOpened.{AreFresh, fresh_more, fresh_stand}
use Rattle.dine_world.proofs.world.opening.sites_of.Goals as goal

pub loop-site-preserved : goal.loop-site-preserved
loop-site-preserved c = record {
  so_far = fresh_more _ _ _ _ c.in-Ok.world_site c.loop-site.invariant.so_far (record { site = c.in-Ok.ensures.site; stands = c.in-Ok.ensures.start; not_eating = c.in-Ok.ensures.not_eating }) c.push_reserved.ensures.items;
  room = omega arith;
}

pub returns : goal.returns
returns c =
    let other : SeenPlan = with_outcomes c.args.plan.now (lists_of c.args.fails.now) in
    let all : c.loop-site.site ≡ site_count other = omega (arith, sites-same c.args.plan.now (lists_of c.args.fails.now)) in
    fresh_stand _ _ (subst (λ n. AreFresh other n c.loop-site.sites.items) all c.loop-site.invariant.so_far)
