use Rattle.std.proofs.Common.{arith}
use Rattle.dine_site.proofs.shared.one_site.Opened.{places_few, refines_start, sound_start}
use Rattle.dine_site.proofs.site.SiteCore.open.Goals as goal

pub invariant_of-result : goal.invariant_of-result
invariant_of-result c = record {
  sound = sound_start c.args.plan.now c.args.site c.jobs.result _ _ c.in_ok-places.places c.jobs.ensures.plan c.requires.site c.jobs.ensures.count c.in_ok-acts.ensures c.in_ok-places.ensures;
  no_hands = c.in_ok-hands.ensures.no_hands;
  room_for_hands = λ awake. omega (arith, c.in_ok-hands.ensures.hands, c.len.ensures);
  room = record {
    few = (let few = places_few c.args.plan.now c.args.site c.in_ok-places.places c.jobs.ensures.plan c.in_ok-places.ensures in omega (arith, few));
    no_forks = c.in_ok-hands.ensures.no_forks;
    room_for_forks = omega (arith, c.in_ok-hands.ensures.forks, c.len.ensures);
    no_tokens = c.in_ok-hands.ensures.no_tokens;
    room_for_tokens = omega (arith, c.in_ok-hands.ensures.tokens, c.len.ensures);
  };
}

pub returns-clause-start : goal.returns-clause-start
returns-clause-start c =
    refines_start c.args.plan.now c.args.site c.jobs.result _ c.resigns.result _ c.jobs.ensures.plan c.requires.site c.jobs.ensures.count c.in_ok-acts.ensures c.resigns.ensures.policy c.in_ok-places.ensures

pub returns-clause-fresh : goal.returns-clause-fresh
returns-clause-fresh c = record { is_plan = c.jobs.ensures.plan; is_site = c.requires.site; stands = returns-clause-start c }
