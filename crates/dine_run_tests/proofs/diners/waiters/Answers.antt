use Rattle.std.proofs.Common.{◌≡◌, ◌≤◌, length, ap, subst, vec_items, arith}
use Rattle.dine_graph.specs.Plan.{job_count}
use Rattle.dine_run.specs.CallLogs.{SeenCallLog}
use Rattle.dine_run_tests.specs.declared.diners.Waiter.{Waiter}
use Rattle.dine_threads.proofs.shared.all_sites.Collected.{each_more, each_of_none}
use Rattle.dine_run_tests.proofs.diners.waiters.Goals as goal

pub loop-site-init : goal.loop-site-init
loop-site-init c = record {
  len = omega (arith, c.new-diners.ensures.len);
  rooms = each_of_none (λ s (diner : Waiter). job_count c.args.plan.now s ≤ diner.log.room) (vec_items c.new-diners.result) c.new-diners.ensures.items;
}

pub loop-site-preserved : goal.loop-site-preserved
loop-site-preserved c =
    let was = c.loop-site.invariant in
    let plan = c.args.plan.now in
    let room = ap (λ (log : SeenCallLog). log.room) c.in_ok-log.ensures in
    let here : job_count plan c.loop-site.site ≤ c.in_ok-log.log.room = omega (arith, room, c.jobs.ensures.count) in
    let number : c.loop-site.site ≡ length (vec_items c.loop-site.diners) = omega (arith, was.len, c.loop-site.diners.ok.0) in
    record {
      len = omega (arith, was.len, c.in_ok-push.ensures.len);
      rooms =
          each_more (λ s (diner : Waiter). job_count plan s ≤ diner.log.room) (vec_items c.loop-site.diners) (vec_items c.push.new.self) _ c.in_ok-push.ensures.items was.rooms
          (subst (λ s. job_count plan s ≤ c.in_ok-log.log.room) number here);
    }

pub returns : goal.returns
returns c = c.loop-site.invariant.rooms
