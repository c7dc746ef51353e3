use Rattle.std.proofs.Common.{◌≡◌, cond, is_some, arith}
use Rattle.std.proofs.lemmas.Grind.{common_steps}
use Rattle.dine_set.specs.Marks.{marks_of}
use Rattle.dine_site.specs.Places.{can_close_at}
use Rattle.dine_site.proofs.own_events.OwnEvents.{count_is}
use Rattle.dine_site.proofs.site.SiteCore.count_own.Goals as goal

pub returns-clause-count : goal.returns-clause-count
returns-clause-count c =
    let core = c.args.self.now in
    let are : c.closes.result ≡ marks_of can_close_at core.places = grind (arith, common_steps) in
    let one : c.from-of_phase.result ≡ cond (is_some c.next_phase.result) 1 0 = grind (arith, common_steps) in
    omega (
      arith,
      one,
      c.len.ensures.value,
      c.len-asks.ensures.value,
      c.len-dones.ensures.value,
      c.len-2.ensures.value,
      count_is core c.gives_now.result c.asks_now.result c.dones_now.result c.closes.result c.next_phase.result
          c.gives_now.ensures c.asks_now.ensures c.dones_now.ensures are c.next_phase.ensures,
    )
