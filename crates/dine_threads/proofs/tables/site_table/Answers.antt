use Rattle.std.proofs.lemmas.Grind.{common_steps}
use Rattle.std.proofs.Common.{length, ap, arith}
use Rattle.dine_threads.proofs.tables.site_table.Goals as goal

pub push_reserved-requires : goal.push_reserved-requires
push_reserved-requires g c =
    omega (arith, c.loop-out.invariant.len, c.loop-out.invariant.room, c.loop-out-test.true, ap length c.as_slice-out-items.ensures.value, c.requires.count)

pub loop-out-preserved : goal.loop-out-preserved
loop-out-preserved g c = grind (arith, common_steps) steps 2000000
