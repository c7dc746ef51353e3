use Rattle.crossbeam_channel.specs.Claims.{view}
use Rattle.dine_link.proofs.BellSteps.{hears, still_own, heard_below, heard_seen}
use Rattle.dine_link.proofs.bell.Bell.next_ring.Goals as goal

pub try_recv_as-requires-clause-rule : goal.try_recv_as-requires-clause-rule
try_recv_as-requires-clause-rule g c = (hears _ _, λ queue views h at. tt)

pub invariant_of-self : goal.invariant_of-self
invariant_of-self g c = record { seated = c.try_recv_as.ensures.channel.0; own = still_own _ c.try_recv_as.result c.self.inside.degree _ _ c.try_recv_as.ensures.rule c.self.invariant.own }

pub returns-clause-below : goal.returns-clause-below
returns-clause-below g c = rw c.ok.ensures.value (heard_below _ c.try_recv_as.result c.self.inside.degree _ _ c.try_recv_as.ensures.rule c.self.invariant.own)

pub returns-clause-reported : goal.returns-clause-reported
returns-clause-reported g c = rw c.ok.ensures.value (heard_seen _ c.try_recv_as.result c.self.inside (view c.try_recv_as.new.pass) c.args.self.now c.try_recv_as.ensures.rule c.self.view_is c.self.invariant.own)
