use Rattle.dine_link.proofs.testing.fault_lane.FaultLaneLane.reconcile.Goals as goal

pub returns-in-Live : goal.returns-in-Live
returns-in-Live c = rw c.in-Live.is c.reconcile.ensures

pub returns-in-Shut : goal.returns-in-Shut
returns-in-Shut c = rw c.in-Shut.is c.reconcile-in-Shut.ensures
