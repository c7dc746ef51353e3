-- What a run of a site on its thread leaves.
use Rattle.std.specs.Prelude.{◌≡◌, ◌++◌, List, None}
use Rattle.dine_graph.specs.Plan.{SeenPlan}
use Rattle.dine_link.specs.Bells.{SeenBell}
use Rattle.dine_link.specs.declared.lane.Lane.{Ghosts}
use Rattle.dine_site.specs.Core.{SeenCore}
use Rattle.dine_site.specs.Standing.{IsFreshFor}
use Rattle.dine_site_thread.specs.declared.diner.Diner as diners
use Rattle.dine_site_thread.specs.declared.manner.Manner.{Manner}
use Rattle.dine_site_thread.specs.declared.port.Port.{Port}
use Rattle.dine_site_thread.specs.declared.site_end.SiteEnd.{SiteEnd}
use Rattle.dine_site_thread.specs.Diners.{HasEaten, ObeysFailures}
use Rattle.dine_site_thread.specs.Doings.{empty_checks_of}
use Rattle.dine_site_thread.specs.Ports.{seen_ports}
use Rattle.dine_site_thread.specs.SiteEnds.{IsSiteEnd, seen_site_end}
use Rattle.dine_site_thread.specs.Threads.{IsThreadRun}
use Rattle.dine_site_thread.specs.Times.{IsTimed, none_late}

module _ {Lane Tx Closed Rx Diner : Type 0} (lane : Ghosts Lane Tx Closed Rx) (eater : diners.Ghosts Diner) where
  -- What a site of this manner leaves, by the core, ports, bell and diner that it was given. For each plan for which
  -- the core was fresh, it ended as a site of that plan. Without a fault, the moments of its events fit its links. Its
  -- diner was called once for each meal, in order. If the site resigns, no call follows one that failed; if it quit, it
  -- resigns, and its last call failed. The bell that it leaves is the one that it was given. After the empty checks
  -- that this bell had noted before, it has noted just those that go with its manner and its journal. Without a fault,
  -- the log of its thread has all that the thread did, turn by turn (`IsThreadRun`).
  pub record IsSiteRun (manner : Manner) (core : SeenCore) (ports : List (Port Lane Tx Closed Rx)) (bell : SeenBell) (diner : Diner) (left : SiteEnd Lane Diner Tx Closed Rx) : Type 0 where
    pub end : (plan : SeenPlan) → IsFreshFor plan core → IsSiteEnd manner plan core.site (seen_ports lane ports) (seen_site_end lane left)
    pub timed : left.fault ≡ None → IsTimed none_late left.clock.events left.journal.items (seen_ports lane left.ports.items)
    pub eaten : HasEaten eater.calls eater.marks eater.fits left.ate left.failed diner left.diner
    pub obeys : ObeysFailures core.resigns left.journal.items (eater.calls diner) (eater.calls left.diner)
    pub same_bell : left.bell.identity ≡ bell.identity
    pub checks : left.bell.found_empty ≡ bell.found_empty ++ empty_checks_of manner left.journal.items
    pub threads : left.fault ≡ None → (plan : SeenPlan) → IsFreshFor plan core → IsThreadRun manner plan core.site (seen_ports lane left.ports.items) left.journal.items left.log.deeds
