-- What moves into the thread of a site, and what the thread leaves.
use Rattle.std.specs.Prelude.{◌≡◌, ℕ, ◌≤◌, false, List, [], All, length, slice_get, Some, None}
use Rattle.dine_graph.specs.Plan.{SeenPlan}
use Rattle.std.specs.declared.thread.PromisedHandle.{PromisedHandle}
use Rattle.dine_site.specs.Standing.{IsFreshFor}
use Rattle.dine_threads.specs.declared.starts.EndOf.{EndOf}
use Rattle.dine_threads.specs.declared.starts.SiteStart.{SiteStart}
use Rattle.dine_site_thread.specs.declared.site_end.SiteEnd.{SiteEnd}
use Rattle.dine_site_thread.specs.declared.manner.Manner.{Manner}
use Rattle.dine_site_thread.specs.Doings.{empty_checks_of}
use Rattle.dine_site_thread.specs.Diners.{HasEaten, ObeysFailures}
use Rattle.dine_site_thread.specs.Ports.{IsFreshPort, seen_ports}
use Rattle.dine_site_thread.specs.Starts.{MayStart}
use Rattle.dine_site_thread.specs.Threads.{IsThreadRun}
use Rattle.dine_site_thread.specs.Times.{IsTimed, none_late}
use Rattle.dine_site_thread.specs.SiteEnds.{IsLeft, seen_site_end}
use Rattle.dine_link.specs.declared.lane.Lane.{Ghosts}
use Rattle.dine_site_thread.specs.declared.diner.Diner as diners

-- what moved into the thread
abbrev pub given_to : {Lane D Tx Closed Rx : Type 0} → PromisedHandle (SiteEnd Lane D Tx Closed Rx) (EndOf Lane D Tx Closed Rx) → SiteStart Lane D Tx Closed Rx
given_to child = child.promise.start.value

module _ {Lane Tx Closed Rx D : Type 0} (lane : Ghosts Lane Tx Closed Rx) where
  -- What moves into a thread is ready: a core that has done no event, unused link ends for its places, a bell, and a
  -- diner that has capacity for all its meals and expects to eat there.
  pub record IsReady (eater : diners.Ghosts D) (start : SiteStart Lane D Tx Closed Rx) : Type 0 where
    pub fresh : MayStart eater start.diner start.packed
    pub ports : length start.ports.items ≡ length start.packed.places
    pub unused : All IsFreshPort (seen_ports lane start.ports.items)
    pub unrefused : start.bell.refused ≡ false
    pub unchecked : start.bell.found_empty ≡ []
    pub room_left : start.packed.due ≤ eater.room_left start.diner

  -- what the thread leaves of what moved into it, in every plan for which the core was fresh
  pub record IsEndOf (eater : diners.Ghosts D) (start : SiteStart Lane D Tx Closed Rx) (end : SiteEnd Lane D Tx Closed Rx) : Type 0 where
    pub left : (plan : SeenPlan) → IsFreshFor plan start.packed → IsLeft start.manner plan start.packed.site (seen_ports lane start.ports.items) (seen_site_end lane end)
    pub eaten : HasEaten eater.calls eater.marks eater.fits end.ate end.failed start.diner end.diner
    pub timed : end.fault ≡ None → IsTimed none_late end.clock.events end.journal.items (seen_ports lane end.ports.items)
    pub obeys : ObeysFailures start.packed.resigns end.journal.items (eater.calls start.diner) (eater.calls end.diner)
    pub checks : end.bell.found_empty ≡ empty_checks_of start.manner end.journal.items
    pub threads : end.fault ≡ None → (plan : SeenPlan) → IsFreshFor plan start.packed → IsThreadRun start.manner plan start.packed.site (seen_ports lane end.ports.items) end.journal.items end.log.deeds

-- in order, each site has a core that is fresh for the plan, and is of this manner
abbrev pub AreStartsOf : {Lane Tx Closed Rx D : Type 0} → Manner → SeenPlan → List (SiteStart Lane D Tx Closed Rx) → Type 0
AreStartsOf {Lane} {Tx} {Closed} {Rx} {D} manner plan starts = (s : ℕ) (start : SiteStart Lane D Tx Closed Rx) → slice_get starts s ≡ Some start → IsFreshFor plan start.packed × (start.packed.site ≡ s) × (start.manner ≡ manner)
