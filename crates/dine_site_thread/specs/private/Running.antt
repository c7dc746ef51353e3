-- A site while it runs: what holds of its core and its link ends between two of its events, before a letter is put,
-- after its first fault, and at its end; and what stays the same.
use Rattle.std.specs.Prelude.{◌≡◌, ◌≢◌, ◌⊎◌, ℕ, ◌+◌, ◌<◌, ◌≤◌, ◌++◌, ◌&&◌, ◌||◌, not, nat_lt, Bool, true, false, List, [], ◌∷◌, length, slice_get, Option, Some, None, option_to_list, Result, MatchResult, vec_len, ◌==◌, if◌then◌else◌, slice_set, OnOk}
use Rattle.dine_graph.specs.Plan.{SeenPlan, IsPlan, site_count}
use Rattle.dine_rules.specs.declared.breach.Breach.{Breach}
use Rattle.dine_rules.specs.declared.events.EventKind.{EventKind}
use Rattle.dine_rules.specs.declared.events.EventKind.TheVariants as event
use Rattle.dine_rules.specs.declared.letters.Letter.{Letter}
use Rattle.dine_rules.specs.Letters.{has_close, kind_of}
use Rattle.dine_rules.specs.Local.{LocalState, Traffic, is_eating, traffic_at}
use Rattle.dine_rules.specs.Steps.{Take, after, may, with_put}
use Rattle.dine_rules.specs.Streams.{KeepsStreams}
use Rattle.dine_site.specs.Core.{SeenCore, Refines}
use Rattle.dine_site.specs.NextEvent.{next_event}
use Rattle.dine_site.specs.Places.{place_at}
use Rattle.dine_site.specs.Standing.{ForEachState, has_finished}
use Rattle.dine_site_thread.specs.declared.diner.Call.{Call}
use Rattle.dine_site_thread.specs.declared.site_end.SiteFault.{SiteFault}
use Rattle.dine_site_thread.specs.declared.site_end.Stray.{Stray}
use Rattle.dine_site_thread.specs.declared.site_loop.running.Stop.{Stop}
use Rattle.dine_site_thread.specs.declared.site_loop.running.Running.{Running}
use Rattle.dine_link.specs.Bells.{SeenBell, after_empty_check}
use Rattle.dine_link.specs.declared.deed.Deed.{Deed}
use Rattle.dine_link.specs.declared.deed.Deed.TheVariants.{Did}
use Rattle.dine_link.specs.declared.wants.Wants.{Wants}
use Rattle.dine_link.specs.Deeds.{hearing, ringing}
use Rattle.dine_site_thread.specs.Threads.{HasWorked, MayHaveSlept, Memo, checking, first_that_matters}
use Rattle.dine_site_thread.specs.Diners.{HasEaten}
use Rattle.dine_site_thread.specs.declared.manner.Manner.{Manner}
use Rattle.dine_site_thread.specs.Doings.{HasActed, HasDone, MayTakeBefore, begins_from, empty_checks_of, is_checking, is_on_call, tally_after, tally_then}
use Rattle.dine_site_thread.specs.Ports.{BrokeOffUnheard, HasRung, IsUnrefused, SeenPort, SameLinks, PutsFit, seen_ports}
use Rattle.dine_rules.specs.Moments.{last_moment}
use Rattle.dine_site_thread.specs.Times.{IsTimed, none_late}
use Rattle.dine_site_thread.specs.Endings.{IsBreached, IsLost, breached_at, hands_back, links_at, refused_at}
use Rattle.dine_site_thread.specs.SiteEnds.{HasBellRefused}
use Rattle.dine_link.specs.declared.lane.Lane.{Ghosts}
use Rattle.dine_site_thread.specs.declared.site_end.SiteFault.TheVariants as fault
use Rattle.dine_site_thread.specs.declared.diner.Diner as diners

-- the moment of a letter at place k whose event was done, and which is not put yet
abbrev pub late_at : ℕ → ℕ → ℕ → List ℕ
late_at k m i = if i == k then m ∷ [] else []

-- a site while it runs, without its diner
pub record SeenRun (Identity : Type 0) : Type 0 where
  pub manner : Manner
  pub core : SeenCore
  pub ports : List (SeenPort Identity)
  pub bell : SeenBell
  pub journal : List EventKind

-- P holds at each place, of what the state put and took there, and of the port
abbrev pub AtEach : {Identity : Type 0} → (ℕ → Traffic → SeenPort Identity → Type 0) → LocalState → List (SeenPort Identity) → Type 0
AtEach {Identity} P state ports = (i : ℕ) (port : SeenPort Identity) → slice_get ports i ≡ Some port → P i (traffic_at state i) port

-- the links have exactly what the state put and took; the end is live if the state has not put Close; the bell was rung
-- for each letter put; and nothing was refused
pub record RunsAt {Identity : Type 0} (traffic : Traffic) (port : SeenPort Identity) : Type 0 where
  pub puts : port.tx.letters ≡ traffic.put
  pub takes : port.rx.letters ≡ traffic.taken
  pub live : port.is_live ≡ not (has_close traffic.put)
  pub rang : port.ringer.rings ≡ length port.tx.letters
  pub unrefused : IsUnrefused port

-- The same, except for a letter that the link refused, for the letter of a breach, and for a Close that the link
-- refused. Among the letters before that Close at most one has no ring.
pub record StopsAt {Identity : Type 0} (refused breached : Option Letter) (traffic : Traffic) (port : SeenPort Identity) : Type 0 where
  pub puts : PutsFit port.tx.refused refused traffic.put port.tx.letters
  pub takes : port.rx.letters ≡ traffic.taken ++ option_to_list breached
  pub live : has_close traffic.put ≡ false → port.is_live ≡ true
  pub rang : HasRung port
  pub rang_open : has_close traffic.put ≡ false → length port.tx.letters ≤ port.ringer.rings + 1

-- The core represents a state that keeps the streams and in which the site does not eat. The link ends are those that
-- the site was given, one pair for each place.
pub record HasState {Identity : Type 0} (plan : SeenPlan) (given : List (SeenPort Identity)) (run : SeenRun Identity) (state : LocalState) : Type 0 where
  pub is_plan : IsPlan plan
  pub is_site : run.core.site < site_count plan
  pub keeps : KeepsStreams plan run.core.site state
  pub stands : Refines plan state run.core
  pub rests : is_eating state.phase ≡ false
  pub count : length run.ports ≡ length given
  pub places : length run.ports ≡ length run.core.places
  pub same_links : (i : ℕ) (old new : SeenPort Identity) → slice_get given i ≡ Some old → slice_get run.ports i ≡ Some new → SameLinks old new

-- Between two events, without a fault. The events of the journal led to the state, each in its turn, and no wait was
-- refused.
pub record IsRunning {Identity : Type 0} (plan : SeenPlan) (given : List (SeenPort Identity)) (run : SeenRun Identity) : Type 0 where
  pub state : LocalState
  pub has : HasState plan given run state
  pub lists : AtEach (λ i. RunsAt) state run.ports
  pub heard : run.bell.refused ≡ false
  pub did : HasActed run.manner plan run.core.site run.journal state

-- The core has put the letter at place i, and the link does not have it yet.
pub record IsPutting {Identity : Type 0} (i : ℕ) (letter : Letter) (plan : SeenPlan) (given : List (SeenPort Identity)) (run : SeenRun Identity) : Type 0 where
  pub before : LocalState
  pub within : i < length before.traffic
  pub open_place : has_close (traffic_at before i).put ≡ false
  pub has : HasState plan given run (with_put i letter before)
  pub lists : AtEach (λ j. RunsAt) before run.ports
  pub heard : run.bell.refused ≡ false
  pub did : HasActed run.manner plan run.core.site run.journal (with_put i letter before)

-- After the first fault. The cause and the letter that was handed back are as reported, and the site was started.
pub record IsStopped {Identity : Type 0} (stray : Option Stray) (cause : SiteFault) (plan : SeenPlan) (given : List (SeenPort Identity)) (run : SeenRun Identity) : Type 0 where
  pub state : LocalState
  pub has : HasState plan given run state
  pub lists : AtEach (λ i. StopsAt (refused_at i (Some cause) stray) (breached_at i (Some cause) stray)) state run.ports
  pub did : HasDone run.manner plan run.core.site run.journal state
  pub breach : (link : ℕ) (breach : Breach) → cause ≡ fault.Breach link breach → IsBreached plan run.core.site state stray link breach
  pub lost : (link : ℕ) → cause ≡ fault.Lost link → IsLost (length state.traffic) (links_at run.ports) stray link
  pub lost_bell : (degree : ℕ) → cause ≡ fault.LostBell degree → (degree ≡ length state.traffic) × HasBellRefused run.ports run.bell
  pub take_reported : (i : ℕ) (port : SeenPort Identity) → slice_get run.ports i ≡ Some port → port.rx.refused ≡ true → cause ≡ fault.Lost i
  pub wait_reported : run.bell.refused ≡ true → cause ≡ fault.LostBell (length state.traffic)
  pub ring_reported : (i : ℕ) (port : SeenPort Identity) → slice_get run.ports i ≡ Some port → port.ringer.refused ≡ true → (cause ≡ fault.LostBell (length state.traffic)) ⊎ BrokeOffUnheard i run.journal port
  pub no_stray : hands_back (Some cause) ≡ false → stray ≡ None
  pub started : cause ≢ fault.NotStarted

-- in each state that the core represents, this is the first event that needs no letter, or there is none
abbrev pub IsNext : Option EventKind → SeenCore → Type 0
IsNext next core = ForEachState core (λ plan state. next_event plan core.site state ≡ next)

-- in each state that the core represents, a site of this manner may take a letter
abbrev pub MayTakeNow : Manner → SeenCore → Type 0
MayTakeNow manner core = ForEachState core (λ plan state. MayTakeBefore manner (next_event plan core.site state))

-- the tally of a site of this manner, by its journal
abbrev pub tally_by : Manner → List EventKind → ℕ
tally_by manner journal = tally_after manner 0 (begins_from 0 journal)

-- the bell once a site of this manner that did this number of events found no ring left, if it checked
abbrev pub checked_by : Manner → ℕ → ℕ → SeenBell → SeenBell
checked_by manner tally events bell = if is_checking manner tally then after_empty_check events bell else bell

-- Close is put at each of the places below i
abbrev pub ClosedBelow : ℕ → SeenCore → Type 0
ClosedBelow i core = (j : ℕ) → j < i → (place_at core j).close_put ≡ true

-- the site is finished, in each state that its core represents
abbrev pub IsFinished : SeenCore → Type 0
IsFinished core = ForEachState core (λ plan state. has_finished plan core.site state ≡ true)

-- what holds when the site ends: without a fault it is finished, and after a fault Close is put at every place
abbrev pub MayEnd : {Identity : Type 0} → Option Stray → Option SiteFault → SeenPlan → List (SeenPort Identity) → SeenRun Identity → Type 0
MayEnd stray None plan given run = IsRunning plan given run × IsFinished run.core × (stray ≡ None)
MayEnd stray (Some cause) plan given run = IsStopped stray cause plan given run × ClosedBelow (length run.core.places) run.core

-- after a call returned: the site goes on, or it has stopped with this cause and this stray
abbrev pub GoesOn : {Identity : Type 0} → Result (Unit {0}) Stop → SeenPlan → List (SeenPort Identity) → SeenRun Identity → Type 0
GoesOn result plan given run = MatchResult result (λ _. IsRunning plan given run) (λ stop. IsStopped stop.stray stop.fault plan given run)

-- the same, and if it goes on it is finished
abbrev pub GoesToEnd : {Identity : Type 0} → Result (Unit {0}) Stop → SeenPlan → List (SeenPort Identity) → SeenRun Identity → Type 0
GoesToEnd result plan given run = MatchResult result (λ _. IsRunning plan given run × IsFinished run.core) (λ stop. IsStopped stop.stray stop.fault plan given run)

-- a property of a site while it runs, by a plan and the ports that it was given
abbrev pub Way : Type 0 → Type 1
Way Identity = SeenPlan → List (SeenPort Identity) → SeenRun Identity → Type 0

module _ {Lane Tx Closed Rx Diner : Type 0} (lane : Ghosts Lane Tx Closed Rx) where
  -- what is seen of a site while it runs
  abbrev pub seen_run : Running Lane Diner Tx Closed Rx → SeenRun lane.Identity
  seen_run run = record { manner = run.manner; core = run.core; ports = seen_ports lane run.ports.items; bell = run.bell; journal = run.journal.items }

  -- the moments of its events fit its link ends
  abbrev pub IsTimedRun : Running Lane Diner Tx Closed Rx → Type 0
  IsTimedRun run = IsTimed none_late run.clock.events run.journal.items (seen_ports lane run.ports.items)

  -- the same, except for the letter of the last event, which is not put yet at this place
  abbrev pub IsTimedBut : ℕ → Running Lane Diner Tx Closed Rx → Type 0
  IsTimedBut i run = IsTimed (late_at i (last_moment run.clock.events)) run.clock.events run.journal.items (seen_ports lane run.ports.items)

  -- P holds for some plan, and some ports that the site was given
  abbrev pub ForSomePlan : Way lane.Identity → Running Lane Diner Tx Closed Rx → Type 0
  ForSomePlan P run = (plan : SeenPlan) × (given : List (SeenPort lane.Identity)) × P plan given (seen_run run)

  -- for each plan and ports for which P holds of the old site, Q holds of the new one
  abbrev pub Leads : Way lane.Identity → Way lane.Identity → Running Lane Diner Tx Closed Rx → Running Lane Diner Tx Closed Rx → Type 0
  Leads P Q old new = (plan : SeenPlan) (given : List (SeenPort lane.Identity)) → P plan given (seen_run old) → Q plan given (seen_run new)

  -- it has stopped, with some stray and some cause
  abbrev pub HasStopped : Running Lane Diner Tx Closed Rx → Type 0
  HasStopped run = (stray : Option Stray) × (cause : SiteFault) × ForSomePlan (IsStopped stray cause) run

  -- a site that has stopped stays so, with the same stray and the same cause
  abbrev pub StaysStopped : Running Lane Diner Tx Closed Rx → Running Lane Diner Tx Closed Rx → Type 0
  StaysStopped old new = (stray : Option Stray) (cause : SiteFault) → Leads (IsStopped stray cause) (IsStopped stray cause) old new

-- the last of these calls failed
abbrev pub last_failed : List Call → Bool
last_failed [] = false
last_failed (call ∷ []) = not call.ok
last_failed (call ∷ next ∷ calls) = last_failed (next ∷ calls)

-- none of these calls failed but the last
abbrev pub only_last_failed : List Call → Bool
only_last_failed [] = true
only_last_failed (call ∷ []) = true
only_last_failed (call ∷ next ∷ calls) = call.ok && only_last_failed (next ∷ calls)

-- How a site obeys the calls of its diner since some start. If it resigns, no call follows one that failed. It drops
-- its meals, that is, it has to quit or has quit, exactly if the last call failed, it resigns, and it has meals left.
pub record IsObeying (resigns drops has_left : Bool) (first now : List Call) : Type 0 where
  pub added : List Call
  pub called : now ≡ first ++ added
  pub stops : resigns ≡ true → only_last_failed added ≡ true
  pub drops_where : drops ≡ (last_failed added && resigns && has_left)

module _ {Lane Tx Closed Rx Diner : Type 0} (diner : diners.Ghosts Diner) where
  -- The diner has capacity for the calls of all meals to come, and no more meals failed than were begun.
  pub record IsReady (run : Running Lane Diner Tx Closed Rx) : Type 0 where
    pub room : run.core.due ≤ run.core.ate + diner.room_left run.diner
    pub failed : run.failed ≤ run.core.ate

  -- what the diner did since any start goes on to what it has done now: it was called for each meal since
  abbrev pub EatsOn : Running Lane Diner Tx Closed Rx → Running Lane Diner Tx Closed Rx → Type 0
  EatsOn old new = (first : Diner) → HasEaten diner.calls diner.marks diner.fits old.core.ate old.failed first old.diner
      → HasEaten diner.calls diner.marks diner.fits new.core.ate new.failed first new.diner

  -- if the site obeyed the calls of its diner since any start before, it does so still
  abbrev pub ObeysOn : Running Lane Diner Tx Closed Rx → Running Lane Diner Tx Closed Rx → Type 0
  ObeysOn old new = (first : List Call)
      → IsObeying old.core.resigns (old.core.must_quit || old.core.has_quit) (nat_lt old.core.ate old.core.due) first (diner.calls old.diner)
      → IsObeying new.core.resigns (new.core.must_quit || new.core.has_quit) (nat_lt new.core.ate new.core.due) first (diner.calls new.diner)

module _ {Lane Tx Closed Rx Diner : Type 0} (lane : Ghosts Lane Tx Closed Rx) (diner : diners.Ghosts Diner) where
  -- what a site has between two events, so that it may do the next; its diner expects to eat there, in that plan
  pub record MayProceed (run : Running Lane Diner Tx Closed Rx) : Type 0 where
    pub running : ForSomePlan lane IsRunning run
    pub ready : IsReady diner run
    pub expects : diner.expects run.diner running.0 run.core.site

  -- What a site keeps as it goes on: it gets to where `To` says, it is ready still, its diner was called for each meal
  -- and expects what it did, the site obeyed its calls, and it has the bell that it had.
  pub record Proceeds (To : Way lane.Identity) (old new : Running Lane Diner Tx Closed Rx) : Type 0 where
    pub way : Leads lane IsRunning To old new
    pub ready : IsReady diner new
    pub eats : EatsOn diner old new
    pub obeys : ObeysOn diner old new
    pub manner : new.manner ≡ old.manner
    pub resigns : new.core.resigns ≡ old.core.resigns
    pub site : new.core.site ≡ old.core.site
    pub same_bell : new.bell.identity ≡ old.bell.identity
    pub expects : (plan : SeenPlan) (site : ℕ) → diner.expects old.diner plan site → diner.expects new.diner plan site

-- After these first checks, the bell had no ring left just when a site of this manner checks it, by the site's journal;
-- its clock has as many events as the journal; and this is its tally.
pub record AreChecks (first : List ℕ) (manner : Manner) (tally : ℕ) (found_empty : List ℕ) (events : List (EventKind × ℕ)) (journal : List EventKind) : Type 0 where
  pub checks : found_empty ≡ first ++ empty_checks_of manner journal
  pub noted : length events ≡ length journal
  pub left : tally ≡ tally_by manner journal

module _ {Lane Tx Closed Rx Diner : Type 0} where
  -- after these first checks its bell had no ring left just when its manner says, by its journal
  abbrev pub HasChecked : List ℕ → Running Lane Diner Tx Closed Rx → Type 0
  HasChecked first run = AreChecks first run.manner run.tally run.bell.found_empty run.clock.events run.journal.items

  -- if it was so, it is so still
  abbrev pub ChecksOn : Running Lane Diner Tx Closed Rx → Running Lane Diner Tx Closed Rx → Type 0
  ChecksOn old new = (first : List ℕ) → HasChecked first old → HasChecked first new

  -- The site, its meals, its policy and the diner are as they were, and so is the number of ports. The bell is the one
  -- that it had, of the same degree.
  pub record SameMeals (old new : Running Lane Diner Tx Closed Rx) : Type 0 where
    pub manner : new.manner ≡ old.manner
    pub site : new.core.site ≡ old.core.site
    pub due : new.core.due ≡ old.core.due
    pub ate : new.core.ate ≡ old.core.ate
    pub resigns : new.core.resigns ≡ old.core.resigns
    pub must_quit : new.core.must_quit ≡ old.core.must_quit
    pub has_quit : new.core.has_quit ≡ old.core.has_quit
    pub diner : new.diner ≡ old.diner
    pub failed : new.failed ≡ old.failed
    pub bell : new.bell.degree ≡ old.bell.degree
    pub same_bell : new.bell.identity ≡ old.bell.identity
    pub count : vec_len new.ports ≡ vec_len old.ports

-- ---- what the thread does beside its events

-- The site runs, and its thread did turns, which are all in the log. They left it this memo.
abbrev pub IsWorking : {Identity : Type 0} → SeenPlan → List (SeenPort Identity) → SeenRun Identity → Memo → List Deed → Type 0
IsWorking plan given run memo deeds = (running : IsRunning plan given run) × HasWorked run.manner plan run.core.site run.journal running.state memo deeds

-- The core has put the letter at place i, and the link does not have it yet. Once the thread has rung for it, and woken
-- the neighbour if the ring has to, its turn is done.
abbrev pub IsToRing : {Identity : Type 0} → ℕ → Letter → SeenPlan → List (SeenPort Identity) → SeenRun Identity → Memo → List Deed → Type 0
IsToRing i letter plan given run memo deeds = (putting : IsPutting i letter plan given run) × ((woken : Bool) → HasWorked run.manner plan run.core.site run.journal (with_put i letter putting.before) memo (deeds ++ ringing i (kind_of letter) woken))

-- The thread may begin a meal. If a check is due, it has checked its bell since its last turn and found no ring, and
-- none of the letters that it put off matters. It has counted the meal.
abbrev pub IsToEat : {Identity : Type 0} → SeenPlan → List (SeenPort Identity) → SeenRun Identity → Memo → List Deed → Type 0
IsToEat plan given run memo deeds = (running : IsRunning plan given run) × (old : Memo) × (before : List Deed) × HasWorked run.manner plan run.core.site run.journal running.state old before
    × (is_checking run.manner old.tally ≡ true → first_that_matters plan run.core.site running.state old ≡ None)
    × (deeds ≡ before ++ checking run.manner old.tally) × (memo ≡ record old { tally = tally_then run.manner old.tally })

-- The thread has heard a ring for place i since its last turn, and may have slept before.
abbrev pub HasHeardAt : {Identity : Type 0} → ℕ → SeenPlan → List (SeenPort Identity) → SeenRun Identity → Memo → List Deed → Type 0
HasHeardAt i plan given run memo deeds = (running : IsRunning plan given run) × (before : List Deed) × (slept : Option Wants)
    × HasWorked run.manner plan run.core.site run.journal running.state memo before × (deeds ≡ before ++ hearing slept i) × MayHaveSlept run.manner plan run.core.site running.state memo slept

-- The thread goes for the letter at place i that it put off: of those that matter now, the first.
abbrev pub HasRecalled : {Identity : Type 0} → ℕ → SeenPlan → List (SeenPort Identity) → SeenRun Identity → Memo → List Deed → Type 0
HasRecalled i plan given run memo deeds = (running : IsRunning plan given run) × (old : Memo) × HasWorked run.manner plan run.core.site run.journal running.state old deeds
    × (first_that_matters plan run.core.site running.state old ≡ Some i) × (memo ≡ record old { put_off = slice_set old.put_off i false })

-- Once the thread has taken a letter at place i that the rules allow, its turn is done.
abbrev pub IsToTake : {Identity : Type 0} → ℕ → SeenPlan → List (SeenPort Identity) → SeenRun Identity → Memo → List Deed → Type 0
IsToTake i plan given run memo deeds = (running : IsRunning plan given run) × ((letter : Letter) → may plan run.core.site running.state (Take i letter) ≡ true
    → HasWorked run.manner plan run.core.site (run.journal ++ event.Take i ∷ []) (after plan run.core.site running.state (Take i letter)) memo (deeds ++ Did (event.Take i) ∷ []))

-- what holds of a site while it runs, with what its thread remembers and the log of its thread
abbrev pub Stage : Type 0 → Type 1
Stage Identity = SeenPlan → List (SeenPort Identity) → SeenRun Identity → Memo → List Deed → Type 0

module _ {Lane Tx Closed Rx Diner : Type 0} where
  -- what the thread remembers beside the state of its site
  abbrev pub memo_of : Running Lane Diner Tx Closed Rx → Memo
  memo_of run = record { put_off = run.put_off; tally = run.tally }

-- In each state that the core represents, the site can do nothing without a letter, or it is on call and may only grow
-- hungry.
abbrev pub IsIdle : Manner → SeenCore → Type 0
IsIdle manner core = ForEachState core (λ plan state. (next_event plan core.site state ≡ None) ⊎ ((is_on_call manner ≡ true) × (next_event plan core.site state ≡ Some event.Hungry)))

-- in each state that the core represents, this is the first place whose letter is put off and matters now, if there is
-- one
abbrev pub MattersFirst : SeenCore → Memo → Option ℕ → Type 0
MattersFirst core memo first = ForEachState core (λ plan state. first_that_matters plan core.site state memo ≡ first)

module _ {Lane Tx Closed Rx Diner : Type 0} (lane : Ghosts Lane Tx Closed Rx) where
  -- For each plan and ports for which P holds of the old site and its log, the new one is between two turns, if the
  -- call returned Ok.
  abbrev pub WorksOn : Stage lane.Identity → Result (Unit {0}) Stop → Running Lane Diner Tx Closed Rx → Running Lane Diner Tx Closed Rx → Type 0
  WorksOn P result old new = (plan : SeenPlan) (given : List (SeenPort lane.Identity)) → P plan given (seen_run lane old) (memo_of old) old.log.deeds → OnOk result (IsWorking plan given (seen_run lane new) (memo_of new) new.log.deeds)
