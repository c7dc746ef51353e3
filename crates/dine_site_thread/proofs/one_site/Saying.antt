-- An event that puts a letter: the core has done it and the journal has it, and then the letter is put.
use Rattle.std.proofs.Common.{◌≡◌, ◌+◌, ◌++◌, ◌∷◌, [], ℕ, Bool, List, Option, true, false, None, Result, Some, refl, sym, ◌∙◌, ap, subst, arith}
use Rattle.std.proofs.lemmas.List.{append_assoc}
use Rattle.std.specs.Prelude.{OnOk}
use Rattle.std.specs.Global.{Vec}
use Rattle.dine_rules.specs.Moments.{last_moment}
use Rattle.dine_rules.specs.declared.events.Shape.TheVariants.{Puts}
use Rattle.dine_rules.specs.Steps.{Step, shape_of, step_by}
use Rattle.dine_rules.specs.declared.clock.Clock.{Clock}
use Rattle.dine_rules.specs.Letters.{kind_of}
use Rattle.dine_rules.specs.Local.{LocalState}
use Rattle.dine_link.specs.declared.deed.Deed.{Deed}
use Rattle.dine_link.specs.declared.deed.Deed.TheVariants.{Did}
use Rattle.dine_link.specs.Deeds.{ringing}
use Rattle.dine_link.specs.declared.thread_log.ThreadLog.{ThreadLog}
use Rattle.dine_rules.specs.declared.events.EventKind.{EventKind}
use Rattle.dine_rules.specs.declared.letters.Letter.{Letter}
use Rattle.dine_site.specs.Core.{SeenCore}
use Rattle.dine_site.specs.Places.{with_place}
use Rattle.dine_site.specs.Standing.{CorePuts}
use Rattle.dine_site.specs.declared.site.places.Place.{Place}
use Rattle.dine_link.specs.declared.lane.Lane as lanes
use Rattle.dine_site_thread.specs.declared.diner.Diner as diners
use Rattle.dine_site_thread.specs.declared.site_loop.running.Running.{Running}
use Rattle.dine_site_thread.specs.declared.site_loop.running.Stop.{Stop}
use Rattle.dine_site_thread.specs.Doings.{event_of, is_begin, own_event}
use Rattle.dine_site_thread.specs.Ports.{seen_ports}
use Rattle.dine_site_thread.specs.private.Running.{ChecksOn, ForSomePlan, GoesOn, IsNext, IsPutting, IsRunning, IsToRing, IsTimedBut, IsTimedRun, Leads, MayProceed, Proceeds, SameMeals, WorksOn, IsWorking, memo_of, seen_run}
use Rattle.dine_site_thread.proofs.shared.one_site.AtPlaces.{Opens, putting}
use Rattle.dine_site_thread.proofs.one_site.Checks.{checks_more}
use Rattle.dine_site_thread.proofs.one_site.Proceeding.{proceeds_same}
use Rattle.dine_site_thread.proofs.one_site.Same.{same_but_place}
use Rattle.dine_site_thread.proofs.one_site.Times.{begins_put, on_ok}
use Rattle.dine_site_thread.proofs.one_site.Turns.{JournalsGrow}
use Rattle.dine_site_thread.proofs.one_site.Working.{worked_more}
use Rattle.dine_site_thread.specs.Threads.{Acts, HasWorked, acts_alone, deeds_of}

module _ {Lane Tx Closed Rx Diner : Type 0} (lane : lanes.Ghosts Lane Tx Closed Rx) (diner : diners.Ghosts Diner) (grows : JournalsGrow) (old : Running Lane Diner Tx Closed Rx)
    (i : ℕ) (step : Step) (opens : Opens i step) (kind : EventKind) (is_step : step_by false (λ j. None) kind ≡ Some step) (is_event : event_of step ≡ Some kind)
    (core : SeenCore) (letter : Letter) (puts : CorePuts i step old.core core letter) (next : IsNext (own_event step) old.core)
    (journal : Vec EventKind) (noted : journal.items ≡ old.journal.items ++ kind ∷ []) (clock : Clock) (log : ThreadLog) where
  -- the site before the letter is put
  abbrev said : Running Lane Diner Tx Closed Rx
  said = record old { core = core; journal = journal; clock = clock; log = log }

  pub leads_said : Leads lane IsRunning (IsPutting i letter) old said
  leads_said plan given running = putting plan given i step letter opens grows kind is_step is_event (seen_run lane old) core journal.items noted puts next running

  pub is_said : ForSomePlan lane IsRunning old → ForSomePlan lane (IsPutting i letter) said
  is_said running = (running.0, running.1, leads_said running.0 running.1 running.2)

  -- the log has the event, and once it has the ring, and the wake if there is one, the turn is done
  pub works_said : acts_alone step ≡ true → ((woken : Bool) → deeds_of old.manner (memo_of old) (Acts step woken) ≡ Did kind ∷ ringing i (kind_of letter) woken) → log.deeds ≡ old.log.deeds ++ Did kind ∷ []
      → (new : Running Lane Diner Tx Closed Rx) (result : Result (Unit {0}) Stop) → WorksOn lane (IsToRing i letter) result said new → WorksOn lane IsWorking result old new
  unfolding leads_said putting
  works_said alone deeds logged new result goes plan given was =
      let running = was.0 in
      let did = puts plan running.state running.has.keeps running.has.stands in
      let ring : Bool → List Deed = ringing i (kind_of letter) in
      let all : (woken : Bool) → log.deeds ++ ring woken ≡ old.log.deeds ++ deeds_of old.manner (memo_of old) (Acts step woken) =
      λ woken. ap (λ (ds : List Deed). ds ++ ring woken) logged ∙ append_assoc old.log.deeds (Did kind ∷ []) (ring woken) ∙ ap (λ (ds : List Deed). old.log.deeds ++ ds) (sym (deeds woken)) in
      goes plan given (
        leads_said plan given running,
        λ woken. subst (λ (x : LocalState). HasWorked old.manner plan core.site journal.items x (memo_of old) (log.deeds ++ ring woken)) did.0
            (worked_more old.manner plan (Acts step woken) (kind ∷ []) was.1 (alone, next plan running.state running.has.keeps running.has.stands) (did.1.allowed.needs, refl) (ap (λ (o : Option EventKind). o ∷ []) is_event) did.1.site noted refl (all woken)),
      )

  module _ (later : clock.events ≡ old.clock.events ++ (kind, last_moment old.clock.events + 1) ∷ []) (no_begin : is_begin kind ≡ false) (shape : shape_of kind ≡ Puts i)
      (place : Place) (is_core : core ≡ with_place i place old.core) (ready : MayProceed lane diner old)
      (new : Running Lane Diner Tx Closed Rx) (result : Result (Unit {0}) Stop) (same : SameMeals said new) where
    pub proceeds_said : Leads lane (IsPutting i letter) (GoesOn result) said new → Proceeds lane diner (GoesOn result) old new
    proceeds_said way = proceeds_same lane diner (GoesOn result) old new (same_but_place old new i place core journal clock log is_core same) ready.ready (λ plan given running. way plan given (leads_said plan given running))

    pub timed_said : OnOk result (IsTimedBut lane i said → IsTimedRun lane new) → OnOk result (IsTimedRun lane old → IsTimedRun lane new)
    timed_said = on_ok result (λ goes timed. goes (begins_put old.clock.events old.journal.items (seen_ports lane old.ports.items) kind (last_moment old.clock.events + 1) (omega arith) timed journal.items noted clock.events later i shape))

    pub checks_said : ChecksOn said new → ChecksOn old new
    checks_said checks first are = checks first (checks_more first old.manner old.tally old.bell.found_empty old.clock.events old.journal.items kind (last_moment old.clock.events + 1) no_begin clock.events later journal.items noted are)
