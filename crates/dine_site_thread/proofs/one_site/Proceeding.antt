-- How a site goes on: by no step, by one step after others, and by one in which nothing of its meals changes.
use Rattle.std.proofs.Common.{◌≡◌, ℕ, refl, sym, subst, ◌∙◌}
use Rattle.dine_link.specs.Bells.{SeenBell}
use Rattle.dine_link.specs.declared.lane.Lane as lanes
use Rattle.dine_link.specs.declared.thread_log.ThreadLog.{ThreadLog}
use Rattle.dine_site_thread.specs.declared.diner.Diner as diners
use Rattle.dine_site_thread.specs.declared.site_loop.running.Running.{Running}
use Rattle.dine_site_thread.specs.private.Running.{IsReady, IsRunning, Leads, MayProceed, Proceeds, SameMeals, Way, seen_run}
use Rattle.dine_site_thread.proofs.one_site.Ways.{heard_runs}
use Rattle.dine_site_thread.proofs.one_site.Same.{ready_same, eats_same, obeys_same}

module _ {Lane Tx Closed Rx Diner : Type 0} (lane : lanes.Ghosts Lane Tx Closed Rx) (diner : diners.Ghosts Diner) where
  pub proceeds_not : (run : Running Lane Diner Tx Closed Rx) → IsReady diner run → Proceeds lane diner IsRunning run run
  proceeds_not run ready = record {
    way = λ plan given running. running;
    ready = ready;
    eats = λ first eaten. eaten;
    obeys = λ first obeying. obeying;
    manner = refl;
    resigns = refl;
    site = refl;
    same_bell = refl;
    expects = λ plan site is. is;
  }

  module _ (To : Way lane.Identity) where
    pub proceeds_then : {a b c : Running Lane Diner Tx Closed Rx} → Proceeds lane diner IsRunning a b → Proceeds lane diner To b c → Proceeds lane diner To a c
    proceeds_then was did = record {
      way = λ plan given running. did.way plan given (was.way plan given running);
      ready = did.ready;
      eats = λ first eaten. did.eats first (was.eats first eaten);
      obeys = λ first obeying. did.obeys first (was.obeys first obeying);
      manner = did.manner ∙ was.manner;
      resigns = did.resigns ∙ was.resigns;
      site = did.site ∙ was.site;
      same_bell = did.same_bell ∙ was.same_bell;
      expects = λ plan site is. did.expects plan site (was.expects plan site is);
    }

    pub proceeds_same : (old new : Running Lane Diner Tx Closed Rx) → SameMeals old new → IsReady diner old → Leads lane IsRunning To old new → Proceeds lane diner To old new
    proceeds_same old new same ready way = record {
      way = way;
      ready = ready_same diner old new same ready;
      eats = eats_same diner old new same;
      obeys = obeys_same diner old new same;
      manner = same.manner;
      resigns = same.resigns;
      site = same.site;
      same_bell = same.same_bell;
      expects = λ plan site is. subst (λ (one : Diner). diner.expects one plan site) (sym same.diner) is;
    }

    pub proceeds_to : {old new : Running Lane Diner Tx Closed Rx} → Leads lane IsRunning To new new → Proceeds lane diner IsRunning old new → Proceeds lane diner To old new
    proceeds_to to did = record {
      way = λ plan given running. to plan given (did.way plan given running);
      ready = did.ready;
      eats = did.eats;
      obeys = did.obeys;
      manner = did.manner;
      resigns = did.resigns;
      site = did.site;
      same_bell = did.same_bell;
      expects = did.expects;
    }

  pub may_then : {a b : Running Lane Diner Tx Closed Rx} → MayProceed lane diner a → Proceeds lane diner IsRunning a b → MayProceed lane diner b
  may_then {a = a} {b = b} may did =
      let p = may.running in
      record {
        running = (p.0, p.1, did.way p.0 p.1 p.2);
        ready = did.ready;
        expects = subst (diner.expects b.diner p.0) (sym did.site) (did.expects p.0 a.core.site may.expects);
      }

-- a site goes on when its bell was checked, or reported a number
pub proceeds_heard : {Lane Tx Closed Rx Diner : Type 0} (lane : lanes.Ghosts Lane Tx Closed Rx) (diner : diners.Ghosts Diner) (old : Running Lane Diner Tx Closed Rx) (bell : SeenBell) (tally : ℕ) (log : ThreadLog) → bell.refused ≡ old.bell.refused → bell.degree ≡ old.bell.degree → bell.identity ≡ old.bell.identity
    → IsReady diner old → Proceeds lane diner IsRunning old (record old { bell = bell; tally = tally; log = log })
proceeds_heard lane diner old bell tally log unrefused degree identity ready = record {
  way = λ plan given running. heard_runs plan given (seen_run lane old) bell unrefused running;
  ready = record { room = ready.room; failed = ready.failed };
  eats = λ first eaten. eaten;
  obeys = λ first obeying. obeying;
  manner = refl;
  resigns = refl;
  site = refl;
  same_bell = identity;
  expects = λ plan site is. is;
}
