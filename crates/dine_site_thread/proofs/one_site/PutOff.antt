-- What a site has put off concerns nothing else that is known of it.
use Rattle.std.specs.Prelude.{List, Bool}
use Rattle.dine_link.specs.declared.lane.Lane.{Ghosts}
use Rattle.dine_site_thread.specs.declared.diner.Diner as diners
use Rattle.dine_site_thread.specs.declared.site_loop.running.Running.{Running}
use Rattle.dine_site_thread.specs.private.Running.{IsReady, MayProceed, Proceeds, SameMeals, Way}

module _ {Lane Tx Closed Rx Diner : Type 0} where
  -- the site with other letters put off
  abbrev pub putting_off : List Bool → Running Lane Diner Tx Closed Rx → Running Lane Diner Tx Closed Rx
  putting_off marks run = record run { put_off = marks }

  pub same_from : (marks : List Bool) (old new : Running Lane Diner Tx Closed Rx) → SameMeals (putting_off marks old) new → SameMeals old new
  same_from marks old new same = record {
    manner = same.manner;
    site = same.site;
    due = same.due;
    ate = same.ate;
    resigns = same.resigns;
    must_quit = same.must_quit;
    has_quit = same.has_quit;
    diner = same.diner;
    failed = same.failed;
    bell = same.bell;
    same_bell = same.same_bell;
    count = same.count;
  }

  pub ready_off : (diner : diners.Ghosts Diner) (marks : List Bool) (run : Running Lane Diner Tx Closed Rx) → IsReady diner run → IsReady diner (putting_off marks run)
  ready_off diner marks run ready = record { room = ready.room; failed = ready.failed }

module _ {Lane Tx Closed Rx Diner : Type 0} (lane : Ghosts Lane Tx Closed Rx) (diner : diners.Ghosts Diner) where
  pub may_off : (marks : List Bool) (run : Running Lane Diner Tx Closed Rx) → MayProceed lane diner run → MayProceed lane diner (putting_off marks run)
  may_off marks run may = record { running = may.running; ready = ready_off diner marks run may.ready; expects = may.expects }

  pub proceeds_from : (marks : List Bool) (To : Way lane.Identity) (old new : Running Lane Diner Tx Closed Rx) → Proceeds lane diner To (putting_off marks old) new → Proceeds lane diner To old new
  proceeds_from marks To old new p = record {
    way = p.way;
    ready = p.ready;
    eats = p.eats;
    obeys = p.obeys;
    manner = p.manner;
    resigns = p.resigns;
    site = p.site;
    same_bell = p.same_bell;
    expects = p.expects;
  }
