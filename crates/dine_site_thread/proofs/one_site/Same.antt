-- What goes on as it was, where nothing of a site's meals changes.
use Rattle.std.proofs.Common.{◌≡◌, ℕ, ◌||◌, refl, ap, ap₂, ◌∙◌, arith}
use Rattle.std.specs.Prelude.{nat_lt, vec_len}
use Rattle.std.specs.Global.{Vec}
use Rattle.dine_rules.specs.declared.clock.Clock.{Clock}
use Rattle.dine_link.specs.declared.thread_log.ThreadLog.{ThreadLog}
use Rattle.dine_site.specs.Core.{SeenCore}
use Rattle.dine_site.specs.Places.{with_place}
use Rattle.dine_site.specs.declared.site.places.Place.{Place}
use Rattle.dine_rules.specs.declared.events.EventKind.{EventKind}
use Rattle.dine_rules.specs.declared.phase.Phase.{Phase}
use Rattle.dine_site_thread.specs.declared.diner.Diner as diners
use Rattle.dine_site_thread.specs.declared.port.Port.{Port}
use Rattle.dine_site_thread.specs.declared.site_loop.running.Running.{Running}
use Rattle.dine_site_thread.specs.private.Running.{EatsOn, ObeysOn, IsReady, SameMeals}
use Rattle.dine_site_thread.proofs.shared.one_site.Obeying.{obeying_as}
use Rattle.dine_site_thread.proofs.one_site.Meals.{eaten_same}

module _ {Lane Tx Closed Rx Diner : Type 0} (diner : diners.Ghosts Diner) (old new : Running Lane Diner Tx Closed Rx) (same : SameMeals old new) where
  pub ready_same : IsReady diner old → IsReady diner new
  ready_same ready = record {
    room = omega (arith, ready.room, same.due, same.ate, ap diner.room_left same.diner);
    failed = omega (arith, ready.failed, same.failed, same.ate);
  }

  pub eats_same : EatsOn diner old new
  eats_same first eaten =
      eaten_same diner.calls diner.marks diner.fits old.core.ate old.failed new.core.ate new.failed first old.diner new.diner eaten same.ate same.failed same.diner

  pub obeys_same : ObeysOn diner old new
  obeys_same first obeying =
      obeying_as old.core.resigns (old.core.must_quit || old.core.has_quit) (nat_lt old.core.ate old.core.due) new.core.resigns (new.core.must_quit || new.core.has_quit) (nat_lt new.core.ate new.core.due) first (diner.calls old.diner) (diner.calls new.diner)
      same.resigns (ap₂ ◌||◌ same.must_quit same.has_quit) (ap₂ nat_lt same.ate same.due) (ap diner.calls same.diner) obeying

module _ {Lane Tx Closed Rx Diner : Type 0} (old new : Running Lane Diner Tx Closed Rx) where
  -- where only a place of the core was written, and the journal, and then nothing of the meals changed
  pub same_but_place : (i : ℕ) (place : Place) (core : SeenCore) (journal : Vec EventKind) (clock : Clock) (log : ThreadLog) → core ≡ with_place i place old.core → SameMeals (record old { core = core; journal = journal; clock = clock; log = log }) new → SameMeals old new
  same_but_place i place core journal clock log is same = record {
    manner = same.manner;
    site = same.site ∙ ap (λ (x : SeenCore). x.site) is;
    due = same.due ∙ ap (λ (x : SeenCore). x.due) is;
    ate = same.ate ∙ ap (λ (x : SeenCore). x.ate) is;
    resigns = same.resigns ∙ ap (λ (x : SeenCore). x.resigns) is;
    must_quit = same.must_quit ∙ ap (λ (x : SeenCore). x.must_quit) is;
    has_quit = same.has_quit ∙ ap (λ (x : SeenCore). x.has_quit) is;
    diner = same.diner;
    failed = same.failed;
    bell = same.bell;
    same_bell = same.same_bell;
    count = same.count;
  }

-- one change after another
pub same_then : {Lane Tx Closed Rx Diner : Type 0} {a b c : Running Lane Diner Tx Closed Rx} → SameMeals a b → SameMeals b c → SameMeals a c
same_then was is = record {
  manner = is.manner ∙ was.manner;
  site = is.site ∙ was.site;
  due = is.due ∙ was.due;
  ate = is.ate ∙ was.ate;
  resigns = is.resigns ∙ was.resigns;
  must_quit = is.must_quit ∙ was.must_quit;
  has_quit = is.has_quit ∙ was.has_quit;
  diner = is.diner ∙ was.diner;
  failed = is.failed ∙ was.failed;
  bell = is.bell ∙ was.bell;
  same_bell = is.same_bell ∙ was.same_bell;
  count = is.count ∙ was.count;
}

module _ {Lane Tx Closed Rx Diner : Type 0} (old : Running Lane Diner Tx Closed Rx) (core : SeenCore) (ports : Vec (Port Lane Tx Closed Rx)) where
  -- where only ports and the journal were written
  pub same_but_ports : (journal : Vec EventKind) (log : ThreadLog) → core ≡ old.core → vec_len ports ≡ vec_len old.ports → SameMeals old (record old { core = core; ports = ports; journal = journal; log = log })
  same_but_ports journal log is count = record {
    manner = refl;
    site = ap (λ (x : SeenCore). x.site) is;
    due = ap (λ (x : SeenCore). x.due) is;
    ate = ap (λ (x : SeenCore). x.ate) is;
    resigns = ap (λ (x : SeenCore). x.resigns) is;
    must_quit = ap (λ (x : SeenCore). x.must_quit) is;
    has_quit = ap (λ (x : SeenCore). x.has_quit) is;
    diner = refl;
    failed = refl;
    bell = refl;
    same_bell = refl;
    count = count;
  }

module _ {Lane Tx Closed Rx Diner : Type 0} (old : Running Lane Diner Tx Closed Rx) (core : SeenCore) (ports : Vec (Port Lane Tx Closed Rx)) where
  -- where a place of the core was written too, the journal and the clock
  pub same_at_place : (i : ℕ) (place : Place) (journal : Vec EventKind) (clock : Clock) (log : ThreadLog) → core ≡ with_place i place old.core → vec_len ports ≡ vec_len old.ports
      → SameMeals old (record old { core = core; ports = ports; journal = journal; clock = clock; log = log })
  same_at_place i place journal clock log is count =
      same_but_place old _ i place core journal clock log is (same_but_ports (record old { core = core; journal = journal; clock = clock; log = log }) core ports journal log refl count)

-- where only the phase of the core was written, and the journal
pub same_but_phase : {Lane Tx Closed Rx Diner : Type 0} (old : Running Lane Diner Tx Closed Rx) (phase : Phase) (core : SeenCore) (journal : Vec EventKind) (clock : Clock) (log : ThreadLog) → core ≡ record old.core { phase = phase } → SameMeals old (record old { core = core; journal = journal; clock = clock; log = log })
same_but_phase old phase core journal clock log is = record {
  manner = refl;
  site = ap (λ (x : SeenCore). x.site) is;
  due = ap (λ (x : SeenCore). x.due) is;
  ate = ap (λ (x : SeenCore). x.ate) is;
  resigns = ap (λ (x : SeenCore). x.resigns) is;
  must_quit = ap (λ (x : SeenCore). x.must_quit) is;
  has_quit = ap (λ (x : SeenCore). x.has_quit) is;
  diner = refl;
  failed = refl;
  bell = refl;
  same_bell = refl;
  count = refl;
}
