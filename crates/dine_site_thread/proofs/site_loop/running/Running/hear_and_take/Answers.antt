use Rattle.std.proofs.Common.{◌∙◌, ap, refl, sym, subst}
use Rattle.dine_link.specs.Bells.{SeenBell}
use Rattle.dine_site_thread.specs.declared.site_loop.running.Stop.{Stop}
use Rattle.dine_site_thread.specs.private.Running.{SeenRun, IsStopped, memo_of, seen_run}
use Rattle.dine_site_thread.proofs.one_site.Checks.{checks_as, may_take_idle}
use Rattle.dine_site_thread.proofs.one_site.Stops.{bell_stops}
use Rattle.dine_site_thread.proofs.one_site.Ways.{heard_runs}
use Rattle.dine_site_thread.proofs.one_site.Working.{slept_well}
use Rattle.dine_site_thread.specs.Threads.{MaySleep, Memo}
use Rattle.dine_site_thread.proofs.site_loop.running.Running.hear_and_take.Goals as goal

pub returns-in-Err-clause-way : goal.returns-in-Err-clause-way
returns-in-Err-clause-way g c plan given running =
    let run : SeenRun g.L.Lane.Identity = seen_run g.L.Lane c.args.self.now in
    let new : SeenRun g.L.Lane.Identity = record { manner = run.manner; core = run.core; ports = run.ports; bell = c.wait_for.new.self; journal = run.journal } in
    subst (λ (stop : Stop). IsStopped stop.stray stop.fault plan given new) (sym c.lost_bell.ensures) (bell_stops plan given run c.wait_for.new.self (ap (λ (b : SeenBell). b.refused) c.in-Err.ensures.reported) running)

pub take_where_rung-requires-clause-running : goal.take_where_rung-requires-clause-running
take_where_rung-requires-clause-running g c κs ls =
    let run : SeenRun g.L.Lane.Identity = seen_run g.L.Lane c.args.self.now in
    let p = c.requires.running in
    (p.0, p.1, heard_runs p.0 p.1 run c.wait_for.new.self (ap (λ (b : SeenBell). b.refused) c.in-Ok.ensures.reported) p.2)

pub take_where_rung-requires-clause-turn : goal.take_where_rung-requires-clause-turn
take_where_rung-requires-clause-turn g c κs ls = may_take_idle c.args.self.now.manner c.args.self.now.core c.requires.idle

pub returns-in-Ok-clause-way : goal.returns-in-Ok-clause-way
returns-in-Ok-clause-way g c plan given running =
    let run : SeenRun g.L.Lane.Identity = seen_run g.L.Lane c.args.self.now in
    c.take_where_rung.ensures.way plan given (heard_runs plan given run c.wait_for.new.self (ap (λ (b : SeenBell). b.refused) c.in-Ok.ensures.reported) running)

pub returns-in-Ok-clause-same : goal.returns-in-Ok-clause-same
returns-in-Ok-clause-same g c =
    let same = c.take_where_rung.ensures.same in
    record {
      manner = same.manner;
      site = same.site;
      due = same.due;
      ate = same.ate;
      resigns = same.resigns;
      must_quit = same.must_quit;
      has_quit = same.has_quit;
      diner = same.diner;
      failed = same.failed;
      bell = same.bell ∙ ap (λ (b : SeenBell). b.degree) c.in-Ok.ensures.reported;
      same_bell = same.same_bell ∙ ap (λ (b : SeenBell). b.identity) c.in-Ok.ensures.reported;
      count = same.count;
    }

pub returns-in-Ok-clause-checks : goal.returns-in-Ok-clause-checks
returns-in-Ok-clause-checks g c first are =
    let old = c.args.self.now in
    c.take_where_rung.ensures.checks first
    (checks_as first old.manner old.tally old.tally old.bell.found_empty c.wait_for.new.self.found_empty old.clock.events old.journal.items refl (ap (λ (b : SeenBell). b.found_empty) c.in-Ok.ensures.reported) are)

pub returns-in-Err-clause-same : goal.returns-in-Err-clause-same
returns-in-Err-clause-same g c = record {
  manner = refl;
  site = refl;
  due = refl;
  ate = refl;
  resigns = refl;
  must_quit = refl;
  has_quit = refl;
  diner = refl;
  failed = refl;
  bell = ap (λ (b : SeenBell). b.degree) c.in-Err.ensures.reported;
  same_bell = ap (λ (b : SeenBell). b.identity) c.in-Err.ensures.reported;
  count = refl;
}

pub returns-in-Err-clause-checks : goal.returns-in-Err-clause-checks
returns-in-Err-clause-checks g c first are =
    let old = c.args.self.now in
    checks_as first old.manner old.tally old.tally old.bell.found_empty c.wait_for.new.self.found_empty old.clock.events old.journal.items refl (ap (λ (b : SeenBell). b.found_empty) c.in-Err.ensures.reported) are

pub returns-in-Ok-clause-timed : goal.returns-in-Ok-clause-timed
returns-in-Ok-clause-timed g c = c.take_where_rung.ensures.timed

pub returns-in-Err-clause-timed : goal.returns-in-Err-clause-timed
returns-in-Err-clause-timed g c = tt

pub returns-in-Ok-clause-works : goal.returns-in-Ok-clause-works
unfolding heard_runs
returns-in-Ok-clause-works g c plan given was =
    let old = c.args.self.now in
    let running = was.0 in
    let state = running.state in
    let memo : Memo = memo_of old in
    let heard = c.in-Ok.ensures.noted in
    let may_sleep : MaySleep old.manner plan old.core.site state memo c.wants-wants.result = record {
      idle = c.requires.idle plan state running.has.keeps running.has.stands;
      unfinished = c.requires.unfinished plan state running.has.keeps running.has.stands;
      none_matters = c.requires.none_matters plan state running.has.keeps running.has.stands;
      by_lists = c.wants-wants.ensures.by_lists plan state running.has.keeps running.has.stands;
    } in
    c.take_where_rung.ensures.works plan given (
      heard_runs plan given (seen_run g.L.Lane old) c.wait_for.new.self (ap (λ (b : SeenBell). b.refused) c.in-Ok.ensures.reported) running,
      old.log.deeds,
      heard.slept,
      was.1,
      heard.deeds,
      slept_well old.manner plan old.core.site state memo c.wants-wants.result heard.slept heard.with_these may_sleep,
    )

pub returns-in-Err-clause-works : goal.returns-in-Err-clause-works
returns-in-Err-clause-works g c plan given was = tt
