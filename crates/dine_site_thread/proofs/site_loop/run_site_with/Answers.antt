use Rattle.std.proofs.Common.{◌≡◌, ◌++◌, ℕ, Bool, ◌||◌, length, refl, sym, ◌∙◌, ap, ap₂, subst, arith, rules}
use Rattle.std.specs.Prelude.{nat_lt}
use Rattle.std.proofs.lemmas.List.{length-map}
use Rattle.std.proofs.lemmas.Option.{get_or_from_slice_get, slice_get_within, none-some}
use Rattle.dine_site_thread.proofs.one_site.Times.{starts}
use Rattle.dine_link.specs.Bells.{SeenBell}
use Rattle.dine_site_thread.specs.Ports.{IsFreshPort, seen_port, seen_ports}
use Rattle.dine_site_thread.proofs.one_site.Checks.{checks_start}
use Rattle.dine_site_thread.specs.declared.manner.Manner.{Manner}
use Rattle.dine_site_thread.specs.Doings.{empty_checks_of}
use Rattle.dine_site_thread.specs.private.Running.{HasChecked, IsObeying, IsRunning, IsTimedRun, seen_run, IsWorking, memo_of}
use Rattle.dine_site_thread.specs.declared.site_loop.running.Running.{Running}
use Rattle.dine_site_thread.specs.SiteEnds.{IsSiteEnd}
use Rattle.dine_site_thread.proofs.one_site.Meals.{eaten_nothing, eaten_same}
use Rattle.dine_site_thread.proofs.shared.one_site.Obeying.{obeying_as, obeys_as, obeys_end, obeys_fresh}
use Rattle.dine_site_thread.proofs.shared.one_site.Quits.{quit_reported, quit_reported_before}
use Rattle.dine_site_thread.proofs.one_site.Ways.{start_runs}
use Rattle.dine_site_thread.specs.Threads.{IsThreadRun}
use Rattle.dine_site_thread.proofs.one_site.Working.{worked_nothing}
use Rattle.dine_site_thread.proofs.site_loop.run_site_with.Goals as goal

along_two : (P : Manner → ℕ → Type 0) {m m' : Manner} {n n' : ℕ} → m ≡ m' → n ≡ n' → P m n → P m' n'
along_two P {m} {m'} {n} {n'} p q h = subst (λ (x : Manner). P x n') p (subst (λ (y : ℕ). P m y) q h)

pub work-requires-clause-ready : goal.work-requires-clause-ready
work-requires-clause-ready g c κs ls =
    let ports = seen_ports g.L.Lane c.args.ports.items in
    let count : length ports ≡ length c.args.core.places = omega (arith, length-map c.args.ports.items (seen_port g.L.Lane), c.requires.ports, c.args.ports.ok.0) in
    let plan = c.requires.fresh.0 in
    let running : IsRunning plan ports (seen_run g.L.Lane c.new-site.result) = subst (λ (site : Running _ _ _ _ _). IsRunning plan ports (seen_run g.L.Lane site)) (sym c.new-site.ensures) (start_runs c.args.manner plan c.args.core ports c.streams_are_kept.ensures.start c.requires.fresh.1 count c.requires.unused c.args.bell c.requires.unrefused c.new.result.items c.new.ensures.items) in
    record {
      running = (plan, ports, running);
      ready = search rules;
      expects = subst (λ (site : Running _ _ _ _ _). g.D.Diner.expects site.diner plan site.core.site) (sym c.new-site.ensures) c.requires.fresh.2;
    }

pub end-requires-clause-may_end : goal.end-requires-clause-may_end
end-requires-clause-may_end g c κs ls =
    let ports = seen_ports g.L.Lane c.args.ports.items in
    let count : length ports ≡ length c.args.core.places = omega (arith, length-map c.args.ports.items (seen_port g.L.Lane), c.requires.ports, c.args.ports.ok.0) in
    let plan = c.requires.fresh.0 in
    let running : IsRunning plan ports (seen_run g.L.Lane c.new-site.result) = subst (λ (site : Running _ _ _ _ _). IsRunning plan ports (seen_run g.L.Lane site)) (sym c.new-site.ensures) (start_runs c.args.manner plan c.args.core ports c.streams_are_kept.ensures.start c.requires.fresh.1 count c.requires.unused c.args.bell c.requires.unrefused c.new.result.items c.new.ensures.items) in
    let done = c.in-Ok.ensures.proceeds.way plan ports running in
    (plan, ports, (done.0, done.1, refl))

pub break_off-requires-clause-stopped : goal.break_off-requires-clause-stopped
break_off-requires-clause-stopped g c κs ls =
    let ports = seen_ports g.L.Lane c.args.ports.items in
    let count : length ports ≡ length c.args.core.places = omega (arith, length-map c.args.ports.items (seen_port g.L.Lane), c.requires.ports, c.args.ports.ok.0) in
    let plan = c.requires.fresh.0 in
    let running : IsRunning plan ports (seen_run g.L.Lane c.new-site.result) = subst (λ (site : Running _ _ _ _ _). IsRunning plan ports (seen_run g.L.Lane site)) (sym c.new-site.ensures) (start_runs c.args.manner plan c.args.core ports c.streams_are_kept.ensures.start c.requires.fresh.1 count c.requires.unused c.args.bell c.requires.unrefused c.new.result.items c.new.ensures.items) in
    (c.in-Err.stop.stray, c.in-Err.stop.fault, (plan, ports, c.in-Err.ensures.proceeds.way plan ports running))

pub end-requires-in-Err-clause-may_end : goal.end-requires-in-Err-clause-may_end
end-requires-in-Err-clause-may_end g c κs ls =
    let ports = seen_ports g.L.Lane c.args.ports.items in
    let count : length ports ≡ length c.args.core.places = omega (arith, length-map c.args.ports.items (seen_port g.L.Lane), c.requires.ports, c.args.ports.ok.0) in
    let plan = c.requires.fresh.0 in
    let running : IsRunning plan ports (seen_run g.L.Lane c.new-site.result) = subst (λ (site : Running _ _ _ _ _). IsRunning plan ports (seen_run g.L.Lane site)) (sym c.new-site.ensures) (start_runs c.args.manner plan c.args.core ports c.streams_are_kept.ensures.start c.requires.fresh.1 count c.requires.unused c.args.bell c.requires.unrefused c.new.result.items c.new.ensures.items) in
    let stopped = c.break_off.ensures.way c.in-Err.stop.stray c.in-Err.stop.fault plan ports (c.in-Err.ensures.proceeds.way plan ports running) in
    (plan, ports, (stopped, c.break_off.ensures.closed))

pub returns-in-Ok : goal.returns-in-Ok
unfolding start_runs
returns-in-Ok g c = record {
  end = λ plan fresh.
      let ports = seen_ports g.L.Lane c.args.ports.items in
      let count : length ports ≡ length c.args.core.places = omega (arith, length-map c.args.ports.items (seen_port g.L.Lane), c.requires.ports, c.args.ports.ok.0) in
      let running : IsRunning plan ports (seen_run g.L.Lane c.new-site.result) = subst (λ (site : Running _ _ _ _ _). IsRunning plan ports (seen_run g.L.Lane site)) (sym c.new-site.ensures) (start_runs c.args.manner plan c.args.core ports c.streams_are_kept.ensures.start fresh count c.requires.unused c.args.bell c.requires.unrefused c.new.result.items c.new.ensures.items) in
      let done = c.in-Ok.ensures.proceeds.way plan ports running in
      let ended = c.end.ensures.end plan ports (done.0, done.1, refl) in
      let manner_is = c.work.ensures.proceeds.manner ∙ ap (λ (run : Running _ _ _ _ _). run.manner) c.new-site.ensures in
      let site = c.work.ensures.proceeds.site ∙ ap (λ (run : Running _ _ _ _ _). run.core.site) c.new-site.ensures in
      along_two (λ (m : Manner) (n : ℕ). IsSiteEnd m plan n ports (record { site = c.end.result.site; ate = c.end.result.ate; forks = c.end.result.forks.items; tokens = c.end.result.tokens.items; journal = c.end.result.journal.items; ports = seen_ports g.L.Lane c.end.result.ports.items; bell = c.end.result.bell; stray = c.end.result.stray; fault = c.end.result.fault })) manner_is site ended;
  eaten =
      let fresh = c.requires.fresh.1 in
      let calls = g.D.Diner.calls in
      let marks = g.D.Diner.marks in
      let fits = g.D.Diner.fits in
      let ate = ap (λ (site : Running _ _ _ _ _). site.core.ate) c.new-site.ensures ∙ fresh.stands.ate in
      let failed = ap (λ (site : Running _ _ _ _ _). site.failed) c.new-site.ensures in
      let diner = ap (λ (site : Running _ _ _ _ _). site.diner) c.new-site.ensures in
      let base = eaten_same calls marks fits 0 0 c.new-site.result.core.ate c.new-site.result.failed c.args.diner c.args.diner c.new-site.result.diner (eaten_nothing calls marks fits c.args.diner) ate failed diner in
      let worked = c.work.ensures.proceeds.eats c.args.diner base in
      eaten_same calls marks fits c.work.new.self.core.ate c.work.new.self.failed c.end.result.ate c.end.result.failed c.args.diner c.work.new.self.diner c.end.result.diner worked c.end.ensures.ate c.end.ensures.failed c.end.ensures.diner;
  obeys =
      let plan = c.requires.fresh.0 in
      let fresh = c.requires.fresh.1 in
      let ports = seen_ports g.L.Lane c.args.ports.items in
      let count : length ports ≡ length c.args.core.places = omega (arith, length-map c.args.ports.items (seen_port g.L.Lane), c.requires.ports, c.args.ports.ok.0) in
      let running : IsRunning plan ports (seen_run g.L.Lane c.new-site.result) = subst (λ (site : Running _ _ _ _ _). IsRunning plan ports (seen_run g.L.Lane site)) (sym c.new-site.ensures) (start_runs c.args.manner plan c.args.core ports c.streams_are_kept.ensures.start fresh count c.requires.unused c.args.bell c.requires.unrefused c.new.result.items c.new.ensures.items) in
      let done = c.in-Ok.ensures.proceeds.way plan ports running in
      let calls = g.D.Diner.calls in
      let first = calls c.args.diner in
      let start = subst (λ (site : Running _ _ _ _ _). IsObeying site.core.resigns (site.core.must_quit || site.core.has_quit) (nat_lt site.core.ate site.core.due) first (calls site.diner)) (sym c.new-site.ensures) (obeys_fresh plan c.args.core first fresh) in
      let core = c.work.new.self.core in
      let reported = done.0.has.stands.has_quit ∙ quit_reported plan core.site c.work.new.self.journal.items done.0.state done.0.did.by_journal in
      let obeys = obeys_end core.resigns core.must_quit core.has_quit (nat_lt core.ate core.due) c.work.new.self.journal.items first (calls c.work.new.self.diner) (c.work.ensures.proceeds.obeys first start) reported in
      obeys_as core.resigns c.args.core.resigns c.work.new.self.journal.items c.end.result.journal.items first (calls c.work.new.self.diner) (calls c.end.result.diner)
      (sym (c.work.ensures.proceeds.resigns ∙ ap (λ (site : Running _ _ _ _ _). site.core.resigns) c.new-site.ensures)) c.end.ensures.journal (ap calls c.end.ensures.diner) obeys;
  same_bell = ap (λ (b : SeenBell). b.identity) c.end.ensures.bell ∙ c.work.ensures.proceeds.same_bell ∙ ap (λ (site : Running _ _ _ _ _). site.bell.identity) c.new-site.ensures;
  timed = λ none.
      let ports = seen_ports g.L.Lane c.args.ports.items in
      let begun : IsTimedRun g.L.Lane c.new-site.result = subst (λ (site : Running _ _ _ _ _). IsTimedRun g.L.Lane site) (sym c.new-site.ensures)
      (starts c.start.result.events c.new.result.items ports c.start.ensures c.new.ensures.items
      (λ i port at. subst IsFreshPort (get_or_from_slice_get ports i port port at) (c.requires.unused i port (slice_get_within ports i port at)))) in
      rw (c.end.ensures.clock, c.end.ensures.journal, c.end.ensures.left) (c.in-Ok.ensures.timed begun);
  checks =
      let begun = c.new-site.ensures in
      let first = c.args.bell.found_empty in
      let start = subst (λ (site : Running _ _ _ _ _). HasChecked first site) (sym begun) (checks_start first c.args.manner first c.start.result.events c.new.result.items refl c.start.ensures c.new.ensures.items) in
      let manner = c.work.ensures.proceeds.manner ∙ ap (λ (site : Running _ _ _ _ _). site.manner) begun in
      rw (c.end.ensures.bell, c.end.ensures.journal) (subst (λ (m : Manner). c.work.new.self.bell.found_empty ≡ first ++ empty_checks_of m c.work.new.self.journal.items) manner (c.work.ensures.checks first start).checks);
  threads = λ none plan fresh.
      let ports = seen_ports g.L.Lane c.args.ports.items in
      let count : length ports ≡ length c.args.core.places = omega (arith, length-map c.args.ports.items (seen_port g.L.Lane), c.requires.ports, c.args.ports.ok.0) in
      let start : IsWorking plan ports (seen_run g.L.Lane c.new-site.result) (memo_of c.new-site.result) c.new-site.result.log.deeds = subst (λ (site : Running _ _ _ _ _). IsWorking plan ports (seen_run g.L.Lane site) (memo_of site) site.log.deeds) (sym c.new-site.ensures) (
        start_runs c.args.manner plan c.args.core ports c.streams_are_kept.ensures.start fresh count c.requires.unused c.args.bell c.requires.unrefused c.new.result.items c.new.ensures.items,
        worked_nothing c.args.manner plan c.args.core.site c.new.result.items c.start-2.result.deeds c.new.ensures.items c.start-2.ensures,
      ) in
      let worked = c.in-Ok.ensures.works plan ports start in
      let running = worked.0 in
      let finished = (c.in-Ok.ensures.proceeds.way plan ports start.0).1 plan running.state running.has.keeps running.has.stands in
      let manner_is = c.work.ensures.proceeds.manner ∙ ap (λ (run : Running _ _ _ _ _). run.manner) c.new-site.ensures in
      let site = c.work.ensures.proceeds.site ∙ ap (λ (run : Running _ _ _ _ _). run.core.site) c.new-site.ensures in
      let new = c.work.new.self in
      let all : IsThreadRun new.manner plan new.core.site (seen_ports g.L.Lane new.ports.items) new.journal.items new.log.deeds = record {
        state = running.state;
        memo = memo_of new;
        worked = worked.1;
        finished = finished;
        links = λ i port at. ((running.lists i port at).puts, (running.lists i port at).takes);
      } in
      along_two (λ (m : Manner) (n : ℕ). IsThreadRun m plan n (seen_ports g.L.Lane c.end.result.ports.items) c.end.result.journal.items c.end.result.log.deeds) manner_is site
      (rw (c.end.ensures.log, c.end.ensures.journal, c.end.ensures.left) all);
}

pub returns-in-Err : goal.returns-in-Err
returns-in-Err g c = record {
  end = λ plan fresh.
      let ports = seen_ports g.L.Lane c.args.ports.items in
      let count : length ports ≡ length c.args.core.places = omega (arith, length-map c.args.ports.items (seen_port g.L.Lane), c.requires.ports, c.args.ports.ok.0) in
      let running : IsRunning plan ports (seen_run g.L.Lane c.new-site.result) = subst (λ (site : Running _ _ _ _ _). IsRunning plan ports (seen_run g.L.Lane site)) (sym c.new-site.ensures) (start_runs c.args.manner plan c.args.core ports c.streams_are_kept.ensures.start fresh count c.requires.unused c.args.bell c.requires.unrefused c.new.result.items c.new.ensures.items) in
      let stopped = c.break_off.ensures.way c.in-Err.stop.stray c.in-Err.stop.fault plan ports (c.in-Err.ensures.proceeds.way plan ports running) in
      let ended = c.end-in-Err.ensures.end plan ports (stopped, c.break_off.ensures.closed) in
      let manner_is = c.break_off.ensures.same.manner ∙ c.work.ensures.proceeds.manner ∙ ap (λ (run : Running _ _ _ _ _). run.manner) c.new-site.ensures in
      let site = c.break_off.ensures.same.site ∙ c.work.ensures.proceeds.site ∙ ap (λ (run : Running _ _ _ _ _). run.core.site) c.new-site.ensures in
      along_two (λ (m : Manner) (n : ℕ). IsSiteEnd m plan n ports (record { site = c.end-in-Err.result.site; ate = c.end-in-Err.result.ate; forks = c.end-in-Err.result.forks.items; tokens = c.end-in-Err.result.tokens.items; journal = c.end-in-Err.result.journal.items; ports = seen_ports g.L.Lane c.end-in-Err.result.ports.items; bell = c.end-in-Err.result.bell; stray = c.end-in-Err.result.stray; fault = c.end-in-Err.result.fault })) manner_is site ended;
  eaten =
      let fresh = c.requires.fresh.1 in
      let calls = g.D.Diner.calls in
      let marks = g.D.Diner.marks in
      let fits = g.D.Diner.fits in
      let ate = ap (λ (site : Running _ _ _ _ _). site.core.ate) c.new-site.ensures ∙ fresh.stands.ate in
      let failed = ap (λ (site : Running _ _ _ _ _). site.failed) c.new-site.ensures in
      let diner = ap (λ (site : Running _ _ _ _ _). site.diner) c.new-site.ensures in
      let base = eaten_same calls marks fits 0 0 c.new-site.result.core.ate c.new-site.result.failed c.args.diner c.args.diner c.new-site.result.diner (eaten_nothing calls marks fits c.args.diner) ate failed diner in
      let worked = c.work.ensures.proceeds.eats c.args.diner base in
      let same = c.break_off.ensures.same in
      eaten_same calls marks fits c.work.new.self.core.ate c.work.new.self.failed c.end-in-Err.result.ate c.end-in-Err.result.failed c.args.diner c.work.new.self.diner c.end-in-Err.result.diner worked
      (c.end-in-Err.ensures.ate ∙ same.ate) (c.end-in-Err.ensures.failed ∙ same.failed) (c.end-in-Err.ensures.diner ∙ same.diner);
  obeys =
      let plan = c.requires.fresh.0 in
      let fresh = c.requires.fresh.1 in
      let ports = seen_ports g.L.Lane c.args.ports.items in
      let count : length ports ≡ length c.args.core.places = omega (arith, length-map c.args.ports.items (seen_port g.L.Lane), c.requires.ports, c.args.ports.ok.0) in
      let running : IsRunning plan ports (seen_run g.L.Lane c.new-site.result) = subst (λ (site : Running _ _ _ _ _). IsRunning plan ports (seen_run g.L.Lane site)) (sym c.new-site.ensures) (start_runs c.args.manner plan c.args.core ports c.streams_are_kept.ensures.start fresh count c.requires.unused c.args.bell c.requires.unrefused c.new.result.items c.new.ensures.items) in
      let stopped = c.break_off.ensures.way c.in-Err.stop.stray c.in-Err.stop.fault plan ports (c.in-Err.ensures.proceeds.way plan ports running) in
      let calls = g.D.Diner.calls in
      let first = calls c.args.diner in
      let start = subst (λ (site : Running _ _ _ _ _). IsObeying site.core.resigns (site.core.must_quit || site.core.has_quit) (nat_lt site.core.ate site.core.due) first (calls site.diner)) (sym c.new-site.ensures) (obeys_fresh plan c.args.core first fresh) in
      let core = c.break_off.new.self.core in
      let same = c.break_off.ensures.same in
      let was = c.work.new.self.core in
      let obeying = obeying_as was.resigns (was.must_quit || was.has_quit) (nat_lt was.ate was.due) core.resigns (core.must_quit || core.has_quit) (nat_lt core.ate core.due) first (calls c.work.new.self.diner) (calls c.break_off.new.self.diner)
      same.resigns (ap₂ (λ (a b : Bool). a || b) same.must_quit same.has_quit) (ap₂ (λ (a b : ℕ). nat_lt a b) same.ate same.due) (ap calls same.diner) (c.work.ensures.proceeds.obeys first start) in
      let reported = stopped.has.stands.has_quit ∙ quit_reported_before plan core.site c.break_off.new.self.journal.items stopped.state stopped.did in
      let obeys = obeys_end core.resigns core.must_quit core.has_quit (nat_lt core.ate core.due) c.break_off.new.self.journal.items first (calls c.break_off.new.self.diner) obeying reported in
      obeys_as core.resigns c.args.core.resigns c.break_off.new.self.journal.items c.end-in-Err.result.journal.items first (calls c.break_off.new.self.diner) (calls c.end-in-Err.result.diner)
      (sym (same.resigns ∙ c.work.ensures.proceeds.resigns ∙ ap (λ (site : Running _ _ _ _ _). site.core.resigns) c.new-site.ensures)) c.end-in-Err.ensures.journal (ap calls c.end-in-Err.ensures.diner) obeys;
  same_bell = ap (λ (b : SeenBell). b.identity) c.end-in-Err.ensures.bell ∙ c.break_off.ensures.same.same_bell ∙ c.work.ensures.proceeds.same_bell ∙ ap (λ (site : Running _ _ _ _ _). site.bell.identity) c.new-site.ensures;
  timed = λ none. absurd (none-some _ (sym none ∙ c.end-in-Err.ensures.reported));
  checks =
      let begun = c.new-site.ensures in
      let first = c.args.bell.found_empty in
      let start = subst (λ (site : Running _ _ _ _ _). HasChecked first site) (sym begun) (checks_start first c.args.manner first c.start.result.events c.new.result.items refl c.start.ensures c.new.ensures.items) in
      let manner = c.work.ensures.proceeds.manner ∙ ap (λ (site : Running _ _ _ _ _). site.manner) begun in
      let broke = c.break_off.ensures.checks first (c.work.ensures.checks first start) in
      rw (c.end-in-Err.ensures.bell, c.end-in-Err.ensures.journal) (subst (λ (m : Manner). c.break_off.new.self.bell.found_empty ≡ first ++ empty_checks_of m c.break_off.new.self.journal.items) (c.break_off.ensures.same.manner ∙ manner) broke.checks);
  threads = λ none. absurd (none-some _ (sym none ∙ c.end-in-Err.ensures.reported));
}
