use Rattle.std.proofs.Common.{◌≡◌, ◌≤◌, ◌+◌, ◌++◌, ◌∷◌, [], ℕ, None, Some, true, length, ap, sym, subst, ◌∙◌}
use Rattle.std.specs.Prelude.{OnOk, vec_capacity, vec_len}
use Rattle.dine_site.specs.NextEvent.{can_by_itself}
use Rattle.dine_link.specs.Bells.{SeenBell}
use Rattle.dine_site_thread.specs.declared.site_loop.running.Running.{Running}
use Rattle.dine_rules.specs.declared.events.EventKind.TheVariants as event
use Rattle.dine_site_thread.specs.declared.manner.Manner.{Manner}
use Rattle.dine_site_thread.specs.private.Running.{AreChecks, GoesOn, HasChecked, IsNext, IsRunning, IsTimedRun, MayTakeNow, Proceeds, HasHeardAt, IsToEat, memo_of, seen_run}
use Rattle.dine_site_thread.specs.Threads.{HasWorked, Memo}
use Rattle.dine_site_thread.proofs.one_site.Ways.{heard_runs}
use Rattle.dine_site_thread.proofs.one_site.Checks.{checks_as, checks_meal, may_take_before_meal, same_degree, same_identity, same_refused}
use Rattle.dine_site_thread.proofs.one_site.Proceeding.{may_then, proceeds_heard, proceeds_same, proceeds_then}
use Rattle.dine_site_thread.proofs.site_loop.running.Running.begin_meal.Goals as goal

-- ---- a ring is left

pub take_where_rung-requires-clause-running : goal.take_where_rung-requires-clause-running
take_where_rung-requires-clause-running g c κs ls =
    let old = c.args.self.now in
    let bell = c.check_bell.new.self.bell in
    let heard = subst (λ (run : Running _ _ _ _ _). Proceeds g.L.Lane g.D.Diner IsRunning old run) (sym c.check_bell.ensures.rest)
    (proceeds_heard g.L.Lane g.D.Diner old bell c.check_bell.new.self.tally c.check_bell.new.self.log (ap (λ (b : SeenBell). b.refused) c.in-Some.ensures.bell) (ap (λ (b : SeenBell). b.degree) c.in-Some.ensures.bell) (ap (λ (b : SeenBell). b.identity) c.in-Some.ensures.bell) c.requires.ready.ready) in
    (may_then g.L.Lane g.D.Diner c.requires.ready heard).running

pub returns-in-Some-clause-proceeds : goal.returns-in-Some-clause-proceeds
returns-in-Some-clause-proceeds g c =
    let old = c.args.self.now in
    let bell = c.check_bell.new.self.bell in
    let heard = subst (λ (run : Running _ _ _ _ _). Proceeds g.L.Lane g.D.Diner IsRunning old run) (sym c.check_bell.ensures.rest)
    (proceeds_heard g.L.Lane g.D.Diner old bell c.check_bell.new.self.tally c.check_bell.new.self.log (ap (λ (b : SeenBell). b.refused) c.in-Some.ensures.bell) (ap (λ (b : SeenBell). b.degree) c.in-Some.ensures.bell) (ap (λ (b : SeenBell). b.identity) c.in-Some.ensures.bell) c.requires.ready.ready) in
    proceeds_then g.L.Lane g.D.Diner (GoesOn c.take_where_rung.result) heard
    (proceeds_same g.L.Lane g.D.Diner (GoesOn c.take_where_rung.result) c.check_bell.new.self c.take_where_rung.new.self c.take_where_rung.ensures.same heard.ready c.take_where_rung.ensures.way)

pub returns-in-Some-clause-checks : goal.returns-in-Some-clause-checks
returns-in-Some-clause-checks g c first are =
    let old = c.args.self.now in
    let bell = c.check_bell.new.self.bell in
    c.take_where_rung.ensures.checks first
    (subst (λ (run : Running _ _ _ _ _). HasChecked first run) (sym c.check_bell.ensures.rest)
    (checks_as first old.manner old.tally c.check_bell.new.self.tally old.bell.found_empty bell.found_empty old.clock.events old.journal.items c.in-Some.ensures.tally (ap (λ (b : SeenBell). b.found_empty) c.in-Some.ensures.bell) are))

-- ---- none is left

pub eat-requires-clause-ready : goal.eat-requires-clause-ready
eat-requires-clause-ready g c κs ls =
    let old = c.args.self.now in
    let bell = c.check_bell.new.self.bell in
    let events = length old.clock.events in
    let heard = subst (λ (run : Running _ _ _ _ _). Proceeds g.L.Lane g.D.Diner IsRunning old run) (sym c.check_bell.ensures.rest)
    (proceeds_heard g.L.Lane g.D.Diner old bell c.check_bell.new.self.tally c.check_bell.new.self.log (ap (λ (b : SeenBell). b.refused) c.in-None.ensures.bell ∙ same_refused old.manner old.tally events old.bell) (ap (λ (b : SeenBell). b.degree) c.in-None.ensures.bell ∙ same_degree old.manner old.tally events old.bell) (ap (λ (b : SeenBell). b.identity) c.in-None.ensures.bell ∙ same_identity old.manner old.tally events old.bell) c.requires.ready.ready) in
    may_then g.L.Lane g.D.Diner c.requires.ready heard

pub returns-in-None-clause-proceeds : goal.returns-in-None-clause-proceeds
returns-in-None-clause-proceeds g c =
    let old = c.args.self.now in
    let bell = c.check_bell.new.self.bell in
    let events = length old.clock.events in
    let heard = subst (λ (run : Running _ _ _ _ _). Proceeds g.L.Lane g.D.Diner IsRunning old run) (sym c.check_bell.ensures.rest)
    (proceeds_heard g.L.Lane g.D.Diner old bell c.check_bell.new.self.tally c.check_bell.new.self.log (ap (λ (b : SeenBell). b.refused) c.in-None.ensures.bell ∙ same_refused old.manner old.tally events old.bell) (ap (λ (b : SeenBell). b.degree) c.in-None.ensures.bell ∙ same_degree old.manner old.tally events old.bell) (ap (λ (b : SeenBell). b.identity) c.in-None.ensures.bell ∙ same_identity old.manner old.tally events old.bell) c.requires.ready.ready) in
    proceeds_then g.L.Lane g.D.Diner IsRunning heard c.eat.ensures.proceeds

pub returns-in-None-clause-checks : goal.returns-in-None-clause-checks
returns-in-None-clause-checks g c first are =
    let old = c.args.self.now in
    let rest = c.check_bell.ensures.rest in
    let manner = c.eat.ensures.proceeds.manner ∙ ap (λ (run : Running _ _ _ _ _). run.manner) rest in
    let noted = c.eat.ensures.noted ∙ ap (λ (run : Running _ _ _ _ _). length run.clock.events + 2) rest in
    let journal = c.eat.ensures.journal ∙ ap (λ (run : Running _ _ _ _ _). run.journal.items ++ event.Begin ∷ event.End ∷ []) rest in
    subst (λ (m : Manner). AreChecks first m c.eat.new.self.tally c.eat.new.self.bell.found_empty c.eat.new.self.clock.events c.eat.new.self.journal.items) (sym manner)
    (checks_meal first old.manner old.tally c.eat.new.self.tally old.bell c.eat.new.self.bell old.clock.events c.eat.new.self.clock.events old.journal.items c.eat.new.self.journal.items (c.eat.ensures.bell ∙ c.in-None.ensures.bell) (c.eat.ensures.tally ∙ c.in-None.ensures.tally) journal noted are)

pub returns-in-Some-clause-timed : goal.returns-in-Some-clause-timed
returns-in-Some-clause-timed g c =
    subst (λ (run : Running _ _ _ _ _). OnOk c.take_where_rung.result (IsTimedRun g.L.Lane run → IsTimedRun g.L.Lane c.take_where_rung.new.self)) c.check_bell.ensures.rest c.take_where_rung.ensures.timed

pub returns-in-None-clause-timed : goal.returns-in-None-clause-timed
returns-in-None-clause-timed g c = subst (λ (run : Running _ _ _ _ _). IsTimedRun g.L.Lane run → IsTimedRun g.L.Lane c.eat.new.self) c.check_bell.ensures.rest c.eat.ensures.timed

pub take_where_rung-requires-clause-turn : goal.take_where_rung-requires-clause-turn
take_where_rung-requires-clause-turn g c κs ls =
    let old = c.args.self.now in
    subst (λ (run : Running _ _ _ _ _). MayTakeNow run.manner run.core) (sym c.check_bell.ensures.rest) (may_take_before_meal old.manner old.tally old.core c.in-Some.ensures.checking c.requires.next)

pub eat-requires-clause-may : goal.eat-requires-clause-may
eat-requires-clause-may g c κs ls = subst (λ (run : Running _ _ _ _ _). can_by_itself run.core event.Begin ≡ true) (sym c.check_bell.ensures.rest) c.requires.may

pub eat-requires-clause-next : goal.eat-requires-clause-next
eat-requires-clause-next g c κs ls = subst (λ (run : Running _ _ _ _ _). IsNext (Some event.Begin) run.core) (sym c.check_bell.ensures.rest) c.requires.next

pub eat-requires-clause-room : goal.eat-requires-clause-room
eat-requires-clause-room g c κs ls = subst (λ (run : Running _ _ _ _ _). vec_len run.journal + 2 ≤ vec_capacity run.journal) (sym c.check_bell.ensures.rest) c.requires.room

pub returns-in-Some-clause-works : goal.returns-in-Some-clause-works
unfolding heard_runs
returns-in-Some-clause-works g c plan given was =
    let old = c.args.self.now in
    let bell = c.check_bell.new.self.bell in
    let runs = heard_runs plan given (seen_run g.L.Lane old) bell (ap (λ (b : SeenBell). b.refused) c.in-Some.ensures.bell) was.0 in
    let memo : Memo = record (memo_of old) { tally = c.check_bell.new.self.tally } in
    let worked = subst (λ (n : ℕ). HasWorked old.manner plan old.core.site old.journal.items was.0.state (record (memo_of old) { tally = n }) old.log.deeds) (sym c.in-Some.ensures.tally) was.1 in
    c.take_where_rung.ensures.works plan given
    (subst (λ (run : Running _ _ _ _ _). HasHeardAt c.in-Some.i plan given (seen_run g.L.Lane run) (memo_of run) run.log.deeds) (sym c.check_bell.ensures.rest) (runs, old.log.deeds, None, worked, c.in-Some.ensures.log, tt))

pub returns-in-None-clause-works : goal.returns-in-None-clause-works
unfolding heard_runs
returns-in-None-clause-works g c plan given was =
    let old = c.args.self.now in
    let bell = c.check_bell.new.self.bell in
    let runs = heard_runs plan given (seen_run g.L.Lane old) bell (ap (λ (b : SeenBell). b.refused) c.in-None.ensures.bell ∙ same_refused old.manner old.tally (length old.clock.events) old.bell) was.0 in
    let memo : Memo = memo_of old in
    let counted = ap (λ (n : ℕ). record memo { tally = n }) c.in-None.ensures.tally in
    c.eat.ensures.works plan given
    (subst (λ (run : Running _ _ _ _ _). IsToEat plan given (seen_run g.L.Lane run) (memo_of run) run.log.deeds) (sym c.check_bell.ensures.rest) (runs, memo, old.log.deeds, was.1, (λ checks. c.requires.recalled checks plan was.0.state was.0.has.keeps was.0.has.stands), c.in-None.ensures.log, counted))
