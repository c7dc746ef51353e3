use Rattle.std.proofs.Common.{◌≡◌, List, Bool, None, ap, refl, sym, subst}
use Rattle.dine_site_thread.specs.Threads.{HasWorked, Memo, first_that_matters}
use Rattle.dine_site_thread.specs.private.Running.{GoesOn, memo_of}
use Rattle.dine_site_thread.proofs.one_site.Checks.{may_take_before_meal}
use Rattle.dine_site_thread.proofs.one_site.Proceeding.{proceeds_same}
use Rattle.dine_site_thread.proofs.one_site.PutOff.{may_off, proceeds_from, same_from}
use Rattle.dine_site_thread.proofs.site_loop.running.Running.begin.Goals as goal

-- ---- a letter that was put off matters

pub take_recalled-requires-clause-running : goal.take_recalled-requires-clause-running
take_recalled-requires-clause-running g c κs ls = c.requires.ready.running

pub take_recalled-requires-clause-turn : goal.take_recalled-requires-clause-turn
take_recalled-requires-clause-turn g c κs ls = may_take_before_meal c.args.self.now.manner c.args.self.now.tally c.args.self.now.core c.in-Some.ensures.some.0 c.requires.next

pub returns-in-Some-clause-proceeds : goal.returns-in-Some-clause-proceeds
returns-in-Some-clause-proceeds g c =
    let old = c.args.self.now in
    let same = same_from c.recall_before_meal.new.put_off old c.take_recalled.new.self c.take_recalled.ensures.same in
    proceeds_same g.L.Lane g.D.Diner (GoesOn c.take_recalled.result) old c.take_recalled.new.self same c.requires.ready.ready c.take_recalled.ensures.way

pub returns-in-Some-clause-timed : goal.returns-in-Some-clause-timed
returns-in-Some-clause-timed g c = c.take_recalled.ensures.timed

pub returns-in-Some-clause-checks : goal.returns-in-Some-clause-checks
returns-in-Some-clause-checks g c = c.take_recalled.ensures.checks

-- ---- none does

pub begin_meal-requires-clause-ready : goal.begin_meal-requires-clause-ready
begin_meal-requires-clause-ready g c κs ls = may_off g.L.Lane g.D.Diner c.recall_before_meal.new.put_off c.args.self.now c.requires.ready

pub begin_meal-requires-clause-may : goal.begin_meal-requires-clause-may
begin_meal-requires-clause-may g c κs ls = c.requires.may

pub begin_meal-requires-clause-next : goal.begin_meal-requires-clause-next
begin_meal-requires-clause-next g c κs ls = c.requires.next

pub begin_meal-requires-clause-room : goal.begin_meal-requires-clause-room
begin_meal-requires-clause-room g c κs ls = c.requires.room

pub returns-in-None-clause-proceeds : goal.returns-in-None-clause-proceeds
returns-in-None-clause-proceeds g c = proceeds_from g.L.Lane g.D.Diner c.recall_before_meal.new.put_off (GoesOn c.begin_meal.result) c.args.self.now c.begin_meal.new.self c.begin_meal.ensures.proceeds

pub returns-in-None-clause-timed : goal.returns-in-None-clause-timed
returns-in-None-clause-timed g c = c.begin_meal.ensures.timed

pub returns-in-None-clause-checks : goal.returns-in-None-clause-checks
returns-in-None-clause-checks g c = c.begin_meal.ensures.checks

pub begin_meal-requires-clause-recalled : goal.begin_meal-requires-clause-recalled
begin_meal-requires-clause-recalled g c κs ls checks plan state keeps stands =
    let memo : Memo = memo_of c.args.self.now in
    subst (λ (marks : List Bool). first_that_matters plan c.args.self.now.core.site state (record memo { put_off = marks }) ≡ None) (sym c.in-None.ensures.recalled) (c.in-None.ensures.none refl checks plan state keeps stands)

pub returns-in-Some-clause-works : goal.returns-in-Some-clause-works
returns-in-Some-clause-works g c plan given was =
    let old = c.args.self.now in
    let running = was.0 in
    let memo : Memo = memo_of old in
    c.take_recalled.ensures.works plan given (
      running,
      memo,
      was.1,
      c.in-Some.ensures.some.1 plan running.state running.has.keeps running.has.stands,
      ap (λ (marks : List Bool). record memo { put_off = marks }) c.in-Some.ensures.recalled,
    )

pub returns-in-None-clause-works : goal.returns-in-None-clause-works
returns-in-None-clause-works g c plan given was =
    c.begin_meal.ensures.works plan given (was.0, subst (λ (marks : List Bool). HasWorked c.args.self.now.manner plan c.args.self.now.core.site c.args.self.now.journal.items was.0.state (record (memo_of c.args.self.now) { put_off = marks }) c.args.self.now.log.deeds) (sym c.in-None.ensures.recalled) was.1)
