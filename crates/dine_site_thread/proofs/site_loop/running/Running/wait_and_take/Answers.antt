use Rattle.std.proofs.Common.{◌≡◌, List, Bool, None, ap, sym, subst, ◌∙◌}
use Rattle.dine_site_thread.specs.Threads.{HasWorked, Memo, first_that_matters}
use Rattle.dine_site_thread.specs.private.Running.{memo_of}
use Rattle.dine_site_thread.proofs.one_site.Checks.{may_take_idle}
use Rattle.dine_site_thread.proofs.one_site.PutOff.{same_from}
use Rattle.dine_site_thread.proofs.site_loop.running.Running.wait_and_take.Goals as goal

-- ---- a letter that was put off matters

pub take_recalled-requires-clause-running : goal.take_recalled-requires-clause-running
take_recalled-requires-clause-running g c κs ls = c.requires.running

pub take_recalled-requires-clause-turn : goal.take_recalled-requires-clause-turn
take_recalled-requires-clause-turn g c κs ls = may_take_idle c.args.self.now.manner c.args.self.now.core c.requires.idle

pub returns-in-Some-clause-way : goal.returns-in-Some-clause-way
returns-in-Some-clause-way g c = c.take_recalled.ensures.way

pub returns-in-Some-clause-same : goal.returns-in-Some-clause-same
returns-in-Some-clause-same g c = same_from c.recall.new.put_off c.args.self.now c.take_recalled.new.self c.take_recalled.ensures.same

pub returns-in-Some-clause-timed : goal.returns-in-Some-clause-timed
returns-in-Some-clause-timed g c = c.take_recalled.ensures.timed

pub returns-in-Some-clause-checks : goal.returns-in-Some-clause-checks
returns-in-Some-clause-checks g c = c.take_recalled.ensures.checks

-- ---- none does

pub hear_and_take-requires-clause-running : goal.hear_and_take-requires-clause-running
hear_and_take-requires-clause-running g c κs ls = c.requires.running

pub hear_and_take-requires-clause-idle : goal.hear_and_take-requires-clause-idle
hear_and_take-requires-clause-idle g c κs ls = c.requires.idle

pub returns-in-None-clause-way : goal.returns-in-None-clause-way
returns-in-None-clause-way g c = c.hear_and_take.ensures.way

pub returns-in-None-clause-same : goal.returns-in-None-clause-same
returns-in-None-clause-same g c = same_from c.recall.new.put_off c.args.self.now c.hear_and_take.new.self c.hear_and_take.ensures.same

pub returns-in-None-clause-timed : goal.returns-in-None-clause-timed
returns-in-None-clause-timed g c = c.hear_and_take.ensures.timed

pub returns-in-None-clause-checks : goal.returns-in-None-clause-checks
returns-in-None-clause-checks g c = c.hear_and_take.ensures.checks

-- ---- what the thread did

pub hear_and_take-requires-clause-unfinished : goal.hear_and_take-requires-clause-unfinished
hear_and_take-requires-clause-unfinished g c κs ls = c.requires.unfinished

pub hear_and_take-requires-clause-none_matters : goal.hear_and_take-requires-clause-none_matters
hear_and_take-requires-clause-none_matters g c κs ls plan state keeps stands =
    let memo : Memo = memo_of c.args.self.now in
    subst (λ (marks : List Bool). first_that_matters plan c.args.self.now.core.site state (record memo { put_off = marks }) ≡ None) (sym c.in-None.ensures.recalled) (c.recall.ensures.first plan state keeps stands ∙ c.in-None.is)

pub returns-in-Some-clause-works : goal.returns-in-Some-clause-works
returns-in-Some-clause-works g c plan given was =
    let old = c.args.self.now in
    let running = was.0 in
    let memo : Memo = memo_of old in
    c.take_recalled.ensures.works plan given (
      running,
      memo,
      was.1,
      c.recall.ensures.first plan running.state running.has.keeps running.has.stands ∙ c.in-Some.is,
      ap (λ (marks : List Bool). record memo { put_off = marks }) c.in-Some.ensures.recalled,
    )

pub returns-in-None-clause-works : goal.returns-in-None-clause-works
returns-in-None-clause-works g c plan given was =
    let old = c.args.self.now in
    let memo : Memo = memo_of old in
    c.hear_and_take.ensures.works plan given (was.0, subst (λ (marks : List Bool). HasWorked old.manner plan old.core.site old.journal.items was.0.state (record memo { put_off = marks }) old.log.deeds) (sym c.in-None.ensures.recalled) was.1)
