-- The diner keeps one call more.
use Rattle.std.proofs.Common.{◌<◌, is_ok, ◌∙◌, ap, arith, subst, sym, vec_len}
use Rattle.std.proofs.lemmas.List.{map-append}
use Rattle.dine_token.specs.Meal.{SeenMeal}
use Rattle.dine_site_thread.specs.WholeMeals.{IsOwnMeal, IsWhole, IsWholeIn}
use Rattle.dine_jobs.specs.JobRuns.{numbers_of}
use Rattle.dine_jobs.proofs.Tables.{forks_within}
use Rattle.dine_jobs.proofs.Calls.{failed_ill, failed_well, ran_more}
use Rattle.dine_jobs.proofs.job_diner.JobDinerDiner.eat.Goals as goal

pub invariant_of-self-clause-room : goal.invariant_of-self-clause-room
invariant_of-self-clause-room g c = omega (arith, c.args.self.now.room, c.note.ensures.room)

pub invariant_of-self-clause-failed : goal.invariant_of-self-clause-failed
invariant_of-self-clause-failed g c =
    failed_well _ c.note.new.self.calls c.args.k c.is_ok.result _ c.note.ensures.calls (c.is_ok.ensures.value ∙ ap is_ok c.in-Ok.is) c.args.self.now.failed

pub invariant_of-self-clause-ran : goal.invariant_of-self-clause-ran
invariant_of-self-clause-ran g c first at =
    ran_more g.J.Job.after c.args.self.now.log.calls c.note.new.self.calls c.args.k c.new.result.k c.is_ok.result (is_ok c.run-outcome.result) first c.args.self.now.job c.run-outcome.new.self c.note.ensures.calls (ap (λ (meal : SeenMeal). meal.k) c.new.ensures ∙ c.requires.meal) c.is_ok.ensures.value (c.args.self.now.ran first at) c.run-outcome.ensures.did

pub invariant_of-self-in-Err-clause-room : goal.invariant_of-self-in-Err-clause-room
invariant_of-self-in-Err-clause-room g c = omega (arith, c.args.self.now.room, c.note.ensures.room, c.push_reserved.ensures.len, c.push_reserved.ensures.capacity)

pub invariant_of-self-in-Err-clause-failed : goal.invariant_of-self-in-Err-clause-failed
invariant_of-self-in-Err-clause-failed g c =
    let old = c.args.self.now.failures.items in
    failed_ill _ c.note.new.self.calls c.args.k c.is_ok.result (numbers_of old) _ c.note.ensures.calls (c.is_ok.ensures.value ∙ ap is_ok c.in-Err.is) c.args.self.now.failed
    (ap numbers_of c.push_reserved.ensures.items ∙ map-append _ old _)

pub invariant_of-self-in-Err-clause-ran : goal.invariant_of-self-in-Err-clause-ran
invariant_of-self-in-Err-clause-ran g c first at =
    ran_more g.J.Job.after c.args.self.now.log.calls c.note.new.self.calls c.args.k c.new.result.k c.is_ok.result (is_ok c.run-outcome.result) first c.args.self.now.job c.run-outcome.new.self c.note.ensures.calls (ap (λ (meal : SeenMeal). meal.k) c.new.ensures ∙ c.requires.meal) c.is_ok.ensures.value (c.args.self.now.ran first at) c.run-outcome.ensures.did

-- the table of its job is that of its meal
pub run-outcome-requires-clause-own : goal.run-outcome-requires-clause-own
run-outcome-requires-clause-own g c κs within = subst IsOwnMeal (sym c.new.ensures) c.requires.own

pub run-outcome-requires-clause-whole : goal.run-outcome-requires-clause-whole
run-outcome-requires-clause-whole g c κs within =
    subst (IsWhole g.J.Job.expects c.args.self.now.job) (sym c.new.ensures) (c.requires.whole.0, c.requires.whole.1, c.requires.whole.2.2)

-- there is a value for each edge of the meal
pub new-requires : goal.new-requires
new-requires g c i fork at =
    let whole = c.requires.whole in
    let is_whole = subst (λ plan. IsWholeIn plan c.args.meal.now) whole.2.1 whole.1 in
    let as_many = ap (λ values. vec_len values.cells) c.deref.ensures ∙ c.args.self.now.sized in
    subst (λ n. fork.edge < n) (sym as_many) (forks_within g.K.Given.plan c.args.meal.now is_whole i fork at)
