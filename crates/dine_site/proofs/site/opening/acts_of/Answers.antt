use Rattle.std.proofs.Common.{◌≡◌, ◌+◌, ◌-◌, ◌<◌, ◌≤◌, ◌∷◌, ◌++◌, ℕ, List, [], map, length, take, get_or, slice_index_or, sym, ◌∙◌, ap, arith, rules}
use Rattle.std.proofs.Math.Nat.{add-sub_cancel}
use Rattle.std.proofs.Math.ListN.{get_or-map}
use Rattle.std.proofs.lemmas.List.{length-map, take_all, take_more}
use Rattle.dine_token.specs.declared.act.Act.{Act}
use Rattle.dine_token.specs.declared.act.Act.TheVariants.{Add}
use Rattle.dine_graph.specs.Job.{seen_plan_job}
use Rattle.dine_graph.specs.Plan.{SeenJob, acts_of, job_count, jobs_of, no_job}
use Rattle.dine_site.proofs.site.opening.acts_of.Goals as goal

-- the act of one job more
acts_more : (jobs : List SeenJob) (done : ℕ) (job : SeenJob) → done < length jobs → job ≡ slice_index_or jobs (done + 1 - 1) no_job
    → take (done + 1) (map (λ (j : SeenJob). j.act) jobs) ≡ take done (map (λ (j : SeenJob). j.act) jobs) ++ job.act ∷ []
acts_more jobs done job within is =
    let act : SeenJob → Act = λ (j : SeenJob). j.act in
    let here : get_or (map act jobs) done (Add 0) ≡ job.act =
    get_or-map act jobs done no_job ∙ ap (λ (i : ℕ). act (slice_index_or jobs i no_job)) (sym (add-sub_cancel done 1)) ∙ ap act (sym is) in
    take_more (map act jobs) done (Add 0) (omega (arith, within, length-map jobs act)) ∙ ap (λ (a : Act). take done (map act jobs) ++ a ∷ []) here

pub loop-done-preserved : goal.loop-done-preserved
loop-done-preserved c =
    let within : c.loop-done.done < job_count c.args.plan.now c.args.site = omega (arith, c.loop-done-test.true, c.jobs-jobs.ensures.count) in
    record {
      acts = c.push_reserved.ensures.items ∙ ap (λ (l : List Act). l ++ c.job.result.act ∷ []) c.loop-done.invariant.acts
          ∙ sym (acts_more (jobs_of c.args.plan.now c.args.site) c.loop-done.done (seen_plan_job c.job.result) within c.job.ensures.job);
      count = search rules;
      room = search rules;
    }

pub loop-done-init : goal.loop-done-init
loop-done-init c = record {
  acts = c.in_ok-acts.ensures.items;
  count = c.in_ok-acts.ensures.len;
  room = search rules;
}

pub push_reserved-requires : goal.push_reserved-requires
push_reserved-requires c = omega (arith, c.loop-done.invariant.count, c.loop-done.invariant.room, c.loop-done-test.true)

pub returns : goal.returns
returns c =
    let plan = c.args.plan.now in
    let jobs : List SeenJob = jobs_of plan c.args.site in
    let act : SeenJob → Act = λ (job : SeenJob). job.act in
    let all : length (acts_of plan c.args.site) ≤ c.loop-done.done = omega (arith, c.loop-done-test.false, c.jobs-jobs.ensures.count, length-map jobs act) in
    c.loop-done.invariant.acts ∙ take_all c.loop-done.done (acts_of plan c.args.site) all
