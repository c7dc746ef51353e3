use Rattle.std.proofs.Common.{◌≡◌, ◌+◌, ◌-◌, ◌<◌, ◌∷◌, ◌++◌, ℕ, Bool, false, List, [], map, length, take, get_or, slice_index_or, sym, ◌∙◌, ap, arith, rules}
use Rattle.std.proofs.Math.Nat.{add-sub_cancel}
use Rattle.std.proofs.Math.ListN.{get_or-map}
use Rattle.std.proofs.Math.Seq.{take-length}
use Rattle.std.proofs.lemmas.List.{take_more, length-map}
use Rattle.dine_graph.specs.Plan.{SeenPlan, SeenJob, job_count, jobs_of, no_job}
use Rattle.dine_rules.specs.Outcomes.{with_outcomes}
use Rattle.dine_world.specs.WorldSites.{outcomes_of}
use Rattle.dine_world.specs.Worlds.{lists_of}
use Rattle.dine_rules.proofs.shared.journals.OtherOutcomes.{jobs-same}
use Rattle.dine_world.proofs.world.opening.outcomes_of.Goals as goal

-- the outcome of one job more
fails_more : (jobs : List SeenJob) (done : ℕ) (failed : Bool) → done < length jobs → failed ≡ (slice_index_or jobs (done + 1 - 1) no_job).fails
    → take (done + 1) (map (λ (j : SeenJob). j.fails) jobs) ≡ take done (map (λ (j : SeenJob). j.fails) jobs) ++ failed ∷ []
fails_more jobs done failed within is =
    let fails : SeenJob → Bool = λ (j : SeenJob). j.fails in
    let here : get_or (map fails jobs) done false ≡ failed =
    get_or-map fails jobs done no_job ∙ ap (λ (i : ℕ). fails (slice_index_or jobs i no_job)) (sym (add-sub_cancel done 1)) ∙ sym is in
    take_more (map fails jobs) done false (omega (arith, within, length-map jobs fails)) ∙ ap (λ (b : Bool). take done (map fails jobs) ++ b ∷ []) here

pub loop-done-preserved : goal.loop-done-preserved
loop-done-preserved c =
    let other : SeenPlan = with_outcomes c.args.plan.now (lists_of c.args.fails.now) in
    let within : c.loop-done.done < job_count other c.args.site = omega (arith, c.loop-done-test.true, c.jobs-jobs.ensures.count, jobs-same c.args.plan.now (lists_of c.args.fails.now) c.args.site) in
    record {
      so_far = c.push_reserved.ensures.items ∙ ap (λ (l : List Bool). l ++ c.has_failed.result ∷ []) c.loop-done.invariant.so_far
          ∙ sym (fails_more (jobs_of other c.args.site) c.loop-done.done c.has_failed.result within c.has_failed.ensures);
      count = search rules;
      room = search rules;
    }

pub returns : goal.returns
returns c =
    let fails : List (List Bool) = lists_of c.args.fails.now in
    let other : SeenPlan = with_outcomes c.args.plan.now fails in
    let all : c.loop-done.done ≡ job_count other c.args.site = omega (arith, c.loop-done-test.false, c.loop-done.auto.done-end, c.jobs-jobs.ensures.count, jobs-same c.args.plan.now fails c.args.site) in
    let long : c.loop-done.done ≡ length (outcomes_of other c.args.site) = all ∙ sym (length-map (jobs_of other c.args.site) (λ (j : SeenJob). j.fails)) in
    c.new.ensures ∙ c.loop-done.invariant.so_far ∙ ap (λ (n : ℕ). take n (outcomes_of other c.args.site)) long ∙ take-length (outcomes_of other c.args.site)
