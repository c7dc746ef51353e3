-- What a run of the diners of a plan leaves: each job that fails did so once, and the rows are those of the plan.
use Rattle.std.proofs.Common.{◌≡◌, ◌⊎◌, inl, inr, ℕ, zero, suc, ◌+◌, ◌<◌, ◌≤◌, Bool, true, false, not, cond, List, [], ◌∷◌, ◌++◌, All, Some, length, map, take, count_by, get_or, slice_get, option_map, refl, sym, ◌∙◌, ap, subst, arith}
use Rattle.std.proofs.lemmas.List.{length-map}
use Rattle.std.proofs.lemmas.List.Sums.{sum_by-append}
use Rattle.std.proofs.lemmas.List.FromFn.{fill_by_all, get_or-map-range_with_len, length-map-range_with_len}
use Rattle.std.proofs.lemmas.Option.{get_or_from_slice_get, same_Some, slice_get-map, slice_get_read, slice_get_within}
use Rattle.dine_graph.specs.Plan.{SeenPlan, SeenJob, IsPlan, site_count, edge_count, job_count, jobs_of, resigns}
use Rattle.dine_token.specs.declared.log_entry.Entry.{Entry}
use Rattle.dine_token.specs.Fork.{SeenFork}
use Rattle.dine_token.specs.Lawful.{count_from}
use Rattle.dine_rules.specs.JoinedEnds.{IsWholeLog}
use Rattle.dine_rules.specs.Values.{value_by_amounts, has_no_set, value_by}
use Rattle.dine_link.specs.Links.{SeenLink}
use Rattle.dine_site_thread.specs.declared.diner.Call.{Call}
use Rattle.dine_threads.specs.declared.gathered.SiteOut.{SiteOut}
use Rattle.dine_site_thread.specs.Diners.{HasLastFailed, StopsAtFailed, meals_called, failed_in, shows_quit}
use Rattle.dine_site_thread.specs.declared.manner.Manner.{Manner}
use Rattle.dine_site_thread.specs.declared.manner.Manner.TheVariants.{Patient}
use Rattle.dine.specs.declared.run_text.TheConstants.{RUN_PATIENCE}
use Rattle.dine_threads.specs.Gathered.{AreFinishedOuts, AreOutsOf, IsFinishedOut, IsOutOf}
use Rattle.dine_threads.specs.Headline.{IsHeadline}
use Rattle.dine_threads.specs.declared.tables.EdgeRow.{EdgeRow}
use Rattle.dine_threads.specs.declared.tables.SiteRow.{SiteRow}
use Rattle.dine_threads.specs.Tables.{due_edge_rows, due_site_rows, edge_row}
use Rattle.dine_threads.proofs.shared.all_sites.Rows.{edge_rows-due, headline_gathered, site_rows-due, values-due}
use Rattle.dine_site_thread.proofs.shared.lists.Seen.{there_is}
use Rattle.dine.specs.PlanDiners.{IsDinerOf, SeenPlanDiner, fails_of, first_word, fits_marks, mark_of, plan_diner}
use Rattle.dine.specs.Tables.{IsEdgeRowOf, IsSiteRowOf}
use Rattle.dine.specs.Run.{HasDueRows, diner_of, diners_of, done_to_failed, failing_by_site, failing_jobs, meals_at}

-- a count begins with its first element
count_first : {X : Type 0} (p : X → Bool) (x : X) (xs : List X) → count_by p (x ∷ xs) ≡ count_by p (x ∷ []) + count_by p xs
count_first p x xs = sum_by-append (λ y. cond (p y) 1 0) (x ∷ []) xs

-- a result that fits its mark is an error if and only if the mark is set
fits_so : (mark m ok : Bool) → m ≡ mark → cond m (not ok) ok ≡ true → not ok ≡ mark
fits_so true m ok is fits = ap (λ (b : Bool). cond b (not ok) ok) (sym is) ∙ fits
fits_so false m true is fits = refl
fits_so false m false is fits = sym fits ∙ ap (λ (b : Bool). cond b true false) is

length-count_from : (n first : ℕ) → length (count_from first n) ≡ n
length-count_from zero first = refl
length-count_from (suc n) first = ap suc (length-count_from n (first + 1))

-- each call has a mark, and fails if and only if the mark is set
abbrev pub FitMarks : List Bool → List Call → Type 0
FitMarks marks [] = Unit {0}
FitMarks [] (call ∷ calls) = ⊥
FitMarks (mark ∷ marks) (call ∷ calls) = (not call.ok ≡ mark) × FitMarks marks calls

-- this holds for the calls of the meals from `first` on, in order, if each fits its mark
results_by_marks : (marks rest : List Bool) (first : ℕ) (calls : List Call) → ((i k : ℕ) → k ≡ first + i → i < length rest → mark_of marks k ≡ get_or rest i false)
    → length calls ≤ length rest → meals_called calls ≡ count_from first (length calls) → All (λ (call : Call). fits_marks marks call.k call.ok ≡ true) calls → FitMarks rest calls
results_by_marks marks rest first [] at within called fit = tt
results_by_marks marks [] first (call ∷ calls) at within called fit = absurd (omega (arith, within))
results_by_marks marks (mark ∷ rest) first (call ∷ calls) at within called fit =
    let k_is : call.k ≡ first = cc in
    let others : meals_called calls ≡ count_from (first + 1) (length calls) = cc in
    let marked : mark_of marks call.k ≡ mark = at 0 call.k (omega (arith, k_is)) (omega arith) in (
      fits_so mark (mark_of marks call.k) call.ok marked (fit 0 call (omega arith)),
      results_by_marks marks rest (first + 1) calls (λ i k is below. at (suc i) k (omega (arith, is)) (omega (arith, below))) (omega (arith, within)) others (λ k d below. fit (suc k) d (omega (arith, below))),
    )

abbrev pub fails_in : List SeenJob → List Bool
fails_in jobs = map (λ (job : SeenJob). job.fails) jobs

-- as many calls failed as jobs fail of those that were done
failed_by_jobs : (jobs : List SeenJob) (calls : List Call) → FitMarks (fails_in jobs) calls → failed_in calls ≡ count_by (λ (job : SeenJob). job.fails) (take (length calls) jobs)
failed_by_jobs jobs [] is = refl
failed_by_jobs [] (call ∷ calls) is = absurd is
failed_by_jobs (job ∷ jobs) (call ∷ calls) is =
    let fails : SeenJob → Bool = λ (j : SeenJob). j.fails in
    count_first (λ (c : Call). not c.ok) call calls ∙ ap (λ (b : Bool). 0 + cond b 1 0 + failed_in calls) is.0 ∙ ap (λ (n : ℕ). 0 + cond job.fails 1 0 + n) (failed_by_jobs jobs calls is.1)
    ∙ sym (count_first fails job (take (length calls) jobs))

-- the last call that failed is after the first call, if the first went well
no_last : (before : List Call) (last : Call) → [] ≡ before ++ last ∷ [] → ⊥
no_last [] last is = cc
no_last (call ∷ before) last is = cc

last_behind : (call : Call) (calls before : List Call) (last : Call) → call.ok ≡ true → call ∷ calls ≡ before ++ last ∷ [] → last.ok ≡ false → HasLastFailed [] calls
last_behind call calls [] last went is failed = absurd cc
last_behind call calls (first ∷ before) last went is failed = record { before = before; last = last; called = cc; failed = failed }

end_behind : (jobs : List SeenJob) (call : Call) (calls : List Call) → call.ok ≡ true → (suc (length calls) ≡ suc (length jobs)) ⊎ HasLastFailed [] (call ∷ calls) → (length calls ≡ length jobs) ⊎ HasLastFailed [] calls
end_behind jobs call calls went (inl all) = inl (omega (arith, all))
end_behind jobs call calls went (inr had) = inr (last_behind call calls had.before had.last went had.called had.failed)

-- if no call is after one that failed, and the calls are for all jobs or the last one failed, they are for the jobs
-- up to the first that fails
done_so : (jobs : List SeenJob) (call : Call) (calls : List Call) (ok fails : Bool) → call.ok ≡ ok → not ok ≡ fails → StopsAtFailed [] (call ∷ calls) → (call.ok ≡ true → length calls ≡ done_to_failed jobs)
    → suc (length calls) ≡ 1 + cond fails 0 (done_to_failed jobs)
done_so jobs call calls false false went same stops rest = absurd cc
done_so jobs call calls false true went same stops rest = ap (λ (later : List Call). suc (length later)) (stops [] calls call refl went)
done_so jobs call calls true true went same stops rest = absurd cc
done_so jobs call calls true false went same stops rest = omega (arith, rest went)

done_by_calls : (jobs : List SeenJob) (calls : List Call) → FitMarks (fails_in jobs) calls → StopsAtFailed [] calls → (length calls ≡ length jobs) ⊎ HasLastFailed [] calls → length calls ≡ done_to_failed jobs
done_by_calls [] [] is stops end = refl
done_by_calls (job ∷ jobs) [] is stops (inl all) = absurd (omega (arith, all))
done_by_calls (job ∷ jobs) [] is stops (inr had) = absurd (no_last had.before had.last had.called)
done_by_calls [] (call ∷ calls) is stops end = absurd is
done_by_calls (job ∷ jobs) (call ∷ calls) is stops end =
    done_so jobs call calls call.ok job.fails refl is.0 stops
    (λ went. done_by_calls jobs calls is.1 (λ before later last split failed. stops (call ∷ before) later last (ap (λ (rest : List Call). call ∷ rest) split) failed) (end_behind jobs call calls went end))

-- a site that resigns ate up to the first job that fails, and any other all
ate_so : (resigns quit : Bool) (jobs : List SeenJob) (ate : ℕ) (calls : List Call) → length calls ≡ ate → FitMarks (fails_in jobs) calls → (resigns ≡ true → StopsAtFailed [] calls) → (quit ≡ true → HasLastFailed [] calls)
    → (ate ≡ length jobs) ⊎ ((resigns ≡ true) × (quit ≡ true)) → ate ≡ cond resigns (done_to_failed jobs) (length jobs)
ate_so false quit jobs ate calls many is stops quits (inl all) = all
ate_so false quit jobs ate calls many is stops quits (inr both) = absurd cc
ate_so true quit jobs ate calls many is stops quits (inl all) = sym many ∙ done_by_calls jobs calls is (stops refl) (inl (many ∙ all))
ate_so true quit jobs ate calls many is stops quits (inr both) = sym many ∙ done_by_calls jobs calls is (stops refl) (inr (quits both.1))

module _ {manner : Manner} (plan : SeenPlan) (s : ℕ) (out : SiteOut SeenPlanDiner) (left : IsOutOf plan_diner manner plan s (diner_of plan s) out) where
  -- the site's diner has a call for each meal, and each call fails if and only if its job does
  pub called_as_often : length left.eaten.added ≡ out.ate
  called_as_often = sym (length-map left.eaten.added (λ (call : Call). call.k)) ∙ ap length left.eaten.in_order ∙ length-count_from out.ate 1

  pub fit : FitMarks (fails_of plan s) left.eaten.added
  fit =
      let fails = fails_of plan s in
      results_by_marks fails fails 1 left.eaten.added (λ i k is below. ap (λ (n : ℕ). mark_of fails n) (let next : k ≡ suc i = omega (arith, is) in next))
      (omega (arith, called_as_often, left.ate, length-map (jobs_of plan s) (λ (job : SeenJob). job.fails))) (left.eaten.in_order ∙ ap (count_from 1) (sym called_as_often)) left.eaten.answers

  -- if it ended well, it ate the meals that the plan gives it, and in as many of them its job failed
  ate_at : IsFinishedOut plan s out → out.ate ≡ meals_at plan s
  ate_at finished =
      let same : out.diner.calls ≡ left.eaten.added = left.eaten.called in
      ate_so (resigns plan s) (shows_quit out.journal.items) (jobs_of plan s) out.ate left.eaten.added called_as_often fit
      (λ does. subst (StopsAtFailed []) same (left.obeys.stops does)) (λ reported. subst (HasLastFailed []) same (left.obeys.quits reported)) finished.has_no_job_left

  failed_at : IsFinishedOut plan s out → out.failed ≡ failing_jobs plan s
  failed_at finished =
      sym left.eaten.failures ∙ failed_by_jobs (jobs_of plan s) left.eaten.added fit
      ∙ ap (λ (n : ℕ). count_by (λ (job : SeenJob). job.fails) (take n (jobs_of plan s))) (called_as_often ∙ ate_at finished)

-- the numbers in the rows of the plan are its own
pub due_edge_rows_named : (plan : SeenPlan) (meals : ℕ → ℕ) (values : List ℕ) → IsPlan plan → All (IsEdgeRowOf plan) (due_edge_rows plan meals values)
due_edge_rows_named plan meals values is_plan k d within =
    let made : ℕ → EdgeRow = λ edge. edge_row plan meals (get_or values edge 0) edge in
    let below : k < edge_count plan = omega (arith, within, length-map-range_with_len made 0 (edge_count plan)) in
    subst (IsEdgeRowOf plan) (sym (get_or-map-range_with_len made 0 (edge_count plan) k k d below (omega arith)))
    (record { edge_in = below; lo_in = omega (arith, is_plan.ordered k below, is_plan.within k below); hi_in = is_plan.within k below })

pub due_site_rows_named : (plan : SeenPlan) (meals : ℕ → ℕ) (failed : List ℕ) → All (IsSiteRowOf plan) (due_site_rows plan meals failed)
due_site_rows_named plan meals failed k d within =
    let made : ℕ → SiteRow = λ s. record { site = s; meals = meals s; failed = get_or failed s 0 } in
    let below : k < site_count plan = omega (arith, within, length-map-range_with_len made 0 (site_count plan)) in
    subst (IsSiteRowOf plan) (sym (get_or-map-range_with_len made 0 (site_count plan) k k d below (omega arith))) below

-- each site has its diner
pub diner_count : (plan : SeenPlan) → length (diners_of plan) ≡ site_count plan
diner_count plan = length-map-range_with_len (diner_of plan) 0 (site_count plan)

pub diner_at : (plan : SeenPlan) (s : ℕ) → s < site_count plan → slice_get (diners_of plan) s ≡ Some (diner_of plan s)
diner_at plan s within = slice_get_read (diners_of plan) (site_count plan) s (diner_of plan s) (sym (diner_count plan)) within (sym (get_or-map-range_with_len (diner_of plan) 0 (site_count plan) s s (diner_of plan s) within (omega arith)))

-- a diner is that of its site by what is known of it, and it has room for all jobs
pub diner_is : (plan : SeenPlan) (s : ℕ) (diner : SeenPlanDiner) → diner.site ≡ s → diner.calls ≡ [] → diner.marks ≡ fails_of plan s → diner.room ≡ job_count plan s → diner.word ≡ first_word → diner ≡ diner_of plan s
diner_is plan s diner site calls marks room word =
    ap (λ (n : ℕ). record diner { site = n }) site
    ∙ ap (λ (these : List Call). record diner { site = s; calls = these }) calls
    ∙ ap (λ (these : List Bool). record diner { site = s; calls = []; marks = these }) marks
    ∙ ap (λ (n : ℕ). record diner { site = s; calls = []; marks = fails_of plan s; room = n }) room
    ∙ ap (λ (n : ℕ). record (diner_of plan s) { word = n }) word

diner_there : (plan : SeenPlan) (diners : List SeenPlanDiner) → diners ≡ diners_of plan → (s : ℕ) (diner : SeenPlanDiner) → slice_get diners s ≡ Some diner → diner ≡ diner_of plan s
diner_there plan diners are s diner at =
    let within : s < site_count plan = omega (arith, slice_get_within diners s diner at, ap length are, diner_count plan) in
    same_Some diner (diner_of plan s) (sym at ∙ ap (λ (ds : List SeenPlanDiner). slice_get ds s) are ∙ diner_at plan s within)

pub diner_has_room : (plan : SeenPlan) (diners : List SeenPlanDiner) → diners ≡ diners_of plan → (s : ℕ) (diner : SeenPlanDiner) → slice_get diners s ≡ Some diner → job_count plan s ≤ diner.room
diner_has_room plan diners are s diner at = omega (arith, ap (λ (d : SeenPlanDiner). d.room) (diner_there plan diners are s diner at))

-- it expects to eat at that site
pub diner_expects : (plan : SeenPlan) (diners : List SeenPlanDiner) → diners ≡ diners_of plan → (s : ℕ) (diner : SeenPlanDiner) → slice_get diners s ≡ Some diner → IsDinerOf diner plan s
diner_expects plan diners are s diner at =
    let same = diner_there plan diners are s diner at in
    (sym (ap (λ (d : SeenPlanDiner). d.site) same), ap (λ (d : SeenPlanDiner). d.marks) same)

module _ (plan : SeenPlan) (forks : List SeenFork) (outs : List (SiteOut SeenPlanDiner)) where
  abbrev AreOuts : Type 0
  AreOuts = AreOutsOf plan_diner (Patient RUN_PATIENCE) plan (diners_of plan) outs

  -- each site was left by its own diner
  left_at : AreOuts → (s : ℕ) (out : SiteOut SeenPlanDiner) → slice_get outs s ≡ Some out → IsOutOf plan_diner (Patient RUN_PATIENCE) plan s (diner_of plan s) out
  left_at are s out at = are.each s (diner_of plan s) out (diner_at plan s (omega (arith, slice_get_within outs s out at, are.count))) at

  -- so it is at each site
  failed_by_site : AreOuts → AreFinishedOuts plan outs → map (λ (out : SiteOut SeenPlanDiner). out.failed) outs ≡ failing_by_site plan
  failed_by_site are finished =
      let failed_of : SiteOut SeenPlanDiner → ℕ = λ (out : SiteOut SeenPlanDiner). out.failed in
      fill_by_all (failing_jobs plan) (map failed_of outs) (site_count plan) 0 (length-map outs failed_of ∙ are.count) (λ s within.
      let out = there_is outs s (omega (arith, within, are.count)) in
      get_or_from_slice_get (map failed_of outs) s out.0.failed 0 (slice_get-map failed_of outs s ∙ ap (option_map failed_of) out.1)
      ∙ failed_at plan s out.0 (left_at are s out.0 out.1) (finished s out.0 out.1))

  -- what `run` returns has the rows of the plan
  pub due_rows : (links : List SeenLink) (diners : List SeenPlanDiner) → diners ≡ diners_of plan → IsPlan plan → IsHeadline plan (map (λ (out : SiteOut SeenPlanDiner). out.ate) outs) links forks
      → AreOutsOf plan_diner (Patient RUN_PATIENCE) plan diners outs → AreFinishedOuts plan outs
      → ((plan : SeenPlan) (edge low_ate high_ate : ℕ) (log : List Entry) → IsPlan plan → edge < edge_count plan → has_no_set plan ≡ true → IsWholeLog plan edge low_ate high_ate log → value_by plan edge log ≡ value_by_amounts plan edge low_ate high_ate)
      → HasDueRows plan forks outs
  due_rows links diners same is_plan headline left finished adds =
      let are = subst (λ (ds : List SeenPlanDiner). AreOutsOf plan_diner (Patient RUN_PATIENCE) plan ds outs) same left in
      let gathered = headline_gathered plan forks outs links (Patient RUN_PATIENCE) plan_diner (diners_of plan) (diner_count plan) headline are in
      let eaten : (s : ℕ) (out : SiteOut SeenPlanDiner) → slice_get outs s ≡ Some out → out.ate ≡ meals_at plan s = λ s out at. ate_at plan s out (left_at are s out at) (finished s out at) in
      record {
        is_plan = is_plan;
        gathered = gathered;
        values = map (λ (fork : SeenFork). fork.value) forks;
        due = values-due plan forks outs links is_plan headline (meals_at plan) eaten are.count adds;
        edges = edge_rows-due plan forks outs links is_plan headline (meals_at plan) eaten are.count;
        sites = site_rows-due plan forks outs (meals_at plan) gathered eaten ∙ ap (due_site_rows plan (meals_at plan)) (failed_by_site are finished);
      }
