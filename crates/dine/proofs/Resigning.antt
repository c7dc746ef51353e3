-- In a run of the diners of a plan, the sites that resign do so as the plan says.
use Rattle.std.proofs.Common.{◌≡◌, ◌⊎◌, ◌↔◌, inl, inr, ℕ, zero, suc, ◌+◌, ◌-◌, ◌<◌, nat_lt, Bool, true, false, not, List, [], ◌∷◌, ◌++◌, Some, length, map, get_or, slice_get, option_map, refl, sym, ◌∙◌, ap, subst, arith, length-append}
use Rattle.std.specs.Global.{Vec}
use Rattle.std.proofs.lemmas.Bool.{cases_eq, lt-ltb}
use Rattle.std.proofs.lemmas.Option.{get_or_from_slice_get, slice_get-map}
use Rattle.dine_graph.specs.Plan.{SeenPlan, SeenJob, job_count, job_of, jobs_of, no_job, resigns}
use Rattle.dine_rules.specs.declared.events.EventKind.{EventKind}
use Rattle.dine_rules.specs.Journals.{IsJournal, journal_of, outcomes_in}
use Rattle.dine_rules.specs.Local.{LocalState}
use Rattle.dine_rules.specs.Shown.{ResignAsPlanned}
use Rattle.dine_site_thread.specs.declared.diner.Call.{Call}
use Rattle.dine_site_thread.specs.declared.manner.Manner.{Manner}
use Rattle.dine_site_thread.specs.Diners.{HasLastFailed, StopsAtFailed, shows_quit}
use Rattle.dine_site_thread.proofs.shared.lists.Seen.{there_is}
use Rattle.dine_threads.specs.declared.gathered.Gathered.{Gathered}
use Rattle.dine_threads.specs.declared.gathered.SiteOut.{SiteOut}
use Rattle.dine_threads.specs.Gathered.{IsFinishedOut, IsOutOf}
use Rattle.dine_threads.specs.Journals.{state_left}
use Rattle.dine_threads.specs.Runs.{IsRun}
use Rattle.dine.specs.PlanDiners.{SeenPlanDiner, plan_diner}
use Rattle.dine.specs.Run.{diner_of, diners_of}
use Rattle.dine.proofs.RunLemmas.{FitMarks, called_as_often, diner_at, fails_in, fit}

-- the job of a call did not fail if another call comes after it and the site stops at a failure
went_well : (jobs : List SeenJob) (calls : List Call) (k : ℕ) → FitMarks (fails_in jobs) calls → StopsAtFailed [] calls → k + 1 < length calls → (get_or jobs k no_job).fails ≡ false
went_well jobs [] k is stops few = absurd (omega (arith, few))
went_well [] (call ∷ calls) k is stops few = absurd is
went_well (job ∷ jobs) (call ∷ calls) zero is stops few = by_ok call.ok refl where
  by_ok : (ok : Bool) → call.ok ≡ ok → job.fails ≡ false
  by_ok true went = sym is.0 ∙ ap not went
  by_ok false failed = absurd (omega (arith, few, ap length (stops [] calls call refl failed)))
went_well (job ∷ jobs) (call ∷ calls) (suc k) is stops few =
    went_well jobs calls k is.1 (λ before later last split failed. stops (call ∷ before) later last (ap (λ (rest : List Call). call ∷ rest) split) failed) (omega (arith, few))

-- the job of the last call failed if that call did
failed_last : (jobs : List SeenJob) (before : List Call) (last : Call) (k : ℕ) → FitMarks (fails_in jobs) (before ++ last ∷ []) → last.ok ≡ false → k ≡ length before → (get_or jobs k no_job).fails ≡ true
failed_last [] [] last k is failed same = absurd is
failed_last [] (call ∷ before) last k is failed same = absurd is
failed_last (job ∷ jobs) [] last zero is failed same = sym is.0 ∙ ap not failed
failed_last (job ∷ jobs) [] last (suc k) is failed same = absurd (omega (arith, same))
failed_last (job ∷ jobs) (call ∷ before) last zero is failed same = absurd (omega (arith, same))
failed_last (job ∷ jobs) (call ∷ before) last (suc k) is failed same = failed_last jobs before last k is.1 failed (omega (arith, same))

-- what a journal shows of meal k is what the plan says, where the last call failed if the site has jobs left
shown_so : (jobs : List SeenJob) (calls : List Call) (ate k : ℕ) (failed : Bool) → FitMarks (fails_in jobs) calls → length calls ≡ ate → StopsAtFailed [] calls → (ate < length jobs → HasLastFailed [] calls)
    → k + 1 < length jobs → k < ate → ((failed ≡ true) ↔ ((k + 1 ≡ ate) × (nat_lt ate (length jobs) ≡ true))) → (get_or jobs k no_job).fails ≡ failed
shown_so jobs calls ate k failed is many stops ends few did shown = elim (cases_eq (k + 1) ate) [
  | inl last ↦
      let left : ate < length jobs = omega (arith, few, last) in
      let had = ends left in
      let at : k ≡ length had.before = omega (arith, last, many, ap length had.called, length-append had.before (had.last ∷ [])) in
      failed_last jobs had.before had.last k (subst (FitMarks (fails_in jobs)) had.called is) had.failed at ∙ sym (shown.1 (last, lt-ltb ate (length jobs) left))
  | inr more ↦ went_well jobs calls k is stops (omega (arith, many, did, more)) ∙ sym (by_outcome failed refl more)
] where
  by_outcome : (b : Bool) → failed ≡ b → (k + 1 ≡ ate → ⊥) → failed ≡ false
  by_outcome true fails more = absurd (more (shown.0 fails).0)
  by_outcome false well more = well

-- so it is at a site that resigns
at_site : {manner : Manner} (plan : SeenPlan) (s : ℕ) (out : SiteOut SeenPlanDiner) (k : ℕ) (failed : Bool) (left : IsOutOf plan_diner manner plan s (diner_of plan s) out) → IsFinishedOut plan s out → resigns plan s ≡ true → k + 1 < job_count plan s
    → k < out.ate → ((failed ≡ true) ↔ ((k + 1 ≡ out.ate) × (nat_lt out.ate (job_count plan s) ≡ true))) → (job_of plan s (k + 1)).fails ≡ failed
at_site plan s out k failed left finished does few did shown =
    let same : out.diner.calls ≡ left.eaten.added = left.eaten.called in
    let number : k + 1 - 1 ≡ k = omega arith in
    ap (λ (n : ℕ). (get_or (jobs_of plan s) n no_job).fails) number
    ∙ shown_so (jobs_of plan s) left.eaten.added out.ate k failed (fit plan s out left) (called_as_often plan s out left) (subst (StopsAtFailed []) same (left.obeys.stops does))
    (λ more. subst (HasLastFailed []) same (left.obeys.quits (quit more finished.has_no_job_left))) few did shown
  where
    quit : out.ate < job_count plan s → (out.ate ≡ job_count plan s) ⊎ ((resigns plan s ≡ true) × (shows_quit out.journal.items ≡ true)) → shows_quit out.journal.items ≡ true
    quit more (inl all) = absurd (omega (arith, more, all))
    quit more (inr both) = both.1

-- what a law says of journals
abbrev pub ShowsFailures : Type 0
ShowsFailures = (plan : SeenPlan) (s : ℕ) (journal : List EventKind) (state : LocalState) (k : ℕ) (failed : Bool) → IsJournal plan s journal state → slice_get (outcomes_in false journal) k ≡ Some failed
    → (k < state.ate) × ((failed ≡ true) ↔ ((k + 1 ≡ state.ate) × (state.has_quit ≡ true)))

module _ (shows : ShowsFailures) (manner : Manner) (plan : SeenPlan) (diners : Vec SeenPlanDiner) (gathered : Gathered SeenPlanDiner) (of_plan : diners.items ≡ diners_of plan) (run : IsRun plan_diner manner plan diners gathered) where
  abbrev outs : List (SiteOut SeenPlanDiner)
  outs = gathered.sites.items

  abbrev journal_in : SiteOut SeenPlanDiner → List EventKind
  journal_in = λ (out : SiteOut SeenPlanDiner). out.journal.items

  abbrev ate_in : SiteOut SeenPlanDiner → ℕ
  ate_in = λ (out : SiteOut SeenPlanDiner). out.ate

  pub resign_as_planned : ResignAsPlanned plan (map journal_in outs)
  resign_as_planned s k failed is_site does few shown =
      let out = there_is outs s (omega (arith, is_site, run.sites.count)) in
      let ate : get_or (map ate_in outs) s 0 ≡ out.0.ate = get_or_from_slice_get (map ate_in outs) s out.0.ate 0 (slice_get-map ate_in outs s ∙ ap (option_map ate_in) out.1) in
      let left : IsOutOf plan_diner manner plan s (diner_of plan s) out.0 = run.sites.each s (diner_of plan s) out.0 (ap (λ (ds : List SeenPlanDiner). slice_get ds s) of_plan ∙ diner_at plan s is_site) out.1 in
      let law = shows plan s (journal_of (map journal_in outs) s) (state_left plan (map ate_in outs) gathered.links.items s) k failed (run.whole.acted s is_site).by_journal shown in
      let both = subst (λ (n : ℕ). (k < n) × ((failed ≡ true) ↔ ((k + 1 ≡ n) × (nat_lt n (job_count plan s) ≡ true)))) ate law in
      at_site plan s out.0 k failed left (run.finished s out.0 out.1) does few both.0 both.1
