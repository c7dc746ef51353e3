-- What is left of each site, by what the run says of its diner.
use Rattle.std.proofs.Common.{◌≡◌, ℕ, zero, suc, ◌+◌, Bool, false, List, [], ◌∷◌, ◌++◌, Some, length, map, slice_get, replicate, refl, sym, ap, ◌∙◌, subst, inl, inr, arith}
use Rattle.std.specs.Global.{Vec}
use Rattle.std.proofs.lemmas.List.{length-map, length-replicate}
use Rattle.std.proofs.lemmas.Option.{none-some, same_Some, slice_get_within}
use Rattle.std.proofs.lemmas.Simd.{map-map}
use Rattle.dine_token.specs.Lawful.{count_from}
use Rattle.dine_graph.specs.Plan.{SeenPlan, job_count, resigns, site_count}
use Rattle.dine_site_thread.proofs.shared.lists.Seen.{there_is}
use Rattle.dine_site_thread.specs.CallLogs.{SeenCallLog, no_calls}
use Rattle.dine_site_thread.specs.Diners.{HasLastFailed, ObeysFailures, meals_called}
use Rattle.dine_site_thread.specs.declared.diner.Call.{Call}
use Rattle.dine_site_thread.specs.declared.diner.Diner as diners
use Rattle.dine_site_thread.specs.declared.manner.Manner.{Manner}
use Rattle.dine_threads.specs.Gathered.{AreFinishedOuts, AreOutsOf, IsFinishedOut, IsOutOf}
use Rattle.dine_threads.specs.declared.gathered.SiteOut.{SiteOut}
use Rattle.dine_jobs.specs.JobRuns.{AreDoneBy, HasRun, IsDoneBy, failed_numbers, numbers_of}
use Rattle.dine_jobs.specs.declared.done.SiteDone.{SiteDone}
use Rattle.dine_jobs.specs.declared.job.Failure.{Failure}

-- what stands at a place of a list that was made of another
mapped_at : {X Y : Type 0} (f : X → Y) (xs : List X) (k : ℕ) (y : Y) → slice_get (map f xs) k ≡ Some y → (x : X) × (slice_get xs k ≡ Some x) × (f x ≡ y)
mapped_at f [] k y at = absurd (none-some y at)
mapped_at f (x ∷ xs) zero y at = (x, refl, same_Some (f x) y at)
mapped_at f (x ∷ xs) (suc k) y at = mapped_at f xs k y at

-- two maps that agree at each place
map_same : {X Y : Type 0} (f h : X → Y) (xs : List X) → ((k : ℕ) (x : X) → slice_get xs k ≡ Some x → f x ≡ h x) → map f xs ≡ map h xs
map_same f h [] each = refl
map_same f h (x ∷ xs) each = ap (λ y. y ∷ map f xs) (each 0 x refl) ∙ ap (λ ys. h x ∷ ys) (map_same f h xs (λ k y at. each (suc k) y at))

length-count_from : (n first : ℕ) → length (count_from first n) ≡ n
length-count_from zero first = refl
length-count_from (suc n) first = ap suc (length-count_from n (first + 1))

module _ {D J F : Type 0} (after : J → ℕ → Bool → J → Type 0) (manner : Manner) (plan : SeenPlan) (given : List J) (job_of : D → J) (log_of : D → SeenCallLog) (failures_of : D → Vec (Failure F)) (site_of : D → ℕ)
    (ran : (d : D) (first : J) → slice_get given (site_of d) ≡ Some first → ∥ HasRun after first (log_of d).calls (job_of d) ∥₁)
    (failed : (d : D) → numbers_of (failures_of d).items ≡ failed_numbers (log_of d).calls)
    (eater : diners.Ghosts D) (calls_are : (d : D) → eater.calls d ≡ (log_of d).calls) (marks_are : (d : D) → eater.marks d ≡ replicate (site_of d) false) where
  abbrev pub left_by : SiteOut D → SiteDone J F
  left_by out = record { site = record { 0 = site_of out.diner }; job = job_of out.diner; log = log_of out.diner; failures = failures_of out.diner; journal = out.journal; checks = out.checks }

  -- the diner had as many calls as its site ate meals, and they are those since the run began
  called : (s : ℕ) (diner : D) (out : SiteOut D) → log_of diner ≡ no_calls (job_count plan s) → (is : IsOutOf eater manner plan s diner out) → ((log_of out.diner).calls ≡ is.eaten.added) × (length (log_of out.diner).calls ≡ out.ate)
  called s diner out fresh is =
      let added = is.eaten.added in
      let all : (log_of out.diner).calls ≡ added = sym (calls_are out.diner) ∙ is.eaten.called ∙ ap (λ calls. calls ++ added) (calls_are diner ∙ ap (λ (log : SeenCallLog). log.calls) fresh) in
      (all, ap length all ∙ sym (length-map added (λ (call : Call). call.k)) ∙ ap length is.eaten.in_order ∙ length-count_from out.ate 1)

  done_at : (s : ℕ) (diner : D) (first : J) (out : SiteOut D) → log_of diner ≡ no_calls (job_count plan s) → site_of diner ≡ s → slice_get given s ≡ Some first → IsOutOf eater manner plan s diner out → IsFinishedOut plan s out → IsDoneBy after manner plan s first (left_by out)
  done_at s diner first out fresh here at is finished =
      let none : eater.calls diner ≡ [] = calls_are diner ∙ ap (λ (log : SeenCallLog). log.calls) fresh in
      let is_called = called s diner out fresh is in
      let still : site_of out.diner ≡ s = sym (length-replicate (site_of out.diner) false) ∙ ap length (sym (marks_are out.diner) ∙ is.eaten.marked ∙ marks_are diner) ∙ length-replicate (site_of diner) false ∙ here in
      record {
        in_order = ap meals_called is_called.0 ∙ is.eaten.in_order ∙ sym (ap (count_from 1) is_called.1);
        all = elim finished.has_no_job_left [
          | inl whole ↦ inl (is_called.1 ∙ whole)
          | inr quit ↦ inr (quit.0, subst (HasLastFailed []) (calls_are out.diner) (subst (λ before. HasLastFailed before (eater.calls out.diner)) none (is.obeys.quits quit.1)))
        ];
        obeys = subst (ObeysFailures (resigns plan s) out.journal.items []) (calls_are out.diner) (subst (λ before. ObeysFailures (resigns plan s) out.journal.items before (eater.calls out.diner)) none is.obeys);
        ran = ran out.diner first (ap (slice_get given) still ∙ at);
        failures = failed out.diner;
        checks = is.checks;
        names = still;
      }

  module _ (diners : List D) (outs : List (SiteOut D))
      (fresh : (s : ℕ) (d : D) → slice_get diners s ≡ Some d → log_of d ≡ no_calls (job_count plan s))
      (here : (s : ℕ) (d : D) → slice_get diners s ≡ Some d → site_of d ≡ s)
      (many : length diners ≡ site_count plan)
      (are : AreOutsOf eater manner plan diners outs) where
    pub done_by : AreFinishedOuts plan outs → AreDoneBy after manner plan given (map left_by outs)
    done_by finished = record {
      count = length-map outs left_by ∙ are.count;
      each = λ s first left at left_at.
          let out = mapped_at left_by outs s left left_at in
          let diner = there_is diners s (omega (arith, slice_get_within outs s out.0 out.1, are.count, many)) in
          subst (IsDoneBy after manner plan s first) out.2 (done_at s diner.0 first out.0 (fresh s diner.0 diner.1) (here s diner.0 diner.1) at (are.each s diner.0 out.0 diner.1 out.1) (finished s out.0 out.1));
    }

    -- the meals of each site are the calls of its job
    pub meals_left : map (λ (out : SiteOut D). out.ate) outs ≡ map (λ (left : SiteDone J F). length left.log.calls) (map left_by outs)
    meals_left =
        map_same (λ (out : SiteOut D). out.ate) (λ (out : SiteOut D). length (log_of out.diner).calls) outs
        (λ s out at.
        let diner = there_is diners s (omega (arith, slice_get_within outs s out at, are.count, many)) in
        sym (called s diner.0 out (fresh s diner.0 diner.1) (are.each s diner.0 out diner.1 at)).1)
        ∙ sym (map-map (λ (left : SiteDone J F). length left.log.calls) left_by outs)
