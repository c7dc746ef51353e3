-- How many units each teller sent, from what the run promises of its calls.
use Rattle.std.proofs.Common.{◌≡◌, ℕ, zero, suc, ◌+◌, ◌<◌, ◌++◌, List, [], ◌∷◌, All, Bool, true, Some, length, slice_get, refl, sym, ap, subst, ◌∙◌, inl, inr, arith}
use Rattle.std.proofs.lemmas.List.{length-map}
use Rattle.std.proofs.lemmas.Option.{slice_get_within}
use Rattle.dine_token.specs.Lawful.{count_from}
use Rattle.dine_graph.specs.Plan.{SeenPlan, job_count}
use Rattle.dine_run.specs.CallLogs.{SeenCallLog}
use Rattle.dine_run.specs.Diners.{HasEaten, HasLastFailed}
use Rattle.dine_site_thread.specs.declared.manner.Manner.TheVariants.{Eager}
use Rattle.dine_run.specs.Gathered.{AreFinishedOuts, AreOutsOf}
use Rattle.dine_site_thread.specs.declared.diner.Call.{Call}
use Rattle.dine_threads.specs.declared.gathered.SiteOut.{SiteOut}
use Rattle.dine_tellers.specs.Tellers.{AreFresh, HaveSent}
use Rattle.dine_tellers.specs.declared.teller.Teller.{Teller}

there_is : {A : Type 0} (xs : List A) (i : ℕ) → i < length xs → (x : A) × (slice_get xs i ≡ Some x)
there_is [] i h = absurd (omega (arith, h))
there_is (x ∷ xs) zero h = (x, refl)
there_is (x ∷ xs) (suc i) h = there_is xs i (omega (arith, h))

length-count_from : (n first : ℕ) → length (count_from first n) ≡ n
length-count_from zero first = refl
length-count_from (suc n) first = ap suc (length-count_from n (first + 1))

-- as many calls as meals, where there were none before
calls_for : (calls : Teller → List Call) (marks : Teller → List Bool) (fits : List Bool → ℕ → Bool → Bool) (ate failed : ℕ) (old new : Teller) → calls old ≡ [] → HasEaten calls marks fits ate failed old new → length (calls new) ≡ ate
calls_for calls marks fits ate failed old new none eaten =
    ap length (eaten.called ∙ ap (λ (before : List Call). before ++ eaten.added) none) ∙ sym (length-map eaten.added (λ (call : Call). call.k)) ∙ ap length eaten.in_order ∙ length-count_from ate 1

-- where all calls went well, so did the last
last_went_well : (before : List Call) (last : Call) (calls : List Call) → All (λ (call : Call). call.ok ≡ true) calls → calls ≡ before ++ last ∷ [] → last.ok ≡ true
last_went_well [] last [] well is = absurd cc
last_went_well (first ∷ before) last [] well is = absurd cc
last_went_well [] last (call ∷ calls) well is =
    let same : call ≡ last = cc in
    subst (λ (c : Call). c.ok ≡ true) same (well 0 call (omega arith))
last_went_well (first ∷ before) last (call ∷ calls) well is = last_went_well before last calls (λ k d within. well (suc k) d (omega (arith, within))) cc

-- no call was the last one that failed, so no teller's site quits
none_failed : (marks : Teller → List Bool) (ate failed : ℕ) (old new : Teller) → old.log.calls ≡ [] → HasEaten (λ (teller : Teller). teller.log.calls) marks (λ m k ok. ok) ate failed old new → HasLastFailed old.log.calls new.log.calls → ⊥
none_failed marks ate failed old new none eaten had =
    let added : eaten.added ≡ had.before ++ had.last ∷ [] =
    sym (ap (λ (calls : List Call). calls ++ eaten.added) none) ∙ sym eaten.called ∙ had.called ∙ ap (λ (calls : List Call). calls ++ had.before ++ had.last ∷ []) none in
    let well = last_went_well had.before had.last eaten.added eaten.answers added in
    let ill = had.failed in
    cc

pub have_sent : (marks : Teller → List Bool) (room : Teller → ℕ) (plan : SeenPlan) (given : List Teller) (outs : List (SiteOut Teller)) → AreFresh plan given → AreOutsOf (record { calls = λ teller. teller.log.calls; marks = marks; fits = λ m k ok. ok; room_left = room; expects = λ teller plan site. Unit {0} }) Eager plan given outs → AreFinishedOuts plan outs → HaveSent plan outs
have_sent marks room plan given outs fresh out_of finished s out at =
    let within : s < length given = omega (arith, slice_get_within outs s out at, out_of.count, fresh.count) in
    let old = there_is given s within in
    let none = ap (λ (log : SeenCallLog). log.calls) (fresh.each s old.0 old.1) in
    let left = out_of.each s old.0 out old.1 at in
    let ate : out.ate ≡ job_count plan s = elim (finished s out at).has_no_job_left [
      | inl all ↦ all
      | inr quit ↦ absurd (none_failed marks out.ate out.failed old.0 out.diner none left.eaten (left.obeys.quits quit.1))
    ] in
    out.diner.one_each ∙ calls_for (λ (teller : Teller). teller.log.calls) marks (λ m k ok. ok) out.ate out.failed old.0 out.diner none left.eaten ∙ ate
