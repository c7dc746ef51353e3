-- One call more of a job.
use Rattle.std.proofs.Common.{◌≡◌, ℕ, Bool, true, false, not, List, [], ◌∷◌, ◌++◌, filter, refl, sym, ◌∙◌, ap, subst, append-nil}
use Rattle.std.proofs.Math.Logic.{∥∥₁_map}
use Rattle.std.proofs.lemmas.List.{map-append}
use Rattle.std.proofs.lemmas.List.Elements.{filter-append}
use Rattle.dine_site_thread.specs.Diners.{meals_called}
use Rattle.dine_site_thread.specs.declared.diner.Call.{Call}
use Rattle.dine_jobs.specs.JobRuns.{HasRun, failed_numbers}

pub run_more : {J : Type 0} (after : J → ℕ → Bool → J → Type 0) (first : J) (calls : List Call) (old : J) (call : Call) (new : J) → HasRun after first calls old → after old call.k call.ok new → HasRun after first (calls ++ call ∷ []) new
run_more after first [] old call new was did = (new, subst (λ j. after j call.k call.ok new) was did, refl)
run_more after first (one ∷ calls) old call new was did = (was.0, was.1, run_more after was.0 calls old call new was.2 did)

-- so it is where the call is known by its parts
pub ran_more : {J : Type 0} (after : J → ℕ → Bool → J → Type 0) (before calls : List Call) (k number_called : ℕ) (ok went : Bool) (first old new : J) → calls ≡ before ++ record { k = k; ok = ok } ∷ [] → number_called ≡ k → ok ≡ went → ∥ HasRun after first before old ∥₁ → after old number_called went new → ∥ HasRun after first calls new ∥₁
ran_more after before calls k number_called ok went first old new grown number answer was did =
    let did_so = subst (λ b. after old k b new) (sym answer) (subst (λ n. after old n went new) number did) in
    subst (λ all. ∥ HasRun after first all new ∥₁) (sym grown) (∥∥₁_map was (λ ran. run_more after first before old (record { k = k; ok = ok }) new ran did_so))

failed_last : (old : List Call) (call : Call) → failed_numbers (old ++ call ∷ []) ≡ failed_numbers old ++ failed_numbers (call ∷ [])
failed_last old call =
    let ill = λ (c : Call). not c.ok in
    ap meals_called (filter-append ill old (call ∷ [])) ∙ map-append (λ (c : Call). c.k) (filter ill old) (filter ill (call ∷ []))

-- a call that went well
pub failed_well : (old new : List Call) (k : ℕ) (ok : Bool) (numbers : List ℕ) → new ≡ old ++ record { k = k; ok = ok } ∷ [] → ok ≡ true → numbers ≡ failed_numbers old → numbers ≡ failed_numbers new
failed_well old new k ok numbers grown well was =
    let call : Bool → Call = λ b. record { k = k; ok = b } in
    was ∙ sym (append-nil (failed_numbers old)) ∙ sym (ap failed_numbers (grown ∙ ap (λ b. old ++ call b ∷ []) well) ∙ failed_last old (call true))

-- a call that failed
pub failed_ill : (old new : List Call) (k : ℕ) (ok : Bool) (numbers more : List ℕ) → new ≡ old ++ record { k = k; ok = ok } ∷ [] → ok ≡ false → numbers ≡ failed_numbers old → more ≡ numbers ++ k ∷ [] → more ≡ failed_numbers new
failed_ill old new k ok numbers more grown ill was is =
    let call : Bool → Call = λ b. record { k = k; ok = b } in
    is ∙ ap (λ (ks : List ℕ). ks ++ k ∷ []) was ∙ sym (ap failed_numbers (grown ∙ ap (λ b. old ++ call b ∷ []) ill) ∙ failed_last old (call false))
