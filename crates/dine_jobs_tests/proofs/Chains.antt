-- What a chain of calls gives, if each notes its number when it fails.
use Rattle.std.proofs.Common.{◌≡◌, ℕ, Bool, true, false, List, [], ◌∷◌, Option, Some, if◌then◌else◌, sym, ap, ◌∙◌}
use Rattle.std.proofs.Math.Logic.{∥∥₁_elim}
use Rattle.std.specs.Coded.{Coded-set, coded_option, coded_ℕ}
use Rattle.std.specs.List.{last_or}
use Rattle.dine_plan.specs.Plan.{SeenPlan}
use Rattle.dine_jobs.specs.JobRuns.{AreDoneBy, HasRun, failed_numbers}
use Rattle.dine_jobs.specs.declared.done.SiteDone.{SiteDone}
use Rattle.dine_jobs_tests.specs.Refused.{HaveNotedLast}

module _ {J : Type 0} (noted : J → Option ℕ) where
  -- what the job notes in one call
  abbrev pub Notes : J → ℕ → Bool → J → Type 0
  Notes old k ok new = noted new ≡ (if ok then noted old else Some k)

  -- one call before the others
  one_more : (first : J) (k : ℕ) (ok : Bool) (next last : J) (calls : _) → Notes first k ok next → noted last ≡ last_or (noted next) (failed_numbers calls) → noted last ≡ last_or (noted first) (failed_numbers (record { k = k; ok = ok } ∷ calls))
  one_more first k true next last calls note rest = rest ∙ ap (λ was. last_or was (failed_numbers calls)) note
  one_more first k false next last calls note rest = rest ∙ ap (λ was. last_or was (failed_numbers calls)) note

  -- all calls: the last one that failed is the last that was noted
  chain_notes : (first : J) (calls : _) (last : J) → HasRun Notes first calls last → noted last ≡ last_or (noted first) (failed_numbers calls)
  chain_notes first [] last ran = ap noted ran
  chain_notes first (call ∷ calls) last ran = one_more first call.k call.ok ran.0 last calls ran.1 (chain_notes ran.0 calls last ran.2)

  -- So it is for each site. `IsDoneBy` says only that there is a chain. That is enough, since an equation of two
  -- options of numbers has at most one proof.
  pub all_noted : {F : Type 0} (manner : _) (plan : SeenPlan) (given : List J) (left : List (SiteDone J F)) → AreDoneBy Notes manner plan given left → HaveNotedLast noted given left
  all_noted manner plan given left done s job site at left_at =
      let is = done.each s job site at left_at in
      ∥∥₁_elim is.ran (Coded-set (coded_option coded_ℕ) _ _) (λ ran. chain_notes job site.log.calls site.job ran) ∙ ap (last_or (noted job)) (sym is.failures)
