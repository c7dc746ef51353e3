use Rattle.std.proofs.Common.{Result, Ok, Err, IfErr}
use Rattle.dine_builder.proofs.CauseLemmas.{cause_of_draft}
use Rattle.dine_builder.proofs.drafts.PlanBuilder.finish.Goals as goal

err_then : {A E : Type 0} (P Q : E → Type 0) (r : Result A E) → ((e : E) → P e → Q e) → IfErr r P → IfErr r Q
err_then P Q (Ok x) f h = tt
err_then P Q (Err e) f h = f e h

pub returns-clause-cause : goal.returns-clause-cause
returns-clause-cause c =
    err_then _ _ c.finish.result (λ f first. cause_of_draft c.args.self.now f (λ other. rw c.in_ok-draft.ensures.draft at (first other))) c.finish.ensures.refused
