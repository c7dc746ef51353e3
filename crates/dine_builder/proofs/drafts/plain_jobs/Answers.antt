use Rattle.std.proofs.Common.{◌+◌, [], ◌∷◌, ◌++◌, sym, ap, ◌∙◌, arith}
use Rattle.std.proofs.lemmas.List.FromFn.{map-range_with_len_more}
use Rattle.dine_builder.specs.Draft.{plain_job}
use Rattle.dine_builder.proofs.drafts.plain_jobs.Goals as goal

pub loop-i-preserved : goal.loop-i-preserved
loop-i-preserved c =
    let i = c.loop-i.i in
    c.in_ok-push.ensures.items ∙ ap (λ jobs. jobs ++ plain_job (i + 1) ∷ []) c.loop-i.invariant ∙ sym (map-range_with_len_more plain_job 1 i (i + 1) (omega arith))
