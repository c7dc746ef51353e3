use Rattle.std.proofs.Common.{not, ◌+◌, map, length, rules, tests, refl, ap}
use Rattle.std.specs.List.{range_with_len}
use Rattle.std.proofs.lemmas.List.Folds.{list_any-append}
use Rattle.dine_graph.specs.Job.{seen_job, plain_job}
use Rattle.dine_draft.specs.Refusals.{has_bad_name, is_unnamed}
use Rattle.dine_draft.proofs.shared.Searches.{any_seen}
use Rattle.dine_draft.proofs.sites.has_bad_name.Goals as goal

pub returns-then-not-is_name : goal.returns-then-not-is_name
unfolding has_bad_name
returns-then-not-is_name c = rw (← c.as_str.ensures.value, ← c.is_name.ensures, ap not c.if-not-is_name.true) refl

pub returns : goal.returns
unfolding has_bad_name
returns c =
    let site = c.args.site.now in
    let listed = any_seen seen_job is_unnamed c.as_slice-jobs.result.now _ c.any.result c.any.ensures.ran (cc) (λ x b q k. search (rules, tests)) (ap (map seen_job) c.as_slice-jobs.ensures.value) in
    let long = ap length c.as_slice-jobs.ensures.value in
    let all = list_any-append is_unnamed (map seen_job site.jobs.items) (map plain_job (range_with_len (length site.jobs.items + 1) site.plain)) in
    rw (← c.as_str.ensures.value, ← c.is_name.ensures, c.if-not-is_name.false, all, ← listed) (rw (c.has_unnamed_number.ensures, long) refl)
