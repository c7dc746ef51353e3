use Rattle.std.proofs.Common.{map, sym, ap, ◌∙◌}
use Rattle.dine_draft.specs.Draft.{ends_of_edge, seen_draft, value_of_edge}
use Rattle.dine_draft.proofs.shared.PlanLemmas.{plan_of_fine}
use Rattle.dine_draft.proofs.drafts.Draft.finish.Goals as goal

pub new-requires : goal.new-requires
new-requires c =
    let fine = sym c.in_ok-found.ensures ∙ c.in_default.is in
    rw (c.in_ok-ends.ensures ∙ ap (map ends_of_edge) c.as_slice.ensures.value, c.in_ok-values.ensures ∙ ap (map value_of_edge) c.as_slice-2.ensures.value)
    (plan_of_fine (seen_draft c.args.self) c.requires.first c.requires.last c.requires.most_jobs fine)
