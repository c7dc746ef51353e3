use Rattle.std.proofs.Common.{◌≡◌, ◌≤◌, Some, ap, ◌∙◌, arith}
use Rattle.toml.specs.Data.{members_depth}
use Rattle.toml.specs.View.{table_view}
use Rattle.dine_builder.specs.DraftPlan.{text_of}
use Rattle.dine_plan.specs.DraftDocument.{document_of}
use Rattle.dine_plan.proofs.DepthLemmas.{document_depth}
use Rattle.dine_plan.proofs.texts.plan_text.Goals as goal

pub returns-in-Ok : goal.returns-in-Ok
returns-in-Ok c =
    let same : table_view c.in_ok-document.document ≡ document_of (text_of c.args.builder.now) = c.in_ok-document.ensures ∙ ap document_of c.in_ok-draft.ensures.text in
    let shallow : members_depth (table_view c.in_ok-document.document) ≤ 80 = rw same (omega (arith, document_depth (text_of c.args.builder.now))) in
    c.in-Ok.ensures.reads_back shallow ∙ ap Some same
