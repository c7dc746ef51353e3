use Rattle.std.proofs.Common.{map, pos, refl, ap, ◌∙◌}
use Rattle.toml.specs.Data.{array}
use Rattle.toml.specs.View.{items_of}
use Rattle.toml.proofs.Views.{view-Array, view-Integer}
use Rattle.dine_builder.specs.DraftPlan.{listed_site}
use Rattle.dine_draft.specs.Draft.{names_of}
use Rattle.dine_plan.specs.DraftDocument.{document_of, edge_table, site_table}
use Rattle.dine_plan.proofs.texts.document.Goals as goal

pub returns : goal.returns
unfolding document_of
returns c =
    let edges = view-Array c.in_ok-edges.edges ∙ ap (λ ds. array (items_of ds)) (c.in_ok-edges.ensures ∙ rw (c.as_slice.ensures.value, c.as_slice-2.ensures.value) refl) in
    let sites = view-Array c.in_ok-sites.sites ∙ ap (λ ds. array (items_of ds)) (c.in_ok-sites.ensures ∙ ap (λ sites. map site_table (map listed_site sites)) c.as_slice-3.ensures.value) in
    c.in_ok-put-3.ensures ∙ rw (c.in_ok-put-2.ensures, c.in_ok-put.ensures, c.new-document.ensures.empty, view-Integer (pos 2), sites, edges) refl
