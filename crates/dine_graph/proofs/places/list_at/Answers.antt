use Rattle.std.proofs.Common.{[], ◌∷◌, ◌++◌, get_or, append-nil, sym, ap, ◌∙◌}
use Rattle.dine_graph.specs.Plan.{is_one_of}
use Rattle.dine_graph.proofs.shared.ListLemmas.{filter-range_more}
use Rattle.dine_graph.proofs.places.list_at.Goals as goal
use Rattle.dine_graph.proofs.places.list_at.Goals.{then-is_one_of+in_ok-push, else-is_one_of}

pub loop-edge-preserved : goal.loop-edge-preserved
loop-edge-preserved c =
    let more = filter-range_more (λ e. is_one_of (get_or c.args.ends.now e (0, 0)) c.args.site) c.loop-edge.edge in
    elim c.if-is_one_of.branch [
      | then-is_one_of+in_ok-push w ↦
          ap (λ v. v.items) w.list-is ∙ w.in_ok-push.ensures.items ∙ ap (λ xs. xs ++ c.loop-edge.edge ∷ []) c.loop-edge.invariant ∙ sym (rw (sym c.is_one_of.ensures ∙ w.if-is_one_of.true) at more)
      | else-is_one_of w ↦
          ap (λ v. v.items) w.list-is ∙ c.loop-edge.invariant ∙ sym (append-nil _) ∙ sym (rw (sym c.is_one_of.ensures ∙ w.if-is_one_of.false) at more)
    ]
