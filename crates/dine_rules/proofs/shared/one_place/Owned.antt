-- A fork that is that of an edge is the edge's fork with its own log and value.
use Rattle.std.proofs.Common.{◌≡◌, ℕ, true, List, ap, ap₂, ◌∙◌}
use Rattle.std.proofs.lemmas.Bool.{eqb-true, and_parts}
use Rattle.dine_token.specs.declared.log_entry.Entry.{Entry}
use Rattle.dine_token.specs.Fork.{SeenFork}
use Rattle.dine_graph.specs.Plan.{SeenPlan, job_count, lo_of, hi_of}
use Rattle.dine_rules.specs.Breach.{is_fork_of}
use Rattle.dine_rules.specs.Steps.{fork_with}

abbrev made : List Entry → ℕ → ℕ → ℕ × ℕ → ℕ × ℕ → SeenFork
made log value edge ends due = record { edge = edge; ends = ends; due = due; log = log; value = value }

pub own_is : (plan : SeenPlan) (edge : ℕ) (f : SeenFork) → is_fork_of plan edge f ≡ true → f ≡ fork_with plan edge f.log f.value
own_is plan edge f own =
    let parts = and_parts _ _ own in
    let front = and_parts _ _ parts.0 in
    let ends = and_parts _ _ front.1 in
    let dues = and_parts _ _ parts.1 in
    let e1 : f.edge ≡ edge = eqb-true _ _ front.0 in
    let e2 : f.ends ≡ (lo_of plan edge, hi_of plan edge) = ap₂ (λ (a b : ℕ). (a, b)) (eqb-true _ _ ends.0) (eqb-true _ _ ends.1) in
    let e3 : f.due ≡ (job_count plan (lo_of plan edge), job_count plan (hi_of plan edge)) = ap₂ (λ (a b : ℕ). (a, b)) (eqb-true _ _ dues.0) (eqb-true _ _ dues.1) in
    ap (λ (n : ℕ). made f.log f.value n f.ends f.due) e1 ∙ ap (λ (p : ℕ × ℕ). made f.log f.value edge p f.due) e2 ∙ ap (λ (p : ℕ × ℕ). made f.log f.value edge (lo_of plan edge, hi_of plan edge) p) e3
