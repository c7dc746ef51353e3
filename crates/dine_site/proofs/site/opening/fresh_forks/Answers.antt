use Rattle.std.proofs.Common.{◌≡◌, ◌≢◌, ℕ, ◌+◌, ◌<◌, List, [], ◌∷◌, ◌++◌, get_or, drop, append_assoc, sym, ◌∙◌, ap, subst, arith}
use Rattle.std.proofs.lemmas.Bool.Decides.{nat_tests}
use Rattle.std.proofs.lemmas.List.{append-nil, at_drop_all, at_drop_more}
use Rattle.dine_token.specs.Fork.{SeenFork}
use Rattle.dine_graph.specs.Plan.{SeenPlan, IsPlan, edge_count, lo_of, site_count}
use Rattle.dine_rules.specs.Steps.{opened_fork}
use Rattle.dine_site.specs.Core.{fresh_forks}
use Rattle.dine_site.proofs.site.opening.fresh_forks.Goals as goal
use Rattle.dine_site.proofs.site.opening.fresh_forks.Goals.{then-lower-site+in_ok-fork+in_ok-push, else-lower-site}

here : (plan : SeenPlan) (s edge : ℕ) (edges : List ℕ) → lo_of plan edge ≡ s → fresh_forks plan s (edge ∷ edges) ≡ opened_fork plan edge ∷ fresh_forks plan s edges
here plan s edge edges is = grind (arith, nat_tests)

elsewhere : (plan : SeenPlan) (s edge : ℕ) (edges : List ℕ) → lo_of plan edge ≢ s → fresh_forks plan s (edge ∷ edges) ≡ fresh_forks plan s edges
elsewhere plan s edge edges is = grind (arith, nat_tests)

pub open-requires : goal.open-requires
open-requires c =
    let plan : IsPlan c.args.plan.now = c.edges_of-edge-items.ensures.plan in
    let edge : ℕ = get_or c.edges_of-edge-items.result.now c.loop-edge.edge-index 0 in
    let within : edge < edge_count c.args.plan.now = c.edges_of-edge-items.ensures.within c.loop-edge.edge-index 0 c.loop-edge-test.true in
    let ordered : c.ends-lower.result.0 < c.ends-lower.result.1 = subst (λ (ends : ℕ × ℕ). ends.0 < ends.1) (sym c.ends-lower.ensures.ends) (plan.ordered edge within) in
    let higher : c.ends-lower.result.1 < site_count c.args.plan.now = subst (λ (ends : ℕ × ℕ). ends.1 < site_count c.args.plan.now) (sym c.ends-lower.ensures.ends) (plan.within edge within) in
    record {
      ordered = ordered;
      lower_due = omega (arith, plan.few_jobs c.ends-lower.result.0 (omega (arith, ordered, higher)), c.jobs.ensures.count);
      higher_due = omega (arith, plan.few_jobs c.ends-lower.result.1 higher, c.jobs-then-lower-site.ensures.count);
      value = omega (arith, plan.small_values edge within, c.value.ensures.value);
    }

pub loop-edge-init : goal.loop-edge-init
loop-edge-init c = ap (λ (l : List SeenFork). l ++ fresh_forks c.args.plan.now c.args.site c.edges_of-edge-items.result.now) c.new-forks.ensures.items

pub loop-edge-preserved : goal.loop-edge-preserved
loop-edge-preserved c =
    let plan = c.args.plan.now in
    let s = c.args.site in
    let edges : List ℕ = c.edges_of-edge-items.result.now in
    let i = c.loop-edge.edge-index in
    let edge : ℕ = get_or edges i 0 in
    let rest : List ℕ = drop (i + 1) edges in
    let made : List SeenFork = c.loop-edge.forks.items in
    let next = at_drop_more (fresh_forks plan s) edges i 0 c.loop-edge-test.true in
    let lower : lo_of plan edge ≡ c.ends-lower.result.0 = ap (λ (ends : ℕ × ℕ). ends.0) (sym c.ends-lower.ensures.ends) in
    elim c.if-lower-site.branch [
      | then-lower-site+in_ok-fork+in_ok-push w ↦
          (let is : w.in_ok-fork.fork ≡ opened_fork plan edge = cc (w.in_ok-fork.ensures) in
          ap (λ v. v.items ++ fresh_forks plan s rest) w.forks-is
          ∙ ap (λ (l : List SeenFork). l ++ fresh_forks plan s rest) w.in_ok-push.ensures.items
          ∙ append_assoc made (w.in_ok-fork.fork ∷ []) (fresh_forks plan s rest)
          ∙ ap (λ (l : List SeenFork). made ++ l) (ap (λ (fork : SeenFork). fork ∷ fresh_forks plan s rest) is ∙ sym (here plan s edge rest (lower ∙ w.if-lower-site.true)) ∙ sym next)
          ∙ c.loop-edge.invariant)
      | else-lower-site w ↦
          ap (λ v. v.items ++ fresh_forks plan s rest) w.forks-is
          ∙ ap (λ (l : List SeenFork). made ++ l) (sym (elsewhere plan s edge rest (λ e. w.if-lower-site.false (sym lower ∙ e))) ∙ sym next)
          ∙ c.loop-edge.invariant
    ]

pub returns : goal.returns
returns c =
    let fresh : List ℕ → List SeenFork = fresh_forks c.args.plan.now c.args.site in
    let made : List SeenFork = c.loop-edge.forks.items in
    sym (append-nil made)
    ∙ ap (λ (l : List SeenFork). made ++ l) (sym (at_drop_all fresh c.edges_of-edge-items.result.now c.loop-edge.edge-index c.loop-edge-test.false))
    ∙ c.loop-edge.invariant ∙ ap fresh c.edges_of-edge-items.ensures.edges
