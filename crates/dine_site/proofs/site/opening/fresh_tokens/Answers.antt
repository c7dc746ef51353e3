use Rattle.std.proofs.Common.{◌≡◌, ◌≢◌, ℕ, ◌+◌, List, [], ◌∷◌, ◌++◌, get_or, drop, append_assoc, sym, ◌∙◌, ap, arith}
use Rattle.std.proofs.lemmas.Bool.Decides.{nat_tests}
use Rattle.std.proofs.lemmas.List.{append-nil, at_drop_all, at_drop_more}
use Rattle.dine_graph.specs.Plan.{SeenPlan, hi_of}
use Rattle.dine_site.specs.Core.{fresh_tokens}
use Rattle.dine_site.proofs.site.opening.fresh_tokens.Goals as goal
use Rattle.dine_site.proofs.site.opening.fresh_tokens.Goals.{then-higher-site+in_ok-push, else-higher-site}

here : (plan : SeenPlan) (s edge : ℕ) (edges : List ℕ) → hi_of plan edge ≡ s → fresh_tokens plan s (edge ∷ edges) ≡ edge ∷ fresh_tokens plan s edges
here plan s edge edges is = grind (arith, nat_tests)

elsewhere : (plan : SeenPlan) (s edge : ℕ) (edges : List ℕ) → hi_of plan edge ≢ s → fresh_tokens plan s (edge ∷ edges) ≡ fresh_tokens plan s edges
elsewhere plan s edge edges is = grind (arith, nat_tests)

pub loop-edge-init : goal.loop-edge-init
loop-edge-init c = ap (λ (l : List ℕ). l ++ fresh_tokens c.args.plan.now c.args.site c.edges_of-edge-items.result.now) c.new-tokens.ensures.items

pub loop-edge-preserved : goal.loop-edge-preserved
loop-edge-preserved c =
    let plan = c.args.plan.now in
    let s = c.args.site in
    let edges : List ℕ = c.edges_of-edge-items.result.now in
    let i = c.loop-edge.edge-index in
    let edge : ℕ = get_or edges i 0 in
    let rest : List ℕ = drop (i + 1) edges in
    let made : List ℕ = c.loop-edge.tokens.items in
    let next = at_drop_more (fresh_tokens plan s) edges i 0 c.loop-edge-test.true in
    let higher : hi_of plan edge ≡ c.ends-higher.result.1 = ap (λ (ends : ℕ × ℕ). ends.1) (sym c.ends-higher.ensures.ends) in
    elim c.if-higher-site.branch [
      | then-higher-site+in_ok-push w ↦
          ap (λ v. v.items ++ fresh_tokens plan s rest) w.tokens-is
          ∙ ap (λ (l : List ℕ). l ++ fresh_tokens plan s rest) w.in_ok-push.ensures.items
          ∙ append_assoc made (w.open.result ∷ []) (fresh_tokens plan s rest)
          ∙ ap (λ (l : List ℕ). made ++ l) (ap (λ (token : ℕ). token ∷ fresh_tokens plan s rest) w.open.ensures ∙ sym (here plan s edge rest (higher ∙ w.if-higher-site.true)) ∙ sym next)
          ∙ c.loop-edge.invariant
      | else-higher-site w ↦
          ap (λ v. v.items ++ fresh_tokens plan s rest) w.tokens-is
          ∙ ap (λ (l : List ℕ). made ++ l) (sym (elsewhere plan s edge rest (λ e. w.if-higher-site.false (sym higher ∙ e))) ∙ sym next)
          ∙ c.loop-edge.invariant
    ]

pub returns : goal.returns
returns c =
    let fresh : List ℕ → List ℕ = fresh_tokens c.args.plan.now c.args.site in
    let made : List ℕ = c.loop-edge.tokens.items in
    sym (append-nil made)
    ∙ ap (λ (l : List ℕ). made ++ l) (sym (at_drop_all fresh c.edges_of-edge-items.result.now c.loop-edge.edge-index c.loop-edge-test.false))
    ∙ c.loop-edge.invariant ∙ ap fresh c.edges_of-edge-items.ensures.edges
