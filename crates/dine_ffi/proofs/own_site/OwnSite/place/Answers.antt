use Rattle.std.proofs.Common.{◌≡◌, ℕ, ◌<◌, ◌≤◌, List, length, get_or, Option, MatchOption, Result, Ok, Err, sym, ◌∙◌, ap, subst, arith}
use Rattle.std.specs.Result.{OkIff, result_ok}
use Rattle.dine_graph.specs.declared.limits.TheConstants.{MAX_EDGES}
use Rattle.dine_graph.specs.Plan.{SeenPlan, edges_of}
use Rattle.dine_graph.proofs.shared.PlaceLemmas.{positions_few}
use Rattle.dine_rules.specs.Local.{edge_at}
use Rattle.dine_ffi.specs.OwnSites.{IsEdgeOfNone, SeenOwnSite}
use Rattle.dine_ffi.proofs.own_site.OwnSite.place.Goals as goal

-- a number that fits is found
found : {E : Type 0} (P : Type 0) (Q : ℕ → Type 0) (tried : Result ℕ E) (o : Option ℕ) (F : Type 0) (i : ℕ) → o ≡ result_ok tried → OkIff tried F i → F → Q i → MatchOption o P Q
found P Q (Ok x) o F i is tells fits holds = subst (λ (o : Option ℕ). MatchOption o P Q) (sym is) (subst Q (sym tells.1) holds)
found P Q (Err e) o F i is tells fits holds = absurd (tells fits)

pub returns-then-edges-i : goal.returns-then-edges-i
returns-then-edges-i c =
    let own : SeenOwnSite = c.args.self.now in
    let i = c.loop-i.i in
    let edges = c.edges_of-edges.ensures in
    let few : length (edges_of c.plan-plan.result.now c.site-site.result) ≤ MAX_EDGES = positions_few c.plan-plan.result.now.edges c.site-site.result edges.plan.few_edges in
    let are : c.edges_of-edges.result.now ≡ edges_of own.plan own.core.site =
    edges.edges ∙ ap (λ (p : SeenPlan). edges_of p c.site-site.result) c.plan-plan.ensures ∙ ap (edges_of c.self.inside.plan) c.site-site.ensures
    ∙ ap (λ (x : SeenOwnSite). edges_of x.plan x.core.site) c.self.view_is in
    found (IsEdgeOfNone c.args.edge own) (λ (i : ℕ). (edge_at own.plan own.core.site i ≡ c.args.edge) × (i < length (edges_of own.plan own.core.site)))
    c.try_from.result c.ok.result (i < 4294967296) i c.ok.ensures.value c.try_from.ensures
    (omega (arith, few, ap length edges.edges, c.loop-i-test.true))
    (sym (ap (λ (l : List ℕ). get_or l i 0) are) ∙ c.if-edges-i.true, omega (arith, ap length are, c.loop-i-test.true))
