use Rattle.std.proofs.Common.{◌+◌, ◌<◌, ◌≤◌, ℕ, List, [], ◌∷◌, ◌++◌, map, length, take, drop, sym, ◌∙◌, ap, arith}
use Rattle.std.proofs.lemmas.List.{at_drop_more, length-map, length-take-le, map_more, take_all}
use Rattle.dine_rules.specs.declared.phase.Phase.TheVariants.{Thinking}
use Rattle.dine_rules.specs.Local.{no_traffic}
use Rattle.dine_site.specs.declared.site.places.Place.{Place}
use Rattle.dine_site.specs.Core.{fresh_forks, fresh_tokens, kept_of}
use Rattle.dine_site.proofs.shared.one_site.Degrees.{degree_few}
use Rattle.dine_site.proofs.site.opening.places_of.Goals as goal

pub push-requires : goal.push-requires
push-requires c =
    let plan = c.args.plan.now in
    let site = c.args.site in
    let edges : List ℕ = c.edges_of-edges.result.now in
    let i = c.loop-edge.edge-index in
    let given = c.edges_of-edges.ensures in
    let within : i < length edges = omega arith in
    let few : length edges ≤ 64 = omega (arith, ap length given.edges, degree_few plan site given.plan) in
    omega (arith, within, few, ap length c.loop-edge.invariant.0, length-map (take i edges) (λ edge. kept_of plan site Thinking 0 edge no_traffic), length-take-le i edges (omega arith))

pub loop-edge-init : goal.loop-edge-init
loop-edge-init c =
    let plan = c.args.plan.now in
    let site = c.args.site in
    let edges = sym c.edges_of-edges.ensures.edges in (
      c.in_ok-places.ensures,
      c.from_vec-forks.ensures.items ∙ c.requires.forks ∙ ap (fresh_forks plan site) edges,
      c.from_vec-tokens.ensures.items ∙ c.requires.tokens ∙ ap (fresh_tokens plan site) edges,
    )

pub loop-edge-preserved : goal.loop-edge-preserved
loop-edge-preserved c =
    let plan = c.args.plan.now in
    let site = c.args.site in
    let edges : List ℕ = c.edges_of-edges.result.now in
    let i = c.loop-edge.edge-index in
    let rest : List ℕ = drop (i + 1) edges in
    let before = c.loop-edge.invariant in
    let kept : ℕ → Place = λ edge. kept_of plan site Thinking 0 edge no_traffic in
    let forks = before.1 ∙ at_drop_more (fresh_forks plan site) edges i 0 c.loop-edge-test.true in
    let tokens = before.2 ∙ at_drop_more (fresh_tokens plan site) edges i 0 c.loop-edge-test.true in (
      c.in_ok-push.ensures.ok ∙ ap (λ (l : List Place). l ++ c.next_place.result ∷ []) before.0
          ∙ ap (λ (place : Place). map kept (take i edges) ++ place ∷ []) (c.next_place.ensures.place rest forks tokens)
          ∙ sym (map_more kept edges i 0 c.loop-edge-test.true),
      c.next_place.ensures.forks rest forks,
      c.next_place.ensures.tokens rest tokens,
    )

pub returns : goal.returns
returns c =
    c.loop-edge.invariant.0
    ∙ ap (map (λ edge. kept_of c.args.plan.now c.args.site Thinking 0 edge no_traffic)) (take_all c.loop-edge.edge-index c.edges_of-edges.result.now c.loop-edge-test.false ∙ c.edges_of-edges.ensures.edges)
