use Rattle.std.proofs.Common.{ℕ, List, [], ◌∷◌, ◌++◌, map, take, Option, sym, ◌∙◌, ap}
use Rattle.std.proofs.lemmas.List.{take_all}
use Rattle.dine_token.specs.Fork.{SeenFork}
use Rattle.dine_ffi.specs.Shelves.{first_kept}
use Rattle.dine_ffi.proofs.FirstKept.{map_next}
use Rattle.dine_ffi.proofs.shelf.first_shelf.Goals as goal

pub loop-edge-init : goal.loop-edge-init
loop-edge-init c = c.new-shelf.ensures.items

pub loop-edge-preserved : goal.loop-edge-preserved
loop-edge-preserved c =
    let f : ℕ → Option SeenFork = first_kept c.args.plan.now c.args.site in
    let edges : List ℕ = c.edges_of-edge-items.result.now in
    let i = c.loop-edge.edge-index in
    c.in_ok-push.ensures.items
    ∙ ap (λ (l : List (Option SeenFork)). l ++ c.in_ok-fork.fork ∷ []) c.loop-edge.invariant
    ∙ ap (λ (k : Option SeenFork). map f (take i edges) ++ k ∷ []) c.in_ok-fork.ensures
    ∙ sym (map_next f edges i c.loop-edge-test.true)

pub returns : goal.returns
returns c =
    let f : ℕ → Option SeenFork = first_kept c.args.plan.now c.args.site in
    c.loop-edge.invariant
    ∙ ap (map f) (take_all c.loop-edge.edge-index c.edges_of-edge-items.result.now c.loop-edge-test.false)
    ∙ ap (map f) c.edges_of-edge-items.ensures.edges
