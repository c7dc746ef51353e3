-- The lines of the edges of a world.
use Rattle.std.proofs.Common.{◌≡◌, ℕ, suc, ◌+◌, ◌-◌, ◌<◌, Bool, List, ◌++◌, Some, slice_get, sym, ◌∙◌, ap, arith, append_assoc, zero-add}
use Rattle.std.specs.List.{flat_map, range_with_len}
use Rattle.std.proofs.lemmas.List.Concat.{flat_map-cons}
use Rattle.std.proofs.lemmas.List.FromFn.{get_or-map-range_with_len, length-map-range_with_len}
use Rattle.std.proofs.lemmas.Option.{slice_get-get_or}
use Rattle.dine_token.specs.Fork.{SeenFork}
use Rattle.dine_graph.specs.Plan.{SeenPlan, edge_count, name_of}
use Rattle.dine_world.specs.Outcomes.{with_outcomes}
use Rattle.dine_world.specs.World.{WorldState}
use Rattle.dine_world.specs.Worlds.{fork_seen, forks_seen}
use Rattle.dine_log_text.specs.Logs.{edge_line, line_of_edge, value_text}

-- an edge has its fork
pub fork_there : (plan : SeenPlan) (state : WorldState) (e : ℕ) → e < edge_count plan → slice_get (forks_seen plan state) e ≡ Some (fork_seen plan state e)
fork_there plan state e within =
    slice_get-get_or (forks_seen plan state) e (fork_seen plan state e) (omega (arith, within, length-map-range_with_len (fork_seen plan state) 0 (edge_count plan)))
    ∙ ap (λ (f : SeenFork). Some f) (get_or-map-range_with_len (fork_seen plan state) 0 (edge_count plan) e e (fork_seen plan state e) within (zero-add e))

-- one line more was written
pub lines_step : (plan : SeenPlan) (fails : List (List Bool)) (state : WorldState) (e : ℕ) (fork : SeenFork) (before after whole : List ℕ) → e < edge_count plan → fork ≡ fork_seen (with_outcomes plan fails) state e
    → before ++ flat_map (line_of_edge plan (with_outcomes plan fails) state) (range_with_len e (edge_count plan - e)) ≡ whole → after ≡ before ++ edge_line (name_of plan) fork.edge fork.ends fork.log (value_text plan fork.value)
    → after ++ flat_map (line_of_edge plan (with_outcomes plan fails) state) (range_with_len (e + 1) (edge_count plan - (e + 1))) ≡ whole
lines_step plan fails state e fork before after whole within is so_far put =
    let left : edge_count plan - e ≡ suc (edge_count plan - (e + 1)) = omega (arith, within) in
    let edges : List ℕ = range_with_len (e + 1) (edge_count plan - (e + 1)) in
    let line_at : ℕ → List ℕ = line_of_edge plan (with_outcomes plan fails) state in
    let rest : List ℕ = flat_map line_at edges in
    let line : edge_line (name_of plan) fork.edge fork.ends fork.log (value_text plan fork.value) ≡ line_at e = ap (λ (f : SeenFork). edge_line (name_of plan) f.edge f.ends f.log (value_text plan f.value)) is in
    ap (λ (l : List ℕ). l ++ rest) (put ∙ ap (λ (l : List ℕ). before ++ l) line) ∙ append_assoc before (line_at e) rest
    ∙ sym (ap (λ (n : ℕ). before ++ flat_map line_at (range_with_len e n)) left ∙ ap (λ (l : List ℕ). before ++ l) (flat_map-cons line_at e edges)) ∙ so_far
