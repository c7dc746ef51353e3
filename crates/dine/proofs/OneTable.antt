-- If no job sets a value, or in version 1, there is only one text of a run.
use Rattle.std.proofs.Common.{◌≡◌, ◌⊎◌, ℕ, true, List, [], ◌∷◌, ◌++◌, map, get_or, refl, sym, ◌∙◌, ap, ap₂, inl, inr, arith}
use Rattle.std.specs.List.{flat_map, range_with_len}
use Rattle.std.proofs.lemmas.List.Concat.{flat_map-cons}
use Rattle.std.proofs.lemmas.List.FromFn.{fill_by_all}
use Rattle.std.proofs.lemmas.Option.{slice_get-get_or}
use Rattle.dine_graph.specs.Plan.{SeenPlan, edge_count, lo_of, hi_of}
use Rattle.dine_rules.specs.Values.{value_by_amounts, has_no_set}
use Rattle.dine_threads.specs.declared.tables.EdgeRow.{EdgeRow}
use Rattle.dine_threads.specs.Tables.{AreDueValues, due_edge_rows, edge_row}
use Rattle.dine_words.specs.declared.words.Table.{Table}
use Rattle.dine_words.specs.declared.words.Table.TheVariants.{Edges, Sites}
use Rattle.dine.specs.Run.{IsRunText, meals_at}
use Rattle.dine.specs.Tables.{edge_record, edges_header, edges_table}

-- without set the values are what the jobs of all meals add up to
values_are : (plan : SeenPlan) (values : List ℕ) → has_no_set plan ≡ true → AreDueValues plan (meals_at plan) values → values ≡ map (λ edge. value_by_amounts plan edge (meals_at plan (lo_of plan edge)) (meals_at plan (hi_of plan edge))) (range_with_len 0 (edge_count plan))
values_are plan values all due =
    fill_by_all (λ edge. value_by_amounts plan edge (meals_at plan (lo_of plan edge)) (meals_at plan (hi_of plan edge))) values (edge_count plan) 0 due.count (λ edge within.
    (due.each edge (get_or values edge 0) (slice_get-get_or values edge 0 (omega (arith, within, due.count)))).added all)

-- in version 1 a record has no value
record_has_none : (plan : SeenPlan) (edge one other : ℕ) → plan.version ≡ 1 → edge_record plan (edge_row plan (meals_at plan) one edge) ≡ edge_record plan (edge_row plan (meals_at plan) other edge)
record_has_none plan edge one other first = rw first refl

records_same : (plan : SeenPlan) (one other : ℕ → ℕ) (edges : List ℕ) → plan.version ≡ 1
    → flat_map (edge_record plan) (map (λ edge. edge_row plan (meals_at plan) (one edge) edge) edges) ≡ flat_map (edge_record plan) (map (λ edge. edge_row plan (meals_at plan) (other edge) edge) edges)
records_same plan one other [] first = refl
records_same plan one other (edge ∷ edges) first =
    let record_of : EdgeRow → List ℕ = edge_record plan in
    let rows : (ℕ → ℕ) → List EdgeRow = λ value. map (λ e. edge_row plan (meals_at plan) (value e) e) edges in
    flat_map-cons record_of (edge_row plan (meals_at plan) (one edge) edge) (rows one)
    ∙ ap₂ (λ (a b : List ℕ). a ++ b) (record_has_none plan edge (one edge) (other edge) first) (records_same plan one other edges first)
    ∙ sym (flat_map-cons record_of (edge_row plan (meals_at plan) (other edge) edge) (rows other))

pub one_table : (table : Table) (plan : SeenPlan) (one other : List ℕ) → (has_no_set plan ≡ true) ⊎ (plan.version ≡ 1) → IsRunText table plan one → IsRunText table plan other → one ≡ other
one_table Sites plan one other which a b = a ∙ sym b
one_table Edges plan one other (inl all) a b =
    a.2 ∙ ap (λ (values : List ℕ). edges_table plan (due_edge_rows plan (meals_at plan) values)) (values_are plan a.0 all a.1 ∙ sym (values_are plan b.0 all b.1)) ∙ sym b.2
one_table Edges plan one other (inr first) a b =
    a.2 ∙ ap (λ (records : List ℕ). edges_header plan ++ records) (records_same plan (λ edge. get_or a.0 edge 0) (λ edge. get_or b.0 edge 0) (range_with_len 0 (edge_count plan)) first) ∙ sym b.2
