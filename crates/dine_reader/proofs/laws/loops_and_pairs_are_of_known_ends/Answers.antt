use Rattle.std.proofs.Common.{◌≡◌, ℕ, ◌<◌, true, false, List, [], ◌∷◌, length, take, get_or, Option, None, refl, sym, ◌∙◌}
use Rattle.std.specs.List.{list_any}
use Rattle.std.proofs.lemmas.Bool.{false≢true}
use Rattle.std.proofs.lemmas.List.{get_or-map}
use Rattle.toml.specs.Data.{Data}
use Rattle.dine_draft.specs.declared.drafts.DraftEdge.{DraftEdge}
use Rattle.dine_draft.specs.Refusals.{has_unknown_end, joined_by, is_loop, same_ends, stands_before}
use Rattle.dine_reader.specs.RefusalFacts.{no_edge, count_of, drafted_edges, joined_pairs}
use Rattle.dine_reader.proofs.laws.loops_and_pairs_are_of_known_ends.Goals as goal

-- an edge with an unknown end joins no sites
joins_none : (n : ℕ) (edge : DraftEdge) → has_unknown_end n edge ≡ true → joined_by n edge ≡ None
unfolding joined_by
joins_none n edge unknown = rw unknown refl

no_loop : (n : ℕ) (edge : DraftEdge) → has_unknown_end n edge ≡ true → is_loop n edge ≡ false
unfolding is_loop
no_loop n edge unknown = rw (joins_none n edge unknown) refl

none_is_same : (pairs : List (Option (ℕ × ℕ))) → list_any (same_ends None) pairs ≡ false
none_is_same [] = refl
none_is_same (pair ∷ pairs) = none_is_same pairs

not_twice : (doc : Data) (edge : ℕ) → edge < length (drafted_edges doc) → has_unknown_end (count_of doc) (get_or (drafted_edges doc) edge no_edge) ≡ true → stands_before same_ends None (joined_pairs doc) edge ≡ false
unfolding stands_before
not_twice doc edge within unknown =
    rw (get_or-map (joined_by (count_of doc)) (drafted_edges doc) edge no_edge None within, joins_none (count_of doc) (get_or (drafted_edges doc) edge no_edge) unknown)
    (none_is_same (take edge (joined_pairs doc)))

pub returns-clause-loops : goal.returns-clause-loops
returns-clause-loops c doc edge unknown loops =
    false≢true (sym (no_loop (count_of doc) (get_or (drafted_edges doc) edge no_edge) unknown.1) ∙ loops.1)

pub returns-clause-pairs : goal.returns-clause-pairs
returns-clause-pairs c doc edge unknown twice = false≢true (sym (not_twice doc edge unknown.0 unknown.1) ∙ twice.1)
