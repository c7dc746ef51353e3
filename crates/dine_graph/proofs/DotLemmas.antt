-- One line more of a text that has a line for each number.
use Rattle.std.proofs.Common.{◌≡◌, ℕ, suc, ◌+◌, ◌-◌, ◌<◌, List, ◌++◌, sym, ◌∙◌, ap, arith, append_assoc}
use Rattle.std.specs.List.{flat_map, range_with_len}
use Rattle.std.proofs.lemmas.List.Concat.{flat_map-cons}

pub line_step : (line_at : ℕ → List ℕ) (n i : ℕ) (before after whole : List ℕ) → i < n
    → before ++ flat_map line_at (range_with_len i (n - i)) ≡ whole → after ≡ before ++ line_at i
    → after ++ flat_map line_at (range_with_len (i + 1) (n - (i + 1))) ≡ whole
line_step line_at n i before after whole within so_far put =
    let left : n - i ≡ suc (n - (i + 1)) = omega (arith, within) in
    let others : List ℕ = range_with_len (i + 1) (n - (i + 1)) in
    let rest : List ℕ = flat_map line_at others in
    ap (λ (l : List ℕ). l ++ rest) put ∙ append_assoc before (line_at i) rest
    ∙ sym (ap (λ (k : ℕ). before ++ flat_map line_at (range_with_len i k)) left ∙ ap (λ (l : List ℕ). before ++ l) (flat_map-cons line_at i others)) ∙ so_far
