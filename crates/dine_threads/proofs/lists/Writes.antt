-- Writes into one slot, and places that differ.
use Rattle.std.proofs.Common.{◌≡◌, ◌≢◌, ℕ, zero, suc, ◌<◌, ◌≤◌, Option, Some, None, List, [], ◌∷◌, length, slice_get, get_or, set, sym, ap, ◌∙◌, refl, arith, ⊎_elim}
use Rattle.std.specs.Global.{Vec}
use Rattle.std.proofs.lemmas.List.{get_or-set_other}
use Rattle.std.proofs.lemmas.Bool.{cases_eq}
use Rattle.std.proofs.lemmas.Option.{same_Some}
use Rattle.dine_graph.specs.Plan.{SeenPlan, edges_of}
use Rattle.dine_threads.specs.private.Spots.{row_at, slot_at}
use Rattle.dine_threads.specs.declared.slots.Spot.{Spot}

-- a place is its two numbers
pub same_spot : (a b : Spot) → a.site ≡ b.site → a.at ≡ b.at → a ≡ b
same_spot a b sites ats =
    let make : ℕ → ℕ → Spot = λ i j. record { site = i; at = j } in
    ap (λ i. make i a.at) sites ∙ ap (λ j. make b.site j) ats

-- the edges at two places differ, so the places do
pub spots_apart : (plan : SeenPlan) (a b : Spot) (e f : ℕ) → slice_get (edges_of plan a.site) a.at ≡ Some e → slice_get (edges_of plan b.site) b.at ≡ Some f → e ≢ f → a ≢ b
spots_apart plan a b e f at_a at_b differ same =
    let edge_of : Spot → Option ℕ = λ (spot : Spot). slice_get (edges_of plan spot.site) spot.at in
    differ (same_Some e f (sym at_a ∙ ap edge_of same ∙ at_b))

module _ {P : Type 0} where
  -- past the last site there is no slot
  pub row_past : (rows : List (Vec (Option P))) (i : ℕ) → length rows ≤ i → row_at rows i ≡ []
  row_past [] i past = refl
  row_past (row ∷ rows) zero past = absurd (omega (arith, past))
  row_past (row ∷ rows) (suc i) past = row_past rows i (omega arith)

  -- the row of a site
  pub row_is : (rows : List (Vec (Option P))) (i : ℕ) (d : Vec (Option P)) → i < length rows → row_at rows i ≡ (get_or rows i d).items
  row_is [] i d below = absurd (omega (arith, below))
  row_is (row ∷ rows) zero d below = refl
  row_is (row ∷ rows) (suc i) d below = row_is rows i d (omega arith)

  -- a write of another row
  pub row_other : (rows : List (Vec (Option P))) (i j : ℕ) (v : Vec (Option P)) → i ≢ j → row_at (set rows j v) i ≡ row_at rows i
  row_other [] i j v apart = refl
  row_other (row ∷ rows) zero zero v apart = absurd (apart refl)
  row_other (row ∷ rows) zero (suc j) v apart = refl
  row_other (row ∷ rows) (suc i) zero v apart = refl
  row_other (row ∷ rows) (suc i) (suc j) v apart = row_other rows i j v (λ same. apart (ap suc same))

  -- a write of the row
  pub row_same : (rows : List (Vec (Option P))) (i : ℕ) (v : Vec (Option P)) → i < length rows → row_at (set rows i v) i ≡ v.items
  row_same [] i v below = absurd (omega (arith, below))
  row_same (row ∷ rows) zero v below = refl
  row_same (row ∷ rows) (suc i) v below = row_same rows i v (omega arith)

  -- a write of one slot leaves the others
  pub slot_others : (rows : List (Vec (Option P))) (spot other : Spot) (v : Vec (Option P)) (x : Option P) → spot.site < length rows → v.items ≡ set (row_at rows spot.site) spot.at x → other ≢ spot → slot_at (set rows spot.site v) other ≡ slot_at rows other
  slot_others rows spot other v x below written apart =
      ⊎_elim
      (λ (same : other.site ≡ spot.site).
      let ats : other.at ≢ spot.at = λ at. apart (same_spot other spot same at) in
      let row : row_at (set rows spot.site v) other.site ≡ set (row_at rows spot.site) spot.at x = ap (row_at (set rows spot.site v)) same ∙ row_same rows spot.site v below ∙ written in
      ap (λ r. get_or r other.at None) row
      ∙ get_or-set_other (row_at rows spot.site) spot.at other.at x None ats
      ∙ ap (λ i. get_or (row_at rows i) other.at None) (sym same))
      (λ differ. ap (λ r. get_or r other.at None) (row_other rows other.site spot.site v differ))
      (cases_eq other.site spot.site)

  -- the row that a read of a site gave
  pub row_read : (rows : List (Vec (Option P))) (i : ℕ) (v : Vec (Option P)) → i < length rows → v ≡ get_or rows i v → row_at rows i ≡ v.items
  row_read rows i v below is = row_is rows i v below ∙ ap (λ (w : Vec (Option P)). w.items) (sym is)
