-- An element that was taken out of a list and is put back.
use Rattle.std.proofs.Common.{◌≡◌, ℕ, zero, suc, List, [], ◌∷◌, ap, sym, refl, slice_index_or, slice_set}

pub set_back : {X : Type 0} (l : List X) (i : ℕ) (a b : X) → slice_index_or l i b ≡ b → slice_set (slice_set l i a) i b ≡ l
set_back [] i a b h = refl
set_back {X} (x ∷ xs) zero a b h = ap (λ (y : X). y ∷ xs) (sym h)
set_back {X} (x ∷ xs) (suc i) a b h = ap (λ (l : List X). x ∷ l) (set_back xs i a b h)
