-- One element is taken out, with the last one in its place, and another is put in.
use Rattle.std.proofs.Common.{◌≡◌, ℕ, ◌+◌, ◌-◌, ◌<◌, List, [], ◌∷◌, ◌++◌, length, map, set, get_or, Some, option_map, refl, sym, ◌∙◌, ap, subst, inl, inr, arith, length-set, length-append}
use Rattle.std.specs.List.{slice_get, swap, swap_remove}
use Rattle.std.proofs.lemmas.Bool.{cases_eq}
use Rattle.std.proofs.lemmas.Option.{same_Some, slice_get-map}
use Rattle.std.proofs.lemmas.List.{get_or-set_same, get_or-set_other, get_or-take, get_or_append_left, get_or_at, ext_get_or, length-take-le, map-set}
use Rattle.std.proofs.lemmas.List.Edits.{length-swap, swapped_from_swap}
use Rattle.dine_site_thread.specs.Ports.{SeenPort}
use Rattle.dine_site_thread.specs.private.PortSteps.{ChangesAt}
use Rattle.dine_site_thread.proofs.shared.lists.Seen.{if_there}

module _ {A : Type 0} (xs : List A) (i last : ℕ) (p d : A) (within : i < length xs) (count : last + 1 ≡ length xs) where
  -- what is left, and the new element behind it
  abbrev left : List A
  left = swap_remove xs i d

  abbrev back : List A
  back = left ++ p ∷ []

  count_left : length left ≡ last
  count_left =
      let n : length (set xs i (get_or xs (length xs - 1) d)) ≡ length xs = length-set xs i (get_or xs (length xs - 1) d) in
      length-take-le (length xs - 1) (set xs i (get_or xs (length xs - 1) d)) (omega (arith, n)) ∙ omega (arith, count)

  count_back : length back ≡ length xs
  count_back = length-append left (p ∷ []) ∙ omega (arith, count_left, count)

  at_last : get_or back last d ≡ p
  at_last = get_or_at left p [] d last count_left

  before_last : (k : ℕ) → k < last → get_or back k d ≡ get_or (set xs i (get_or xs last d)) k d
  before_last k h =
      let same : length xs - 1 ≡ last = omega (arith, count) in
      get_or_append_left left (p ∷ []) d k (omega (arith, count_left))
      ∙ get_or-take (length xs - 1) (set xs i (get_or xs (length xs - 1) d)) k d (omega arith)
      ∙ ap (λ (n : ℕ). get_or (set xs i (get_or xs n d)) k d) same

  -- the two change places
  pub replaced : swap back i last ≡ set xs i p
  replaced = ext_get_or d (swap back i last) (set xs i p) (length-swap back i last ∙ count_back ∙ sym (length-set xs i p)) (λ k h. at k (omega (arith, h, length-swap back i last, count_back))) where
    swapped : (get_or (swap back i last) i d ≡ get_or back last d) × (get_or (swap back i last) last d ≡ get_or back i d)
        × ((m : ℕ) → (m ≡ i → ⊥) → (m ≡ last → ⊥) → get_or (swap back i last) m d ≡ get_or back m d)
    swapped = swapped_from_swap back (swap back i last) i last d (omega (arith, count_back)) (omega (arith, count_back, count)) refl

    at_end : (i ≡ last → ⊥) → get_or (swap back i last) last d ≡ get_or (set xs i p) last d
    at_end ne = swapped.1 ∙ before_last i (omega (arith, count, within, ne)) ∙ get_or-set_same xs i (get_or xs last d) d within
        ∙ sym (get_or-set_other xs i last p d (λ e. ne (sym e)))

    at : (k : ℕ) → k < length xs → get_or (swap back i last) k d ≡ get_or (set xs i p) k d
    at k h = elim (cases_eq k i) [
      | inl same ↦ ap (λ (n : ℕ). get_or (swap back i last) n d) same ∙ swapped.0 ∙ at_last ∙ sym (get_or-set_same xs i p d within) ∙ ap (λ (n : ℕ). get_or (set xs i p) n d) (sym same)
      | inr ne ↦ elim (cases_eq k last) [
        | inl end ↦ ap (λ (n : ℕ). get_or (swap back i last) n d) end ∙ at_end (λ e. ne (end ∙ sym e)) ∙ ap (λ (n : ℕ). get_or (set xs i p) n d) (sym end)
        | inr apart ↦ swapped.2 k ne apart ∙ before_last k (omega (arith, h, count, apart)) ∙ get_or-set_other xs i k (get_or xs last d) d ne ∙ sym (get_or-set_other xs i k p d ne)
      ]
    ]

-- the same as contracts see it: one of the ports changed
pub changed : {A Identity : Type 0} (f : A → SeenPort Identity) (Way : SeenPort Identity → SeenPort Identity → Type 0) (xs ys : List A) (i : ℕ) (x y : A) → slice_get xs i ≡ Some x → ys ≡ set xs i y → Way (f x) (f y)
    → ChangesAt i Way (map f xs) (map f ys)
changed {A} {Identity} f Way xs ys i x y at is way =
    let seen : slice_get (map f xs) i ≡ Some (f x) = slice_get-map f xs i ∙ ap (option_map f) at in
    let all : map f ys ≡ set (map f xs) i (f y) = ap (map f) is ∙ map-set f xs i y in
    if_there (λ (old : SeenPort Identity). (new : SeenPort Identity) × Way old new × (map f ys ≡ set (map f xs) i new)) (slice_get (map f xs) i)
    (λ old there. (f y, subst (λ (o : SeenPort Identity). Way o (f y)) (same_Some (f x) old (sym seen ∙ there)) way, all))
