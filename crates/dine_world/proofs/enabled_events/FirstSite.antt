-- The search for a site that is not still, through a set that has each of them.
use Rattle.std.proofs.Common.{◌≡◌, ℕ, zero, suc, ◌<◌, ◌≤◌, Bool, true, false, cond, ltb, List, [], ◌∷◌, length, get_or, replicate, slice_set, Some, None, position, count_by, refl, sym, ◌∙◌, ap, subst, inl, inr, arith}
use Rattle.std.specs.List.{position_or_len}
use Rattle.std.proofs.lemmas.Bool.{cases_Bool, cases_eq, ltb-false}
use Rattle.std.proofs.lemmas.List.{get_or-set_other, length-set}
use Rattle.std.proofs.lemmas.List.Quantifiers.{position-Some}
use Rattle.std.proofs.lemmas.List.Sums.{sum_by-set}
use Rattle.std.proofs.lemmas.Option.{slice_get_past}
use Rattle.dine_graph.specs.declared.limits.TheConstants.{MAX_SITES}
use Rattle.dine_world.specs.private.EnabledSites.{HasAllEnabled, IsStill}
use Rattle.dine_world.specs.Worlds.{SeenWorld, can_at}

-- ---- a set without numbers

none_from_here : (xs : List Bool) (t : ℕ) → length xs ≤ position_or_len (λ b. b) xs → get_or xs t false ≡ false
none_from_here [] t h = refl
none_from_here (true ∷ xs) t h = absurd (omega arith)
none_from_here (false ∷ xs) zero h = refl
none_from_here (false ∷ xs) (suc t) h = none_from_here xs t (omega arith)

nothing_in : (xs : List Bool) (t : ℕ) → position (λ b. b) xs ≡ None → get_or xs t false ≡ false
nothing_in xs t none = elim (cases_Bool (ltb (position_or_len (λ b. b) xs) (length xs))) [
  | inl found ↦ absurd (let here : Some (position_or_len (λ b. b) xs) ≡ None = rw found at none in cc)
  | inr missing ↦ none_from_here xs t (ltb-false _ _ missing)
]

-- a number that is taken out leaves fewer
pub fewer : (may_be_enabled : List Bool) (s : ℕ) → position (λ b. b) may_be_enabled ≡ Some s → count_by (λ b. b) (slice_set may_be_enabled s false) < count_by (λ b. b) may_be_enabled
fewer may_be_enabled s first =
    let found = position-Some (λ b. b) may_be_enabled s false first in
    let was : cond {A = ℕ} (get_or may_be_enabled s false) 1 0 ≡ 1 = ap (λ (b : Bool). cond {A = ℕ} b 1 0) found.1 in
    omega (arith, sum_by-set (λ (b : Bool). cond {A = ℕ} b 1 0) may_be_enabled s false false found.0, was)

-- ---- the sites outside a set

module _ (seen : SeenWorld) (may_be_enabled : List Bool) (has : HasAllEnabled seen may_be_enabled) where
  -- a still site may be taken out
  pub asleep : (s : ℕ) → IsStill seen s → HasAllEnabled seen (slice_set may_be_enabled s false)
  asleep s still = record {
    size = length-set may_be_enabled s false ∙ has.size;
    others = λ t out. elim (cases_eq t s) [
      | inl same ↦ subst (IsStill seen) (sym same) still
      | inr other ↦ has.others t (sym (get_or-set_other may_be_enabled s t false false other) ∙ out)
    ];
  }

  -- all sites before the first are still, and all where there is no first
  pub still_before : (s : ℕ) → position (λ b. b) may_be_enabled ≡ Some s → (t : ℕ) → t < s → IsStill seen t
  still_before s first t h = has.others t ((position-Some (λ b. b) may_be_enabled s false first).2 t h)

  pub still_all : position (λ b. b) may_be_enabled ≡ None → (t : ℕ) → IsStill seen t
  still_all none t = has.others t (nothing_in may_be_enabled t none)

-- ---- at the start all numbers are in

pub past_full : (n s : ℕ) → get_or (replicate n true) s false ≡ false → n ≤ s
past_full zero s h = omega arith
past_full (suc n) zero h = absurd (let e : true ≡ false = h in cc)
past_full (suc n) (suc s) h = omega (arith, past_full n s h)

pub full_has_all : (seen : SeenWorld) → length seen.sites ≤ MAX_SITES → HasAllEnabled seen (replicate 64 true)
full_has_all seen few = record {
  size = refl;
  others = λ s out kind. ap (can_at seen.links kind) (slice_get_past seen.sites s (omega (arith, past_full 64 s out)));
}
