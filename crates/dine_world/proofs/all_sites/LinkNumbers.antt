-- The numbers of the links: each link leads from one place of a site to one place of another.
use Rattle.std.proofs.Common.{◌≡◌, ℕ, ◌+◌, ◌*◌, ◌<◌, Bool, true, false, cond, not, length, refl, sym, ◌∙◌, ap, inl, inr, arith}
use Rattle.std.proofs.lemmas.Bool.{cases_Bool, eqb-true, eq-eqb, false≢true}
use Rattle.dine_graph.specs.Plan.{SeenPlan, IsPlan, edge_count, edges_of, lo_of, hi_of}
use Rattle.dine_rules.specs.Local.{edge_at, neighbour_at}
use Rattle.dine_rules.specs.World.{place_of}
use Rattle.dine_rules.specs.Streams.{is_lower_at}
use Rattle.dine_site.specs.LinkNumbers.{link_number_from}
use Rattle.dine_world.specs.Worlds.{number_to}
use Rattle.dine_rules.proofs.shared.one_place.Placed.{placed}
use Rattle.dine_rules.proofs.shared.links.Across.{IsAcross, place_of-edge_at}

-- the number of the link that leads away from a site at place i
abbrev pub number_from : SeenPlan → ℕ → ℕ → ℕ
number_from plan s i = link_number_from s (edge_at plan s i) (lo_of plan (edge_at plan s i))

-- twice a number, and a bit
abbrev twice_and : ℕ → Bool → ℕ
twice_and n b = 2 * n + cond b 1 0

same_half : (a b : ℕ) (x y : Bool) → twice_and a x ≡ twice_and b y → (a ≡ b) × (x ≡ y)
same_half a b true true h = (omega (arith, h), refl)
same_half a b false false h = (omega (arith, h), refl)
same_half a b true false h = absurd (omega (arith, h))
same_half a b false true h = absurd (omega (arith, h))

-- the numbers of the links are in range
pub to_in_range : (plan : SeenPlan) (s i : ℕ) → IsPlan plan → i < length (edges_of plan s) → number_to plan s i < 2 * edge_count plan
to_in_range plan s i is_plan within = bit (is_lower_at plan s i) (placed plan s i is_plan within).edge_within where
  bit : (b : Bool) → edge_at plan s i < edge_count plan → 2 * edge_at plan s i + cond b 1 0 < 2 * edge_count plan
  bit true h = omega (arith, h)
  bit false h = omega (arith, h)

-- a link leads to one place of one site
pub same_place : (plan : SeenPlan) (s i t j : ℕ) → IsPlan plan → i < length (edges_of plan s) → j < length (edges_of plan t) → number_to plan s i ≡ number_to plan t j → (s ≡ t) × (i ≡ j)
same_place plan s i t j is_plan at_s at_t h =
    let half = same_half (edge_at plan s i) (edge_at plan t j) (is_lower_at plan s i) (is_lower_at plan t j) h in
    let site : s ≡ t = same_site half.0 half.1 in
    (site, sym (place_of-edge_at plan s i at_s) ∙ ap (λ (e : ℕ). place_of plan s e) half.0 ∙ ap (λ (x : ℕ). place_of plan x (edge_at plan t j)) site ∙ place_of-edge_at plan t j at_t)
  where
    lower : (x : ℕ) (k : ℕ) → k < length (edges_of plan x) → is_lower_at plan x k ≡ true → lo_of plan (edge_at plan x k) ≡ x
    lower x k w b = eqb-true (lo_of plan (edge_at plan x k)) x b

    higher : (x : ℕ) (k : ℕ) → k < length (edges_of plan x) → is_lower_at plan x k ≡ false → hi_of plan (edge_at plan x k) ≡ x
    higher x k w b = elim (placed plan x k is_plan w).sides [
      | inl side ↦ absurd (false≢true (sym b ∙ eq-eqb (lo_of plan (edge_at plan x k)) x side.0))
      | inr side ↦ side.0
    ]

    same_site : edge_at plan s i ≡ edge_at plan t j → is_lower_at plan s i ≡ is_lower_at plan t j → s ≡ t
    same_site e b = elim (cases_Bool (is_lower_at plan s i)) [
      | inl low ↦ sym (lower s i at_s low) ∙ ap (lo_of plan) e ∙ lower t j at_t (sym b ∙ low)
      | inr high ↦ sym (higher s i at_s high) ∙ ap (hi_of plan) e ∙ higher t j at_t (sym b ∙ high)
    ]

flipped : (b : Bool) → cond {A = ℕ} b 0 1 ≡ cond {A = ℕ} (not b) 1 0
flipped true = refl
flipped false = refl

flipped_back : (b : Bool) → cond {A = ℕ} (not b) 0 1 ≡ cond {A = ℕ} b 1 0
flipped_back true = refl
flipped_back false = refl

-- the link that leads away from a place leads to the place across
pub from_is_to : (plan : SeenPlan) (s i other place : ℕ) → IsAcross plan s i other place → number_from plan s i ≡ number_to plan other place
from_is_to plan s i other place w =
    ap (λ (n : ℕ). 2 * edge_at plan s i + n) (flipped (is_lower_at plan s i) ∙ ap (λ (b : Bool). cond {A = ℕ} b 1 0) (sym w.other_side))
    ∙ ap (λ (e : ℕ). 2 * e + cond (is_lower_at plan other place) 1 0) (sym w.same_edge)

-- and the other way round
pub to_is_from : (plan : SeenPlan) (s i other place : ℕ) → IsAcross plan s i other place → number_to plan s i ≡ number_from plan other place
to_is_from plan s i other place w =
    ap (λ (n : ℕ). 2 * edge_at plan s i + n) (sym (flipped_back (is_lower_at plan s i)) ∙ ap (λ (b : Bool). cond {A = ℕ} b 0 1) (sym w.other_side))
    ∙ ap (λ (e : ℕ). 2 * e + cond (is_lower_at plan other place) 0 1) (sym w.same_edge)

-- the place across finds this place again
pub back_at : (plan : SeenPlan) (s i other place : ℕ) → i < length (edges_of plan s) → IsAcross plan s i other place → place_of plan (neighbour_at plan other place) (edge_at plan other place) ≡ i
back_at plan s i other place within w = ap (λ (x : ℕ). place_of plan x (edge_at plan other place)) w.back ∙ ap (λ (e : ℕ). place_of plan s e) w.same_edge ∙ place_of-edge_at plan s i within
