-- The end that has a fork clean in hand has precedence.
use Rattle.std.proofs.Common.{◌≡◌, ◌⊎◌, ℕ, ◌+◌, ◌<◌, ◌≤◌, Bool, true, false, ◌==◌, nat_lt, refl, sym, ◌∙◌, ap, subst, inl, inr, arith}
use Rattle.std.proofs.lemmas.Bool.{false≢true, cond-true, cond-false, eq-eqb, ne_eqb, false_from_ne_true, ltb-true}
use Rattle.dine_token.specs.Log.{is_dirty}
use Rattle.dine_graph.specs.Plan.{SeenPlan, IsPlan, edge_count, lo_of, hi_of}
use Rattle.dine_rules.specs.Letters.{forks_in}
use Rattle.dine_rules.specs.Local.{LocalState, traffic_at}
use Rattle.dine_rules.specs.Holdings.{fork_at, hand_at}
use Rattle.dine_rules.specs.World.{WorldState, state_of, place_of}
use Rattle.dine_rules.specs.Precedence.{preferred_end}
use Rattle.dine_rules.proofs.shared.lists.Counting.{none_is_not_one}
use Rattle.dine_rules.proofs.shared.links.WorldStreams.{WorldKeeps}
use Rattle.dine_rules.proofs.shared.precedence.Preference.{lower_first, lower_first_at, balanced, preferred_is, low_place, high_place}

-- the lower end holds it clean
low_clean : (held_low sent_low held_high dirty_low dirty_high : Bool) → held_low ≡ true → dirty_low ≡ false → lower_first held_low sent_low held_high dirty_low dirty_high ≡ true
low_clean true sent_low held_high false dirty_high held clean = refl
low_clean true sent_low held_high true dirty_high held clean = absurd (false≢true (sym clean))
low_clean false sent_low held_high dirty_low dirty_high held clean = absurd (false≢true held)

-- the higher end holds it clean
high_clean : (held_low sent_low held_high dirty_low dirty_high : Bool) → held_low ≡ false → sent_low ≡ false → held_high ≡ true → dirty_high ≡ false → lower_first held_low sent_low held_high dirty_low dirty_high ≡ false
high_clean true sent_low held_high dirty_low dirty_high not_low not_sent held clean = absurd (false≢true (sym not_low))
high_clean false true held_high dirty_low dirty_high not_low not_sent held clean = absurd (false≢true (sym not_sent))
high_clean false false false dirty_low dirty_high not_low not_sent held clean = absurd (false≢true held)
high_clean false false true dirty_low dirty_high not_low not_sent held clean = clean

-- the end of the edge has the fork clean in hand
pub record HasClean (plan : SeenPlan) (world : WorldState) (e t : ℕ) : Type 0 where
  pub held : fork_at plan t (state_of world t) (place_of plan t e) ≡ 1
  pub clean : is_dirty (hand_at t (state_of world t) (place_of plan t e)) ≡ false

-- the fork that the higher end holds is neither at the lower end nor on its way there
held_high_only : (n F f G g : ℕ) → n + F ≡ 1 + f → 1 + G ≡ g → f ≤ G → g ≤ F → (n ≡ 0) × (f ≡ G)
held_high_only n F f G g low high a b = (omega arith, omega arith)

module _ (plan : SeenPlan) (is_plan : IsPlan plan) (world : WorldState) (kept : WorldKeeps plan world) (e : ℕ) (within : e < edge_count plan) where
  -- the lower end comes first by the states of the two ends
  abbrev low_is_first : Bool
  low_is_first = lower_first_at plan e (state_of world (lo_of plan e)) (state_of world (hi_of plan e))

  -- whether an end holds the fork
  abbrev holds : ℕ → Bool
  holds t = fork_at plan t (state_of world t) (place_of plan t e) == 1

  -- whether its log there is dirty
  abbrev dirty : ℕ → Bool
  dirty t = is_dirty (hand_at t (state_of world t) (place_of plan t e))

  -- whether it is on its way to the lower end
  abbrev sent_low : Bool
  sent_low = nat_lt (forks_in (traffic_at (state_of world (lo_of plan e)) (low_place plan e)).taken) (forks_in (traffic_at (state_of world (hi_of plan e)) (high_place plan e)).put)

  -- the lower end has precedence where it holds the fork clean
  low_precedes : HasClean plan world e (lo_of plan e) → preferred_end plan world e ≡ lo_of plan e
  low_precedes has =
      let first : low_is_first ≡ true = low_clean (holds (lo_of plan e)) sent_low (holds (hi_of plan e)) (dirty (lo_of plan e)) (dirty (hi_of plan e)) (eq-eqb _ 1 has.held) has.clean in
      preferred_is plan is_plan world kept e within ∙ cond-true low_is_first (lo_of plan e) (hi_of plan e) first

  -- and so has the higher
  high_precedes : HasClean plan world e (hi_of plan e) → preferred_end plan world e ≡ hi_of plan e
  high_precedes has =
      let low : LocalState = state_of world (lo_of plan e) in
      let high : LocalState = state_of world (hi_of plan e) in
      let b = balanced plan is_plan world kept e within in
      let only = held_high_only (fork_at plan (lo_of plan e) low (low_place plan e)) (forks_in (traffic_at low (low_place plan e)).put) (forks_in (traffic_at low (low_place plan e)).taken)
      (forks_in (traffic_at high (high_place plan e)).put) (forks_in (traffic_at high (high_place plan e)).taken)
      b.low_counted (sym (ap (λ (n : ℕ). n + forks_in (traffic_at high (high_place plan e)).put) has.held) ∙ b.high_counted) b.low_takes b.high_takes in
      let first : low_is_first ≡ false = high_clean (holds (lo_of plan e)) sent_low (holds (hi_of plan e)) (dirty (lo_of plan e)) (dirty (hi_of plan e))
      (ne_eqb (fork_at plan (lo_of plan e) low (low_place plan e)) 1 (λ one. none_is_not_one (fork_at plan (lo_of plan e) low (low_place plan e)) only.0 one))
      (false_from_ne_true sent_low (λ less. omega (arith, only.1, ltb-true _ _ less)))
      (eq-eqb _ 1 has.held) has.clean in
      preferred_is plan is_plan world kept e within ∙ cond-false low_is_first (lo_of plan e) (hi_of plan e) first

  -- the same for either end
  pub clean_precedes : (t : ℕ) → (t ≡ lo_of plan e) ⊎ (t ≡ hi_of plan e) → HasClean plan world e t → preferred_end plan world e ≡ t
  clean_precedes t (inl low) has = low_precedes (subst (HasClean plan world e) low has) ∙ sym low
  clean_precedes t (inr high) has = high_precedes (subst (HasClean plan world e) high has) ∙ sym high
