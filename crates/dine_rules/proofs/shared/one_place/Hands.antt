-- The log in hand: the last one taken, with the site's meals since.
use Rattle.std.proofs.Common.{◌≡◌, ℕ, zero, suc, ◌+◌, ◌-◌, ◌≤◌, true, false, List, [], ◌∷◌, ◌++◌, sym, ◌∙◌, ap, arith, append_assoc, append-nil, add-zero}
use Rattle.dine_token.specs.declared.log_entry.Entry.{Entry}
use Rattle.dine_token.specs.declared.log_entry.Entry.TheVariants.{Meal}
use Rattle.dine_token.specs.Log.{is_dirty, location_of, meals_of}
use Rattle.dine_token.proofs.shared.Logs.{location_of-push_meal, meals_of-push_own}
use Rattle.dine_rules.specs.Holdings.{meals_from, with_meals_to}

pub meals_from-push : (s first n : ℕ) → meals_from s first (suc n) ≡ meals_from s first n ++ Meal s (first + n) ∷ []
meals_from-push s first zero = rw add-zero
meals_from-push s first (suc n) =
    let same : first + 1 + n ≡ first + suc n = omega arith in
    ap (λ (l : List Entry). Meal s first ∷ l) (meals_from-push s (first + 1) n ∙ ap (λ (k : ℕ). meals_from s (first + 1) n ++ Meal s k ∷ []) same)

-- a log with so many meals more
abbrev pub with_meals : ℕ → ℕ → List Entry → List Entry
with_meals s n log = log ++ meals_from s (meals_of s log + 1) n

pub with_meals-none : (s : ℕ) (log : List Entry) → with_meals s 0 log ≡ log
with_meals-none s log = append-nil log

pub with_meals-more : (s n : ℕ) (log : List Entry) → with_meals s (suc n) log ≡ with_meals s n log ++ Meal s (meals_of s log + 1 + n) ∷ []
with_meals-more s n log =
    ap (λ (l : List Entry). log ++ l) (meals_from-push s (meals_of s log + 1) n)
    ∙ sym (append_assoc log (meals_from s (meals_of s log + 1) n) (Meal s (meals_of s log + 1 + n) ∷ []))

pub meals_of-with_meals : (s n : ℕ) (log : List Entry) → meals_of s (with_meals s n log) ≡ meals_of s log + n
meals_of-with_meals s zero log = ap (λ (l : List Entry). meals_of s l) (with_meals-none s log) ∙ sym (add-zero (meals_of s log))
meals_of-with_meals s (suc n) log =
    let e : meals_of s (with_meals s (suc n) log) ≡ meals_of s (with_meals s n log) + 1 = ap (λ (l : List Entry). meals_of s l) (with_meals-more s n log) ∙ meals_of-push_own s (with_meals s n log) (meals_of s log + 1 + n) in
    omega (arith, e, meals_of-with_meals s n log)

pub location_of-with_meals : (start s n : ℕ) (log : List Entry) → location_of start (with_meals s n log) ≡ location_of start log
location_of-with_meals start s zero log = ap (λ (l : List Entry). location_of start l) (with_meals-none s log)
location_of-with_meals start s (suc n) log =
    ap (λ (l : List Entry). location_of start l) (with_meals-more s n log)
    ∙ location_of-push_meal start (with_meals s n log) s (meals_of s log + 1 + n) ∙ location_of-with_meals start s n log

-- ---- the hand of a site that ate so many meals

-- a log with all meals is the hand itself
pub hand-same : (s ate : ℕ) (log : List Entry) → meals_of s log ≡ ate → with_meals_to s ate log ≡ log
hand-same s ate log h =
    let none : ate - meals_of s log ≡ 0 = omega arith in
    ap (λ (n : ℕ). with_meals s n log) none ∙ with_meals-none s log

-- the hand has all meals of the site
pub meals_of-hand : (s ate : ℕ) (log : List Entry) → meals_of s log ≤ ate → meals_of s (with_meals_to s ate log) ≡ ate
meals_of-hand s ate log h = omega (arith, meals_of-with_meals s (ate - meals_of s log) log)

-- it is where the last log left it
pub location_of-hand : (start s ate : ℕ) (log : List Entry) → location_of start (with_meals_to s ate log) ≡ location_of start log
location_of-hand start s ate log = location_of-with_meals start s (ate - meals_of s log) log

-- one more meal stands at its end
pub hand-more : (s ate : ℕ) (log : List Entry) → meals_of s log ≤ ate → with_meals_to s (ate + 1) log ≡ with_meals_to s ate log ++ Meal s (ate + 1) ∷ []
hand-more s ate log h =
    let n : ℕ = ate - meals_of s log in
    let longer : ate + 1 - meals_of s log ≡ suc (ate - meals_of s log) = omega arith in
    let number : meals_of s log + 1 + (ate - meals_of s log) ≡ ate + 1 = omega arith in
    ap (λ (n : ℕ). with_meals s n log) longer ∙ with_meals-more s (ate - meals_of s log) log
    ∙ ap (λ (k : ℕ). with_meals_to s ate log ++ Meal s k ∷ []) number

-- a dirty hand that came clean has a meal more
pub hand-eaten : (s ate : ℕ) (log : List Entry) → is_dirty log ≡ false → is_dirty (with_meals_to s ate log) ≡ true → 1 ≤ ate - meals_of s log
hand-eaten s ate log clean dirty = elim (ate - meals_of s log) as (λ n. is_dirty (with_meals s n log) ≡ true → 1 ≤ n) [
  | zero ↦ λ h. absurd (let same : is_dirty log ≡ true = ap is_dirty (sym (with_meals-none s log)) ∙ h in cc)
  | suc n ↦ λ h. omega arith
] dirty
