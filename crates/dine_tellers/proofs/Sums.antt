-- One account more in the books.
use Rattle.std.proofs.Common.{◌≡◌, ℕ, zero, suc, ◌+◌, ◌-◌, ◌<◌, ◌++◌, List, [], ◌∷◌, map, sym, ap, ◌∙◌, zero-add, add-one, arith}
use Rattle.std.specs.List.{range_with_len}
use Rattle.std.proofs.lemmas.List.FromFn.{map-range_with_len_more}
use Rattle.dine_graph.specs.Plan.{SeenPlan, job_count}
use Rattle.dine_tellers.specs.Balances.{before, balance_of}
use Rattle.dine_tellers.specs.declared.TheConstants.{START}

pub before_next : (plan : SeenPlan) (s : ℕ) → before plan (s + 1) ≡ s
before_next plan s = ap (before plan) (add-one s)

pub before_some : (plan : SeenPlan) (n : ℕ) → 0 < n → before plan n ≡ n - 1
before_some plan zero some = absurd (omega (arith, some))
before_some plan (suc n) some = omega arith

pub next_balances : (plan : SeenPlan) (old new : List ℕ) (s came sent : ℕ) → old ≡ map (balance_of plan) (range_with_len 0 s) → came ≡ job_count plan (before plan s) → sent ≡ job_count plan s → new ≡ old ++ (START + came - sent) ∷ [] → new ≡ map (balance_of plan) (range_with_len 0 (s + 1))
next_balances plan old new s came sent was from to grown =
    let value : START + came - sent ≡ balance_of plan s = ap (λ (n : ℕ). START + n - sent) from ∙ ap (λ (n : ℕ). START + job_count plan (before plan s) - n) to in
    grown ∙ ap (λ (xs : List ℕ). xs ++ (START + came - sent) ∷ []) was ∙ ap (λ (n : ℕ). map (balance_of plan) (range_with_len 0 s) ++ n ∷ []) value
    ∙ sym (map-range_with_len_more (balance_of plan) 0 s s (zero-add s))
