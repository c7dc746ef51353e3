-- Plain jobs pass none of the tests by which a site is refused.
use Rattle.std.proofs.Common.{◌≡◌, ℕ, ◌+◌, ◌<◌, ◌≤◌, ◌||◌, Bool, true, false, List, length, map, refl, ap, ◌∙◌, arith}
use Rattle.std.specs.List.{list_any, range_with_len}
use Rattle.std.proofs.lemmas.List.Folds.{list_any-append, list_any_none}
use Rattle.std.proofs.lemmas.List.FromFn.{get_or-map-range_with_len, length-map-range_with_len}
use Rattle.dine_graph.specs.declared.plans.Job.{Job}
use Rattle.dine_graph.specs.Plan.{SeenJob}
use Rattle.dine_graph.specs.Job.{seen_job, plain_job}
use Rattle.dine_graph.specs.Site.{seen_jobs}

or_false : (b : Bool) → (b || false) ≡ b
or_false true = refl
or_false false = refl

-- plain jobs of which none passes a test
pub plain_none : (p : SeenJob → Bool) (a n : ℕ) → ((k : ℕ) → k < a + n → p (plain_job k) ≡ false) → list_any p (map plain_job (range_with_len a n)) ≡ false
plain_none p a n fails =
    list_any_none p (map plain_job (range_with_len a n)) (λ k d h.
    let long : length (map plain_job (range_with_len a n)) ≡ n = length-map-range_with_len plain_job a n in
    rw (get_or-map-range_with_len plain_job a n k (a + k) d (omega arith) (omega arith)) (fails (a + k) (omega arith)))

-- a test that no plain job passes is passed by a job of the site if one of its list passes
pub any_listed : (p : SeenJob → Bool) (jobs : List Job) (n : ℕ) → ((k : ℕ) → k ≤ length jobs + n → p (plain_job k) ≡ false) → list_any p (seen_jobs jobs n) ≡ list_any p (map seen_job jobs)
any_listed p jobs n fails =
    list_any-append p (map seen_job jobs) (map plain_job (range_with_len (length jobs + 1) n))
    ∙ ap (λ b. list_any p (map seen_job jobs) || b) (plain_none p (length jobs + 1) n (λ k h. fails k (omega arith)))
    ∙ or_false (list_any p (map seen_job jobs))
