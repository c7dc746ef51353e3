-- Taking by bytes, letter by letter; and which fork is kept.
use Rattle.std.proofs.Common.{◌≡◌, ℕ, zero, suc, ◌+◌, ◌==◌, Bool, true, false, cond, List, [], ◌∷◌, ◌++◌, length, slice_get, Some, None, refl, sym, ◌∙◌, ap, subst, inl, inr, arith}
use Rattle.std.proofs.lemmas.List.{map-append}
use Rattle.dine_token.specs.Fork.{SeenFork}
use Rattle.dine_graph.specs.Plan.{SeenPlan, lo_of}
use Rattle.dine_rules.specs.declared.letters.Letter.{Letter}
use Rattle.dine_rules.specs.declared.letters.Letter.TheVariants as letter
use Rattle.dine_rules.specs.Letters.{forks_among, forks_in}
use Rattle.dine_rules.specs.Local.{Traffic}
use Rattle.dine_rules.specs.Steps.{opened_fork}
use Rattle.dine_rules.proofs.shared.lists.Counting.{slice_get-push}
use Rattle.dine_rules.proofs.shared.lists.Forks.{forks_among-append, length-forks_among}
use Rattle.dine_rules.proofs.shared.one_place.Values.{no_more_forks}
use Rattle.dine_wire.specs.Carried.{GoOnFromKept, GoesOn, IsOfKept, bytes_of_each, fork_for_next, kept_forks, letter_bytes}

module _ (plan : SeenPlan) (s edge : ℕ) where
  -- what is kept grows behind
  pub kept-append : (put more : List Letter) → kept_forks plan s edge (put ++ more) ≡ kept_forks plan s edge put ++ forks_among more
  kept-append put more = by (lo_of plan edge == s)
    where
      by : (b : Bool) → cond b (forks_among (put ++ more)) (opened_fork plan edge ∷ forks_among (put ++ more)) ≡ cond b (forks_among put) (opened_fork plan edge ∷ forks_among put) ++ forks_among more
      by true = forks_among-append put more
      by false = ap (λ (l : List SeenFork). opened_fork plan edge ∷ l) (forks_among-append put more)

  pub length-kept : (put : List Letter) → length (kept_forks plan s edge put) ≡ cond (lo_of plan edge == s) 0 1 + forks_in put
  length-kept put = by (lo_of plan edge == s)
    where
      by : (b : Bool) → length (cond b (forks_among put) (opened_fork plan edge ∷ forks_among put)) ≡ cond b 0 1 + forks_in put
      by true = omega (arith, length-forks_among put)
      by false = omega (arith, length-forks_among put)

  goes-append : (kept more : List SeenFork) (k : ℕ) (fork : SeenFork) → GoesOn plan (slice_get kept k) fork → GoesOn plan (slice_get (kept ++ more) k) fork
  goes-append [] more k fork goes = absurd goes
  goes-append (first ∷ kept) more zero fork goes = goes
  goes-append (first ∷ kept) more (suc k) fork goes = goes-append kept more k fork goes

  -- a letter more is put
  pub grows_by_put : (traffic : Traffic) (l : Letter) → GoOnFromKept plan s edge traffic → GoOnFromKept plan s edge (record traffic { put = traffic.put ++ l ∷ [] })
  grows_by_put traffic l goes = λ k fork h.
      subst (λ (kept : List SeenFork). GoesOn plan (slice_get kept k) fork) (sym (kept-append traffic.put (l ∷ []))) (goes-append (kept_forks plan s edge traffic.put) (forks_among (l ∷ [])) k fork (goes k fork h))

  -- a letter more is taken
  pub grows_by_take : (traffic : Traffic) (l : Letter) → GoOnFromKept plan s edge traffic → IsOfKept plan (fork_for_next plan s edge traffic) edge l → GoOnFromKept plan s edge (record traffic { taken = traffic.taken ++ l ∷ [] })
  grows_by_take traffic (letter.Fork fork) goes of_kept = λ k one h.
      elim (slice_get-push (forks_among traffic.taken) fork one k (ap (λ (l : List SeenFork). slice_get l k) (sym (forks_among-append traffic.taken (letter.Fork fork ∷ []))) ∙ h)) [
        | inl before ↦ goes k one before
        | inr last ↦
            subst (λ (f : SeenFork). GoesOn plan (slice_get (kept_forks plan s edge traffic.put) k) f) last.1
            (subst (λ (n : ℕ). GoesOn plan (slice_get (kept_forks plan s edge traffic.put) n) fork) (sym (last.0 ∙ length-forks_among traffic.taken)) of_kept)
      ]
  grows_by_take traffic (letter.Request e) goes of_kept = λ k one h. goes k one (ap (λ (l : List SeenFork). slice_get l k) (sym (no_more_forks (letter.Request e) traffic.taken refl)) ∙ h)
  grows_by_take traffic letter.Done goes of_kept = λ k one h. goes k one (ap (λ (l : List SeenFork). slice_get l k) (sym (no_more_forks letter.Done traffic.taken refl)) ∙ h)
  grows_by_take traffic letter.Close goes of_kept = λ k one h. goes k one (ap (λ (l : List SeenFork). slice_get l k) (sym (no_more_forks letter.Close traffic.taken refl)) ∙ h)

  pub bytes_grow : (run : ℕ) (taken : List Letter) (bytes : List ℕ) (l : Letter) → bytes ≡ letter_bytes run edge l → bytes_of_each run edge (taken ++ l ∷ []) ≡ bytes_of_each run edge taken ++ bytes ∷ []
  bytes_grow run taken bytes l is = map-append (letter_bytes run edge) taken (l ∷ []) ∙ ap (λ (b : List ℕ). bytes_of_each run edge taken ++ b ∷ []) (sym is)

  -- ---- which fork is kept

  -- the k-th of a list of k + 1
  last_of : (kept : List SeenFork) (k : ℕ) → length kept ≡ k + 1 → (before : List SeenFork) × (last : SeenFork) × (kept ≡ before ++ last ∷ []) × (slice_get kept k ≡ Some last)
  last_of [] k is = absurd (omega (arith, is))
  last_of (first ∷ []) zero is = ([], first, refl, refl)
  last_of (first ∷ next ∷ kept) zero is = absurd (omega (arith, is))
  last_of (first ∷ []) (suc k) is = absurd (omega (arith, is))
  last_of (first ∷ next ∷ kept) (suc k) is =
      let w = last_of (next ∷ kept) k (omega (arith, is)) in
      (first ∷ w.0, w.1, ap (λ (l : List SeenFork). first ∷ l) w.2, w.3)

  past_end : (kept : List SeenFork) (k : ℕ) → length kept ≡ k → slice_get kept k ≡ None
  past_end [] k is = refl
  past_end (first ∷ kept) zero is = absurd (omega (arith, is))
  past_end (first ∷ kept) (suc k) is = past_end kept k (omega (arith, is))

  module _ (held : ℕ) (traffic : Traffic) (counted : held + forks_in traffic.put ≡ cond (lo_of plan edge == s) 1 0 + forks_in traffic.taken) where
    one_of : (b : Bool) → cond {A = ℕ} b 0 1 + cond {A = ℕ} b 1 0 ≡ 1
    one_of true = refl
    one_of false = refl

    pub last_is_kept : held ≡ 0 → (before : List SeenFork) × (last : SeenFork) × (kept_forks plan s edge traffic.put ≡ before ++ last ∷ []) × (fork_for_next plan s edge traffic ≡ Some last)
    last_is_kept away = last_of (kept_forks plan s edge traffic.put) (forks_in traffic.taken) (omega (arith, length-kept traffic.put, counted, away, one_of (lo_of plan edge == s)))

    pub none_is_kept : held ≡ 1 → fork_for_next plan s edge traffic ≡ None
    none_is_kept here = past_end (kept_forks plan s edge traffic.put) (forks_in traffic.taken) (omega (arith, length-kept traffic.put, counted, here, one_of (lo_of plan edge == s)))
