-- The two ends of an edge, if each takes by bytes what the other put: each Fork that an end took is the one that the
-- other put, one after the other, as the fork goes there and back.
use Rattle.std.proofs.Common.{◌≡◌, ◌⊎◌, ℕ, zero, suc, ◌+◌, ◌<◌, ◌≤◌, ◌^◌, ◌==◌, cond, true, false, List, [], ◌∷◌, ◌++◌, length, slice_get, Option, Some, refl, sym, ◌∙◌, ap, subst, inl, inr, arith}
use Rattle.std.proofs.lemmas.Bool.{cond-true, cond-false, eq-eqb, ne_eqb}
use Rattle.std.proofs.lemmas.Option.{same_Some}
use mathlib.Core.List.{IsPrefix}
use Rattle.dine_token.specs.declared.log_entry.Entry.{Entry}
use Rattle.dine_token.specs.declared.log_entry.Entry.TheVariants.{Move}
use Rattle.dine_token.specs.Fork.{SeenFork, IsFork, location, other_end}
use Rattle.dine_token.specs.Log.{is_dirty, meals_of}
use Rattle.dine_token.specs.Lawful.{IsLawful}
use Rattle.dine_graph.specs.Plan.{SeenPlan, IsPlan, edge_count, hi_of, lo_of, other_of}
use Rattle.dine_rules.specs.declared.letters.Letter.{Letter}
use Rattle.dine_rules.specs.declared.letters.Letter.TheVariants as letter
use Rattle.dine_rules.specs.Holdings.{meals_from}
use Rattle.dine_rules.specs.JoinedEnds.{AccountsForFork, AreLinked, next_between}
use Rattle.dine_rules.specs.Letters.{forks_among, forks_in}
use Rattle.dine_rules.specs.Local.{Traffic}
use Rattle.dine_rules.specs.Steps.{fork_with, opened_fork}
use Rattle.dine_rules.specs.Streams.{AreRequestsOf, CarriesOnTaken, logs_of}
use Rattle.dine_rules.specs.Values.{CarriesValue, value_to}
use Rattle.dine_rules.proofs.shared.lists.Forks.{logs_of-at}
use Rattle.dine_rules.proofs.shared.one_place.Owned.{own_is}
use Rattle.dine_wire.specs.Arrivals.{IsOfPlan, meals_here}
use Rattle.dine_wire.specs.Carried.{GoesOn, IsCarriedOn, IsOfKept, TakesByBytes, fork_for_next, kept_forks, letter_bytes}
use Rattle.dine_wire.proofs.shared.CarriedForks.{IsFork-carried_on, IsFork-opened, chained_is_carried, location-carried_on, of_plan, same_bytes}
use Rattle.dine_wire.proofs.CarriedLists.{fork_like, same_front}
use Rattle.dine_wire.proofs.shared.LettersOfRuns.{first_put}

-- a Fork among the letters is one of them
at_letter : (letters : List Letter) (k : ℕ) (fork : SeenFork) → slice_get (forks_among letters) k ≡ Some fork → (j : ℕ) × (slice_get letters j ≡ Some (letter.Fork fork))
at_letter [] k fork h = absurd cc
at_letter (letter.Fork first ∷ letters) zero fork h = (0, (let same : first ≡ fork = cc in ap (λ (f : SeenFork). Some (letter.Fork f)) same))
at_letter (letter.Fork first ∷ letters) (suc k) fork h = let w = at_letter letters k fork h in (suc w.0, w.1)
at_letter (letter.Request e ∷ letters) k fork h = let w = at_letter letters k fork h in (suc w.0, w.1)
at_letter (letter.Done ∷ letters) k fork h = let w = at_letter letters k fork h in (suc w.0, w.1)
at_letter (letter.Close ∷ letters) k fork h = let w = at_letter letters k fork h in (suc w.0, w.1)

-- a Fork behind the first letters is behind their Forks
next_fork : (taken rest : List Letter) (fork : SeenFork) → slice_get (taken ++ rest) (length taken) ≡ Some (letter.Fork fork) → slice_get (forks_among (taken ++ rest)) (forks_in taken) ≡ Some fork
next_fork [] [] fork h = absurd cc
next_fork [] (letter.Fork first ∷ rest) fork h = cc
next_fork [] (letter.Request e ∷ rest) fork h = absurd cc
next_fork [] (letter.Done ∷ rest) fork h = absurd cc
next_fork [] (letter.Close ∷ rest) fork h = absurd cc
next_fork (letter.Fork first ∷ taken) rest fork h = next_fork taken rest fork h
next_fork (letter.Request e ∷ taken) rest fork h = next_fork taken rest fork h
next_fork (letter.Done ∷ taken) rest fork h = next_fork taken rest fork h
next_fork (letter.Close ∷ taken) rest fork h = next_fork taken rest fork h

next_in : (taken put : List Letter) → IsPrefix taken put → (fork : SeenFork) → slice_get put (length taken) ≡ Some (letter.Fork fork) → slice_get (forks_among put) (forks_in taken) ≡ Some fork
next_in taken put front fork h =
    subst (λ (l : List Letter). slice_get (forks_among l) (forks_in taken) ≡ Some fork) front.1
    (next_fork taken front.0 fork (ap (λ (l : List Letter). slice_get l (length taken)) front.1 ∙ h))

module _ (plan : SeenPlan) (is_plan : IsPlan plan) (run edge : ℕ) (within : edge < edge_count plan) where
  abbrev lo : ℕ
  lo = lo_of plan edge

  abbrev hi : ℕ
  hi = hi_of plan edge

  ordered : lo < hi
  ordered = is_plan.ordered edge within

  small : edge < 2 ^ 32
  small = omega (arith, within, is_plan.few_edges)

  -- ---- the ends

  lower : (lo == lo) ≡ true
  lower = eq-eqb lo lo refl

  higher : (lo == hi) ≡ false
  higher = ne_eqb lo hi (λ same. omega (arith, same, ordered))

  higher_too : (hi == lo) ≡ false
  higher_too = ne_eqb hi lo (λ same. omega (arith, same, ordered))

  from_low : other_of plan edge lo ≡ hi
  from_low = cond-true (lo == lo) hi lo lower

  from_high : other_of plan edge hi ≡ lo
  from_high = cond-false (lo == hi) hi lo higher

  -- What is carried along of the k-th Fork that an end put: it is a fork of the edge, and at the other end.
  pub record IsThere (end : ℕ) (fork : SeenFork) : Type 0 where
    pub own : fork ≡ fork_with plan edge fork.log fork.value
    pub is : IsFork fork
    pub at : location fork ≡ end

  of_plan_there : (end : ℕ) (fork : SeenFork) → IsThere end fork → IsOfPlan plan fork
  of_plan_there end fork there = subst (IsOfPlan plan) (sym there.own) (of_plan plan is_plan edge within fork.log fork.value)

  other_from : (end : ℕ) (fork : SeenFork) → IsThere end fork → (end ≡ lo) ⊎ (end ≡ hi) → other_end fork (location fork) ≡ other_of plan edge end
  other_from end fork there is_end =
      let ends : fork.ends ≡ (lo, hi) = ap (λ (f : SeenFork). f.ends) there.own in
      ap (other_end fork) there.at ∙ ap (λ (e : ℕ × ℕ). cond (end == e.0) e.1 e.0) ends ∙ by_end is_end
    where
      by_end : (end ≡ lo) ⊎ (end ≡ hi) → cond (end == lo) hi lo ≡ other_of plan edge end
      by_end (inl low) = ap (λ (e : ℕ). cond (e == lo) hi lo) low ∙ ap (λ (e : ℕ). other_of plan edge e) (sym low)
      by_end (inr high) = ap (λ (e : ℕ). cond (e == lo) hi lo) high ∙ cond-false (hi == lo) hi lo higher_too ∙ sym from_high ∙ ap (λ (e : ℕ). other_of plan edge e) (sym high)

  -- a Fork that an end put, and that carries on a fork that is there
  module _ (end : ℕ) (is_end : (end ≡ lo) ⊎ (end ≡ hi)) (kept fork : SeenFork) (n : ℕ) (there : IsThere end kept) (own : fork ≡ fork_with plan edge fork.log fork.value)
      (lawful : IsLawful fork.ends fork.due fork.log) (used : (is_dirty kept.log ≡ true) ⊎ (1 ≤ n))
      (log : fork.log ≡ kept.log ++ meals_from end (meals_of end kept.log + 1) n ++ Move (other_of plan edge end) ∷ [])
      (value : fork.value ≡ value_to plan end (meals_of end fork.log) kept.log kept.value) where
    pub carried : IsCarriedOn plan kept fork
    carried = chained_is_carried plan edge kept fork n there.is there.own own lawful used
        (log ∙ ap (λ (e : ℕ). kept.log ++ meals_from e (meals_of e kept.log + 1) n ++ Move (other_of plan edge end) ∷ []) (sym there.at)
        ∙ ap (λ (e : ℕ). kept.log ++ meals_from (location kept) (meals_here kept + 1) n ++ Move e ∷ []) (sym (other_from end kept there is_end)))
        (value ∙ ap (λ (e : ℕ). value_to plan e (meals_of e fork.log) kept.log kept.value) (sym there.at))

    pub is_there : IsThere (other_of plan edge end) fork
    is_there = record {
      own = own;
      is = subst IsFork (sym carried.is) (IsFork-carried_on plan kept carried.meals is_plan there.is (of_plan_there end kept there) carried.may);
      at = ap location carried.is ∙ location-carried_on plan kept carried.meals ∙ other_from end kept there is_end;
    }

  -- the fork of the start is at the lower end
  opened_there : IsThere lo (opened_fork plan edge)
  opened_there = record { own = refl; is = IsFork-opened plan is_plan edge within; at = refl }

  -- a Fork that an end put, and that carries on one that it took
  on_taken : (end : ℕ) → (end ≡ lo) ⊎ (end ≡ hi) → (taken : List Letter) (k : ℕ) (fork : SeenFork) → fork ≡ fork_with plan edge fork.log fork.value → IsLawful fork.ends fork.due fork.log
      → CarriesOnTaken end (other_of plan edge end) (logs_of taken) k fork.log → (values : CarriesValue plan end (forks_among taken) k fork) → IsThere end values.before
      → IsCarriedOn plan values.before fork × IsThere (other_of plan edge end) fork
  on_taken end is_end taken k fork own lawful logs values there =
      let kept : SeenFork = values.before in
      let same : kept.log ≡ logs.before = same_Some kept.log logs.before (sym (logs_of-at taken k kept values.is_taken) ∙ logs.is_taken) in
      let log = logs.carries.is ∙ ap (λ (l : List Entry). l ++ meals_from end (meals_of end l + 1) logs.carries.meals ++ Move (other_of plan edge end) ∷ []) (sym same) in (
        carried end is_end kept fork logs.carries.meals there own lawful (inr logs.carries.some) log values.carries,
        is_there end is_end kept fork logs.carries.meals there own lawful (inr logs.carries.some) log values.carries,
      )

  -- a Fork that an end took is the one that the other end put, if that one is carried on from the fork that was kept
  came : (s end : ℕ) (here there : Traffic) (k : ℕ) (kept one other : SeenFork) → TakesByBytes plan run s edge here there → slice_get (kept_forks plan s edge here.put) k ≡ Some kept → IsThere end kept
      → slice_get (forks_among here.taken) k ≡ Some one → slice_get (forks_among there.put) k ≡ Some other → IsCarriedOn plan kept other → one ≡ other
  came s end here there k kept one other takes is_kept kept_there taken put other_carried =
      let goes : GoesOn plan (Some kept) one = subst (λ (o : Option SeenFork). GoesOn plan o one) is_kept (takes.forks k one taken) in
      let like = fork_like run edge here.taken there.put (first_put plan run s edge here there takes).0 (first_put plan run s edge here there takes).1 k one taken in
      let same : like.0 ≡ other = same_Some like.0 other (sym like.1 ∙ put) in
      same_bytes plan is_plan run edge kept kept_there.is (of_plan_there end kept kept_there) small one other goes other_carried
      (like.2 ∙ ap (λ (f : SeenFork). letter_bytes run edge (letter.Fork f)) same)

  -- ---- there and back

  module _ (low_ate high_ate : ℕ) (low high : Traffic) (accounts_low : AccountsForFork plan lo edge low_ate low) (accounts_high : AccountsForFork plan hi edge high_ate high)
      (takes_low : TakesByBytes plan run lo edge low high) (takes_high : TakesByBytes plan run hi edge high low) where
    -- the Forks put are those of the edge, with lawful logs
    own_low : (k : ℕ) (fork : SeenFork) → slice_get (forks_among low.put) k ≡ Some fork → (fork ≡ fork_with plan edge fork.log fork.value) × IsLawful fork.ends fork.due fork.log
    own_low k fork h = let w = at_letter low.put k fork h in let is = accounts_low.put_forks w.0 fork w.1 in (own_is plan edge fork is.0, is.1)

    own_high : (k : ℕ) (fork : SeenFork) → slice_get (forks_among high.put) k ≡ Some fork → (fork ≡ fork_with plan edge fork.log fork.value) × IsLawful fork.ends fork.due fork.log
    own_high k fork h = let w = at_letter high.put k fork h in let is = accounts_high.put_forks w.0 fork w.1 in (own_is plan edge fork is.0, is.1)

    -- the k-th Fork from the lower end is there, and it came; and the k-th from the higher end
    record LowCame (k : ℕ) : Type 0 where
      is_there : (fork : SeenFork) → slice_get (forks_among low.put) k ≡ Some fork → IsThere hi fork
      came : (one other : SeenFork) → slice_get (forks_among high.taken) k ≡ Some one → slice_get (forks_among low.put) k ≡ Some other → one ≡ other

    record HighCame (k : ℕ) : Type 0 where
      is_there : (fork : SeenFork) → slice_get (forks_among high.put) k ≡ Some fork → IsThere lo fork
      came : (one other : SeenFork) → slice_get (forks_among low.taken) k ≡ Some one → slice_get (forks_among high.put) k ≡ Some other → one ≡ other

    -- what was taken is what the other end put
    taken_high : (k : ℕ) → LowCame k → (fork : SeenFork) → slice_get (forks_among high.taken) k ≡ Some fork → slice_get (forks_among low.put) k ≡ Some fork
    taken_high k low_came fork h =
        let like = fork_like run edge high.taken low.put (first_put plan run hi edge high low takes_high).0 (first_put plan run hi edge high low takes_high).1 k fork h in
        like.1 ∙ ap (λ (f : SeenFork). Some f) (sym (low_came.came fork like.0 h like.1))

    taken_low : (k : ℕ) → HighCame k → (fork : SeenFork) → slice_get (forks_among low.taken) k ≡ Some fork → slice_get (forks_among high.put) k ≡ Some fork
    taken_low k high_came fork h =
        let like = fork_like run edge low.taken high.put (first_put plan run lo edge low high takes_low).0 (first_put plan run lo edge low high takes_low).1 k fork h in
        like.1 ∙ ap (λ (f : SeenFork). Some f) (sym (high_came.came fork like.0 h like.1))

    -- what the higher end keeps: first the fork of the start; the lower end keeps what it put
    keeps_high : kept_forks plan hi edge high.put ≡ opened_fork plan edge ∷ forks_among high.put
    keeps_high = cond-false (lo == hi) (forks_among high.put) (opened_fork plan edge ∷ forks_among high.put) higher

    keeps_low : kept_forks plan lo edge low.put ≡ forks_among low.put
    keeps_low = cond-true (lo == lo) (forks_among low.put) (opened_fork plan edge ∷ forks_among low.put) lower

    -- the first Fork carries on the fork of the start
    first : (fork : SeenFork) → slice_get (forks_among low.put) 0 ≡ Some fork → IsCarriedOn plan (opened_fork plan edge) fork × IsThere hi fork
    first fork h =
        let is = own_low 0 fork h in
        let logs = accounts_low.chained.first lower fork.log (logs_of-at low.put 0 fork h) in
        let value = accounts_low.values.first lower fork h in (
          carried lo (inl refl) (opened_fork plan edge) fork logs.meals opened_there is.0 is.1 (inl refl) logs.is value,
          subst (λ (e : ℕ). IsThere e fork) from_low (is_there lo (inl refl) (opened_fork plan edge) fork logs.meals opened_there is.0 is.1 (inl refl) logs.is value),
        )

    low_first : LowCame 0
    low_first = record {
      is_there = λ fork h. (first fork h).1;
      came = λ one other taken put. came hi lo high low 0 (opened_fork plan edge) one other takes_high (ap (λ (l : List SeenFork). slice_get l 0) keeps_high) opened_there taken put (first other put).0;
    }

    -- the k-th Fork of the higher end carries on the k-th of the lower
    answer : (k : ℕ) → LowCame k → (fork : SeenFork) → slice_get (forks_among high.put) k ≡ Some fork
        → (kept : SeenFork) × (slice_get (forks_among low.put) k ≡ Some kept) × IsThere hi kept × IsCarriedOn plan kept fork × IsThere lo fork
    answer k low_came fork h =
        let is = own_high k fork h in
        let values = accounts_high.values.answers higher k fork h in
        let put = taken_high k low_came values.before values.is_taken in
        let there = low_came.is_there values.before put in
        let on = on_taken hi (inr refl) high.taken k fork is.0 is.1 (accounts_high.chained.answers higher k fork.log (logs_of-at high.put k fork h)) values there in
        (values.before, put, there, on.0, subst (λ (e : ℕ). IsThere e fork) from_high on.1)

    high_step : (k : ℕ) → LowCame k → HighCame k
    high_step k low_came = record {
      is_there = λ fork h. (answer k low_came fork h).4;
      came = λ one other taken put. (let w = answer k low_came other put in came lo hi low high k w.0 one other takes_low (ap (λ (l : List SeenFork). slice_get l k) keeps_low ∙ w.1) w.2 taken put w.3);
    }

    -- the next Fork of the lower end carries on the k-th of the higher
    next : (k : ℕ) → HighCame k → (fork : SeenFork) → slice_get (forks_among low.put) (suc k) ≡ Some fork
        → (kept : SeenFork) × (slice_get (forks_among high.put) k ≡ Some kept) × IsThere lo kept × IsCarriedOn plan kept fork × IsThere hi fork
    next k high_came fork h =
        let at : slice_get (forks_among low.put) (k + 1) ≡ Some fork = ap (slice_get (forks_among low.put)) (let e : k + 1 ≡ suc k = omega arith in e) ∙ h in
        let is = own_low (k + 1) fork at in
        let values = accounts_low.values.next lower k fork at in
        let put = taken_low k high_came values.before values.is_taken in
        let there = high_came.is_there values.before put in
        let on = on_taken lo (inl refl) low.taken k fork is.0 is.1 (accounts_low.chained.next lower k fork.log (logs_of-at low.put (k + 1) fork at)) values there in
        (values.before, put, there, on.0, subst (λ (e : ℕ). IsThere e fork) from_low on.1)

    low_step : (k : ℕ) → HighCame k → LowCame (suc k)
    low_step k high_came = record {
      is_there = λ fork h. (next k high_came fork h).4;
      came = λ one other taken put. (let w = next k high_came other put in came hi lo high low (suc k) w.0 one other takes_high (ap (λ (l : List SeenFork). slice_get l (suc k)) keeps_high ∙ w.1) w.2 taken put w.3);
    }

    low_came : (k : ℕ) → LowCame k
    low_came zero = low_first
    low_came (suc k) = low_step k (high_step k (low_came k))

    -- so each end took the first letters that the other put
    pub links_carry : AreRequestsOf edge low.put → AreRequestsOf edge low.taken → AreRequestsOf edge high.put → AreRequestsOf edge high.taken → AreLinked low high
    links_carry low_put low_taken high_put high_taken = record {
      comes = same_front run edge low.taken high.put (first_put plan run lo edge low high takes_low).0 (first_put plan run lo edge low high takes_low).1 (λ k. (high_step k (low_came k)).came) low_taken high_put;
      goes = same_front run edge high.taken low.put (first_put plan run hi edge high low takes_high).0 (first_put plan run hi edge high low takes_high).1 (λ k. (low_came k).came) high_taken low_put;
    }

    -- ---- the next letter

    -- a Fork that comes next goes on from the fork that is kept for it
    fork_next_low : (k : ℕ) (fork : SeenFork) → slice_get (forks_among high.put) k ≡ Some fork → GoesOn plan (slice_get (kept_forks plan lo edge low.put) k) fork
    fork_next_low k fork h =
        let w = answer k (low_came k) fork h in
        subst (λ (o : Option SeenFork). GoesOn plan o fork) (sym (ap (λ (l : List SeenFork). slice_get l k) keeps_low ∙ w.1)) w.3

    fork_next_high : (k : ℕ) (fork : SeenFork) → slice_get (forks_among low.put) k ≡ Some fork → GoesOn plan (slice_get (kept_forks plan hi edge high.put) k) fork
    fork_next_high zero fork h = subst (λ (o : Option SeenFork). GoesOn plan o fork) (sym (ap (λ (l : List SeenFork). slice_get l 0) keeps_high)) (first fork h).0
    fork_next_high (suc k) fork h =
        let w = next k (high_step k (low_came k)) fork h in
        subst (λ (o : Option SeenFork). GoesOn plan o fork) (sym (ap (λ (l : List SeenFork). slice_get l (suc k)) keeps_high ∙ w.1)) w.3

    pub next_low : AreLinked low high → AreRequestsOf edge high.put → (l : Letter) → next_between low high ≡ Some l → IsOfKept plan (fork_for_next plan lo edge low) edge l
    next_low linked requests (letter.Fork fork) h = fork_next_low (forks_in low.taken) fork (next_in low.taken high.put linked.comes fork h)
    next_low linked requests (letter.Request e) h = requests (length low.taken) e h
    next_low linked requests letter.Done h = tt
    next_low linked requests letter.Close h = tt

    pub next_high : AreLinked low high → AreRequestsOf edge low.put → (l : Letter) → next_between high low ≡ Some l → IsOfKept plan (fork_for_next plan hi edge high) edge l
    next_high linked requests (letter.Fork fork) h = fork_next_high (forks_in high.taken) fork (next_in high.taken low.put linked.goes fork h)
    next_high linked requests (letter.Request e) h = requests (length high.taken) e h
    next_high linked requests letter.Done h = tt
    next_high linked requests letter.Close h = tt
