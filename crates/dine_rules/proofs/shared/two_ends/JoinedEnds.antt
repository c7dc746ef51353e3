-- Two ends of an edge of which only lists are left: one of them holds the fork, and its log is whole.
use Rattle.std.proofs.Common.{◌≡◌, ◌≢◌, ℕ, zero, suc, ◌+◌, ◌-◌, ◌<◌, ◌≤◌, true, false, cond, ◌==◌, List, [], length, get_or, slice_get, Some, refl, sym, ◌∙◌, ap, subst, inl, inr, arith}
use Rattle.std.proofs.lemmas.Bool.{cases_Bool, cond-true, cond-false, eq-eqb, ne_eqb}
use Rattle.std.proofs.lemmas.Option.{slice_get_within, slice_get-get_or}
use Rattle.dine_token.specs.declared.log_entry.Entry.{Entry}
use Rattle.dine_token.specs.Fork.{SeenFork}
use Rattle.dine_token.specs.Lawful.{IsLawful, due_at, count_from}
use Rattle.dine_token.specs.Log.{location_of, meals_of}
use Rattle.dine_token.proofs.shared.Lawfulness.{IsLawful-none, IsLawful-push_meal, due_at-lower, due_at-higher}
use Rattle.dine_token.proofs.shared.Logs.{location_of-push_move}
use Rattle.dine_graph.specs.Plan.{SeenPlan, IsPlan, edges_of, job_count, lo_of, hi_of, other_of}
use Rattle.dine_rules.specs.declared.letters.Letter.{Letter}
use Rattle.dine_rules.specs.Letters.{forks_in, requests_in, last_log_or}
use Rattle.dine_rules.specs.Local.{LocalState, Traffic, traffic_at, edge_at}
use Rattle.dine_rules.specs.Holdings.{forks_held, tokens_held, hand, with_meals_to}
use Rattle.dine_rules.specs.JoinedEnds.{AccountsForFork, AccountsForToken, AreLinked, AreWhollyTaken, IsWholeLog, HaveOneWholeFork}
use Rattle.dine_rules.specs.Streams.{AreLawfulForks, CarriesOnTaken, IsChained, KeepsStreams, KeepsStreamsAt, logs_of}
use Rattle.dine_rules.proofs.shared.lists.Counting.{prefix_forks, prefix_requests, length-logs_of, last_log_or-none, last_log_or-some, none_or_some}
use Rattle.dine_rules.proofs.shared.one_place.Hands.{with_meals, with_meals-none, with_meals-more, meals_of-with_meals, location_of-with_meals, meals_of-hand}
use Rattle.dine_rules.proofs.shared.one_place.Owned.{own_is}
use Rattle.dine_rules.proofs.shared.one_place.Placed.{placed}
use Rattle.dine_rules.proofs.shared.one_place.Sent.{last_sent, meals_of-with_meals_other}
use Rattle.dine_rules.proofs.shared.one_site.Site.{spot_at, spot_is, token_end}

-- ---- a log in hand

-- a lawful log at a site stays lawful with the next meals of the site, as long as they are due
IsLawful-with_meals : (ends due : ℕ × ℕ) (s n : ℕ) (log : List Entry) → ends.0 < ends.1 → IsLawful ends due log → location_of ends.0 log ≡ s → meals_of s log + n ≤ due_at ends due s
    → IsLawful ends due (with_meals s n log)
IsLawful-with_meals ends due s zero log ordered lawful here within = subst (λ (l : List Entry). IsLawful ends due l) (sym (with_meals-none s log)) lawful
IsLawful-with_meals ends due s (suc n) log ordered lawful here within =
    let shorter : IsLawful ends due (with_meals s n log) = IsLawful-with_meals ends due s n log ordered lawful here (omega arith) in
    subst (λ (l : List Entry). IsLawful ends due l) (sym (with_meals-more s n log))
    (IsLawful-push_meal ends due (with_meals s n log) s (meals_of s log + 1 + n) ordered shorter (location_of-with_meals ends.0 s n log ∙ here) (omega (arith, meals_of-with_meals s n log)) (omega arith))

-- ---- the chain of one end

module _ (plan : SeenPlan) (s edge ate : ℕ) (traffic : Traffic) (chained : IsChained plan s edge ate traffic) where
  -- the log of a Fork put
  put_at : (k : ℕ) → k < forks_in traffic.put → slice_get (logs_of traffic.put) k ≡ Some (get_or (logs_of traffic.put) k [])
  put_at k h = slice_get-get_or (logs_of traffic.put) k [] (omega (arith, length-logs_of traffic.put))

  -- a log that is carried on is one of those taken
  taken_before : (k : ℕ) (log : List Entry) → CarriesOnTaken s (other_of plan edge s) (logs_of traffic.taken) k log → k < forks_in traffic.taken
  taken_before k log w = omega (arith, slice_get_within (logs_of traffic.taken) k w.before w.is_taken, length-logs_of traffic.taken)

  few_of_lower : (lo_of plan edge == s) ≡ true → (n : ℕ) → forks_in traffic.put ≡ n → n ≤ 1 + forks_in traffic.taken
  few_of_lower low zero same = omega arith
  few_of_lower low (suc zero) same = omega arith
  few_of_lower low (suc (suc k)) same = omega (arith, taken_before k _ (chained.next low k _ (put_at (k + 1) (omega arith))))

  few_of_higher : (lo_of plan edge == s) ≡ false → (n : ℕ) → forks_in traffic.put ≡ n → n ≤ forks_in traffic.taken
  few_of_higher high zero same = omega arith
  few_of_higher high (suc k) same = omega (arith, taken_before k _ (chained.answers high k _ (put_at k (omega arith))))

  -- an end puts no more Forks than came to it, and the lower end started with one
  pub chain_counted : forks_in traffic.put ≤ cond (lo_of plan edge == s) 1 0 + forks_in traffic.taken
  chain_counted = elim (cases_Bool (lo_of plan edge == s)) [
    | inl low ↦ omega (arith, cond-true {A = ℕ} (lo_of plan edge == s) 1 0 low, few_of_lower low (forks_in traffic.put) refl)
    | inr high ↦ omega (arith, cond-false {A = ℕ} (lo_of plan edge == s) 1 0 high, few_of_higher high (forks_in traffic.put) refl)
  ]

-- ---- the end that holds the fork

module _ (plan : SeenPlan) (edge : ℕ) (ordered : lo_of plan edge < hi_of plan edge) where
  -- the ends of the edge, and the meals due to them
  abbrev ends : ℕ × ℕ
  ends = (lo_of plan edge, hi_of plan edge)

  abbrev due : ℕ × ℕ
  due = (job_count plan (lo_of plan edge), job_count plan (hi_of plan edge))

  -- the log of the last Fork put is lawful
  last_lawful : (letters : List Letter) → AreLawfulForks plan edge letters → IsLawful ends due (last_log_or [] letters)
  last_lawful letters lawful = elim (none_or_some letters) [
    | inl none ↦ subst (λ (l : List Entry). IsLawful ends due l) (sym (last_log_or-none [] letters none)) (IsLawful-none ends due)
    | inr some ↦
        let w = last_log_or-some [] letters some in
        let put = lawful w.0 w.1 w.2 in
        subst (λ (l : List Entry). IsLawful ends due l) (sym w.3) (subst (λ (f : SeenFork). IsLawful f.ends f.due f.log) (own_is plan edge w.1 put.0) put.1)
  ]

  -- The end s holds the fork, and the end o gave it away, or never had it.
  module _ (s o ate ate_there : ℕ) (here there : Traffic) (differ : s ≢ o) (from_there : other_of plan edge o ≡ s) (due_here : due_at ends due s ≡ job_count plan s)
      (accounts : AccountsForFork plan s edge ate here) (accounts_there : AccountsForFork plan o edge ate_there there)
      (all_taken : here.taken ≡ there.put) (none_there : forks_held plan o edge there ≡ 0)
      (starts_here : forks_in there.put ≡ 0 → lo_of plan edge ≡ s) (away : forks_in there.put ≡ cond (lo_of plan edge == o) 1 0 + forks_in there.taken) where
    -- the last log taken is the last log put at the other end
    abbrev last : List Entry
    last = last_log_or [] there.put

    last_is : last_log_or [] here.taken ≡ last
    last_is = ap (last_log_or []) all_taken

    -- it came to the end that holds the fork
    last_here : location_of (lo_of plan edge) last ≡ s
    last_here = elim (none_or_some there.put) [
      | inl none ↦ ap (location_of (lo_of plan edge)) (last_log_or-none [] there.put none) ∙ starts_here none
      | inr some ↦
          let sent = last_sent plan o edge ate_there there (λ same. differ (sym (same ∙ from_there))) accounts_there.chained away some in
          ap (location_of (lo_of plan edge)) sent.is ∙ location_of-push_move (lo_of plan edge) sent.before (other_of plan edge o) ∙ from_there
    ]

    -- with no more meals of the end than it ate
    last_meals : meals_of s last ≤ ate
    last_meals = omega (arith, accounts.last_within, ap (λ (l : List Entry). meals_of s l) last_is)

    -- the log in hand is that one with meals of the end that holds it
    in_hand : hand s ate here ≡ with_meals_to s ate last
    in_hand = ap (with_meals_to s ate) last_is

    pub held_lawful : IsLawful ends due (hand s ate here)
    held_lawful = subst (λ (l : List Entry). IsLawful ends due l) (sym in_hand)
        (IsLawful-with_meals ends due s (ate - meals_of s last) last ordered (last_lawful there.put accounts_there.put_forks) last_here (omega (arith, last_meals, due_here, accounts.ate_within)))

    -- it has all meals of that end
    pub held_own : meals_of s (hand s ate here) ≡ ate
    held_own = ap (λ (l : List Entry). meals_of s l) in_hand ∙ meals_of-hand s ate last last_meals

    -- and all of the other
    pub held_theirs : meals_of o (hand s ate here) ≡ ate_there
    held_theirs = ap (λ (l : List Entry). meals_of o l) in_hand ∙ meals_of-with_meals_other o s _ last differ ∙ accounts_there.chained.last none_there

  -- a lawful log with the meals of both ends is whole
  whole : (low_ate high_ate : ℕ) (log : List Entry) → IsLawful ends due log → meals_of (lo_of plan edge) log ≡ low_ate → meals_of (hi_of plan edge) log ≡ high_ate → IsWholeLog plan edge low_ate high_ate log
  whole low_ate high_ate log lawful of_low of_high = record {
    lawful = lawful;
    lower_count = of_low;
    higher_count = of_high;
    lower_each_once = lawful.lower_numbered ∙ ap (count_from 1) of_low;
    higher_each_once = lawful.higher_numbered ∙ ap (count_from 1) of_high;
  }

  -- ---- both ends

  -- the lower end starts with the fork, the higher with the token
  starts_low : cond {A = ℕ} (lo_of plan edge == lo_of plan edge) 1 0 ≡ 1
  starts_low = cond-true {A = ℕ} (lo_of plan edge == lo_of plan edge) 1 0 (eq-eqb (lo_of plan edge) (lo_of plan edge) refl)

  starts_high : cond {A = ℕ} (lo_of plan edge == hi_of plan edge) 1 0 ≡ 0
  starts_high = cond-false {A = ℕ} (lo_of plan edge == hi_of plan edge) 1 0 (ne_eqb (lo_of plan edge) (hi_of plan edge) (λ same. omega arith))

  token_low : cond {A = ℕ} (hi_of plan edge == lo_of plan edge) 1 0 ≡ 0
  token_low = cond-false {A = ℕ} (hi_of plan edge == lo_of plan edge) 1 0 (ne_eqb (hi_of plan edge) (lo_of plan edge) (λ same. omega arith))

  token_high : cond {A = ℕ} (hi_of plan edge == hi_of plan edge) 1 0 ≡ 1
  token_high = cond-true {A = ℕ} (hi_of plan edge == hi_of plan edge) 1 0 (eq-eqb (hi_of plan edge) (hi_of plan edge) refl)

  module _ (low_ate high_ate : ℕ) (low high : Traffic) (accounts_low : AccountsForFork plan (lo_of plan edge) edge low_ate low) (accounts_high : AccountsForFork plan (hi_of plan edge) edge high_ate high) (taken : AreWhollyTaken low high) where
    -- the lower end put as many Forks as the higher, or one more
    low_few : forks_in low.put ≤ 1 + forks_in high.put
    low_few = omega (arith, chain_counted plan (lo_of plan edge) edge low_ate low accounts_low.chained, starts_low, ap forks_in taken.comes)

    high_few : forks_in high.put ≤ forks_in low.put
    high_few = omega (arith, chain_counted plan (hi_of plan edge) edge high_ate high accounts_high.chained, starts_high, ap forks_in taken.goes)

    low_holds : forks_held plan (lo_of plan edge) edge low ≡ 1 + forks_in high.put - forks_in low.put
    low_holds = omega (arith, starts_low, ap forks_in taken.comes)

    high_holds : forks_held plan (hi_of plan edge) edge high ≡ forks_in low.put - forks_in high.put
    high_holds = omega (arith, starts_high, ap forks_in taken.goes)

    -- from each end the other is seen
    from_low : other_of plan edge (lo_of plan edge) ≡ hi_of plan edge
    from_low = cond-true (lo_of plan edge == lo_of plan edge) (hi_of plan edge) (lo_of plan edge) (eq-eqb (lo_of plan edge) (lo_of plan edge) refl)

    from_high : other_of plan edge (hi_of plan edge) ≡ lo_of plan edge
    from_high = cond-false (lo_of plan edge == hi_of plan edge) (hi_of plan edge) (lo_of plan edge) (ne_eqb (lo_of plan edge) (hi_of plan edge) (λ same. omega arith))

    low_whole : forks_held plan (lo_of plan edge) edge low ≡ 1 → IsWholeLog plan edge low_ate high_ate (hand (lo_of plan edge) low_ate low)
    low_whole held =
        let none : forks_held plan (hi_of plan edge) edge high ≡ 0 = omega (arith, low_holds, high_holds, high_few) in
        let differ : lo_of plan edge ≢ hi_of plan edge = λ same. omega arith in
        let starts : forks_in high.put ≡ 0 → lo_of plan edge ≡ lo_of plan edge = λ h. refl in
        let away : forks_in high.put ≡ cond (lo_of plan edge == hi_of plan edge) 1 0 + forks_in high.taken = omega (arith, low_holds, low_few, high_few, starts_high, ap forks_in taken.goes) in
        let due_low = due_at-lower ends due (lo_of plan edge) refl in
        whole low_ate high_ate (hand (lo_of plan edge) low_ate low)
        (held_lawful (lo_of plan edge) (hi_of plan edge) low_ate high_ate low high differ from_high due_low accounts_low accounts_high taken.comes none starts away)
        (held_own (lo_of plan edge) (hi_of plan edge) low_ate high_ate low high differ from_high due_low accounts_low accounts_high taken.comes none starts away)
        (held_theirs (lo_of plan edge) (hi_of plan edge) low_ate high_ate low high differ from_high due_low accounts_low accounts_high taken.comes none starts away)

    high_whole : forks_held plan (hi_of plan edge) edge high ≡ 1 → IsWholeLog plan edge low_ate high_ate (hand (hi_of plan edge) high_ate high)
    high_whole held =
        let none : forks_held plan (lo_of plan edge) edge low ≡ 0 = omega (arith, low_holds, high_holds, low_few) in
        let differ : hi_of plan edge ≢ lo_of plan edge = λ same. omega arith in
        let starts : forks_in low.put ≡ 0 → lo_of plan edge ≡ hi_of plan edge = λ h. absurd (omega (arith, high_holds)) in
        let away : forks_in low.put ≡ cond (lo_of plan edge == lo_of plan edge) 1 0 + forks_in low.taken = omega (arith, high_holds, low_few, starts_low, ap forks_in taken.comes) in
        let due_high = due_at-higher ends due (hi_of plan edge) ordered refl in
        whole low_ate high_ate (hand (hi_of plan edge) high_ate high)
        (held_lawful (hi_of plan edge) (lo_of plan edge) high_ate low_ate high low differ from_low due_high accounts_high accounts_low taken.goes none starts away)
        (held_theirs (hi_of plan edge) (lo_of plan edge) high_ate low_ate high low differ from_low due_high accounts_high accounts_low taken.goes none starts away)
        (held_own (hi_of plan edge) (lo_of plan edge) high_ate low_ate high low differ from_low due_high accounts_high accounts_low taken.goes none starts away)

    -- so one of them holds it, with a whole log
    pub joined_whole : HaveOneWholeFork plan edge low_ate high_ate low high
    joined_whole = record {
      one_fork = omega (arith, low_holds, high_holds, low_few, high_few);
      at_lower = low_whole;
      at_higher = high_whole;
    }

  -- ---- counts alone

  -- ends whose links are wholly taken hold one token
  pub joined_token : (low high : Traffic) → AccountsForToken plan (lo_of plan edge) edge low → AccountsForToken plan (hi_of plan edge) edge high → AreWhollyTaken low high
      → tokens_held plan (lo_of plan edge) edge low + tokens_held plan (hi_of plan edge) edge high ≡ 1
  joined_token low high accounts_low accounts_high taken = omega (arith, token_low, token_high, ap requests_in taken.comes, ap requests_in taken.goes)

  -- ends that broke off hold at most one fork
  pub linked_fork : (low_ate high_ate : ℕ) (low high : Traffic) → IsChained plan (lo_of plan edge) edge low_ate low → IsChained plan (hi_of plan edge) edge high_ate high → AreLinked low high
      → forks_held plan (lo_of plan edge) edge low + forks_held plan (hi_of plan edge) edge high ≤ 1
  linked_fork low_ate high_ate low high chained_low chained_high linked =
      omega (
        arith,
        starts_low,
        starts_high,
        prefix_forks low.taken high.put linked.comes,
        prefix_forks high.taken low.put linked.goes,
        chain_counted plan (lo_of plan edge) edge low_ate low chained_low,
        chain_counted plan (hi_of plan edge) edge high_ate high chained_high,
      )

  -- and at most one token
  pub linked_token : (low high : Traffic) → AccountsForToken plan (lo_of plan edge) edge low → AccountsForToken plan (hi_of plan edge) edge high → AreLinked low high
      → tokens_held plan (lo_of plan edge) edge low + tokens_held plan (hi_of plan edge) edge high ≤ 1
  linked_token low high accounts_low accounts_high linked = omega (arith, token_low, token_high, prefix_requests low.taken high.put linked.comes, prefix_requests high.taken low.put linked.goes)

-- ---- a site that keeps its streams accounts for the fork and the token of each place

module _ (plan : SeenPlan) (s : ℕ) (state : LocalState) (i : ℕ) (keeps : KeepsStreams plan s state) (within : i < length (edges_of plan s)) where
  -- what it keeps at the place
  kept_here : KeepsStreamsAt plan s state i
  kept_here = keeps.places i (omega (arith, within, keeps.every_place))

  pub accounts_for_fork : AccountsForFork plan s (edge_at plan s i) state.ate (traffic_at state i)
  accounts_for_fork = record {
    chained = kept_here.put_chained;
    values = kept_here.put_values;
    put_forks = kept_here.put_forks;
    ate_within = keeps.ate_within;
    last_within = kept_here.last_within;
  }

  pub accounts_for_token : IsPlan plan → AccountsForToken plan s (edge_at plan s i) (traffic_at state i)
  accounts_for_token is_plan = omega (arith, kept_here.tokens_counted, token_end (spot_at plan s i) (spot_is plan s i (placed plan s i is_plan within)))
