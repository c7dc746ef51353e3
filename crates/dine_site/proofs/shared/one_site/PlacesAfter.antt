-- What a core keeps at a place after one letter more was put or taken there.
use Rattle.std.proofs.Common.{◌≡◌, ℕ, ◌+◌, ◌==◌, Bool, true, false, [], ◌∷◌, ◌++◌, Some, None, refl, sym, ◌∙◌, ap, arith, if◌then◌else◌}
use Rattle.dine_token.specs.Log.{meals_of}
use Rattle.dine_token.specs.Fork.{SeenFork}
use Rattle.dine_graph.specs.Plan.{SeenPlan, job_count, lo_of, hi_of, other_of, resigns}
use Rattle.dine_rules.specs.declared.letters.Letter.{Letter}
use Rattle.dine_rules.specs.declared.letters.Letter.TheVariants.{Fork, Request, Done, Close}
use Rattle.dine_rules.specs.declared.phase.Phase.{Phase}
use Rattle.dine_site.specs.declared.site.places.Place.{Place}
use Rattle.dine_site.specs.declared.site.places.ForkSlot.{ForkSlot}
use Rattle.dine_site.specs.declared.site.places.ForkSlot.TheVariants.{Away, Here, InMeal}
use Rattle.dine_rules.specs.Letters.{forks_in, requests_in, has_done, has_close}
use Rattle.dine_rules.specs.Local.{Traffic, is_eating}
use Rattle.dine_rules.specs.Breach.{is_fork_of}
use Rattle.dine_rules.specs.Holdings.{forks_held, tokens_held}
use Rattle.dine_rules.specs.Steps.{hand_fork}
use Rattle.dine_site.specs.Core.{kept_of}
use Rattle.dine_rules.proofs.shared.lists.Counting.{or_false, or_true, forks_in-append, requests_in-append, has_done-append, has_close-append}
use Rattle.dine_rules.proofs.shared.one_place.HandForks.{hand_fork-stays, hand_fork-taken}

-- what is kept, by the holdings and the marks
abbrev pub slot_by : SeenPlan → ℕ → Phase → ℕ → ℕ → SeenFork → ForkSlot
slot_by plan s phase edge held fork = if held == 1
    then (if is_eating phase then InMeal (meals_of (other_of plan edge s) fork.log) else Here fork)
    else Away

abbrev pub kept_by : SeenPlan → ℕ → Phase → ℕ → ℕ → ℕ → SeenFork → Bool → Bool → Bool → Bool → Place
kept_by plan s phase edge held token fork done_put done_taken close_put close_taken = record {
  edge = edge;
  ends = (lo_of plan edge, hi_of plan edge);
  due = (job_count plan (lo_of plan edge), job_count plan (hi_of plan edge));
  neighbour_resigns = resigns plan (other_of plan edge s);
  fork = slot_by plan s phase edge held fork;
  token = if token == 1 then Some edge else None;
  done_put = done_put;
  done_taken = done_taken;
  close_put = close_put;
  close_taken = close_taken;
}

-- a letter more, put or taken
abbrev pub more_put : Letter → Traffic → Traffic
more_put l t = record t { put = t.put ++ l ∷ [] }

abbrev pub more_taken : Letter → Traffic → Traffic
more_taken l t = record t { taken = t.taken ++ l ∷ [] }

module _ (plan : SeenPlan) (s : ℕ) (phase : Phase) (ate edge : ℕ) (t : Traffic) where
  -- what is kept changes with the holdings and the marks alone
  kept_along : (u : Traffic) (held token : ℕ) (fork : SeenFork) (dp dt cp ct : Bool) → forks_held plan s edge u ≡ held → tokens_held plan s edge u ≡ token
      → hand_fork plan s edge ate u ≡ fork → has_done u.put ≡ dp → has_done u.taken ≡ dt → has_close u.put ≡ cp → has_close u.taken ≡ ct
      → kept_of plan s phase ate edge u ≡ kept_by plan s phase edge held token fork dp dt cp ct
  kept_along u held token fork dp dt cp ct e1 e2 e3 e4 e5 e6 e7 =
      let hand : SeenFork = hand_fork plan s edge ate u in
      let F : kept_of plan s phase ate edge u ≡ kept_by plan s phase edge held (tokens_held plan s edge u) hand (has_done u.put) (has_done u.taken) (has_close u.put) (has_close u.taken)
      = ap (λ (n : ℕ). kept_by plan s phase edge n (tokens_held plan s edge u) hand (has_done u.put) (has_done u.taken) (has_close u.put) (has_close u.taken)) e1 in
      F ∙ ap (λ (n : ℕ). kept_by plan s phase edge held n hand (has_done u.put) (has_done u.taken) (has_close u.put) (has_close u.taken)) e2
      ∙ ap (λ (f : SeenFork). kept_by plan s phase edge held token f (has_done u.put) (has_done u.taken) (has_close u.put) (has_close u.taken)) e3
      ∙ ap (λ (b : Bool). kept_by plan s phase edge held token fork b (has_done u.taken) (has_close u.put) (has_close u.taken)) e4
      ∙ ap (λ (b : Bool). kept_by plan s phase edge held token fork dp b (has_close u.put) (has_close u.taken)) e5
      ∙ ap (λ (b : Bool). kept_by plan s phase edge held token fork dp dt b (has_close u.taken)) e6
      ∙ ap (λ (b : Bool). kept_by plan s phase edge held token fork dp dt cp b) e7

  pub kept-put_request : tokens_held plan s edge t ≡ 1
      → record (kept_of plan s phase ate edge t) { token = None } ≡ kept_of plan s phase ate edge (more_put (Request edge) t)
  kept-put_request one = sym (kept_along (more_put (Request edge) t) (forks_held plan s edge t) 0 (hand_fork plan s edge ate t) (has_done t.put) (has_done t.taken) (has_close t.put) (has_close t.taken)
      (omega (arith, forks_in-append t.put (Request edge ∷ []))) (omega (arith, one, requests_in-append t.put (Request edge ∷ []))) refl
      (has_done-append t.put (Request edge ∷ []) ∙ or_false (has_done t.put)) refl (has_close-append t.put (Request edge ∷ []) ∙ or_false (has_close t.put)) refl)

  pub kept-put_fork : (fork : SeenFork) → forks_held plan s edge t ≡ 1
      → record (kept_of plan s phase ate edge t) { fork = Away } ≡ kept_of plan s phase ate edge (more_put (Fork fork) t)
  kept-put_fork fork one = sym (kept_along (more_put (Fork fork) t) 0 (tokens_held plan s edge t) (hand_fork plan s edge ate t) (has_done t.put) (has_done t.taken) (has_close t.put) (has_close t.taken)
      (omega (arith, one, forks_in-append t.put (Fork fork ∷ []))) (omega (arith, requests_in-append t.put (Fork fork ∷ []))) refl
      (has_done-append t.put (Fork fork ∷ []) ∙ or_false (has_done t.put)) refl (has_close-append t.put (Fork fork ∷ []) ∙ or_false (has_close t.put)) refl)

  pub kept-put_done : record (kept_of plan s phase ate edge t) { done_put = true } ≡ kept_of plan s phase ate edge (more_put Done t)
  kept-put_done = sym (kept_along (more_put Done t) (forks_held plan s edge t) (tokens_held plan s edge t) (hand_fork plan s edge ate t) true (has_done t.taken) (has_close t.put) (has_close t.taken)
      (omega (arith, forks_in-append t.put (Done ∷ []))) (omega (arith, requests_in-append t.put (Done ∷ []))) refl
      (has_done-append t.put (Done ∷ []) ∙ or_true (has_done t.put)) refl (has_close-append t.put (Done ∷ []) ∙ or_false (has_close t.put)) refl)

  pub kept-put_close : record (kept_of plan s phase ate edge t) { close_put = true } ≡ kept_of plan s phase ate edge (more_put Close t)
  kept-put_close = sym (kept_along (more_put Close t) (forks_held plan s edge t) (tokens_held plan s edge t) (hand_fork plan s edge ate t) (has_done t.put) (has_done t.taken) true (has_close t.taken)
      (omega (arith, forks_in-append t.put (Close ∷ []))) (omega (arith, requests_in-append t.put (Close ∷ []))) refl
      (has_done-append t.put (Close ∷ []) ∙ or_false (has_done t.put)) refl (has_close-append t.put (Close ∷ []) ∙ or_true (has_close t.put)) refl)

  pub kept-take_request : tokens_held plan s edge t ≡ 0 → tokens_held plan s edge t + requests_in t.put ≡ (if hi_of plan edge == s then 1 else 0) + requests_in t.taken
      → record (kept_of plan s phase ate edge t) { token = Some edge } ≡ kept_of plan s phase ate edge (more_taken (Request edge) t)
  kept-take_request none counted = sym (kept_along (more_taken (Request edge) t) (forks_held plan s edge t) 1 (hand_fork plan s edge ate t) (has_done t.put) (has_done t.taken) (has_close t.put) (has_close t.taken)
      (omega (arith, forks_in-append t.taken (Request edge ∷ []))) (omega (arith, none, counted, requests_in-append t.taken (Request edge ∷ [])))
      (hand_fork-stays plan s edge ate t (Request edge) refl)
      refl (has_done-append t.taken (Request edge ∷ []) ∙ or_false (has_done t.taken)) refl (has_close-append t.taken (Request edge ∷ []) ∙ or_false (has_close t.taken)))

  pub kept-take_fork : (fork : SeenFork) → forks_held plan s edge t ≡ 0 → forks_held plan s edge t + forks_in t.put ≡ (if lo_of plan edge == s then 1 else 0) + forks_in t.taken
      → is_eating phase ≡ false → is_fork_of plan edge fork ≡ true → meals_of s fork.log ≡ ate
      → record (kept_of plan s phase ate edge t) { fork = Here fork } ≡ kept_of plan s phase ate edge (more_taken (Fork fork) t)
  kept-take_fork fork none counted awake own all =
      let slot : Here fork ≡ slot_by plan s phase edge 1 fork = ap (λ (b : Bool). if b then InMeal (meals_of (other_of plan edge s) fork.log) else Here fork) (sym awake) in
      ap (λ (slot : ForkSlot). record (kept_of plan s phase ate edge t) { fork = slot }) slot
      ∙ sym (kept_along (more_taken (Fork fork) t) 1 (tokens_held plan s edge t) fork (has_done t.put) (has_done t.taken) (has_close t.put) (has_close t.taken)
      (omega (arith, none, counted, forks_in-append t.taken (Fork fork ∷ []))) (omega (arith, requests_in-append t.taken (Fork fork ∷ [])))
      (hand_fork-taken plan s edge ate t fork own all)
      refl (has_done-append t.taken (Fork fork ∷ []) ∙ or_false (has_done t.taken)) refl (has_close-append t.taken (Fork fork ∷ []) ∙ or_false (has_close t.taken)))

  pub kept-take_done : record (kept_of plan s phase ate edge t) { done_taken = true } ≡ kept_of plan s phase ate edge (more_taken Done t)
  kept-take_done = sym (kept_along (more_taken Done t) (forks_held plan s edge t) (tokens_held plan s edge t) (hand_fork plan s edge ate t) (has_done t.put) true (has_close t.put) (has_close t.taken)
      (omega (arith, forks_in-append t.taken (Done ∷ []))) (omega (arith, requests_in-append t.taken (Done ∷ [])))
      (hand_fork-stays plan s edge ate t Done refl)
      refl (has_done-append t.taken (Done ∷ []) ∙ or_true (has_done t.taken)) refl (has_close-append t.taken (Done ∷ []) ∙ or_false (has_close t.taken)))

  pub kept-take_close : record (kept_of plan s phase ate edge t) { close_taken = true } ≡ kept_of plan s phase ate edge (more_taken Close t)
  kept-take_close = sym (kept_along (more_taken Close t) (forks_held plan s edge t) (tokens_held plan s edge t) (hand_fork plan s edge ate t) (has_done t.put) (has_done t.taken) (has_close t.put) true
      (omega (arith, forks_in-append t.taken (Close ∷ []))) (omega (arith, requests_in-append t.taken (Close ∷ [])))
      (hand_fork-stays plan s edge ate t Close refl)
      refl (has_done-append t.taken (Close ∷ []) ∙ or_false (has_done t.taken)) refl (has_close-append t.taken (Close ∷ []) ∙ or_true (has_close t.taken)))
