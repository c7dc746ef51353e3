-- A fork that arrives and goes on from the fork that was kept is allowed, if the site waits for it.
use Rattle.std.proofs.Common.{◌≡◌, ◌≢◌, ◌⊎◌, ℕ, ℤ, zero, suc, ◌+◌, ◌<◌, ◌≤◌, ◌==◌, ◌&&◌, ◌||◌, not, Bool, true, false, cond, List, [], ◌∷◌, ◌++◌, length, slice_get, Option, Some, None, is_some, refl, sym, ◌∙◌, ap, subst, inl, inr, arith}
use Rattle.std.proofs.lemmas.Bool.{cases_Bool, cond-false, cond-true, eq-eqb, ne_eqb, true≢false}
use Rattle.std.proofs.lemmas.Option.{same_Some}
use Rattle.dine_token.specs.declared.log_entry.Entry.{Entry}
use Rattle.dine_token.specs.declared.log_entry.Entry.TheVariants.{Move}
use Rattle.dine_token.specs.Fork.{SeenFork, location, other_end}
use Rattle.dine_token.specs.Log.{is_dirty, location_of, meals_of}
use Rattle.dine_token.proofs.shared.Logs.{is_dirty-push_move, location_of-push_move, meals_of-push_move}
use Rattle.dine_graph.specs.Plan.{SeenPlan, hi_of, job_count, lo_of, other_of, resigns, site_count}
use Rattle.dine_rules.specs.declared.breach.Breach.{Breach}
use Rattle.dine_rules.specs.declared.breach.Breach.TheVariants as breach
use Rattle.dine_rules.specs.declared.letters.Letter.{Letter}
use Rattle.dine_rules.specs.declared.letters.Letter.TheVariants as letter
use Rattle.dine_rules.specs.Breach.{first_breach, has_all_of_neighbour, is_allowed, is_fork_of, was_sent_to}
use Rattle.dine_rules.specs.Holdings.{fork_at, meals_from, token_at}
use Rattle.dine_rules.specs.Letters.{forks_among, forks_in, has_close, has_done}
use Rattle.dine_rules.specs.Local.{LocalState, Traffic, edge_at, traffic_at}
use Rattle.dine_rules.specs.Steps.{fork_with, hand_fork_at, opened_fork}
use Rattle.dine_rules.specs.Streams.{KeepsStreamsAt}
use Rattle.dine_rules.proofs.shared.lists.Counting.{last_log_or-none}
use Rattle.dine_rules.proofs.shared.lists.Forks.{last_fork, logs_of-at}
use Rattle.dine_rules.proofs.shared.one_place.Hands.{with_meals}
use Rattle.dine_rules.proofs.shared.one_place.Owned.{own_is}
use Rattle.dine_rules.proofs.shared.one_place.Placed.{IsPlaced, placed}
use Rattle.dine_rules.proofs.shared.one_place.Sent.{meals_of-with_meals_other}
use Rattle.dine_rules.proofs.shared.one_site.BreachLaw.{no_breach}
use Rattle.dine_site.specs.declared.site.places.Place.{Place}
use Rattle.dine_site.specs.Core.{kept_at as place_kept}
use Rattle.dine_site.specs.Places.{is_held, neighbour_of, no_place, place_at}
use Rattle.dine_site.proofs.shared.one_site.Eating.{slot_held}
use Rattle.dine_wire.specs.Arrivals.{CarriesOn, DoesNotArrive, IsOfPlan, carried_on}
use Rattle.dine_wire.specs.Carried.{GoesOn, IsCarriedOn, fork_for_next}
use Rattle.dine_wire.specs.Notes.{fork_note}
use Rattle.dine_wire.specs.declared.note.ForkNote.{ForkNote}
use Rattle.dine_wire.specs.declared.wire_fault.WireFault.{WireFault}
use Rattle.dine_wire.specs.declared.wire_fault.WireFault.TheVariants as fault
use Rattle.dine_wire.proofs.shared.CarriedForks.{of_plan}
use Rattle.dine_ffi.specs.Answers.{wire_status}
use Rattle.dine_ffi.specs.OwnSites.{ForEachFork, ForkRefuses, IsForkToTake, SeenOwnSite, StandsFor}
use Rattle.dine_ffi.specs.Shelves.{AwaitsFork, IsForkBreach, IsNotTakenBack, kept_at}

-- ---- small facts

both : (a b : Bool) → a ≡ true → b ≡ true → (a && b) ≡ true
both a b h k = ap (λ (x : Bool). x && b) h ∙ k

few_zero : (n : ℕ) → n ≤ 1 → (n == 1) ≡ false → n ≡ 0
few_zero zero few h = refl
few_zero (suc zero) few h = absurd (true≢false h)
few_zero (suc (suc n)) few h = absurd (omega (arith, few))

either : (a b : Bool) → b ≡ true → (a || b) ≡ true
either true b h = refl
either false b h = h

token_there : (b : Bool) (edge : ℕ) → is_some (cond b (Some edge) None) ≡ b
token_there true edge = refl
token_there false edge = refl

-- a Fork among the letters is one of them
at_letter : (letters : List Letter) (k : ℕ) (fork : SeenFork) → slice_get (forks_among letters) k ≡ Some fork → (j : ℕ) × (slice_get letters j ≡ Some (letter.Fork fork))
at_letter [] k fork h = absurd cc
at_letter (letter.Fork first ∷ letters) zero fork h = (0, (let same : first ≡ fork = cc in ap (λ (f : SeenFork). Some (letter.Fork f)) same))
at_letter (letter.Fork first ∷ letters) (suc k) fork h = let w = at_letter letters k fork h in (suc w.0, w.1)
at_letter (letter.Request e ∷ letters) k fork h = let w = at_letter letters k fork h in (suc w.0, w.1)
at_letter (letter.Done ∷ letters) k fork h = let w = at_letter letters k fork h in (suc w.0, w.1)
at_letter (letter.Close ∷ letters) k fork h = let w = at_letter letters k fork h in (suc w.0, w.1)

-- an element that is there is read
pub index_is : (shelf : List (Option SeenFork)) (i : ℕ) (kept : SeenFork) → slice_get shelf i ≡ Some (Some kept) → kept_at i shelf ≡ Some kept
index_is [] i kept h = absurd cc
index_is (x ∷ xs) zero kept h = cc
index_is (x ∷ xs) (suc i) kept h = index_is xs i kept h

pub goes_on : (plan : SeenPlan) (shelf : List (Option SeenFork)) (i : ℕ) (kept fork : SeenFork) → slice_get shelf i ≡ Some (Some kept) → IsCarriedOn plan kept fork → GoesOn plan (kept_at i shelf) fork
goes_on plan shelf i kept fork h carried = subst (λ (o : Option SeenFork). GoesOn plan o fork) (sym (index_is shelf i kept h)) carried

-- ---- the fork that is kept

-- It is the fork of the edge, at the other end, with all meals of the site.
record IsKept (plan : SeenPlan) (s edge ate : ℕ) (kept : SeenFork) : Type 0 where
  own : kept ≡ fork_with plan edge kept.log kept.value
  at : location kept ≡ other_of plan edge s
  meals : meals_of s kept.log ≡ ate

module _ (plan : SeenPlan) (s : ℕ) (state : LocalState) (i : ℕ) (keeps : KeepsStreamsAt plan s state i) (away : fork_at plan s state i ≡ 0) where
  abbrev edge : ℕ
  edge = edge_at plan s i

  abbrev t : Traffic
  t = traffic_at state i

  counted : forks_in t.put ≡ cond (lo_of plan edge == s) 1 0 + forks_in t.taken
  counted = omega (arith, keeps.forks_counted, away)

  -- a log that carries on another is of a fork at the other end
  sent : (before log : List Entry) (n : ℕ) → log ≡ before ++ meals_from s (meals_of s before + 1) n ++ Move (other_of plan edge s) ∷ [] → location_of (lo_of plan edge) log ≡ other_of plan edge s
  sent before log n is = ap (location_of (lo_of plan edge)) is ∙ location_of-push_move (lo_of plan edge) (with_meals s n before) (other_of plan edge s)

  sent_low : (lo_of plan edge == s) ≡ true → (k : ℕ) (fork : SeenFork) → slice_get (forks_among t.put) k ≡ Some fork → location_of (lo_of plan edge) fork.log ≡ other_of plan edge s
  sent_low low zero fork h = let w = keeps.put_chained.first low fork.log (logs_of-at t.put 0 fork h) in sent [] fork.log w.meals w.is
  sent_low low (suc k) fork h =
      let at : slice_get (forks_among t.put) (k + 1) ≡ Some fork = ap (slice_get (forks_among t.put)) (let e : k + 1 ≡ suc k = omega arith in e) ∙ h in
      let w = keeps.put_chained.next low k fork.log (logs_of-at t.put (k + 1) fork at) in sent w.before fork.log w.carries.meals w.carries.is

  sent_high : (lo_of plan edge == s) ≡ false → (k : ℕ) (fork : SeenFork) → slice_get (forks_among t.put) k ≡ Some fork → location_of (lo_of plan edge) fork.log ≡ other_of plan edge s
  sent_high high k fork h = let w = keeps.put_chained.answers high k fork.log (logs_of-at t.put k fork h) in sent w.before fork.log w.carries.meals w.carries.is

  -- a Fork that was put last
  put_last : (k : ℕ) (fork : SeenFork) → slice_get (forks_among t.put) k ≡ Some fork → k + 1 ≡ forks_in t.put → location_of (lo_of plan edge) fork.log ≡ other_of plan edge s → IsKept plan s edge state.ate fork
  put_last k fork h last at =
      let l = at_letter t.put k fork h in
      let own = own_is plan edge fork (keeps.put_forks l.0 fork l.1).0 in
      record {
        own = own;
        at = ap (λ (f : SeenFork). location_of f.ends.0 fork.log) own ∙ at;
        meals = ap (λ (l : List Entry). meals_of s l) (sym (last_fork [] 0 t.put k fork h last).0) ∙ keeps.put_chained.last away;
      }

  is_kept : (kept : SeenFork) → fork_for_next plan s edge t ≡ Some kept → IsKept plan s edge state.ate kept
  is_kept kept h = elim (cases_Bool (lo_of plan edge == s)) [
    | inl low ↦
        let at : slice_get (forks_among t.put) (forks_in t.taken) ≡ Some kept =
        sym (ap (λ (l : List SeenFork). slice_get l (forks_in t.taken)) (cond-true (lo_of plan edge == s) (forks_among t.put) (opened_fork plan edge ∷ forks_among t.put) low)) ∙ h in
        put_last (forks_in t.taken) kept at (omega (arith, counted, cond-true {A = ℕ} (lo_of plan edge == s) 1 0 low)) (sent_low low (forks_in t.taken) kept at)
    | inr high ↦
        by_number high (forks_in t.taken) (omega (arith, counted, cond-false {A = ℕ} (lo_of plan edge == s) 1 0 high)) kept
        (sym (ap (λ (l : List SeenFork). slice_get l (forks_in t.taken)) (cond-false (lo_of plan edge == s) (forks_among t.put) (opened_fork plan edge ∷ forks_among t.put) high)) ∙ h)
  ] where
    by_number : (lo_of plan edge == s) ≡ false → (n : ℕ) → forks_in t.put ≡ n → (kept : SeenFork) → slice_get (opened_fork plan edge ∷ forks_among t.put) n ≡ Some kept → IsKept plan s edge state.ate kept
    by_number high zero none kept h =
        let is : opened_fork plan edge ≡ kept = same_Some (opened_fork plan edge) kept h in
        subst (IsKept plan s edge state.ate) is (record {
          own = refl;
          at = sym (cond-false (lo_of plan edge == s) (hi_of plan edge) (lo_of plan edge) high);
          meals = ap (λ (l : List Entry). meals_of s l) (sym (last_log_or-none [] t.put none)) ∙ keeps.put_chained.last away;
        })
    by_number high (suc k) some kept h = put_last k kept h (omega (arith, some)) (sent_high high k kept h)

-- ---- the fork that arrives

module _ (state : LocalState) (own : SeenOwnSite) (is : StandsFor state own) (i : ℕ) (note : ForkNote) (i_within : i < length own.core.places) where
  abbrev plan : SeenPlan
  plan = own.plan

  abbrev s : ℕ
  s = own.core.site

  abbrev e : ℕ
  e = edge_at plan s i

  abbrev here : Traffic
  here = traffic_at state i

  within : i < length state.traffic
  within = omega (arith, i_within, is.core.degree)

  keeps_at : KeepsStreamsAt plan s state i
  keeps_at = is.keeps.places i within

  place_is : place_at own.core i ≡ place_kept plan s state i
  place_is = is.core.places i no_place i_within

  -- what is seen of the place
  close_is : (place_at own.core i).close_taken ≡ has_close here.taken
  close_is = ap (λ (p : Place). p.close_taken) place_is

  fork_is : is_held (place_at own.core i).fork ≡ (fork_at plan s state i == 1)
  fork_is = ap (λ (p : Place). is_held p.fork) place_is ∙ slot_held (fork_at plan s state i == 1) state.phase _ (hand_fork_at plan s state i)

  token_is : is_some (place_at own.core i).token ≡ (token_at plan s state i == 1)
  token_is = ap (λ (p : Place). is_some p.token) place_is ∙ token_there (token_at plan s state i == 1) e

  no_fork_if : is_held (place_at own.core i).fork ≡ false → fork_at plan s state i ≡ 0
  no_fork_if none = few_zero (fork_at plan s state i) keeps_at.one_fork (sym fork_is ∙ none)

  no_token_if : is_some (place_at own.core i).token ≡ false → token_at plan s state i ≡ 0
  no_token_if none = few_zero (token_at plan s state i) keeps_at.one_token (sym token_is ∙ none)

  place : IsPlaced plan s i
  place = placed plan s i is.core.is_plan (omega (arith, within, is.keeps.every_place))

  -- the neighbour is not the site, and the site is the other end from there
  back : (s ≢ other_of plan e s) × (cond (other_of plan e s == lo_of plan e) (hi_of plan e) (lo_of plan e) ≡ s) × (cond (s == lo_of plan e) (hi_of plan e) (lo_of plan e) ≡ other_of plan e s)
  back = elim place.sides [
    | inl low ↦ (
      λ same. omega (arith, place.ordered, low.0, low.1, same),
      ap (λ (x : ℕ). cond (x == lo_of plan e) (hi_of plan e) (lo_of plan e)) low.1 ∙ cond-false (hi_of plan e == lo_of plan e) (hi_of plan e) (lo_of plan e) (ne_eqb _ _ (λ same. omega (arith, place.ordered, same))) ∙ low.0,
      cond-true (s == lo_of plan e) (hi_of plan e) (lo_of plan e) (eq-eqb _ _ (sym low.0)) ∙ sym low.1,
    )
    | inr high ↦ (
      λ same. omega (arith, place.ordered, high.0, high.1, same),
      ap (λ (x : ℕ). cond (x == lo_of plan e) (hi_of plan e) (lo_of plan e)) high.1 ∙ cond-true (lo_of plan e == lo_of plan e) (hi_of plan e) (lo_of plan e) (eq-eqb _ _ refl) ∙ high.0,
      cond-false (s == lo_of plan e) (hi_of plan e) (lo_of plan e) (ne_eqb _ _ (λ same. omega (arith, place.ordered, high.0, same))) ∙ sym high.1,
    )
  ]

  module _ (kept fork : SeenFork) (away : is_held (place_at own.core i).fork ≡ false) (shelf : kept_at i own.shelf ≡ Some kept) (carried : IsCarriedOn plan kept fork) (note_is : note ≡ fork_note fork) where
    no_fork : fork_at plan s state i ≡ 0
    no_fork = no_fork_if away

    was : IsKept plan s e state.ate kept
    was = is_kept plan s state i keeps_at no_fork kept (sym (is.shelf.each i within) ∙ shelf)

    ends_are : kept.ends ≡ (lo_of plan e, hi_of plan e)
    ends_are = ap (λ (f : SeenFork). f.ends) was.own

    -- the Move goes to this site
    to_is : other_end kept (location kept) ≡ s
    to_is = ap (other_end kept) was.at ∙ ap (λ (x : ℕ × ℕ). cond (other_of plan e s == x.0) x.1 x.0) ends_are ∙ back.1

    abbrev log : List Entry
    log = with_meals (location kept) carried.meals kept.log ++ Move (other_end kept (location kept)) ∷ []

    log_is : fork.log ≡ log
    log_is = ap (λ (f : SeenFork). f.log) carried.is

    fork_ends : fork.ends ≡ (lo_of plan e, hi_of plan e)
    fork_ends = ap (λ (f : SeenFork). f.ends) carried.is ∙ ends_are

    own_fork : is_fork_of plan e fork ≡ true
    own_fork =
        ap (is_fork_of plan e) carried.is ∙ ap (is_fork_of plan e) was.own
        ∙ both _ _ (both _ _ (eq-eqb e e refl) (both _ _ (eq-eqb (lo_of plan e) (lo_of plan e) refl) (eq-eqb (hi_of plan e) (hi_of plan e) refl)))
        (both _ _ (eq-eqb (job_count plan (lo_of plan e)) (job_count plan (lo_of plan e)) refl) (eq-eqb (job_count plan (hi_of plan e)) (job_count plan (hi_of plan e)) refl))

    there : location_of (lo_of plan e) fork.log ≡ s
    there = ap (location_of (lo_of plan e)) log_is ∙ location_of-push_move (lo_of plan e) (with_meals (location kept) carried.meals kept.log) (other_end kept (location kept)) ∙ to_is

    sent_here : was_sent_to (lo_of plan e) s fork.log ≡ true
    sent_here = both _ _ (ap (λ (l : List Entry). not (is_dirty l)) log_is ∙ ap not (is_dirty-push_move (with_meals (location kept) carried.meals kept.log) (other_end kept (location kept)))) (eq-eqb _ s there)

    meals_are : meals_of s fork.log ≡ state.ate
    meals_are = ap (λ (l : List Entry). meals_of s l) log_is ∙ meals_of-push_move s (with_meals (location kept) carried.meals kept.log) (other_end kept (location kept))
        ∙ meals_of-with_meals_other s (location kept) carried.meals kept.log (λ same. back.0 (sym same ∙ was.at)) ∙ was.meals

    -- the note has the meals of the neighbour
    ate_is : note.ate ≡ meals_of (other_of plan e s) fork.log
    ate_is =
        ap (λ (n : ForkNote). n.ate) note_is
        ∙ ap (λ (x : ℕ). meals_of x fork.log)
        (ap (λ (x : ℕ × ℕ). cond (location_of x.0 fork.log == x.0) x.1 x.0) fork_ends ∙ ap (λ (x : ℕ). cond (x == lo_of plan e) (hi_of plan e) (lo_of plan e)) there ∙ back.2)

    neighbour_is : neighbour_of s (place_at own.core i) ≡ other_of plan e s
    neighbour_is = ap (neighbour_of s) place_is

    -- what the log has of the neighbour's meals
    has_all_is : has_all_of_neighbour plan s state i fork.log ≡ (resigns plan (neighbour_of s (place_at own.core i)) || note.ate == job_count plan (neighbour_of s (place_at own.core i)))
    has_all_is =
        ap (λ (n : ℕ). resigns plan (other_of plan e s) || n == job_count plan (other_of plan e s)) (sym ate_is)
        ∙ ap (λ (x : ℕ). resigns plan x || note.ate == job_count plan x) (sym neighbour_is)

    module _ (awaits : AwaitsFork own.plan own.core i note) where
      done_is : has_done here.taken ≡ true → has_all_of_neighbour plan s state i fork.log ≡ true
      done_is h = by (awaits.done (ap (λ (p : Place). p.done_taken) place_is ∙ h))
        where
          by : (resigns plan (neighbour_of s (place_at own.core i)) ≡ true) ⊎ (job_count plan (neighbour_of s (place_at own.core i)) ≡ note.ate) → has_all_of_neighbour plan s state i fork.log ≡ true
          by (inl quits) = has_all_is ∙ ap (λ (b : Bool). b || note.ate == job_count plan (neighbour_of s (place_at own.core i))) quits
          by (inr all) = has_all_is ∙ either (resigns plan (neighbour_of s (place_at own.core i))) _ (eq-eqb _ _ (sym all))

      all_if_done : (not (has_done here.taken) || has_all_of_neighbour plan s state i fork.log) ≡ true
      all_if_done = elim (cases_Bool (has_done here.taken)) [
        | inl done ↦ ap (λ (b : Bool). not b || has_all_of_neighbour plan s state i fork.log) done ∙ done_is done
        | inr not_done ↦ ap (λ (b : Bool). not b || has_all_of_neighbour plan s state i fork.log) not_done
      ]

      allowed : is_allowed plan s state i (letter.Fork fork) ≡ true
      allowed =
          both _ _ (ap not (sym close_is ∙ awaits.unclosed))
          (both _ _ (both _ _ (both _ _ own_fork (both _ _ (eq-eqb _ 0 no_fork) (eq-eqb _ 0 (no_token_if awaits.no_token)))) (both _ _ sent_here (eq-eqb _ state.ate meals_are))) all_if_done)

    -- the sender has meals left
    module _ (done : (place_at own.core i).done_taken ≡ true)
        (left : neighbour_of s (place_at own.core i) < site_count plan → (resigns plan (neighbour_of s (place_at own.core i)) ≡ false) × (job_count plan (neighbour_of s (place_at own.core i)) ≢ note.ate)) where
      is_site : neighbour_of s (place_at own.core i) < site_count plan
      is_site = elim place.sides [
        | inl low ↦ omega (arith, neighbour_is, low.1, is.core.is_plan.within e place.edge_within)
        | inr high ↦ omega (arith, neighbour_is, high.1, place.ordered, is.core.is_plan.within e place.edge_within)
      ]

      not_all : (has_done here.taken && not (has_all_of_neighbour plan s state i fork.log)) ≡ true
      not_all = both _ _ (sym (ap (λ (p : Place). p.done_taken) place_is) ∙ done)
          (ap not (has_all_is ∙ ap (λ (b : Bool). b || note.ate == job_count plan (neighbour_of s (place_at own.core i))) (left is_site).0
          ∙ ne_eqb _ _ (λ same. (left is_site).1 (sym same))))

  -- ---- why it is not taken

  -- the breach that is seen of the place is the first one of the fork that arrives
  pub fork_breach : (b : Breach) → IsForkBreach plan own.core i note b → ForEachFork i note own (λ fork. first_breach plan s state i (letter.Fork fork) ≡ Some b)
  fork_breach breach.AfterClose closed fork note_is goes = cond-true (has_close here.taken) (Some breach.AfterClose) _ (sym close_is ∙ closed)
  fork_breach breach.ForkOutOfTurn is_out fork note_is goes =
      cond-false (has_close here.taken) (Some breach.AfterClose) _ (sym close_is ∙ is_out.0)
      ∙ cond-true (not (fork_at plan s state i == 0) || not (token_at plan s state i == 0)) (Some breach.ForkOutOfTurn) _ (out is_out.1)
    where
      one_not_zero : (n : ℕ) → (n == 1) ≡ true → not (n == 0) ≡ true
      one_not_zero zero h = h
      one_not_zero (suc n) h = ap not (ne_eqb (suc n) 0 (λ same. omega (arith, same)))

      out : (is_held (place_at own.core i).fork ≡ true) ⊎ (is_some (place_at own.core i).token ≡ true) → (not (fork_at plan s state i == 0) || not (token_at plan s state i == 0)) ≡ true
      out (inl held) = ap (λ (b : Bool). b || not (token_at plan s state i == 0)) (one_not_zero (fork_at plan s state i) (sym fork_is ∙ held))
      out (inr token) = either (not (fork_at plan s state i == 0)) _ (one_not_zero (token_at plan s state i) (sym token_is ∙ token))
  fork_breach breach.StrangeFork strange fork note_is goes =
      cond-false (has_close here.taken) (Some breach.AfterClose) _ (sym close_is ∙ strange.0)
      ∙ cond-false (not (fork_at plan s state i == 0) || not (token_at plan s state i == 0)) (Some breach.ForkOutOfTurn) _
      (ap (λ (n : ℕ). not (n == 0) || not (token_at plan s state i == 0)) (no_fork_if strange.1) ∙ ap (λ (n : ℕ). not (n == 0)) (no_token_if strange.2))
      ∙ cond-true _ (Some breach.StrangeFork) None (either _ _ (by (kept_at i own.shelf) refl goes))
    where
      by : (o : Option SeenFork) → kept_at i own.shelf ≡ o → GoesOn plan o fork → (has_done here.taken && not (has_all_of_neighbour plan s state i fork.log)) ≡ true
      by None shelf on = absurd on
      by (Some kept) shelf on = not_all kept fork strange.1 shelf on note_is strange.3 strange.4
  fork_breach breach.RequestOutOfTurn never fork note_is goes = absurd never
  fork_breach breach.DoneOutOfTurn never fork note_is goes = absurd never
  fork_breach breach.ClosedEarly never fork note_is goes = absurd never

  -- no fork goes on from the one that is kept
  none_goes_on : (kept : SeenFork) → kept_at i own.shelf ≡ Some kept → is_held (place_at own.core i).fork ≡ false → ((n : ℕ) → CarriesOn plan kept note n → ⊥) → ForEachFork i note own (λ fork. ⊥)
  none_goes_on kept shelf away none fork note_is goes =
      let on : IsCarriedOn plan kept fork = subst (λ (o : Option SeenFork). GoesOn plan o fork) shelf goes in
      let own_kept = (was kept fork away shelf on note_is).own in
      none on.meals (record {
        of_plan = subst (IsOfPlan plan) (sym own_kept) (of_plan plan is.core.is_plan e place.edge_within kept.log kept.value);
        may = on.may;
        note_is = note_is ∙ ap fork_note on.is;
      })

  -- a fork that goes on from the one that is kept may be taken, if the site waits for it
  to_take : AwaitsFork plan own.core i note → (kept fork : SeenFork) → kept_at i own.shelf ≡ Some kept → IsCarriedOn plan kept fork → note ≡ fork_note fork → IsForkToTake i note state own fork
  to_take awaits kept fork shelf carried note_is = record {
    note_is = note_is;
    goes_on = subst (λ (o : Option SeenFork). GoesOn plan o fork) (sym shelf) carried;
    allowed = no_breach plan s state i (letter.Fork fork) (allowed kept fork awaits.no_fork shelf carried note_is awaits);
  }

  -- an allocation failed
  memory_refusal : AwaitsFork plan own.core i note → (r : ℤ) → r ≡ wire_status fault.Memory → (kept fork : SeenFork) → kept_at i own.shelf ≡ Some kept → IsCarriedOn plan kept fork → note ≡ fork_note fork → ForkRefuses i note r state own
  memory_refusal awaits r status kept fork shelf carried note_is = inl (status, (fork, to_take awaits kept fork shelf carried note_is))

  carried_refusal : AwaitsFork plan own.core i note → (r : ℤ) → r ≡ wire_status fault.Memory → (kept : SeenFork) → kept_at i own.shelf ≡ Some kept → (n : ℕ) → CarriesOn plan kept note n → ForkRefuses i note r state own
  carried_refusal awaits r status kept shelf n on = memory_refusal awaits r status kept (carried_on plan kept n) shelf (record { meals = n; may = on.may; is = refl }) on.note_is

  -- the neighbour cannot have done that with the fork
  unlawful_refusal : AwaitsFork plan own.core i note → (r : ℤ) → r ≡ wire_status fault.Unlawful → (kept : SeenFork) → kept_at i own.shelf ≡ Some kept → ((n : ℕ) → CarriesOn plan kept note n → ⊥) → ForkRefuses i note r state own
  unlawful_refusal awaits r status kept shelf none = inr (inl (status, none_goes_on kept shelf awaits.no_fork none))

  -- the fork that is kept does not arrive, for this fault
  fault_refusal : AwaitsFork plan own.core i note → (r : ℤ) (kept : SeenFork) → kept_at i own.shelf ≡ Some kept → (f : WireFault) → r ≡ wire_status f → DoesNotArrive plan kept note f → ForkRefuses i note r state own
  fault_refusal awaits r kept shelf fault.Length status never = absurd never
  fault_refusal awaits r kept shelf fault.Kind status never = absurd never
  fault_refusal awaits r kept shelf fault.OtherRun status never = absurd never
  fault_refusal awaits r kept shelf fault.Unlawful status none = unlawful_refusal awaits r status kept shelf none
  fault_refusal awaits r kept shelf fault.Memory status one = carried_refusal awaits r status kept shelf one.0 one.1

  kept_refusal : AwaitsFork plan own.core i note → (r : ℤ) (o : Option SeenFork) → kept_at i own.shelf ≡ o → IsNotTakenBack plan o note r → ForkRefuses i note r state own
  kept_refusal awaits r None shelf status = inr (inl (status, λ fork note_is goes. subst (λ (o : Option SeenFork). GoesOn plan o fork) shelf goes))
  kept_refusal awaits r (Some kept) shelf why = fault_refusal awaits r kept shelf why.0 why.1 why.2

  -- the fork that the site waits for is not taken back
  pub fork_refusal : AwaitsFork plan own.core i note → (r : ℤ) → IsNotTakenBack plan (kept_at i own.shelf) note r → ForkRefuses i note r state own
  fork_refusal awaits r why = kept_refusal awaits r (kept_at i own.shelf) refl why

module _ (state : LocalState) (own : SeenOwnSite) (is : StandsFor state own) (i : ℕ) (note : ForkNote) (awaits : AwaitsFork own.plan own.core i note) where
  pub fork_allowed : (kept fork : SeenFork) → kept_at i own.shelf ≡ Some kept → IsCarriedOn own.plan kept fork → note ≡ fork_note fork → is_allowed own.plan own.core.site state i (letter.Fork fork) ≡ true
  fork_allowed kept fork shelf carried note_is = allowed state own is i note awaits.within kept fork awaits.no_fork shelf carried note_is awaits
