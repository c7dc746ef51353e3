-- The breach by what is kept at a place is the first one by the whole lists, and a letter without a breach is allowed.
use Rattle.std.proofs.Common.{◌≡◌, ℕ, zero, suc, ◌+◌, ◌<◌, ◌≤◌, ◌==◌, nat_le, nat_lt, Bool, true, false, not, ◌&&◌, ◌||◌, length, Option, Some, None, ◌⊎◌, refl, sym, ◌∙◌, ap, subst, inl, inr, arith, if◌then◌else◌}
use Rattle.std.proofs.lemmas.Bool.{eqb-true, and_from}
use Rattle.std.proofs.lemmas.Bool.Decides.{nat_tests}
use Rattle.dine_token.specs.Fork.{SeenFork}
use Rattle.dine_token.specs.Log.{meals_of}
use Rattle.dine_token.specs.Lawful.{due_at}
use Rattle.dine_graph.specs.Plan.{SeenPlan, job_count, lo_of, hi_of, other_of, resigns}
use Rattle.dine_rules.specs.declared.letters.Letter.{Letter}
use Rattle.dine_rules.specs.declared.letters.Letter.TheVariants.{Fork, Request, Done, Close}
use Rattle.dine_rules.specs.declared.phase.Phase.{Phase}
use Rattle.dine_rules.specs.declared.phase.Phase.TheVariants.{Thinking, Hungry, Eating}
use Rattle.dine_rules.specs.declared.breach.Breach.{Breach}
use Rattle.dine_rules.specs.declared.breach.Breach.TheVariants.{AfterClose, RequestOutOfTurn, ForkOutOfTurn, StrangeFork, DoneOutOfTurn, ClosedEarly}
use Rattle.dine_site.specs.declared.site.places.Place.{Place}
use Rattle.dine_site.specs.declared.site.places.ForkSlot.TheVariants.{Here}
use Rattle.dine_rules.specs.Letters.{requests_in, has_done, has_close}
use Rattle.dine_rules.specs.Local.{LocalState, traffic_at, edge_at, neighbour_at, is_eating}
use Rattle.dine_rules.specs.Holdings.{fork_at, token_at, hand_at}
use Rattle.dine_rules.specs.Breach.{is_fork_of, was_sent_to, has_all_of_neighbour, first_breach, is_allowed}
use Rattle.dine_rules.specs.Steps.{hand_fork_at, with_taken, may, Take}
use Rattle.dine_rules.specs.Streams.{KeepsStreams}
use Rattle.dine_site.specs.Core.{SeenCore, Refines}
use Rattle.dine_site.specs.Places.{place_at, breach_at, after_take, is_held, IsSoundPlace}
use Rattle.dine_site.proofs.shared.one_site.PlacesAfter.{kept_by, slot_by, kept-take_request, kept-take_fork, kept-take_done, kept-take_close}
use Rattle.dine_site.proofs.one_site.Sound.{none_of, awake_without}
use Rattle.dine_site.proofs.shared.one_site.Stands.{place_is, stands_at}

-- the due meals of the other end are those of the plan
due_there : (jobs : ℕ → ℕ) (lo hi s : ℕ) → due_at (lo, hi) (jobs lo, jobs hi) (if lo == s then hi else lo) ≡ jobs (if lo == s then hi else lo)
due_there jobs lo hi s = at (if lo == s then hi else lo) (other (lo == s))
  where
    other : (b : Bool) → ((if b then hi else lo) == lo) ≡ false → (if b then hi else lo) ≡ hi
    other true h = refl
    other false h = absurd (let e : (lo == lo) ≡ true = grind (arith, nat_tests) in cc)

    pick : (b : Bool) (end : ℕ) → (b ≡ true → end ≡ lo) → (b ≡ false → end ≡ hi) → (if b then jobs lo else jobs hi) ≡ jobs end
    pick true end lower higher = ap jobs (sym (lower refl))
    pick false end lower higher = ap jobs (sym (higher refl))

    at : (end : ℕ) → ((end == lo) ≡ false → end ≡ hi) → due_at (lo, hi) (jobs lo, jobs hi) end ≡ jobs end
    at end higher = pick (end == lo) end (eqb-true end lo) higher

-- the answers, by the tests
abbrev pub request_answer : Bool → Bool → Bool → Bool → Bool → Option Breach
request_answer token fork done other all = if token || fork || done || other || all then Some RequestOutOfTurn else None

abbrev pub fork_answer : Bool → Bool → Option Breach
fork_answer taken strange = if taken then Some ForkOutOfTurn else (if strange then Some StrangeFork else None)

abbrev pub done_answer : Bool → Bool → Option Breach
done_answer done short = if done || short then Some DoneOutOfTurn else None

abbrev pub close_answer : Bool → Bool → Option Breach
close_answer taken put = if not taken || not put then Some ClosedEarly else None

abbrev pub unless_closed : Bool → Option Breach → Option Breach
unless_closed closed answer = if closed then Some AfterClose else answer

module _ (plan : SeenPlan) (s ate edge : ℕ) (fork : SeenFork) (dp dt cp ct : Bool) where
  abbrev pub there : ℕ
  there = other_of plan edge s

  abbrev pub strange : SeenFork → Bool
  strange f = not (is_fork_of plan edge f) || not (was_sent_to (lo_of plan edge) s f.log) || not (meals_of s f.log == ate)
      || (dt && not (resigns plan there || meals_of there f.log == job_count plan there))

  abbrev pub breach_by : ℕ → ℕ → Letter → Option Breach
  breach_by held token (Request e) = unless_closed ct (request_answer (not (token == 0)) (not (held == 1)) dt (not (e == edge)) (nat_le (job_count plan there) (meals_of there fork.log)))
  breach_by held token (Fork f) = unless_closed ct (fork_answer (not (held == 0) || not (token == 0)) (strange f))
  breach_by held token Done = unless_closed ct (done_answer dt (held == 1 && not (resigns plan there || meals_of there fork.log == job_count plan there)))
  breach_by held token Close = unless_closed ct (close_answer dt dp)

  due_is : due_at (lo_of plan edge, hi_of plan edge) (job_count plan (lo_of plan edge), job_count plan (hi_of plan edge)) there ≡ job_count plan there
  due_is = due_there (job_count plan) (lo_of plan edge) (hi_of plan edge) s

  request_held : (phase : Phase) (e : ℕ) → breach_at s ate (kept_by plan s phase edge 1 0 fork dp dt cp ct) (Request e) ≡ breach_by 1 0 (Request e)
  request_held Thinking e = ap (λ (n : ℕ). unless_closed ct (request_answer false false dt (not (e == edge)) (nat_le n (meals_of there fork.log)))) due_is
  request_held Hungry e = ap (λ (n : ℕ). unless_closed ct (request_answer false false dt (not (e == edge)) (nat_le n (meals_of there fork.log)))) due_is
  request_held Eating e = ap (λ (n : ℕ). unless_closed ct (request_answer false false dt (not (e == edge)) (nat_le n (meals_of there fork.log)))) due_is

  fork_held_twice : (phase : Phase) (token : ℕ) (f : SeenFork) → breach_at s ate (kept_by plan s phase edge 1 token fork dp dt cp ct) (Fork f) ≡ breach_by 1 token (Fork f)
  fork_held_twice Thinking token f = refl
  fork_held_twice Hungry token f = refl
  fork_held_twice Eating token f = refl

  done_held : (phase : Phase) (token : ℕ) → breach_at s ate (kept_by plan s phase edge 1 token fork dp dt cp ct) Done ≡ breach_by 1 token Done
  done_held Thinking token = ap (λ (n : ℕ). unless_closed ct (done_answer dt (not (resigns plan there || meals_of there fork.log == n)))) due_is
  done_held Hungry token = ap (λ (n : ℕ). unless_closed ct (done_answer dt (not (resigns plan there || meals_of there fork.log == n)))) due_is
  done_held Eating token = ap (λ (n : ℕ). unless_closed ct (done_answer dt (not (resigns plan there || meals_of there fork.log == n)))) due_is

  pub breach_kept : (phase : Phase) (held token : ℕ) → held ≤ 1 → token ≤ 1 → (l : Letter)
      → breach_at s ate (kept_by plan s phase edge held token fork dp dt cp ct) l ≡ breach_by held token l
  breach_kept phase zero zero one_fork one_token (Request e) = refl
  breach_kept phase zero (suc zero) one_fork one_token (Request e) = refl
  breach_kept phase (suc zero) zero one_fork one_token (Request e) = request_held phase e
  breach_kept phase (suc zero) (suc zero) one_fork one_token (Request e) = refl
  breach_kept phase zero zero one_fork one_token (Fork f) = ap (λ (n : ℕ). unless_closed ct (fork_answer false (not (is_fork_of plan edge f) || not (was_sent_to (lo_of plan edge) s f.log) || not (meals_of s f.log == ate)
      || (dt && not (resigns plan there || meals_of there f.log == n))))) due_is
  breach_kept phase zero (suc zero) one_fork one_token (Fork f) = refl
  breach_kept phase (suc zero) token one_fork one_token (Fork f) = fork_held_twice phase token f
  breach_kept phase zero token one_fork one_token Done = refl
  breach_kept phase (suc zero) token one_fork one_token Done = done_held phase token
  breach_kept phase held token one_fork one_token Close = refl
  breach_kept phase (suc (suc n)) token one_fork one_token l = absurd (omega arith)
  breach_kept phase held (suc (suc n)) one_fork one_token l = absurd (omega arith)

le_lt : (a b : ℕ) → nat_le a b ≡ false → nat_lt b a ≡ true
le_lt a b h = grind (arith, nat_tests)

-- a letter without a breach is allowed, and what that says of the place
request_turn : (closed none held done own : Bool) (due meals : ℕ) → unless_closed closed (request_answer (not none) (not held) done (not own) (nat_le due meals)) ≡ None
    → ((not closed && (own && (none && held) && (not done && nat_lt meals due))) ≡ true) × (none ≡ true) × (own ≡ true)
request_turn true none held done own due meals h = absurd (cc)
request_turn false false held done own due meals h = absurd (cc)
request_turn false true false done own due meals h = absurd (cc)
request_turn false true true true own due meals h = absurd (cc)
request_turn false true true false false due meals h = absurd (cc)
request_turn false true true false true due meals h = (le_lt due meals (none_of (nat_le due meals) RequestOutOfTurn None h).0, refl, refl)

fork_turn : (closed away none own sent all done full : Bool) → unless_closed closed (fork_answer (not away || not none) (not own || not sent || not all || (done && not full))) ≡ None
    → ((not closed && (own && (away && none) && (sent && all) && (not done || full))) ≡ true) × (away ≡ true) × (own ≡ true) × (all ≡ true)
fork_turn true away none own sent all done full h = absurd (cc)
fork_turn false false none own sent all done full h = absurd (cc)
fork_turn false true false own sent all done full h = absurd (cc)
fork_turn false true true false sent all done full h = absurd (cc)
fork_turn false true true true false all done full h = absurd (cc)
fork_turn false true true true true false done full h = absurd (cc)
fork_turn false true true true true true true false h = absurd (cc)
fork_turn false true true true true true true true h = (refl, refl, refl, refl)
fork_turn false true true true true true false full h = (refl, refl, refl, refl)

done_turn : (closed done held full : Bool) → unless_closed closed (done_answer done (held && not full)) ≡ None → (not closed && (not done && (not held || full))) ≡ true
done_turn true done held full h = absurd (cc)
done_turn false true held full h = absurd (cc)
done_turn false false true false h = absurd (cc)
done_turn false false true true h = refl
done_turn false false false full h = refl

close_turn : (closed taken put : Bool) → unless_closed closed (close_answer taken put) ≡ None → (not closed && (taken && put)) ≡ true
close_turn true taken put h = absurd (cc)
close_turn false false put h = absurd (cc)
close_turn false true false h = absurd (cc)
close_turn false true true h = refl

module _ (plan : SeenPlan) (s : ℕ) (state : LocalState) (i : ℕ) where
  abbrev taken_by : Letter → Option Breach
  taken_by l = breach_by plan s state.ate (edge_at plan s i) (hand_fork_at plan s state i) (has_done (traffic_at state i).put) (has_done (traffic_at state i).taken) (has_close (traffic_at state i).put)
      (has_close (traffic_at state i).taken) (fork_at plan s state i) (token_at plan s state i) l

  pub first_is : (l : Letter) → taken_by l ≡ first_breach plan s state i l
  first_is (Request e) = refl
  first_is (Fork f) = refl
  first_is Done = refl
  first_is Close = refl

  pub request_in_turn : (e : ℕ) → first_breach plan s state i (Request e) ≡ None
      → (is_allowed plan s state i (Request e) ≡ true) × ((token_at plan s state i == 0) ≡ true) × ((e == edge_at plan s i) ≡ true)
  request_in_turn e h = request_turn (has_close (traffic_at state i).taken) (token_at plan s state i == 0) (fork_at plan s state i == 1) (has_done (traffic_at state i).taken) (e == edge_at plan s i)
      (job_count plan (neighbour_at plan s i)) (meals_of (neighbour_at plan s i) (hand_at s state i)) h

  pub fork_in_turn : (f : SeenFork) → first_breach plan s state i (Fork f) ≡ None
      → (is_allowed plan s state i (Fork f) ≡ true) × ((fork_at plan s state i == 0) ≡ true) × (is_fork_of plan (edge_at plan s i) f ≡ true) × ((meals_of s f.log == state.ate) ≡ true)
  fork_in_turn f h = fork_turn (has_close (traffic_at state i).taken) (fork_at plan s state i == 0) (token_at plan s state i == 0) (is_fork_of plan (edge_at plan s i) f) (was_sent_to (lo_of plan (edge_at plan s i)) s f.log)
      (meals_of s f.log == state.ate) (has_done (traffic_at state i).taken) (has_all_of_neighbour plan s state i f.log) h

  pub allowed_without : (l : Letter) → first_breach plan s state i l ≡ None → is_allowed plan s state i l ≡ true
  allowed_without (Request e) h = (request_in_turn e h).0
  allowed_without (Fork f) h = (fork_in_turn f h).0
  allowed_without Done h = done_turn (has_close (traffic_at state i).taken) (has_done (traffic_at state i).taken) (fork_at plan s state i == 1)
      (has_all_of_neighbour plan s state i (hand_at s state i)) h
  allowed_without Close h = close_turn (has_close (traffic_at state i).taken) (has_done (traffic_at state i).taken) (has_done (traffic_at state i).put) h

-- the token starts at the higher end alone
token_start : (lo hi s : ℕ) → lo < hi → (s ≡ lo) ⊎ (s ≡ hi) → ◌≡◌ {A = ℕ} (if lo == s then 0 else 1) (if hi == s then 1 else 0)
token_start lo hi s ordered end = elim end [ inl same ↦ grind (arith, nat_tests) | inr same ↦ grind (arith, nat_tests) ]

module _ (plan : SeenPlan) (state : LocalState) (core : SeenCore) (stands : Refines plan state core) (keeps : KeepsStreams plan core.site state) (i : ℕ) (within : i < length core.places) where
  in_state : i < length state.traffic
  in_state = omega (arith, stands.degree)

  -- what is read off the place is the first breach
  pub breach_is : (l : Letter) → breach_at core.site core.ate (place_at core i) l ≡ first_breach plan core.site state i l
  breach_is l = ap (λ (n : ℕ). breach_at core.site n (place_at core i) l) stands.ate ∙ ap (λ (p : Place). breach_at core.site state.ate p l) (place_is plan state core stands i within)
      ∙ breach_kept plan core.site state.ate (edge_at plan core.site i) (hand_fork_at plan core.site state i) (has_done (traffic_at state i).put) (has_done (traffic_at state i).taken) (has_close (traffic_at state i).put)
      (has_close (traffic_at state i).taken) state.phase (fork_at plan core.site state i) (token_at plan core.site state i) (keeps.places i in_state).one_fork (keeps.places i in_state).one_token l
      ∙ first_is plan core.site state i l

  pub may_take : (l : Letter) → first_breach plan core.site state i l ≡ None → may plan core.site state (Take i l) ≡ true
  may_take l h = and_from _ _ (let lt : i < length state.traffic = in_state in grind (arith, nat_tests)) (allowed_without plan core.site state i l h)

  -- the core represents the state with a letter more taken, where that is in turn
  pub stands-after_take : IsSoundPlace core (place_at core i) → (l : Letter) → first_breach plan core.site state i l ≡ None → Refines plan (with_taken i l state) (after_take i l core)
  stands-after_take sound (Request e) h =
      let turn = request_in_turn plan core.site state i e h in
      let P : ℕ → Type 0 = λ e. Refines plan (with_taken i (Request e) state) (after_take i (Request e) core) in
      let is = place_is plan state core stands i within in
      let end : (core.site ≡ lo_of plan (edge_at plan core.site i)) ⊎ (core.site ≡ hi_of plan (edge_at plan core.site i)) = subst (λ (p : Place). (core.site ≡ p.ends.0) ⊎ (core.site ≡ p.ends.1)) is sound.end in
      let ordered : lo_of plan (edge_at plan core.site i) < hi_of plan (edge_at plan core.site i) = subst (λ (p : Place). p.ends.0 < p.ends.1) is sound.ordered in
      let start = token_start (lo_of plan (edge_at plan core.site i)) (hi_of plan (edge_at plan core.site i)) core.site ordered end in
      let counted = (keeps.places i in_state).tokens_counted ∙ ap (λ (n : ℕ). n + requests_in (traffic_at state i).taken) start in
      subst P (sym (eqb-true e (edge_at plan core.site i) turn.2))
      (stands_at plan state core stands i within _ _ (ap (λ (p : Place). record p { token = Some (edge_at plan core.site i) }) is
      ∙ kept-take_request plan core.site state.phase state.ate (edge_at plan core.site i) (traffic_at state i) (eqb-true (token_at plan core.site state i) 0 turn.1) counted))
  stands-after_take sound (Fork f) h =
      let turn = fork_in_turn plan core.site state i f h in
      let is = place_is plan state core stands i within in
      let none : fork_at plan core.site state i ≡ 0 = eqb-true (fork_at plan core.site state i) 0 turn.1 in
      let away : is_held (place_at core i).fork ≡ false = ap (λ (p : Place). is_held p.fork) is ∙ ap (λ (n : ℕ). is_held (slot_by plan core.site state.phase (edge_at plan core.site i) n (hand_fork_at plan core.site state i))) none in
      let awake : is_eating state.phase ≡ false = ap is_eating (sym stands.phase) ∙ awake_without core.site core.ate (is_eating core.phase) (place_at core i) (place_at core i).fork away sound.slot in
      stands_at plan state core stands i within _ _ (ap (λ (p : Place). record p { fork = Here f }) is
      ∙ kept-take_fork plan core.site state.phase state.ate (edge_at plan core.site i) (traffic_at state i) f none (keeps.places i in_state).forks_counted awake
      turn.2 (eqb-true (meals_of core.site f.log) state.ate turn.3))
  stands-after_take sound Done h = stands_at plan state core stands i within _ _ (ap (λ (p : Place). record p { done_taken = true }) (place_is plan state core stands i within)
      ∙ kept-take_done plan core.site state.phase state.ate (edge_at plan core.site i) (traffic_at state i))
  stands-after_take sound Close h = stands_at plan state core stands i within _ _ (ap (λ (p : Place). record p { close_taken = true }) (place_is plan state core stands i within)
      ∙ kept-take_close plan core.site state.phase state.ate (edge_at plan core.site i) (traffic_at state i))
