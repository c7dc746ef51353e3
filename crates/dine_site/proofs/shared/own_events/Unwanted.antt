-- A letter that is allowed, and that a core does not wait for, does not change what the core may do without a letter.
use Rattle.std.proofs.Common.{◌≡◌, ℕ, zero, suc, ◌+◌, ◌-◌, ◌<◌, ◌&&◌, ◌||◌, nat_lt, not, Bool, true, false, cond, List, [], ◌∷◌, length, map, replicate, set, get_or, count_by, find, is_some, Option, Some, None, refl, sym, ◌∙◌, ap, ap₂, arith, if◌then◌else◌}
use Rattle.std.specs.List.{list_all, range_with_len}
use Rattle.std.proofs.lemmas.Bool.{leb-false}
use Rattle.std.proofs.lemmas.List.{get_or-map, get_or_append_left, length-map, length-set}
use Rattle.std.proofs.lemmas.List.Folds.{list_all_at}
use Rattle.std.proofs.lemmas.List.Sums.{sum_by-cons, sum_by-set}
use Rattle.dine_token.specs.Fork.{SeenFork}
use Rattle.dine_token.specs.Log.{is_dirty}
use Rattle.dine_set.specs.Marks.{marks_of}
use Rattle.dine_set.proofs.shared.MarksOf.{marks_of-same}
use Rattle.dine_rules.specs.declared.breach.Breach.{Breach}
use Rattle.dine_rules.specs.declared.breach.Breach.TheVariants.{AfterClose, RequestOutOfTurn, ForkOutOfTurn, StrangeFork}
use Rattle.dine_rules.specs.declared.events.EventKind.{EventKind}
use Rattle.dine_rules.specs.declared.events.EventKind.TheVariants as event
use Rattle.dine_rules.specs.declared.letters.Letter.{Letter}
use Rattle.dine_rules.specs.declared.letters.Letter.TheVariants.{Fork, Request, Done, Close}
use Rattle.dine_rules.specs.Letters.{kind_of}
use Rattle.dine_rules.specs.Local.{is_eating, is_hungry, is_thinking}
use Rattle.dine_rules.specs.Wants.{SeenWants, still_wanted}
use Rattle.dine_site.specs.declared.site.places.Place.{Place}
use Rattle.dine_site.specs.declared.site.places.ForkSlot.{ForkSlot}
use Rattle.dine_site.specs.declared.site.places.ForkSlot.TheVariants.{Away, Here, InMeal}
use Rattle.dine_site.specs.Core.{SeenCore}
use Rattle.dine_site.specs.NextEvent.{can_by_itself, next_of, own_kinds}
use Rattle.dine_site.specs.Places.{can_ask_at, can_close_at, can_give_at, can_say_done_at, has_nothing_due, has_token_at, is_away_at, is_dirty_at, is_dirty_in_hand, is_held, is_open_at, is_ready_at, no_place, place_after_take, place_at, after_take, with_place}
use Rattle.dine_site.specs.CoreWants.{TakesUnwanted, wants_of}
use Rattle.dine_site.proofs.shared.own_events.NextEvents.{find_same}

-- ---- one place of a list is changed

-- a test that gives the same there gives the same everywhere, and so does the test of all
module _ (test : Place → Bool) where
  test_same : (xs : List Place) (i : ℕ) (new : Place) → test new ≡ test (get_or xs i no_place) → (j : ℕ) → test (get_or (set xs i new) j no_place) ≡ test (get_or xs j no_place)
  test_same [] i new same j = refl
  test_same (x ∷ xs) zero new same zero = same
  test_same (x ∷ xs) zero new same (suc j) = refl
  test_same (x ∷ xs) (suc i) new same zero = refl
  test_same (x ∷ xs) (suc i) new same (suc j) = test_same xs i new same j

  all_same : (xs : List Place) (i : ℕ) (new : Place) → test new ≡ test (get_or xs i no_place) → list_all test (set xs i new) ≡ list_all test xs
  all_same [] i new same = refl
  all_same (x ∷ xs) zero new same = ap (λ (b : Bool). b && list_all test xs) same
  all_same (x ∷ xs) (suc i) new same = ap (λ (b : Bool). test x && b) (all_same xs i new same)

  -- the mark of a place is what the test gives
  marked_at : (xs : List Place) (i : ℕ) → i < length xs → get_or (marks_of test xs) i false ≡ test (get_or xs i no_place)
  unfolding marks_of
  marked_at xs i within = get_or_append_left (map test xs) (replicate (64 - length xs) false) false i (omega (arith, length-map xs test)) ∙ get_or-map test xs i no_place false within

-- a place more, or less, that passes a test
count_changed : (test : Place → Bool) (xs : List Place) (i : ℕ) (new : Place) (was is : Bool) → i < length xs → test (get_or xs i no_place) ≡ was → test new ≡ is
    → count_by test (set xs i new) + cond was 1 0 ≡ count_by test xs + cond is 1 0
count_changed test xs i new was is within before after =
    ap (λ (b : Bool). count_by test (set xs i new) + cond b 1 0) (sym before) ∙ sum_by-set (λ place. cond (test place) 1 0) xs i new no_place within ∙ ap (λ (b : Bool). count_by test xs + cond b 1 0) after

-- not all are ready where a fork is away: the first, or one behind it
ready_behind : (x : Place) (xs : List Place) (held : Bool) → is_held x.fork ≡ held → 0 < count_by is_away_at (x ∷ xs) → (0 < count_by is_away_at xs → list_all is_ready_at xs ≡ false)
    → list_all is_ready_at (x ∷ xs) ≡ false
ready_behind x xs true is away behind =
    let counted : count_by is_away_at (x ∷ xs) ≡ 0 + count_by is_away_at xs = sum_by-cons (λ place. cond (is_away_at place) 1 0) x xs ∙ ap (λ (b : Bool). cond (not b) 1 0 + count_by is_away_at xs) is in
    ap (λ (b : Bool). is_ready_at x && b) (behind (omega (arith, counted, away))) ∙ and_false (is_ready_at x)
  where
    and_false : (a : Bool) → (a && false) ≡ false
    and_false true = refl
    and_false false = refl
ready_behind x xs false is away behind = ap (λ (b : Bool). b && (not (is_dirty_in_hand x.fork) || not (is_some x.token)) && list_all is_ready_at xs) is

not_ready : (xs : List Place) → 0 < count_by is_away_at xs → list_all is_ready_at xs ≡ false
not_ready [] away = absurd (omega (arith, away))
not_ready (x ∷ xs) away = ready_behind x xs (is_held x.fork) refl away (not_ready xs)

-- ---- what is so of a place where a letter is in turn

request_turn : (closed token held done own late : Bool) → ◌≡◌ {A = Option Breach} (if closed then Some AfterClose else (if token || not held || done || own || late then Some RequestOutOfTurn else None)) None
    → (token ≡ false) × (held ≡ true)
request_turn true token held done own late h = absurd (cc)
request_turn false true held done own late h = absurd (cc)
request_turn false false false done own late h = absurd (cc)
request_turn false false true done own late h = (refl, refl)

fork_turn : (closed held token own dirty there meals short : Bool)
    → ◌≡◌ {A = Option Breach} (if closed then Some AfterClose else (if held || token then Some ForkOutOfTurn else (if own || not (not dirty && there) || meals || short then Some StrangeFork else None))) None
    → (held ≡ false) × (token ≡ false) × (dirty ≡ false)
fork_turn true held token own dirty there meals short h = absurd (cc)
fork_turn false true token own dirty there meals short h = absurd (cc)
fork_turn false false true own dirty there meals short h = absurd (cc)
fork_turn false false false true dirty there meals short h = absurd (cc)
fork_turn false false false false true there meals short h = absurd (cc)
fork_turn false false false false false there meals short h = (refl, refl, refl)

away_clean : (slot : ForkSlot) → is_held slot ≡ false → is_dirty_in_hand slot ≡ false
away_clean Away h = refl
away_clean (Here fork) h = absurd (cc)
away_clean (InMeal meals) h = refl

-- ---- the events that a core may do by itself

-- place i is changed, and what the core may do by itself is as before
record IsAlike (core : SeenCore) (i : ℕ) (new : Place) : Type 0 where
  give : can_give_at new ≡ can_give_at (place_at core i)
  ask : can_ask_at new ≡ can_ask_at (place_at core i)
  done : can_say_done_at new ≡ can_say_done_at (place_at core i)
  close : can_close_at new ≡ can_close_at (place_at core i)
  ready : list_all is_ready_at (set core.places i new) ≡ list_all is_ready_at core.places

module _ (core : SeenCore) (i : ℕ) (new : Place) (alike : IsAlike core i new) where
  at_place : (test : Place → Bool) → test new ≡ test (place_at core i) → (now : Bool) (j : ℕ)
      → (nat_lt j (length (set core.places i new)) && (now && test (get_or (set core.places i new) j no_place))) ≡ (nat_lt j (length core.places) && (now && test (place_at core j)))
  at_place test same now j = ap₂ (λ (n : ℕ) (b : Bool). nat_lt j n && (now && b)) (length-set core.places i new) (test_same test core.places i new same j)

  kinds_same : (kind : EventKind) → can_by_itself (with_place i new core) kind ≡ can_by_itself core kind
  kinds_same (event.Take j) = refl
  kinds_same (event.Give j) = at_place can_give_at alike.give (not (is_eating core.phase)) j
  kinds_same event.End = refl
  kinds_same event.Begin = ap (λ (b : Bool). is_hungry core.phase && b) alike.ready
  kinds_same event.Quit = refl
  kinds_same event.Hungry = refl
  kinds_same (event.Ask j) = at_place can_ask_at alike.ask (is_hungry core.phase) j
  kinds_same (event.Done j) = at_place can_say_done_at alike.done (is_thinking core.phase && has_nothing_due core) j
  kinds_same (event.Close j) = at_place can_close_at alike.close true j

  next_same : next_of (with_place i new core) ≡ next_of core
  next_same = find_same (can_by_itself (with_place i new core)) (can_by_itself core) kinds_same (own_kinds (range_with_len 0 (length (set core.places i new))))
      ∙ ap (λ (n : ℕ). find (can_by_itself core) (own_kinds (range_with_len 0 n))) (length-set core.places i new)

abbrev wants : List Bool → ℕ → SeenWants
wants marks n = record { requests = marks; forks = n }

module _ (core : SeenCore) (i : ℕ) where
  abbrev place : Place
  place = place_at core i

  -- a Request at a place whose fork is held and not dirty
  module _ (e : ℕ) (takes : TakesUnwanted core i (Request e)) where
    abbrev asked_for : Place
    asked_for = place_after_take (Request e) place

    turn : (is_some place.token ≡ false) × (is_held place.fork ≡ true)
    turn = request_turn place.close_taken (is_some place.token) (is_held place.fork) place.done_taken _ _ takes.in_turn

    clean : is_dirty_at place ≡ false
    clean = sym (marked_at is_dirty_at core.places i takes.place) ∙ takes.unwanted

    request_alike : IsAlike core i asked_for
    request_alike = record {
      give = ap (λ (b : Bool). b && true && is_open_at place) clean ∙ sym (ap (λ (b : Bool). b && has_token_at place && is_open_at place) clean);
      ask = ap (λ (b : Bool). true && not b && is_open_at place) turn.1 ∙ sym (ap (λ (b : Bool). b && is_away_at place && is_open_at place) turn.0);
      done = refl;
      close = refl;
      ready = all_same is_ready_at core.places i asked_for
          (ap (λ (b : Bool). is_held place.fork && (not b || false)) clean ∙ sym (ap (λ (b : Bool). is_held place.fork && (not b || not (is_some place.token))) clean));
    }

    request_wants : wants_of (after_take i (Request e) core) ≡ wants_of core
    request_wants =
        let held : is_away_at place ≡ false = ap not turn.1 in
        let count = count_changed is_away_at core.places i asked_for false false takes.place held held in
        ap₂ wants (marks_of-same is_dirty_at core.places i asked_for no_place refl) (omega (arith, count))

  -- a Fork where another is away
  module _ (f : SeenFork) (takes : TakesUnwanted core i (Fork f)) where
    abbrev sent : Place
    sent = place_after_take (Fork f) place

    fork_in_turn : (is_held place.fork ≡ false) × (is_some place.token ≡ false) × (is_dirty f.log ≡ false)
    fork_in_turn = fork_turn place.close_taken (is_held place.fork) (is_some place.token) _ (is_dirty f.log) _ _ _ takes.in_turn

    others : 1 < count_by is_away_at core.places
    others = leb-false (count_by is_away_at core.places) 1 takes.unwanted

    counted : count_by is_away_at (set core.places i sent) + 1 ≡ count_by is_away_at core.places + 0
    counted = count_changed is_away_at core.places i sent true false takes.place (ap not fork_in_turn.0) refl

    fork_alike : IsAlike core i sent
    fork_alike = record {
      give = ap (λ (b : Bool). b && has_token_at place && is_open_at place) fork_in_turn.2
          ∙ sym (ap (λ (b : Bool). b && has_token_at place && is_open_at place) (away_clean place.fork fork_in_turn.0));
      ask = ap (λ (b : Bool). b && false && is_open_at place) fork_in_turn.1 ∙ sym (ap (λ (b : Bool). b && is_away_at place && is_open_at place) fork_in_turn.1);
      done = refl;
      close = refl;
      ready = not_ready (set core.places i sent) (omega (arith, counted, others))
          ∙ sym (list_all_at is_ready_at core.places i no_place takes.place (ap (λ (b : Bool). b && (not (is_dirty_in_hand place.fork) || not (is_some place.token))) fork_in_turn.0));
    }

    fork_wants : wants_of (after_take i (Fork f) core) ≡ still_wanted (wants_of core) (kind_of (Fork f))
    fork_wants = ap₂ wants (marks_of-same is_dirty_at core.places i sent no_place (fork_in_turn.2 ∙ sym (away_clean place.fork fork_in_turn.0))) (omega (arith, counted, others))

  -- ---- the law: Done and Close are waited for

  pub unwanted_next : (l : Letter) → TakesUnwanted core i l → next_of (after_take i l core) ≡ next_of core
  unwanted_next (Request e) takes = next_same core i (asked_for e takes) (request_alike e takes)
  unwanted_next (Fork f) takes = next_same core i (sent f takes) (fork_alike f takes)
  unwanted_next Done takes = absurd (let e : true ≡ false = takes.unwanted in cc)
  unwanted_next Close takes = absurd (let e : true ≡ false = takes.unwanted in cc)

  pub unwanted_wants : (l : Letter) → TakesUnwanted core i l → wants_of (after_take i l core) ≡ still_wanted (wants_of core) (kind_of l)
  unwanted_wants (Request e) takes = request_wants e takes
  unwanted_wants (Fork f) takes = fork_wants f takes
  unwanted_wants Done takes = absurd (let e : true ≡ false = takes.unwanted in cc)
  unwanted_wants Close takes = absurd (let e : true ≡ false = takes.unwanted in cc)
