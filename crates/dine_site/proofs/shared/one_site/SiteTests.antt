-- What a core may do, by what it keeps, is what the state that it represents may do.
use Rattle.std.proofs.Common.{◌≡◌, ℕ, ◌<◌, ◌==◌, nat_lt, Bool, true, false, not, ◌&&◌, ◌||◌, length, option_map, Option, Some, None, is_some, refl, sym, ◌∙◌, ap, ap₂, arith, if◌then◌else◌}
use Rattle.std.proofs.lemmas.Bool.{lt-ltb, ltb-true, and_from}
use Rattle.dine_token.specs.Fork.{SeenFork}
use Rattle.dine_token.specs.Log.{is_dirty, meals_of}
use Rattle.dine_graph.specs.Plan.{SeenPlan, job_count}
use Rattle.dine_rules.specs.declared.breach.Breach.{Breach}
use Rattle.dine_rules.specs.declared.letters.Letter.{Letter}
use Rattle.dine_rules.specs.declared.phase.Phase.{Phase}
use Rattle.dine_rules.specs.declared.phase.Phase.TheVariants as phase
use Rattle.dine_site.specs.declared.site.places.ForkSlot.TheVariants.{Away, Here, InMeal}
use Rattle.dine_site.specs.declared.site.places.Place.{Place}
use Rattle.dine_rules.specs.Letters.{has_close, has_done}
use Rattle.dine_rules.specs.Local.{LocalState, edge_at, has_no_job_left, is_eating, is_hungry, is_thinking, neighbour_at, traffic_at}
use Rattle.dine_rules.specs.Holdings.{fork_at, hand_at, token_at}
use Rattle.dine_rules.specs.Breach.{first_breach, is_allowed}
use Rattle.dine_rules.specs.Steps.{Step, Give, Ask, Hungry, Begin, End, Quit, Done, Close, Break, Take, hand_fork_at, is_open, may}
use Rattle.dine_rules.specs.Streams.{KeepsStreams}
use Rattle.dine_site.specs.Core.{SeenCore, Refines}
use Rattle.dine_site.specs.Places.{breach_at, can_ask, can_begin, can_close, can_say_done, can_give, can_give_at, can_hunger, can_quit, has_nothing_due, is_dirty_in_hand, is_held, place_at}
use Rattle.dine_rules.proofs.shared.one_site.BreachLaw.{allowed, no_breach}
use Rattle.dine_site.proofs.shared.one_site.Breaches.{breach_is}
use Rattle.dine_site.proofs.shared.lists.Ranges.{and_along, begin_by, not_one}
use Rattle.dine_site.proofs.shared.one_site.Stands.{place_is}

-- ---- tests over plain values

-- three tests, grouped from behind
and_regroup : (a b c : Bool) → (a && (b && c)) ≡ (a && b && c)
and_regroup true b c = refl
and_regroup false b c = refl

-- a test that is true, or false, between two others
drop_true : (a b : Bool) → (a && true && b) ≡ (a && b)
drop_true true b = refl
drop_true false b = refl

drop_false : (a b : Bool) → (a && false && b) ≡ false
drop_false true b = refl
drop_false false b = refl

-- the test of a place, where its number is small enough
pub guarded : (i n m : ℕ) (a b : Bool) → n ≡ m → (i < n → a ≡ b) → (nat_lt i n && a) ≡ (nat_lt i m && b)
guarded i n m a b same h = and_along (nat_lt i n) a b (λ lt. h (ltb-true i n lt)) ∙ ap (λ (k : ℕ). nat_lt i k && b) same

-- a test of a place whose number is small enough
in_reach : (i n : ℕ) (b : Bool) → i < n → b ≡ (nat_lt i n && b)
in_reach i n b lt = ap (λ (small : Bool). small && b) (sym (lt-ltb i n lt))

-- a place's test for a Give
give_test : (phase : Phase) (fork token : Bool) (meals edge : ℕ) (f : SeenFork) (closed : Bool)
    → (not (is_eating phase) && (is_dirty_in_hand (if fork then (if is_eating phase then InMeal meals else Here f) else Away) && is_some {T = ℕ} (if token then Some edge else None) && not closed))
    ≡ (not (is_eating phase) && (fork && token) && (is_dirty f.log && not closed))
give_test phase.Thinking true true meals edge f closed = drop_true (is_dirty f.log) (not closed)
give_test phase.Thinking true false meals edge f closed = drop_false (is_dirty f.log) (not closed)
give_test phase.Thinking false token meals edge f closed = refl
give_test phase.Hungry true true meals edge f closed = drop_true (is_dirty f.log) (not closed)
give_test phase.Hungry true false meals edge f closed = drop_false (is_dirty f.log) (not closed)
give_test phase.Hungry false token meals edge f closed = refl
give_test phase.Eating fork token meals edge f closed = refl

-- a place's fork and its token, as tests
held_test : (eating fork : Bool) (meals : ℕ) (f : SeenFork) → is_held (if fork then (if eating then InMeal meals else Here f) else Away) ≡ fork
held_test true true meals f = refl
held_test false true meals f = refl
held_test eating false meals f = refl

token_test : (token : Bool) (edge : ℕ) → is_some {T = ℕ} (if token then Some edge else None) ≡ token
token_test true edge = refl
token_test false edge = refl

-- ---- the tests of a site

-- the site may do the step, where there is one
abbrev pub may_be : SeenPlan → ℕ → LocalState → Option Step → Bool
may_be plan s state None = false
may_be plan s state (Some step) = may plan s state step

-- no breach, as a test
no_breach_test : (allows : Bool) (breach : Option Breach) → (allows ≡ true → breach ≡ None) → (breach ≡ None → allows ≡ true) → not (is_some breach) ≡ allows
no_breach_test true None none allow = refl
no_breach_test false None none allow = sym (allow refl)
no_breach_test true (Some b) none allow = absurd (let e : Some b ≡ None = none refl in cc)
no_breach_test false (Some b) none allow = refl

module _ (plan : SeenPlan) (state : LocalState) (core : SeenCore) (stands : Refines plan state core) (keeps : KeepsStreams plan core.site state) where
  -- nothing is due where no job is left
  pub due_is : has_nothing_due core ≡ has_no_job_left plan core.site state
  due_is = ap₂ (λ (a due : ℕ). a == due || core.has_quit) stands.ate stands.due ∙ ap (λ (b : Bool). state.ate == job_count plan core.site || b) stands.has_quit

  -- each test of a place, by the core and by the state
  module _ (i : ℕ) (within : i < length core.places) where
    pub give_is : can_give core i ≡ (not (is_eating state.phase) && (fork_at plan core.site state i == 1 && token_at plan core.site state i == 1) && (is_dirty (hand_at core.site state i) && is_open plan core.site state i))
    give_is = ap (λ (phase : Phase). not (is_eating phase) && can_give_at (place_at core i)) stands.phase
        ∙ ap (λ (p : Place). not (is_eating state.phase) && can_give_at p) (place_is plan state core stands i within)
        ∙ give_test state.phase (fork_at plan core.site state i == 1) (token_at plan core.site state i == 1) (meals_of (neighbour_at plan core.site i) (hand_at core.site state i)) (edge_at plan core.site i)
        (hand_fork_at plan core.site state i) (has_close (traffic_at state i).put)

    -- the fork is held, and the token is, by the place and by the whole lists
    pub held_is : not (is_held (place_at core i).fork) ≡ (fork_at plan core.site state i == 0)
    held_is = ap (λ (p : Place). not (is_held p.fork)) (place_is plan state core stands i within)
        ∙ ap not (held_test (is_eating state.phase) (fork_at plan core.site state i == 1) (meals_of (neighbour_at plan core.site i) (hand_at core.site state i)) (hand_fork_at plan core.site state i))
        ∙ not_one (fork_at plan core.site state i) (keeps.places i (omega (arith, stands.degree))).one_fork

    token_is : is_some (place_at core i).token ≡ (token_at plan core.site state i == 1)
    token_is = ap (λ (p : Place). is_some p.token) (place_is plan state core stands i within) ∙ token_test (token_at plan core.site state i == 1) (edge_at plan core.site i)

    open_is : not (place_at core i).close_put ≡ is_open plan core.site state i
    open_is = ap (λ (p : Place). not p.close_put) (place_is plan state core stands i within)

    pub ask_is : can_ask core i ≡ (is_hungry state.phase && (token_at plan core.site state i == 1 && fork_at plan core.site state i == 0) && is_open plan core.site state i)
    ask_is = ap (λ (phase : Phase). is_hungry phase && (is_some (place_at core i).token && not (is_held (place_at core i).fork) && not (place_at core i).close_put)) stands.phase
        ∙ ap (λ (b : Bool). is_hungry state.phase && (b && not (is_held (place_at core i).fork) && not (place_at core i).close_put)) token_is
        ∙ ap (λ (b : Bool). is_hungry state.phase && (token_at plan core.site state i == 1 && b && not (place_at core i).close_put)) held_is
        ∙ ap (λ (b : Bool). is_hungry state.phase && (token_at plan core.site state i == 1 && fork_at plan core.site state i == 0 && b)) open_is
        ∙ and_regroup (is_hungry state.phase) (token_at plan core.site state i == 1 && fork_at plan core.site state i == 0) (is_open plan core.site state i)

    pub done_is : can_say_done core i ≡ (is_thinking state.phase && has_no_job_left plan core.site state && (not (has_done (traffic_at state i).put) && is_open plan core.site state i))
    done_is = ap (λ (phase : Phase). is_thinking phase && has_nothing_due core && (not (place_at core i).done_put && not (place_at core i).close_put)) stands.phase
        ∙ ap (λ (b : Bool). is_thinking state.phase && b && (not (place_at core i).done_put && not (place_at core i).close_put)) due_is
        ∙ ap (λ (p : Place). is_thinking state.phase && has_no_job_left plan core.site state && (not p.done_put && not p.close_put)) (place_is plan state core stands i within)

    pub close_is : can_close core i ≡ (has_done (traffic_at state i).put && has_done (traffic_at state i).taken && is_open plan core.site state i)
    close_is = ap (λ (p : Place). p.done_put && p.done_taken && not p.close_put) (place_is plan state core stands i within)

    -- a letter is in turn where it is allowed
    pub take_is : (l : Letter) → not (is_some (breach_at core.site core.ate (place_at core i) l)) ≡ is_allowed plan core.site state i l
    take_is l = ap (λ (b : Option Breach). not (is_some b)) (breach_is plan state core stands keeps i within l)
        ∙ no_breach_test (is_allowed plan core.site state i l) (first_breach plan core.site state i l) (no_breach plan core.site state i l) (allowed plan core.site state i l)

  -- the site may grow hungry
  pub hunger_is : can_hunger core ≡ may plan core.site state Hungry
  hunger_is = ap (λ (phase : Phase). is_thinking phase && nat_lt core.ate core.due && (not core.must_quit && not core.has_quit)) stands.phase
      ∙ ap₂ (λ (a due : ℕ). is_thinking state.phase && nat_lt a due && (not core.must_quit && not core.has_quit)) stands.ate stands.due
      ∙ ap₂ (λ (must quit : Bool). is_thinking state.phase && nat_lt state.ate (job_count plan core.site) && (not must && not quit)) stands.must_quit stands.has_quit

  -- the site has to quit
  pub quit_is : can_quit core ≡ may plan core.site state Quit
  quit_is = ap₂ (λ (phase : Phase) (must : Bool). is_thinking phase && must) stands.phase stands.must_quit

  -- the tests with which the state allows them
  module _ (i : ℕ) (within : i < length core.places) where
    reach : (b : Bool) → b ≡ (nat_lt i (length state.traffic) && b)
    reach b = in_reach i (length state.traffic) b (omega (arith, stands.degree))

    pub give_may : can_give core i ≡ may plan core.site state (Give i)
    give_may = give_is i within ∙ reach _

    pub ask_may : can_ask core i ≡ may plan core.site state (Ask i)
    ask_may = ask_is i within ∙ reach _

    pub done_may : can_say_done core i ≡ may plan core.site state (Done i)
    done_may = done_is i within ∙ reach _

  -- a letter that is there is allowed, or there is none
  pub next_is : (i : ℕ) (o : Option Letter) → ((l : Letter) → i < length core.places → o ≡ Some l → is_allowed plan core.site state i l ≡ true)
      → (nat_lt i (length core.places) && is_some o) ≡ may_be plan core.site state (option_map (Take i) o)
  next_is i None law = none (nat_lt i (length core.places)) where
    none : (b : Bool) → (b && false) ≡ false
    none true = refl
    none false = refl
  next_is i (Some l) law = guarded i (length core.places) (length state.traffic) _ _ stands.degree (λ within. sym (law l within refl))

  -- so the state allows what the core allows
  module _ (i : ℕ) (within : i < length core.places) where
    at_place : (a b : Bool) → a ≡ b → a ≡ true → (nat_lt i (length state.traffic) && b) ≡ true
    at_place a b same can = and_from _ _ (lt-ltb i (length state.traffic) (omega (arith, stands.degree))) (sym same ∙ can)

    pub may_give : can_give core i ≡ true → may plan core.site state (Give i) ≡ true
    may_give = at_place _ _ (give_is i within)

    pub may_ask : can_ask core i ≡ true → may plan core.site state (Ask i) ≡ true
    may_ask = at_place _ _ (ask_is i within)

    pub may_done : can_say_done core i ≡ true → may plan core.site state (Done i) ≡ true
    may_done = at_place _ _ (done_is i within)

    pub may_close : can_close core i ≡ true → may plan core.site state (Close i) ≡ true
    may_close = at_place _ _ (close_is i within)

    pub may_break : is_eating core.phase ≡ false → (place_at core i).close_put ≡ false → may plan core.site state (Break i) ≡ true
    may_break awake not_closed = at_place (not (is_eating core.phase) && not (place_at core i).close_put) _
        (ap (λ (phase : Phase). not (is_eating phase) && not (place_at core i).close_put) stands.phase ∙ ap (λ (b : Bool). not (is_eating state.phase) && b) (open_is i within))
        (and_from _ _ (ap not awake) (ap not not_closed))

  pub may_hunger : can_hunger core ≡ true → may plan core.site state Hungry ≡ true
  may_hunger can = sym hunger_is ∙ can

  pub may_quit : can_quit core ≡ true → may plan core.site state Quit ≡ true
  may_quit can = sym quit_is ∙ can

  pub may_begin : can_begin core ≡ true → may plan core.site state Begin ≡ true
  may_begin can = sym (begin_by plan state core stands keeps) ∙ can

  pub may_end : (failed : Bool) → is_eating core.phase ≡ true → may plan core.site state (End failed) ≡ true
  may_end failed eating = ap is_eating (sym stands.phase) ∙ eating
