-- A world that keeps its streams and in which no site may do a step, except to grow hungry or to end, has no hungry
-- site.
use Rattle.std.proofs.Common.{◌≡◌, ◌⊎◌, ℕ, zero, suc, ◌+◌, ◌<◌, ◌≤◌, Bool, true, false, not, ◌&&◌, ◌||◌, ◌==◌, nat_lt, List, [], ◌∷◌, ◌++◌, length, slice_get, Some, refl, sym, ◌∙◌, ap, subst, inl, inr, arith, append-nil, zero-add, add-zero}
use Rattle.std.specs.List.{range_with_len, list_all}
use Rattle.std.proofs.lemmas.Bool.{true≢false, false≢true, cases_Bool, cases_eq, and_from, or_parts, not-false, not_from_false, false_from_ne_true, lt-ltb, eq-eqb, eqb-false}
use Rattle.dine_token.specs.Log.{is_dirty}
use Rattle.dine_graph.specs.Plan.{SeenPlan, IsPlan, site_count, edges_of, lo_of, hi_of, other_of}
use Rattle.dine_rules.specs.declared.letters.Letter.{Letter}
use Rattle.dine_rules.specs.declared.letters.Letter.TheVariants as letter
use Rattle.dine_rules.specs.declared.phase.Phase.{Phase}
use Rattle.dine_rules.specs.declared.phase.Phase.TheVariants as phase
use Rattle.dine_rules.specs.Letters.{forks_in, requests_in, has_done, has_close}
use Rattle.dine_rules.specs.Local.{LocalState, traffic_at, edge_at, neighbour_at, is_thinking, is_hungry, is_eating}
use Rattle.dine_rules.specs.Holdings.{fork_at, token_at, hand_at}
use Rattle.dine_rules.specs.Breach.{is_allowed}
use Rattle.dine_rules.specs.Steps.{Give, Ask, Begin, Take, may, is_ready}
use Rattle.dine_rules.specs.Streams.{KeepsStreamsAt, is_orderly}
use Rattle.dine_rules.specs.World.{WorldState, state_of, place_of, put_to, next_letter}
use Rattle.dine_rules.specs.Links.{queue_to}
use Rattle.dine_rules.specs.Precedence.{IsAcyclic, StandsBefore, preferred_end}
use Rattle.dine_rules.proofs.shared.links.Across.{across}
use Rattle.dine_rules.proofs.shared.precedence.CleanFirst.{HasClean, clean_precedes}
use Rattle.dine_rules.proofs.shared.precedence.Earlier.{HasEarlier, order_distinct, nobody_passes}
use Rattle.dine_rules.proofs.shared.one_site.InOrder.{IsOrderly}
use Rattle.dine_rules.proofs.shared.links.Joined.{one_fork, one_token}
use Rattle.dine_rules.proofs.shared.one_place.Keeping.{hungry_not_thinking}
use Rattle.dine_rules.proofs.shared.links.Links.{joined, link_holds, puts_back}
use Rattle.dine_rules.proofs.shared.links.NextLetters.{next_allowed}
use Rattle.dine_rules.proofs.shared.precedence.Orders.{Before, before_from, in_order}
use Rattle.dine_rules.proofs.shared.one_place.Placed.{placed}
use Rattle.dine_rules.proofs.shared.lists.Turns.{slice_get-behind}
use Rattle.dine_rules.proofs.shared.links.WorldStreams.{WorldKeeps}

-- ---- tests

-- where not both hold, and the first does, the second fails
rest_fails : (x y : Bool) → (x && y) ≡ false → x ≡ true → y ≡ false
rest_fails true y h holds = h
rest_fails false y h holds = absurd (false≢true holds)

-- a number of at most one is one where it is not none
one_of : (n : ℕ) → n ≤ 1 → (n ≡ 0 → ⊥) → n ≡ 1
one_of n few some = omega arith

-- and none where it is not one
none_of : (n : ℕ) → n ≤ 1 → (n ≡ 1 → ⊥) → n ≡ 0
none_of n few other = omega arith

-- a list with no first letter is empty
empty_if : (letters : List Letter) → ((l : Letter) (rest : List Letter) → letters ≡ l ∷ rest → ⊥) → letters ≡ []
empty_if [] none = refl
empty_if (l ∷ rest) none = absurd (none l rest refl)

-- where not all numbers of a range pass, one fails
one_fails : (test : ℕ → Bool) (a n : ℕ) → list_all test (range_with_len a n) ≡ false → (i : ℕ) × (i < n) × (test (a + i) ≡ false)
one_fails test a zero h = absurd (true≢false h)
one_fails test a (suc n) h = elim (cases_Bool (test a)) [
  | inl passes ↦
      let w = one_fails test (a + 1) n (rest_fails (test a) (list_all test (range_with_len (a + 1) n)) h passes) in
      let same : a + 1 + w.0 ≡ a + suc w.0 = omega arith in
      (suc w.0, omega arith, ap test (sym same) ∙ w.2)
  | inr fails ↦ (0, omega arith, ap test (add-zero a) ∙ fails)
]

-- a Close in order has a Done before it
closed_is_done : (letters : List Letter) → is_orderly letters ≡ true → has_close letters ≡ true → has_done letters ≡ true
closed_is_done [] order closed = absurd (false≢true closed)
closed_is_done (letter.Fork fork ∷ letters) order closed = closed_is_done letters order closed
closed_is_done (letter.Request edge ∷ letters) order closed = closed_is_done letters order closed
closed_is_done (letter.Done ∷ letters) order closed = refl
closed_is_done (letter.Close ∷ letters) order closed = absurd (false≢true order)

-- who neither eats nor is hungry thinks
must_think : (p : Phase) → is_eating p ≡ false → is_hungry p ≡ false → is_thinking p ≡ true
must_think phase.Thinking awake fed = refl
must_think phase.Hungry awake fed = absurd (true≢false fed)
must_think phase.Eating awake fed = absurd (true≢false awake)

-- who is hungry is a site of the world
hungry_within : (world : WorldState) (s : ℕ) → is_hungry (state_of world s).phase ≡ true → s < length world
hungry_within [] s h = absurd (false≢true h)
hungry_within (state ∷ world) zero h = omega arith
hungry_within (state ∷ world) (suc s) h = omega (arith, hungry_within world s h)

-- ---- when a site may do a step at a place

module _ (plan : SeenPlan) (s : ℕ) (state : LocalState) (i : ℕ) (within : i < length state.traffic) where
  -- it gives a dirty fork that was asked for
  may_give : is_eating state.phase ≡ false → fork_at plan s state i ≡ 1 → token_at plan s state i ≡ 1 → is_dirty (hand_at s state i) ≡ true → has_close (traffic_at state i).put ≡ false
      → may plan s state (Give i) ≡ true
  may_give awake fork token dirty unclosed = and_from _ _ (lt-ltb _ _ within) (and_from _ _ (and_from _ _ (not_from_false _ awake) (and_from _ _ (eq-eqb _ _ fork) (eq-eqb _ _ token))) (and_from _ _ dirty (not_from_false _ unclosed)))

  -- it asks for a fork that it lacks
  may_ask : is_hungry state.phase ≡ true → fork_at plan s state i ≡ 0 → token_at plan s state i ≡ 1 → has_close (traffic_at state i).put ≡ false → may plan s state (Ask i) ≡ true
  may_ask hungry fork token unclosed = and_from _ _ (lt-ltb _ _ within) (and_from _ _ (and_from _ _ hungry (and_from _ _ (eq-eqb _ _ token) (eq-eqb _ _ fork))) (not_from_false _ unclosed))

-- ---- a calm world

-- the site may do none of these steps: it may be able to grow hungry, to quit, or to say that it is done
pub record IsCalm (plan : SeenPlan) (world : WorldState) (s : ℕ) : Type 0 where
  pub take : (i : ℕ) (l : Letter) → i < length (edges_of plan s) → next_letter plan world s i ≡ Some l → may plan s (state_of world s) (Take i l) ≡ false
  pub give : (i : ℕ) → i < length (edges_of plan s) → may plan s (state_of world s) (Give i) ≡ false
  pub ends : is_eating (state_of world s).phase ≡ false
  pub begins : may plan s (state_of world s) Begin ≡ false
  pub ask : (i : ℕ) → i < length (edges_of plan s) → may plan s (state_of world s) (Ask i) ≡ false

module _ (plan : SeenPlan) (is_plan : IsPlan plan) (world : WorldState) (kept : WorldKeeps plan world) (order : (s : ℕ) → s < site_count plan → IsOrderly (state_of world s)) (still : (s : ℕ) → s < site_count plan → IsCalm plan world s) where
  module _ (s i : ℕ) (is_site : s < site_count plan) (within : i < length (edges_of plan s)) where
    -- the site's state
    abbrev here : LocalState
    here = state_of world s

    -- the place is one of the state, and is kept
    is_place : i < length here.traffic
    is_place = omega (arith, (kept.keeps s is_site).every_place)

    keeps_here : KeepsStreamsAt plan s here i
    keeps_here = (kept.keeps s is_site).places i is_place

    -- no letter lies in the link
    link_empty : queue_to plan world s i ≡ []
    link_empty = empty_if (queue_to plan world s i) (λ l rest is.
        let next : next_letter plan world s i ≡ Some l = ap (λ (x : List Letter). slice_get x (length (traffic_at here i).taken)) (link_holds plan is_plan world kept s i is_site within ∙ ap (λ (x : List Letter). (traffic_at here i).taken ++ x) is)
        ∙ slice_get-behind (traffic_at here i).taken rest l in
        let allowed : may plan s here (Take i l) ≡ true = and_from (nat_lt i (length here.traffic)) (is_allowed plan s here i l) (lt-ltb i (length here.traffic) is_place) (next_allowed plan is_plan world kept order s i is_site within l next) in
        true≢false (sym allowed ∙ (still s is_site).take i l within next))

    -- so all that was put was taken
    all_taken : (traffic_at here i).taken ≡ put_to plan world s i
    all_taken = sym (link_holds plan is_plan world kept s i is_site within ∙ ap (λ (x : List Letter). (traffic_at here i).taken ++ x) link_empty ∙ append-nil (traffic_at here i).taken)

    -- who put no Done has not closed
    open_if_undone : has_done (traffic_at here i).put ≡ false → has_close (traffic_at here i).put ≡ false
    open_if_undone undone = false_from_ne_true (has_close (traffic_at here i).put) (λ closed.
        false≢true (sym undone ∙ closed_is_done (traffic_at here i).put (order s is_site i).orderly closed))

    -- who is hungry put no Done
    hungry_undone : is_hungry here.phase ≡ true → has_done (traffic_at here i).put ≡ false
    hungry_undone hungry = false_from_ne_true (has_done (traffic_at here i).put) (λ done. hungry_not_thinking here.phase hungry (keeps_here.done_thinks done))

    -- a fork that is held, asked for and not closed over is clean, since a dirty one would be given
    keeps_clean : fork_at plan s here i ≡ 1 → token_at plan s here i ≡ 1 → has_close (traffic_at here i).put ≡ false → is_dirty (hand_at s here i) ≡ false
    keeps_clean fork token unclosed = false_from_ne_true (is_dirty (hand_at s here i)) (λ dirty.
        true≢false (sym (may_give plan s here i is_place (still s is_site).ends fork token dirty unclosed) ∙ (still s is_site).give i within))

  module _ (s i : ℕ) (is_site : s < site_count plan) (within : i < length (edges_of plan s)) where
    -- the other end of the place, and the place there
    abbrev there : ℕ
    there = neighbour_at plan s i

    abbrev place : ℕ
    place = place_of plan (neighbour_at plan s i) (edge_at plan s i)

    -- the site there, and its place, are in the plan
    there_is_site : there < site_count plan
    there_is_site = (across plan s i is_plan within).is_site

    there_within : place < length (edges_of plan there)
    there_within = (across plan s i is_plan within).within

    -- both links are empty, so one of the two ends has the fork
    fork_at_one : fork_at plan s (state_of world s) i + fork_at plan there (state_of world there) place ≡ 1
    fork_at_one = omega (
      arith,
      one_fork plan s i there place (state_of world s) (state_of world there) (queue_to plan world s i) (queue_to plan world there place) (joined plan is_plan world kept s i is_site within),
      ap forks_in (link_empty s i is_site within),
      ap forks_in (link_empty there place there_is_site there_within),
    )

    -- and one has the token
    token_at_one : token_at plan s (state_of world s) i + token_at plan there (state_of world there) place ≡ 1
    token_at_one = omega (
      arith,
      one_token plan s i there place (state_of world s) (state_of world there) (queue_to plan world s i) (queue_to plan world there place) (joined plan is_plan world kept s i is_site within),
      ap requests_in (link_empty s i is_site within),
      ap requests_in (link_empty there place there_is_site there_within),
    )

    -- what the site put, the other end took
    taken_there : (traffic_at (state_of world there) place).taken ≡ (traffic_at (state_of world s) i).put
    taken_there = all_taken there place there_is_site there_within ∙ puts_back plan is_plan world kept s i is_site within

    -- the neighbour of a hungry site has not closed
    open_there : is_hungry (state_of world s).phase ≡ true → has_close (traffic_at (state_of world there) place).put ≡ false
    open_there hungry = false_from_ne_true (has_close (traffic_at (state_of world there) place).put) (λ closed.
        false≢true (sym (hungry_undone s i is_site within hungry) ∙ sym (ap has_done taken_there) ∙ (order there there_is_site place).closed_after closed))

    -- a hungry site that is not ready at the place lacks the fork there
    lacks_fork : is_hungry (state_of world s).phase ≡ true → is_ready plan s (state_of world s) i ≡ false → fork_at plan s (state_of world s) i ≡ 0
    lacks_fork hungry unready = elim (cases_eq (fork_at plan s (state_of world s) i) 1) [
      | inl one ↦
          let state : LocalState = state_of world s in
          let unfit : (not (is_dirty (hand_at s state i)) || token_at plan s state i == 0) ≡ false = rest_fails (fork_at plan s state i == 1) (not (is_dirty (hand_at s state i)) || token_at plan s state i == 0) unready (eq-eqb _ 1 one) in
          let parts = or_parts (not (is_dirty (hand_at s state i))) (token_at plan s state i == 0) unfit in
          let token : token_at plan s state i ≡ 1 = one_of (token_at plan s state i) (keeps_here s i is_site within).one_token (eqb-false (token_at plan s state i) 0 parts.1) in
          absurd (true≢false (sym (not-false (is_dirty (hand_at s state i)) parts.0) ∙ keeps_clean s i is_site within one token (open_if_undone s i is_site within (hungry_undone s i is_site within hungry))))
      | inr other ↦ none_of (fork_at plan s (state_of world s) i) (keeps_here s i is_site within).one_fork other
    ]

    -- and then the token, for it would ask
    lacks_token : is_hungry (state_of world s).phase ≡ true → fork_at plan s (state_of world s) i ≡ 0 → token_at plan s (state_of world s) i ≡ 0
    lacks_token hungry none = elim (cases_eq (token_at plan s (state_of world s) i) 1) [
      | inl one ↦ absurd (true≢false (sym (may_ask plan s (state_of world s) i (is_place s i is_site within) hungry none one (open_if_undone s i is_site within (hungry_undone s i is_site within hungry))) ∙ (still s is_site).ask i within))
      | inr other ↦ none_of (token_at plan s (state_of world s) i) (keeps_here s i is_site within).one_token other
    ]

    -- so its neighbour there has the fork clean in hand
    neighbour_has : is_hungry (state_of world s).phase ≡ true → is_ready plan s (state_of world s) i ≡ false → HasClean plan world (edge_at plan s i) there
    neighbour_has hungry unready =
        let no_fork : fork_at plan s (state_of world s) i ≡ 0 = lacks_fork hungry unready in
        let no_token : token_at plan s (state_of world s) i ≡ 0 = lacks_token hungry no_fork in
        let fork : fork_at plan there (state_of world there) place ≡ 1 = omega (arith, fork_at_one) in
        let token : token_at plan there (state_of world there) place ≡ 1 = omega (arith, token_at_one) in
        record {
          held = fork;
          clean = keeps_clean there place there_is_site there_within fork token (open_there hungry);
        }

    -- and stands before it in each order of precedence
    neighbour_before : (acyclic : IsAcyclic plan world) → HasClean plan world (edge_at plan s i) there → Before there s acyclic.order
    neighbour_before acyclic has =
        let is_placed = placed plan s i is_plan within in
        let over = across plan s i is_plan within in
        let ends : (there ≡ lo_of plan (edge_at plan s i)) ⊎ (there ≡ hi_of plan (edge_at plan s i)) = elim is_placed.sides [
          | inl w ↦ inr w.1
          | inr w ↦ inl w.1
        ] in
        let first : preferred_end plan world (edge_at plan s i) ≡ there = clean_precedes plan is_plan world kept (edge_at plan s i) is_placed.edge_within there ends has in
        let second : other_of plan (edge_at plan s i) there ≡ s = sym (ap (λ (e : ℕ). other_of plan e there) over.same_edge) ∙ over.back in
        before_from there s acyclic.order (subst (λ (x : ℕ). StandsBefore there x acyclic.order) second
        (subst (λ (x : ℕ). StandsBefore x (other_of plan (edge_at plan s i) x) acyclic.order) first (acyclic.preferred_first (edge_at plan s i) is_placed.edge_within)))

  -- the sites that are hungry
  abbrev hungers : ℕ → Bool
  hungers s = is_hungry (state_of world s).phase

  module _ (acyclic : IsAcyclic plan world) where
    -- a hungry site has a hungry one before it, since it may not begin
    earlier_hungry : HasEarlier hungers acyclic.order
    earlier_hungry s hungry =
        let is_site : s < site_count plan = omega (arith, hungry_within world s hungry, kept.sites) in
        let state : LocalState = state_of world s in
        let w = one_fails (is_ready plan s state) 0 (length state.traffic) (rest_fails (is_hungry state.phase) (list_all (is_ready plan s state) (range_with_len 0 (length state.traffic))) (still s is_site).begins hungry) in
        let within : w.0 < length (edges_of plan s) = omega (arith, w.1, (kept.keeps s is_site).every_place) in
        let unready : is_ready plan s state w.0 ≡ false = ap (is_ready plan s state) (sym (zero-add w.0)) ∙ w.2 in
        let has = neighbour_has s w.0 is_site within hungry unready in (
          there s w.0 is_site within,
          (keeps_here (there s w.0 is_site within) (place s w.0 is_site within) (there_is_site s w.0 is_site within) (there_within s w.0 is_site within)).clean_is_hungry has.held has.clean,
          neighbour_before s w.0 is_site within acyclic has,
        )

    -- so nobody is hungry
    nobody_hungry : (s : ℕ) → s < site_count plan → hungers s ≡ false
    nobody_hungry s is_site = nobody_passes hungers acyclic.order (order_distinct (site_count plan) acyclic.order acyclic.each_once) earlier_hungry s
        (in_order (site_count plan) s acyclic.order acyclic.each_once is_site)

    -- and all think
    pub thinks : (s : ℕ) → s < site_count plan → is_thinking (state_of world s).phase ≡ true
    thinks s is_site = must_think (state_of world s).phase (still s is_site).ends (nobody_hungry s is_site)
