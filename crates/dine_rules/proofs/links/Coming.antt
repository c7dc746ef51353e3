-- The next letter to a site is one that it may take.
use Rattle.std.proofs.Common.{◌≡◌, ◌⊎◌, ℕ, ◌+◌, ◌<◌, ◌≤◌, Bool, true, false, cond, not, ◌||◌, ◌==◌, List, [], ◌∷◌, length, slice_get, refl, sym, ◌∙◌, ap, subst, inl, inr, arith}
use Rattle.std.proofs.lemmas.Bool.{and_from, or_cases, or_left, or_right, cases_Bool, not_from_false, eqb-true, eq-eqb, lt-ltb}
use Rattle.dine_token.specs.declared.log_entry.Entry.{Entry}
use Rattle.dine_token.specs.Fork.{SeenFork}
use Rattle.dine_token.specs.Log.{is_dirty, location_of, meals_of}
use Rattle.dine_token.proofs.shared.Logs.{is_dirty-push_move, location_of-push_move, meals_of-push_move}
use Rattle.dine_graph.specs.Plan.{SeenPlan, job_count, lo_of, resigns}
use Rattle.dine_rules.specs.declared.letters.Letter.{Letter}
use Rattle.dine_rules.specs.declared.letters.Letter.TheVariants.{Fork, Request, Done, Close}
use Rattle.dine_rules.specs.Letters.{forks_in, requests_in, has_done, has_close, last_log_or}
use Rattle.dine_rules.specs.Local.{LocalState, traffic_at, edge_at, neighbour_at}
use Rattle.dine_rules.specs.Holdings.{fork_at, token_at, hand_at}
use Rattle.dine_rules.specs.Breach.{was_sent_to, is_fork_of, has_all_of_neighbour, may_come, is_allowed}
use Rattle.dine_rules.specs.Streams.{KeepsStreamsAt, is_lower_at, is_alternating, is_done_last, is_close_last, is_orderly}
use Rattle.dine_rules.proofs.shared.lists.Counting.{has_done-append, has_close-append, last_log_or-append, last_log_or-none}
use Rattle.dine_rules.proofs.one_site.PutBounds.{waiter_has_left}
use Rattle.dine_rules.proofs.shared.links.Joined.{Joined, one_lower, one_fork, one_token, forks_coming, requests_going}
use Rattle.dine_rules.proofs.shared.lists.Turns.{slice_get-behind, turn_of_request, turn_of_fork, open_before, not_done_before_request, not_done_before_done, done_before_close}
use Rattle.dine_rules.proofs.shared.one_site.InOrder.{KeepsOrder}
use Rattle.dine_rules.proofs.shared.one_place.Sent.{IsSent, last_sent, meals_of-with_meals_other}

-- ---- numbers

-- the site that is asked next has the fork: it gave no more Forks than it took Requests
asked_has_fork : (start start_there fork put taken requests : ℕ) → start + start_there ≡ 1 → fork + put ≡ start + taken → put ≤ requests → start_there + requests ≡ taken → fork ≤ 1 → fork ≡ 1
asked_has_fork start start_there fork put taken requests one counted given turn few = omega arith

-- the site that a Fork comes to next has no token: it put a Request for it
receiver_has_no_token : (start start_there token put taken forks forks_put requests_there : ℕ) → start ≡ start_there → token + put ≡ start + taken → start_there + taken ≡ forks + 1
    → forks + 1 ≤ forks_put → forks_put ≤ requests_there → requests_there ≤ put → token ≡ 0
receiver_has_no_token start start_there token put taken forks forks_put requests_there same counted turn sent given asked = omega arith

-- the higher end starts with the token, and the other end with the fork
token_side : (lower other : Bool) → other ≡ not lower → cond {A = ℕ} lower 0 1 ≡ cond {A = ℕ} other 1 0
token_side true other h = sym (ap (λ (b : Bool). cond {A = ℕ} b 1 0) h)
token_side false other h = sym (ap (λ (b : Bool). cond {A = ℕ} b 1 0) h)

-- one thing in four places is nowhere else
alone_first : (a b c d : ℕ) → a + b + (c + d) ≡ 1 → a ≡ 1 → (b ≡ 0) × (c ≡ 0) × (d ≡ 0)
alone_first a b c d all one = (omega arith, omega arith, omega arith)

-- and the same of the second place
alone_second : (a b c d : ℕ) → a + b + (c + d) ≡ 1 → 1 ≤ b → (a ≡ 0) × (b ≡ 1) × (c ≡ 0) × (d ≡ 0)
alone_second a b c d all one = (omega arith, omega arith, omega arith, omega arith)

module _ (plan : SeenPlan) (s i j : ℕ) (near far : LocalState) (going : List Letter) where
  -- the state at the other end, with its letters coming
  module _ (coming : List Letter) (ends : Joined plan s i (neighbour_at plan s i) j near far coming going) where
    -- what this end keeps at its place
    abbrev keeps_here : KeepsStreamsAt plan s near i
    keeps_here = ends.here.places i ends.within

    -- what the other end keeps there
    abbrev keeps_there : KeepsStreamsAt plan (neighbour_at plan s i) far j
    keeps_there = ends.there.places j ends.within_there

    -- the last Fork put at the other end is the last one taken here, where none comes
    last_put_is_taken : forks_in coming ≡ 0 → last_log_or [] (traffic_at far j).put ≡ last_log_or [] (traffic_at near i).taken
    last_put_is_taken none = ap (last_log_or []) ends.comes ∙ last_log_or-append [] (traffic_at near i).taken coming ∙ last_log_or-none (last_log_or [] (traffic_at near i).taken) coming none

    -- the last Fork put here is the last one taken at the other end, where none goes
    last_taken_is_put : forks_in going ≡ 0 → last_log_or [] (traffic_at near i).put ≡ last_log_or [] (traffic_at far j).taken
    last_taken_is_put none = ap (last_log_or []) ends.goes ∙ last_log_or-append [] (traffic_at far j).taken going ∙ last_log_or-none (last_log_or [] (traffic_at far j).taken) going none

    -- a fork in hand has all meals that the other end ate
    hand_has_theirs : fork_at plan s near i ≡ 1 → meals_of (neighbour_at plan s i) (hand_at s near i) ≡ far.ate
    hand_has_theirs one =
        let alone = alone_first (fork_at plan s near i) (forks_in coming) (fork_at plan (neighbour_at plan s i) far j) (forks_in going) (one_fork plan s i (neighbour_at plan s i) j near far coming going ends) one in
        meals_of-with_meals_other (neighbour_at plan s i) s _ (last_log_or [] (traffic_at near i).taken) ends.differ
        ∙ ap (λ (l : List Entry). meals_of (neighbour_at plan s i) l) (sym (last_put_is_taken alone.0)) ∙ keeps_there.put_chained.last alone.1

    -- Done taken here was put there, and so the other end ate all its meals
    done_there : has_done (traffic_at near i).taken ≡ true → has_done (traffic_at far j).put ≡ true
    done_there done = ap has_done ends.comes ∙ has_done-append (traffic_at near i).taken coming ∙ or_left (has_done (traffic_at near i).taken) (has_done coming) done

    -- where the other end put Done, a log with all meals that it ate has all that are due to it, or it resigns
    all_or_resigns : (log : List Entry) → meals_of (neighbour_at plan s i) log ≡ far.ate → has_done (traffic_at far j).put ≡ true → has_all_of_neighbour plan s near i log ≡ true
    all_or_resigns log theirs done = elim (or_cases (far.ate == job_count plan (neighbour_at plan s i)) far.has_quit (keeps_there.done_after_all done)) [
      | inl all ↦ or_right (resigns plan (neighbour_at plan s i)) (meals_of (neighbour_at plan s i) log == job_count plan (neighbour_at plan s i))
          (eq-eqb (meals_of (neighbour_at plan s i) log) (job_count plan (neighbour_at plan s i)) (theirs ∙ eqb-true _ _ all))
      | inr quit ↦ or_left (resigns plan (neighbour_at plan s i)) (meals_of (neighbour_at plan s i) log == job_count plan (neighbour_at plan s i)) (ends.there.has_dropped quit).0
    ]

    -- Done taken there was put here
    done_here : has_done (traffic_at far j).taken ≡ true → has_done (traffic_at near i).put ≡ true
    done_here done = ap has_done ends.goes ∙ has_done-append (traffic_at far j).taken going ∙ or_left (has_done (traffic_at far j).taken) (has_done going) done

  -- ---- a Request

  module _ (edge : ℕ) (rest : List Letter) (ends : Joined plan s i (neighbour_at plan s i) j near far (Request edge ∷ rest) going) where
    -- the letters that come
    abbrev requests : List Letter
    requests = Request edge ∷ rest

    -- it names the edge
    request_names : edge ≡ edge_at plan s i
    request_names = (keeps_there requests ends).put_requests (length (traffic_at near i).taken) edge
        (ap (λ (l : List Letter). slice_get l (length (traffic_at near i).taken)) ends.comes ∙ slice_get-behind (traffic_at near i).taken rest (Request edge)) ∙ ends.same_edge

    -- by its turn as many Forks came as the other end was ahead in turns
    request_turn : cond (is_lower_at plan (neighbour_at plan s i) j) 1 0 + requests_in (traffic_at near i).taken ≡ forks_in (traffic_at near i).taken
    request_turn = turn_of_request (is_lower_at plan (neighbour_at plan s i) j) (traffic_at near i).taken rest edge
        (ap (is_alternating (is_lower_at plan (neighbour_at plan s i) j)) (sym ends.comes) ∙ (keeps_there requests ends).put_lawful.alternating)

    -- the fork is here
    request_fork : fork_at plan s near i ≡ 1
    request_fork = asked_has_fork (cond (is_lower_at plan s i) 1 0) (cond (is_lower_at plan (neighbour_at plan s i) j) 1 0) (fork_at plan s near i)
        (forks_in (traffic_at near i).put) (forks_in (traffic_at near i).taken) (requests_in (traffic_at near i).taken)
        (one_lower (is_lower_at plan s i) (is_lower_at plan (neighbour_at plan s i) j) ends.other_side) (keeps_here requests ends).forks_counted (keeps_here requests ends).given_when_asked request_turn (keeps_here requests ends).one_fork

    -- the token is in the Request
    request_tokens : (token_at plan s near i ≡ 0) × (requests_in requests ≡ 1) × (token_at plan (neighbour_at plan s i) far j ≡ 0) × (requests_in going ≡ 0)
    request_tokens = alone_second (token_at plan s near i) (requests_in requests) (token_at plan (neighbour_at plan s i) far j) (requests_in going) (one_token plan s i (neighbour_at plan s i) j near far requests going ends) (omega arith)

    -- who asked waits, with meals left
    request_left : meals_of (neighbour_at plan s i) (hand_at s near i) < job_count plan (neighbour_at plan s i)
    request_left =
        let alone = alone_first (fork_at plan s near i) (forks_in requests) (fork_at plan (neighbour_at plan s i) far j) (forks_in going) (one_fork plan s i (neighbour_at plan s i) j near far requests going ends) request_fork in
        omega (arith, hand_has_theirs requests ends request_fork, (waiter_has_left plan (neighbour_at plan s i) far j ends.there ends.within_there alone.1 request_tokens.2).1)

    -- no Done came before it
    request_not_done : has_done (traffic_at near i).taken ≡ false
    request_not_done = not_done_before_request (traffic_at near i).taken rest edge (ap is_done_last (sym ends.comes) ∙ (keeps_there requests ends).put_lawful.done_last)

    -- so it may come
    request_may_come : may_come plan s near i (Request edge) ≡ true
    request_may_come =
        let no_token = eq-eqb (token_at plan s near i) 0 request_tokens.0 in
        let with_fork = eq-eqb (fork_at plan s near i) 1 request_fork in
        and_from _ _ (and_from _ _ (eq-eqb edge (edge_at plan s i) request_names) (and_from _ _ no_token with_fork))
        (and_from _ _ (not_from_false (has_done (traffic_at near i).taken) request_not_done) (lt-ltb (meals_of (neighbour_at plan s i) (hand_at s near i)) (job_count plan (neighbour_at plan s i)) request_left))

  -- ---- a Fork

  module _ (fork : SeenFork) (rest : List Letter) (ends : Joined plan s i (neighbour_at plan s i) j near far (Fork fork ∷ rest) going) where
    -- the letters that come
    abbrev forks : List Letter
    forks = Fork fork ∷ rest

    -- it is the fork of the edge
    fork_is_ours : is_fork_of plan (edge_at plan s i) fork ≡ true
    fork_is_ours = ap (λ (e : ℕ). is_fork_of plan e fork) (sym ends.same_edge) ∙ ((keeps_there forks ends).put_forks (length (traffic_at near i).taken) fork
        (ap (λ (l : List Letter). slice_get l (length (traffic_at near i).taken)) ends.comes ∙ slice_get-behind (traffic_at near i).taken rest (Fork fork))).0

    -- by its turn one Fork less came than the other end was ahead in turns
    fork_turn : cond (is_lower_at plan (neighbour_at plan s i) j) 1 0 + requests_in (traffic_at near i).taken ≡ forks_in (traffic_at near i).taken + 1
    fork_turn = turn_of_fork (is_lower_at plan (neighbour_at plan s i) j) (traffic_at near i).taken rest fork
        (ap (is_alternating (is_lower_at plan (neighbour_at plan s i) j)) (sym ends.comes) ∙ (keeps_there forks ends).put_lawful.alternating)

    -- the fork is in the link and nowhere else
    fork_places : (fork_at plan s near i ≡ 0) × (forks_in forks ≡ 1) × (fork_at plan (neighbour_at plan s i) far j ≡ 0) × (forks_in going ≡ 0)
    fork_places = alone_second (fork_at plan s near i) (forks_in forks) (fork_at plan (neighbour_at plan s i) far j) (forks_in going) (one_fork plan s i (neighbour_at plan s i) j near far forks going ends) (omega arith)

    -- the token was put here, for this fork
    fork_no_token : token_at plan s near i ≡ 0
    fork_no_token =
        let sent : forks_in (traffic_at near i).taken + 1 ≤ forks_in (traffic_at far j).put = omega (arith, forks_coming plan s i (neighbour_at plan s i) j near far forks going ends) in
        let asked : requests_in (traffic_at far j).taken ≤ requests_in (traffic_at near i).put = omega (arith, requests_going plan s i (neighbour_at plan s i) j near far forks going ends) in
        receiver_has_no_token (cond (is_lower_at plan s i) 0 1) (cond (is_lower_at plan (neighbour_at plan s i) j) 1 0) (token_at plan s near i)
        (requests_in (traffic_at near i).put) (requests_in (traffic_at near i).taken) (forks_in (traffic_at near i).taken) (forks_in (traffic_at far j).put) (requests_in (traffic_at far j).taken)
        (token_side (is_lower_at plan s i) (is_lower_at plan (neighbour_at plan s i) j) ends.other_side) (keeps_here forks ends).tokens_counted fork_turn sent (keeps_there forks ends).given_when_asked asked

    -- it is the last Fork that the other end put
    fork_is_last : last_log_or [] (traffic_at far j).put ≡ fork.log
    fork_is_last =
        let none : forks_in rest ≡ 0 = omega (arith, fork_places.1) in
        ap (last_log_or []) ends.comes ∙ last_log_or-append [] (traffic_at near i).taken forks ∙ last_log_or-none fork.log rest none

    -- it was sent here
    fork_sent : IsSent s (meals_of s (last_log_or [] (traffic_at far j).taken)) fork.log
    fork_sent =
        let away : forks_in (traffic_at far j).put ≡ cond (is_lower_at plan (neighbour_at plan s i) j) 1 0 + forks_in (traffic_at far j).taken = omega (arith, (keeps_there forks ends).forks_counted, fork_places.2) in
        let some : 1 ≤ forks_in (traffic_at far j).put = omega (arith, forks_coming plan s i (neighbour_at plan s i) j near far forks going ends) in
        subst (IsSent s (meals_of s (last_log_or [] (traffic_at far j).taken))) fork_is_last
        (subst (λ (to : ℕ). IsSent to (meals_of to (last_log_or [] (traffic_at far j).taken)) (last_log_or [] (traffic_at far j).put)) ends.back
        (last_sent plan (neighbour_at plan s i) (edge_at plan (neighbour_at plan s i) j) far.ate (traffic_at far j) (λ same. ends.differ (sym (same ∙ ends.back))) (keeps_there forks ends).put_chained away some))

    -- its log ends here
    fork_ends_here : was_sent_to (lo_of plan (edge_at plan s i)) s fork.log ≡ true
    fork_ends_here =
        let clean : is_dirty fork.log ≡ false = ap is_dirty fork_sent.is ∙ is_dirty-push_move fork_sent.before s in
        let here : location_of (lo_of plan (edge_at plan s i)) fork.log ≡ s = ap (location_of (lo_of plan (edge_at plan s i))) fork_sent.is ∙ location_of-push_move (lo_of plan (edge_at plan s i)) fork_sent.before s in
        and_from _ _ (not_from_false (is_dirty fork.log) clean) (eq-eqb (location_of (lo_of plan (edge_at plan s i)) fork.log) s here)

    -- it has the meals that this site put into it, and no others of it
    fork_has_ours : meals_of s fork.log ≡ near.ate
    fork_has_ours = ap (meals_of s) fork_sent.is ∙ meals_of-push_move s fork_sent.before s ∙ fork_sent.meals_are
        ∙ ap (meals_of s) (sym (last_taken_is_put forks ends fork_places.3)) ∙ (keeps_here forks ends).put_chained.last fork_places.0

    -- and all meals of the other end
    fork_has_theirs : meals_of (neighbour_at plan s i) fork.log ≡ far.ate
    fork_has_theirs = ap (meals_of (neighbour_at plan s i)) (sym fork_is_last) ∙ (keeps_there forks ends).put_chained.last fork_places.2

    -- where Done came before it, it has all meals that are due to the other end
    fork_after_done : (not (has_done (traffic_at near i).taken) || has_all_of_neighbour plan s near i fork.log) ≡ true
    fork_after_done = elim (cases_Bool (has_done (traffic_at near i).taken)) [
      | inl done ↦ or_right (not (has_done (traffic_at near i).taken)) (has_all_of_neighbour plan s near i fork.log)
          (all_or_resigns forks ends fork.log fork_has_theirs (done_there forks ends done))
      | inr not_done ↦ or_left (not (has_done (traffic_at near i).taken)) (has_all_of_neighbour plan s near i fork.log) (not_from_false (has_done (traffic_at near i).taken) not_done)
    ]

    -- so it may come
    fork_may_come : may_come plan s near i (Fork fork) ≡ true
    fork_may_come =
        let no_fork = eq-eqb (fork_at plan s near i) 0 fork_places.0 in
        let no_token = eq-eqb (token_at plan s near i) 0 fork_no_token in
        let meals = eq-eqb (meals_of s fork.log) near.ate fork_has_ours in
        and_from _ _ (and_from _ _ (and_from _ _ fork_is_ours (and_from _ _ no_fork no_token)) (and_from _ _ fork_ends_here meals)) fork_after_done

  -- ---- Done and Close

  module _ (rest : List Letter) where
    -- where the fork is here, it has all meals of the other end, which put Done
    done_has_all : (ends : Joined plan s i (neighbour_at plan s i) j near far (Done ∷ rest) going) → (not (fork_at plan s near i == 1) || has_all_of_neighbour plan s near i (hand_at s near i)) ≡ true
    done_has_all ends =
        let put : has_done (traffic_at far j).put ≡ true = ap has_done ends.comes ∙ has_done-append (traffic_at near i).taken (Done ∷ rest) ∙ or_right (has_done (traffic_at near i).taken) true refl in
        elim (cases_Bool (fork_at plan s near i == 1)) [
          | inl one ↦ or_right (not (fork_at plan s near i == 1)) (has_all_of_neighbour plan s near i (hand_at s near i))
              (all_or_resigns (Done ∷ rest) ends (hand_at s near i) (hand_has_theirs (Done ∷ rest) ends (eqb-true (fork_at plan s near i) 1 one)) put)
          | inr none ↦ or_left (not (fork_at plan s near i == 1)) (has_all_of_neighbour plan s near i (hand_at s near i)) (not_from_false (fork_at plan s near i == 1) none)
        ]

    -- so Done may come
    done_may_come : (ends : Joined plan s i (neighbour_at plan s i) j near far (Done ∷ rest) going) → may_come plan s near i Done ≡ true
    done_may_come ends = and_from _ _ (not_from_false (has_done (traffic_at near i).taken)
        (not_done_before_done (traffic_at near i).taken rest (ap is_done_last (sym ends.comes) ∙ (keeps_there (Done ∷ rest) ends).put_lawful.done_last))) (done_has_all ends)

    -- Close may come, since it was put behind Done, and after Done was taken
    close_may_come : (ends : Joined plan s i (neighbour_at plan s i) j near far (Close ∷ rest) going) → KeepsOrder (traffic_at far j) → may_come plan s near i Close ≡ true
    close_may_come ends order =
        let put : has_close (traffic_at far j).put ≡ true = ap has_close ends.comes ∙ has_close-append (traffic_at near i).taken (Close ∷ rest) ∙ or_right (has_close (traffic_at near i).taken) true refl in
        and_from _ _ (done_before_close (traffic_at near i).taken rest (ap is_orderly (sym ends.comes) ∙ order.orderly)) (done_here (Close ∷ rest) ends (order.closed_after put))

  -- ---- any letter

  -- nothing comes after Close
  pub still_open : (l : Letter) (rest : List Letter) → Joined plan s i (neighbour_at plan s i) j near far (l ∷ rest) going → not (has_close (traffic_at near i).taken) ≡ true
  still_open l rest ends = not_from_false (has_close (traffic_at near i).taken) (open_before (traffic_at near i).taken rest l (ap is_close_last (sym ends.comes) ∙ (keeps_there (l ∷ rest) ends).put_lawful.close_last))

  -- a letter that may come is allowed
  allowed_so : (l : Letter) (rest : List Letter) → Joined plan s i (neighbour_at plan s i) j near far (l ∷ rest) going → may_come plan s near i l ≡ true → is_allowed plan s near i l ≡ true
  allowed_so l rest ends may = and_from (not (has_close (traffic_at near i).taken)) (may_come plan s near i l) (still_open l rest ends) may

  -- each letter but Close is allowed, whether the sites break off or not
  pub allowed_or_close : (l : Letter) (rest : List Letter) → Joined plan s i (neighbour_at plan s i) j near far (l ∷ rest) going → (is_allowed plan s near i l ≡ true) ⊎ (l ≡ Close)
  allowed_or_close (Request edge) rest ends = inl (allowed_so (Request edge) rest ends (request_may_come edge rest ends))
  allowed_or_close (Fork fork) rest ends = inl (allowed_so (Fork fork) rest ends (fork_may_come fork rest ends))
  allowed_or_close Done rest ends = inl (allowed_so Done rest ends (done_may_come rest ends))
  allowed_or_close Close rest ends = inr refl

  -- and so is Close, where the sites end in order
  pub next_is_allowed : (l : Letter) (rest : List Letter) → Joined plan s i (neighbour_at plan s i) j near far (l ∷ rest) going → KeepsOrder (traffic_at far j) → is_allowed plan s near i l ≡ true
  next_is_allowed l rest ends order = elim (allowed_or_close l rest ends) [
    | inl allowed ↦ allowed
    | inr is ↦ allowed_so l rest ends (subst (λ (x : Letter). may_come plan s near i x ≡ true) (sym is)
        (close_may_come rest (subst (λ (x : Letter). Joined plan s i (neighbour_at plan s i) j near far (x ∷ rest) going) is ends) order))
  ]
