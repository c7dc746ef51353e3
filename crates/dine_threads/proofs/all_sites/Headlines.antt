-- From what all sites left to the headline: one fork an edge, its log, and the tokens.
use Rattle.std.proofs.Common.{◌≡◌, ◌≢◌, ◌⊎◌, ℕ, zero, suc, ◌+◌, ◌*◌, ◌<◌, ◌≤◌, ◌==◌, ◌||◌, Bool, true, false, List, [], ◌∷◌, All, filter, length, map, replicate, slice_get, Option, Some, None, option_map, refl, sym, ◌∙◌, ap, ap₂, subst, inl, inr, arith, if◌then◌else◌}
use Rattle.std.specs.List.{range_with_len}
use Rattle.std.specs.Prelude.{nat_lt}
use Rattle.std.proofs.lemmas.Bool.{and_parts, cases_Bool, cases_eq, eqb-true, false_from_ne_true, le-ltb, lt-ltb, true≢false, cond-true, cond-false, eq-eqb, ne_eqb, or_left, or_right}
use Rattle.std.proofs.lemmas.List.{ext_get_or, get_or-map, length-map, length-replicate}
use Rattle.std.proofs.Math.Nat.{zero-add}
use Rattle.std.proofs.lemmas.Option.{get_or_from_slice_get, same_Some, slice_get-map, slice_get_within, none-some}
use Rattle.dine_token.specs.Fork.{SeenFork}
use Rattle.dine_graph.specs.Plan.{SeenPlan, IsPlan, site_count, edge_count, edges_of, is_end, job_count, lo_of, hi_of}
use Rattle.dine_rules.specs.Holdings.{forks_held, tokens_held, fork_at, token_at, hand}
use Rattle.dine_rules.specs.JoinedEnds.{AccountsForFork, AccountsForToken, AreForksLinked, AreWhollyTaken, HaveOneWholeFork, IsWholeLog}
use Rattle.dine_rules.specs.declared.events.EventKind.{EventKind}
use Rattle.dine_rules.specs.declared.phase.Phase.{Phase}
use Rattle.dine_rules.specs.declared.phase.Phase.TheVariants.{Thinking, Hungry, Eating}
use Rattle.dine_rules.specs.Journals.{journal_of}
use Rattle.dine_rules.specs.Local.{LocalState, Traffic, edge_at, is_thinking, no_traffic, traffic_at}
use Rattle.dine_rules.specs.Steps.{fork_by, fork_with, hand_fork_at}
use Rattle.dine_rules.specs.Values.{KeepsValuesOfLogs, hand_value, value_by}
use Rattle.dine_rules.specs.Letters.{forks_among}
use Rattle.dine_rules.specs.declared.letters.Letter.{Letter}
use Rattle.dine_rules.specs.Streams.{KeepsStreams}
use Rattle.dine_rules.specs.World.{place_of}
use Rattle.dine_rules.proofs.shared.links.Across.{edge_at-place_of, place_of-edge_at}
use Rattle.dine_rules.proofs.shared.one_place.Placed.{placed}
use Rattle.dine_site.specs.Core.{forks_in_hand, tokens_in_hand}
use Rattle.dine_link.specs.Links.{SeenLink}
use Rattle.dine_threads.specs.declared.gathered.SiteOut.{SiteOut}
use Rattle.dine_threads.specs.declared.starts.SiteStart.{SiteStart}
use Rattle.dine_site_thread.specs.declared.manner.Manner.{Manner}
use Rattle.dine_site_thread.specs.declared.site_end.SiteEnd.{SiteEnd}
use Rattle.dine_threads.specs.declared.slots.Spot.{Spot}
use Rattle.dine_threads.specs.private.Collecting.{AreLinksLeft, forks_left, forks_found, in_slots, out_of, rows_left}
use Rattle.dine_threads.specs.Gathered.{IsClosedWhole, low_traffic, high_traffic, traffic_of, no_link}
use Rattle.dine_threads.specs.Headline.{AllJoined, AreTokensOf, IsHeadline, ate_of, log_in_hand}
use Rattle.dine_site_thread.specs.Doings.{HasActed}
use Rattle.dine_threads.specs.Journals.{HaveActed, state_left}
use Rattle.dine_site_thread.specs.Ports.{SeenPort, seen_port, seen_ports}
use Rattle.dine_threads.specs.private.Spots.{low_spot, high_spot}
use Rattle.dine_threads.specs.private.Wirings.{AreWired, port_at}
use Rattle.dine_threads.proofs.shared.all_sites.Collected.{length-in_slots}
use Rattle.dine_threads.proofs.all_sites.Gatherings.{AreAllLeft, end_for, end_of, ends_count, forks_each, forks_of_all, left_at, put_at, row_of, taken_at}
use Rattle.dine_site_thread.proofs.shared.one_site.Letters.{same_traffic}
use Rattle.dine_threads.proofs.all_sites.InSlots.{IsFilled, IsIn, IsOnly, found_edges, found_get, in_first, in_here, in_second, in_where, in_slots_puts}
use Rattle.dine_site_thread.proofs.shared.lists.Seen.{there_is}
use Rattle.dine_threads.proofs.lists.Writes.{same_spot}
use Rattle.dine_link.specs.declared.lane.Lane.{Ghosts}
use Rattle.dine_site_thread.specs.declared.diner.Diner as diners

-- two states are the same, part by part
same_state : (a b : LocalState) → a.phase ≡ b.phase → a.ate ≡ b.ate → a.must_quit ≡ b.must_quit → a.has_quit ≡ b.has_quit → a.traffic ≡ b.traffic → a ≡ b
same_state a b phase ate must has traffic =
    ap (λ p. let x : LocalState = record a { phase = p } in x) phase
    ∙ ap (λ n. let x : LocalState = record a { phase = b.phase; ate = n } in x) ate
    ∙ ap (λ q. let x : LocalState = record { phase = b.phase; ate = b.ate; must_quit = q; has_quit = a.has_quit; traffic = a.traffic } in x) must
    ∙ ap (λ q. let x : LocalState = record b { has_quit = q; traffic = a.traffic } in x) has
    ∙ ap (λ t. let x : LocalState = record b { traffic = t } in x) traffic

-- a site that has no job left does not have to quit, and it has quit where it did not eat all
quits_done : (plan : SeenPlan) (s : ℕ) (state : LocalState) → KeepsStreams plan s state → (state.ate == job_count plan s || state.has_quit) ≡ true → (state.must_quit ≡ false) × (state.has_quit ≡ nat_lt state.ate (job_count plan s))
quits_done plan s state keeps done = elim (cases_Bool state.has_quit) [
  | inl quit ↦ (
    false_from_ne_true state.must_quit (λ must. true≢false (sym quit ∙ keeps.quits_once must)),
    quit ∙ sym (lt-ltb state.ate (job_count plan s) (keeps.has_dropped quit).2),
  )
  | inr went ↦
      let all : state.ate ≡ job_count plan s = eqb-true state.ate (job_count plan s) (eaten (state.ate == job_count plan s) state.has_quit done went) in (
        false_from_ne_true state.must_quit (λ must. omega (arith, all, (keeps.must_drop must).2)),
        went ∙ sym (le-ltb state.ate (job_count plan s) (omega (arith, all))),
      )
] where
  eaten : (b c : Bool) → (b || c) ≡ true → c ≡ false → b ≡ true
  eaten true c h none = refl
  eaten false c h none = absurd (true≢false (sym h ∙ none))

thinks : (p : Phase) → is_thinking p ≡ true → p ≡ Thinking
thinks Thinking h = refl
thinks Hungry h = absurd cc
thinks Eating h = absurd cc

-- a fork that a site holds at a place is among those in its hand
pub in_hand : (plan : SeenPlan) (s : ℕ) (state : LocalState) (a n i : ℕ) → a ≤ i → i < a + n → fork_at plan s state i ≡ 1
    → IsIn (hand_fork_at plan s state i) (forks_in_hand plan s state (range_with_len a n))
in_hand plan s state a zero i low high held = absurd (omega (arith, low, high))
in_hand plan s state a (suc n) i low high held =
    let fork : ℕ → SeenFork = λ j. hand_fork_at plan s state j in
    let rest = forks_in_hand plan s state (range_with_len (a + 1) n) in
    elim (cases_eq a i) [
      | inl same ↦ subst (λ j. IsIn (fork j) (if fork_at plan s state a == 1 then fork a ∷ rest else rest)) same
          (in_here (fork_at plan s state a == 1) (fork a) rest (eq-eqb (fork_at plan s state a) 1 (ap (fork_at plan s state) same ∙ held)))
      | inr later ↦ in_where (fork_at plan s state a == 1) (fork i) (fork a) rest (in_hand plan s state (a + 1) n i (omega (arith, low, later)) (omega (arith, high)) held)
    ]

pub in_all : {Lane Tx Closed Rx D : Type 0} (fork : SeenFork) (ends : List (SiteEnd Lane D Tx Closed Rx)) (s : ℕ) (end : SiteEnd Lane D Tx Closed Rx) → slice_get ends s ≡ Some end → IsIn fork end.forks.items → IsIn fork (forks_left ends)
in_all fork [] s end at h = absurd (none-some end at)
in_all fork (e ∷ ends) zero end at h = in_first fork e.forks.items (forks_left ends) (subst (λ (x : SiteEnd _ _ _ _ _). IsIn fork x.forks.items) (sym (same_Some e end at)) h)
in_all fork (e ∷ ends) (suc s) end at h = in_second fork e.forks.items (forks_left ends) (in_all fork ends s end at h)

-- the tokens in hand are those of the edges that pass, where the site holds a token exactly there
tokens_passing : (plan : SeenPlan) (s : ℕ) (state : LocalState) (q : ℕ → Bool) (es : List ℕ) (a : ℕ) → ((k e : ℕ) → slice_get es k ≡ Some e → (edge_at plan s (a + k) ≡ e) × ((token_at plan s state (a + k) == 1) ≡ q e))
    → tokens_in_hand plan s state (range_with_len a (length es)) ≡ filter q es
tokens_passing plan s state q [] a each = refl
tokens_passing plan s state q (e ∷ es) a each =
    let here = each 0 e refl in
    let still : a + 0 ≡ a = omega arith in
    let edge : edge_at plan s a ≡ e = ap (edge_at plan s) (sym still) ∙ here.0 in
    let passes : (token_at plan s state a == 1) ≡ q e = ap (λ i. token_at plan s state i == 1) (sym still) ∙ here.1 in
    let rest = tokens_passing plan s state q es (a + 1) (λ k x at. let later = each (suc k) x at in
    let shift : a + suc k ≡ a + 1 + k = omega arith in
    (ap (edge_at plan s) (sym shift) ∙ later.0, ap (λ i. token_at plan s state i == 1) (sym shift) ∙ later.1)) in
    ap (λ l. if token_at plan s state a == 1 then edge_at plan s a ∷ l else l) rest
    ∙ ap (λ x. if token_at plan s state a == 1 then x ∷ filter q es else filter q es) edge
    ∙ ap (λ b. if b then e ∷ filter q es else filter q es) passes

module _ {Lane Tx Closed Rx D : Type 0} {lane : Ghosts Lane Tx Closed Rx}
    {eater : diners.Ghosts D} {manner : Manner} {plan : SeenPlan}
    {starts : List (SiteStart Lane D Tx Closed Rx)} {ends : List (SiteEnd Lane D Tx Closed Rx)} (all : AreAllLeft lane eater manner plan starts ends)
    (no_fault : (s : ℕ) (end : SiteEnd Lane D Tx Closed Rx) → slice_get ends s ≡ Some end → end.fault ≡ None)
    (links : List SeenLink) (are_left : AreLinksLeft plan (rows_left lane ends) links) (are_wired : AreWired plan (rows_left lane ends)) where
  abbrev pub port_traffic : SeenPort lane.Identity → Traffic
  port_traffic port = record { put = port.tx.letters; taken = port.rx.letters }

  low_is : (edge : ℕ) (within : edge < edge_count plan) → low_traffic links edge ≡ port_traffic (are_wired edge within).low
  low_is edge within =
      let w = are_wired edge within in
      same_traffic (low_traffic links edge) (port_traffic w.low) (ap (λ (l : SeenLink). l.put) (are_left.from_low edge w.low w.high within w.at_low w.at_high)) (ap (λ (l : SeenLink). l.taken) (are_left.from_high edge w.low w.high within w.at_low w.at_high))

  high_is : (edge : ℕ) (within : edge < edge_count plan) → high_traffic links edge ≡ port_traffic (are_wired edge within).high
  high_is edge within =
      let w = are_wired edge within in
      same_traffic (high_traffic links edge) (port_traffic w.high) (ap (λ (l : SeenLink). l.put) (are_left.from_high edge w.low w.high within w.at_low w.at_high)) (ap (λ (l : SeenLink). l.taken) (are_left.from_low edge w.low w.high within w.at_low w.at_high))

  -- what the lower end did is the low traffic, and what the higher did the high
  of_low : (edge : ℕ) → traffic_of plan links (lo_of plan edge) edge ≡ low_traffic links edge
  of_low edge = cond-true (lo_of plan edge == lo_of plan edge) (low_traffic links edge) (high_traffic links edge) (eq-eqb (lo_of plan edge) (lo_of plan edge) refl)

  of_high : (edge : ℕ) → edge < edge_count plan → traffic_of plan links (hi_of plan edge) edge ≡ high_traffic links edge
  of_high edge within =
      let ordered = all.is_plan.ordered edge within in
      cond-false (lo_of plan edge == hi_of plan edge) (low_traffic links edge) (high_traffic links edge) (ne_eqb (lo_of plan edge) (hi_of plan edge) (λ same. omega (arith, ordered, same)))

  -- what a site did at a place is what its end of the edge did
  did_at : (s : ℕ) (end : SiteEnd Lane D Tx Closed Rx) (at : slice_get ends s ≡ Some end) (i : ℕ) → i < length (edges_of plan s) → traffic_at (left_at all s end at).left.state i ≡ traffic_of plan links s (edge_at plan s i)
  did_at s end at i inside =
      let here = left_at all s end at in
      let state = here.left.state in
      let edge = edge_at plan s i in
      let p = placed plan s i all.is_plan inside in
      let w = are_wired edge p.edge_within in
      let spot : Spot = record { site = s; at = i } in
      let rows = rows_left lane ends in
      let port = there_is (seen_ports lane end.ports.items) i (omega (arith, inside, here.degree, length-map end.ports.items (seen_port lane))) in
      let stands : port_at rows spot ≡ Some port.0 = ap (λ row. slice_get row i) (row_of (λ (e : SiteEnd Lane D Tx Closed Rx). seen_ports lane e.ports.items) ends s end at) ∙ port.1 in
      let did : traffic_at state i ≡ port_traffic port.0 = same_traffic (traffic_at state i) (port_traffic port.0) (sym (put_at all s end i port.0 at (no_fault s end at) port.1)) (sym (taken_at all s end i port.0 at (no_fault s end at) port.1)) in
      let place = place_of-edge_at plan s i inside in
      elim p.sides [
        | inl low ↦
            let same : spot ≡ low_spot plan edge = same_spot spot (low_spot plan edge) (sym low.0) (sym (ap (λ x. place_of plan x edge) low.0 ∙ place)) in
            let is : port.0 ≡ w.low = same_Some port.0 w.low (sym stands ∙ ap (port_at rows) same ∙ w.at_low) in
            did ∙ ap port_traffic is ∙ sym (low_is edge p.edge_within) ∙ sym (of_low edge) ∙ ap (λ x. traffic_of plan links x edge) low.0
        | inr high ↦
            let same : spot ≡ high_spot plan edge = same_spot spot (high_spot plan edge) (sym high.0) (sym (ap (λ x. place_of plan x edge) high.0 ∙ place)) in
            let is : port.0 ≡ w.high = same_Some port.0 w.high (sym stands ∙ ap (port_at rows) same ∙ w.at_high) in
            did ∙ ap port_traffic is ∙ sym (high_is edge p.edge_within) ∙ sym (of_high edge p.edge_within) ∙ ap (λ x. traffic_of plan links x edge) high.0
      ]

  abbrev pub ates : List ℕ
  ates = map (λ (out : SiteOut D). out.ate) (map out_of ends)

  ate_is : (s : ℕ) (end : SiteEnd Lane D Tx Closed Rx) (at : slice_get ends s ≡ Some end) → (left_at all s end at).left.state.ate ≡ ate_of plan ates links s
  ate_is s end at =
      sym (left_at all s end at).left.ended.ate
      ∙ sym (get_or_from_slice_get ates s end.ate 0 (slice_get-map (λ (out : SiteOut D). out.ate) (map out_of ends) s ∙ ap (option_map (λ (out : SiteOut D). out.ate)) (slice_get-map out_of ends s ∙ ap (option_map out_of) at)))

  -- the state in which a site was left is the one that its links tell
  state_is : (s : ℕ) (end : SiteEnd Lane D Tx Closed Rx) (at : slice_get ends s ≡ Some end) → (left_at all s end at).left.state ≡ state_left plan ates links s
  state_is s end at =
      let left = (left_at all s end at).left in
      let finished = and_parts _ _ (and_parts _ _ (left.ended.finished (no_fault s end at))).0 in
      let quits = quits_done plan s left.state left.ended.keeps finished.1 in
      same_state left.state (state_left plan ates links s) (thinks left.state.phase finished.0) (ate_is s end at) quits.0 (quits.1 ∙ ap (λ n. nat_lt n (job_count plan s)) (ate_is s end at))
      (ext_get_or no_traffic left.state.traffic (map (traffic_of plan links s) (edges_of plan s)) (left.ended.keeps.every_place ∙ sym (length-map (edges_of plan s) (traffic_of plan links s)))
      (λ i within. let inside : i < length (edges_of plan s) = omega (arith, within, left.ended.keeps.every_place) in
      did_at s end at i inside ∙ sym (get_or-map (traffic_of plan links s) (edges_of plan s) i 0 no_traffic inside)))

  -- so the journal of each site leads to what its links tell, each event in its turn
  pub all_acted : HaveActed plan ates links manner (map (λ (out : SiteOut D). out.journal.items) (map out_of ends))
  all_acted s is_site =
      let end = end_of all s is_site in
      let did = (left_at all s end.0 end.1).left.ended.did_all (no_fault s end.0 end.1) in
      let journal : journal_of (map (λ (out : SiteOut D). out.journal.items) (map out_of ends)) s ≡ end.0.journal.items =
      get_or_from_slice_get _ s end.0.journal.items [] (slice_get-map (λ (out : SiteOut D). out.journal.items) (map out_of ends) s ∙ ap (option_map (λ (out : SiteOut D). out.journal.items)) (slice_get-map out_of ends s ∙ ap (option_map out_of) end.1)) in
      subst (λ (kinds : List EventKind). HasActed manner plan s kinds (state_left plan ates links s)) (sym journal)
      (subst (HasActed manner plan s end.0.journal.items) (state_is s end.0 end.1) did)

  -- there is one journal for each site
  pub journals_count : length (map (λ (out : SiteOut D). out.journal.items) (map out_of ends)) ≡ site_count plan
  journals_count = length-map (map out_of ends) (λ (out : SiteOut D). out.journal.items) ∙ length-map ends out_of ∙ ends_count all

  -- no site ate more often than it has jobs
  pub ate_few : (s : ℕ) → s < site_count plan → ate_of plan ates links s ≤ job_count plan s
  ate_few s is_site = let end = end_of all s is_site in omega (arith, (left_at all s end.0 end.1).left.ended.keeps.ate_within, ate_is s end.0 end.1)

  module _ (fork_law : (plan : SeenPlan) (s i : ℕ) (state : LocalState) → KeepsStreams plan s state → i < length (edges_of plan s) → AccountsForFork plan s (edge_at plan s i) state.ate (traffic_at state i))
      (token_law : (plan : SeenPlan) (s i : ℕ) (state : LocalState) → IsPlan plan → KeepsStreams plan s state → i < length (edges_of plan s) → AccountsForToken plan s (edge_at plan s i) (traffic_at state i))
      (joined_fork : (plan : SeenPlan) (edge low_ate high_ate : ℕ) (low high : Traffic) → IsPlan plan → edge < edge_count plan → AccountsForFork plan (lo_of plan edge) edge low_ate low → AccountsForFork plan (hi_of plan edge) edge high_ate high → AreWhollyTaken low high → HaveOneWholeFork plan edge low_ate high_ate low high)
      (joined_token : (plan : SeenPlan) (edge : ℕ) (low high : Traffic) → IsPlan plan → edge < edge_count plan → AccountsForToken plan (lo_of plan edge) edge low → AccountsForToken plan (hi_of plan edge) edge high → AreWhollyTaken low high → tokens_held plan (lo_of plan edge) edge low + tokens_held plan (hi_of plan edge) edge high ≡ 1)
      (low_values : (plan : SeenPlan) (edge low_ate high_ate : ℕ) (low high : Traffic) → IsPlan plan → edge < edge_count plan → AccountsForFork plan (lo_of plan edge) edge low_ate low → AccountsForFork plan (hi_of plan edge) edge high_ate high → AreForksLinked low high → KeepsValuesOfLogs plan (lo_of plan edge) edge low_ate low)
      (high_values : (plan : SeenPlan) (edge low_ate high_ate : ℕ) (low high : Traffic) → IsPlan plan → edge < edge_count plan → AccountsForFork plan (lo_of plan edge) edge low_ate low → AccountsForFork plan (hi_of plan edge) edge high_ate high → AreForksLinked low high → KeepsValuesOfLogs plan (hi_of plan edge) edge high_ate high)
      (closed : All IsClosedWhole links) where
    -- each end of an edge accounts for its fork and its token, by the links' lists
    accounts_fork : (s edge : ℕ) → s < site_count plan → edge < edge_count plan → is_end plan s edge ≡ true → AccountsForFork plan s edge (ate_of plan ates links s) (traffic_of plan links s edge)
    accounts_fork s edge is_site within is =
        let end = end_of all s is_site in
        let place = edge_at-place_of plan s edge within is in
        let i = place_of plan s edge in
        let state = (left_at all s end.0 end.1).left.state in
        subst (λ e. AccountsForFork plan s e (ate_of plan ates links s) (traffic_of plan links s e)) place.1
        (subst (λ t. AccountsForFork plan s (edge_at plan s i) (ate_of plan ates links s) t) (did_at s end.0 end.1 i place.0)
        (subst (λ n. AccountsForFork plan s (edge_at plan s i) n (traffic_at state i)) (ate_is s end.0 end.1)
        (fork_law plan s i state (left_at all s end.0 end.1).left.ended.keeps place.0)))

    accounts_token : (s edge : ℕ) → s < site_count plan → edge < edge_count plan → is_end plan s edge ≡ true → AccountsForToken plan s edge (traffic_of plan links s edge)
    accounts_token s edge is_site within is =
        let end = end_of all s is_site in
        let place = edge_at-place_of plan s edge within is in
        let i = place_of plan s edge in
        let state = (left_at all s end.0 end.1).left.state in
        subst (λ e. AccountsForToken plan s e (traffic_of plan links s e)) place.1
        (subst (λ t. AccountsForToken plan s (edge_at plan s i) t) (did_at s end.0 end.1 i place.0)
        (token_law plan s i state all.is_plan (left_at all s end.0 end.1).left.ended.keeps place.0))

    low_site : (edge : ℕ) → edge < edge_count plan → lo_of plan edge < site_count plan
    low_site edge within = let ordered = all.is_plan.ordered edge within in let bound = all.is_plan.within edge within in omega (arith, ordered, bound)

    low_end : (edge : ℕ) → is_end plan (lo_of plan edge) edge ≡ true
    low_end edge = or_left (lo_of plan edge == lo_of plan edge) (hi_of plan edge == lo_of plan edge) (eq-eqb (lo_of plan edge) (lo_of plan edge) refl)

    high_end : (edge : ℕ) → is_end plan (hi_of plan edge) edge ≡ true
    high_end edge = or_right (lo_of plan edge == hi_of plan edge) (hi_of plan edge == hi_of plan edge) (eq-eqb (hi_of plan edge) (hi_of plan edge) refl)

    taken_whole : (edge : ℕ) → edge < edge_count plan → AreWhollyTaken (low_traffic links edge) (high_traffic links edge)
    taken_whole edge within = record {
      comes = (closed (2 * edge + 1) no_link (omega (arith, within, are_left.count))).taken;
      goes = (closed (2 * edge) no_link (omega (arith, within, are_left.count))).taken;
    }

    low_accounts : (edge : ℕ) → edge < edge_count plan → AccountsForFork plan (lo_of plan edge) edge (ate_of plan ates links (lo_of plan edge)) (low_traffic links edge)
    low_accounts edge within = subst (AccountsForFork plan (lo_of plan edge) edge (ate_of plan ates links (lo_of plan edge))) (of_low edge) (accounts_fork (lo_of plan edge) edge (low_site edge within) within (low_end edge))

    high_accounts : (edge : ℕ) → edge < edge_count plan → AccountsForFork plan (hi_of plan edge) edge (ate_of plan ates links (hi_of plan edge)) (high_traffic links edge)
    high_accounts edge within = subst (AccountsForFork plan (hi_of plan edge) edge (ate_of plan ates links (hi_of plan edge))) (of_high edge within) (accounts_fork (hi_of plan edge) edge (all.is_plan.within edge within) within (high_end edge))

    -- one of the two ends has the fork, with a whole log
    one_whole : (edge : ℕ) → edge < edge_count plan → HaveOneWholeFork plan edge (ate_of plan ates links (lo_of plan edge)) (ate_of plan ates links (hi_of plan edge)) (low_traffic links edge) (high_traffic links edge)
    one_whole edge within =
        joined_fork plan edge (ate_of plan ates links (lo_of plan edge)) (ate_of plan ates links (hi_of plan edge)) (low_traffic links edge) (high_traffic links edge) all.is_plan within
        (low_accounts edge within) (high_accounts edge within) (taken_whole edge within)

    -- all Forks that were put are taken
    linked : (edge : ℕ) → edge < edge_count plan → AreForksLinked (low_traffic links edge) (high_traffic links edge)
    linked edge within =
        let taken = taken_whole edge within in
        record {
          comes = λ k fork at. ap (λ (letters : List Letter). slice_get (forks_among letters) k) (sym taken.comes) ∙ at;
          goes = λ k fork at. ap (λ (letters : List Letter). slice_get (forks_among letters) k) (sym taken.goes) ∙ at;
        }

    -- the value in the hand of an end is that of the log
    value_in_hand : (s edge : ℕ) → edge < edge_count plan → (lo_of plan edge ≡ s) ⊎ (hi_of plan edge ≡ s)
        → hand_value plan s edge (ate_of plan ates links s) (traffic_of plan links s edge) ≡ value_by plan edge (hand s (ate_of plan ates links s) (traffic_of plan links s edge))
    value_in_hand s edge within (inl low) =
        subst (λ x. hand_value plan x edge (ate_of plan ates links x) (traffic_of plan links x edge) ≡ value_by plan edge (hand x (ate_of plan ates links x) (traffic_of plan links x edge))) low
        (subst (λ t. hand_value plan (lo_of plan edge) edge (ate_of plan ates links (lo_of plan edge)) t ≡ value_by plan edge (hand (lo_of plan edge) (ate_of plan ates links (lo_of plan edge)) t)) (sym (of_low edge))
        (low_values plan edge _ _ (low_traffic links edge) (high_traffic links edge) all.is_plan within (low_accounts edge within) (high_accounts edge within) (linked edge within)).in_hand)
    value_in_hand s edge within (inr high) =
        subst (λ x. hand_value plan x edge (ate_of plan ates links x) (traffic_of plan links x edge) ≡ value_by plan edge (hand x (ate_of plan ates links x) (traffic_of plan links x edge))) high
        (subst (λ t. hand_value plan (hi_of plan edge) edge (ate_of plan ates links (hi_of plan edge)) t ≡ value_by plan edge (hand (hi_of plan edge) (ate_of plan ates links (hi_of plan edge)) t)) (sym (of_high edge within))
        (high_values plan edge _ _ (low_traffic links edge) (high_traffic links edge) all.is_plan within (low_accounts edge within) (high_accounts edge within) (linked edge within)).in_hand)

    -- the log of an end that holds the fork is the one in hand
    low_log : (edge : ℕ) → forks_held plan (lo_of plan edge) edge (low_traffic links edge) ≡ 1 → log_in_hand plan ates links edge ≡ hand (lo_of plan edge) (ate_of plan ates links (lo_of plan edge)) (low_traffic links edge)
    low_log edge held = cond-true (forks_held plan (lo_of plan edge) edge (low_traffic links edge) == 1) _ _ (eq-eqb _ 1 held)

    high_log : (edge : ℕ) → forks_held plan (lo_of plan edge) edge (low_traffic links edge) ≢ 1 → log_in_hand plan ates links edge ≡ hand (hi_of plan edge) (ate_of plan ates links (hi_of plan edge)) (high_traffic links edge)
    high_log edge away = cond-false (forks_held plan (lo_of plan edge) edge (low_traffic links edge) == 1) _ _ (ne_eqb _ 1 away)

    held_log : (s edge : ℕ) → edge < edge_count plan → (lo_of plan edge ≡ s) ⊎ (hi_of plan edge ≡ s) → forks_held plan s edge (traffic_of plan links s edge) ≡ 1
        → hand s (ate_of plan ates links s) (traffic_of plan links s edge) ≡ log_in_hand plan ates links edge
    held_log s edge within (inl low) held =
        subst (λ x. forks_held plan x edge (traffic_of plan links x edge) ≡ 1 → hand x (ate_of plan ates links x) (traffic_of plan links x edge) ≡ log_in_hand plan ates links edge) low
        (λ h. ap (hand (lo_of plan edge) (ate_of plan ates links (lo_of plan edge))) (of_low edge) ∙ sym (low_log edge (ap (forks_held plan (lo_of plan edge) edge) (sym (of_low edge)) ∙ h))) held
    held_log s edge within (inr high) held =
        subst (λ x. forks_held plan x edge (traffic_of plan links x edge) ≡ 1 → hand x (ate_of plan ates links x) (traffic_of plan links x edge) ≡ log_in_hand plan ates links edge) high
        (λ h.
        let here : forks_held plan (hi_of plan edge) edge (high_traffic links edge) ≡ 1 = ap (forks_held plan (hi_of plan edge) edge) (sym (of_high edge within)) ∙ h in
        let one = (one_whole edge within).one_fork in
        ap (hand (hi_of plan edge) (ate_of plan ates links (hi_of plan edge))) (of_high edge within) ∙ sym (high_log edge (λ there. omega (arith, one, here, there)))) held

    abbrev pub the_fork : ℕ → SeenFork
    the_fork edge = fork_by plan edge (log_in_hand plan ates links edge)

    -- a fork that a site holds is the one of its edge
    held_fork : (s : ℕ) (end : SiteEnd Lane D Tx Closed Rx) (at : slice_get ends s ≡ Some end) (i : ℕ) → i < length (edges_of plan s) → fork_at plan s (left_at all s end at).left.state i ≡ 1
        → hand_fork_at plan s (left_at all s end at).left.state i ≡ the_fork (edge_at plan s i)
    held_fork s end at i inside held =
        let state = (left_at all s end at).left.state in
        let edge = edge_at plan s i in
        let p = placed plan s i all.is_plan inside in
        let side : (lo_of plan edge ≡ s) ⊎ (hi_of plan edge ≡ s) = elim p.sides [ inl low ↦ inl low.0 | inr high ↦ inr high.0 ] in
        let log = held_log s edge p.edge_within side (ap (forks_held plan s edge) (sym (did_at s end at i inside)) ∙ held) in
        ap₂ (fork_with plan edge)
        (ap₂ (λ (n : ℕ) (t : Traffic). hand s n t) (ate_is s end at) (did_at s end at i inside) ∙ log)
        (ap₂ (λ (n : ℕ) (t : Traffic). hand_value plan s edge n t) (ate_is s end at) (did_at s end at i inside) ∙ value_in_hand s edge p.edge_within side ∙ ap (value_by plan edge) log)

    only_one : (edge : ℕ) → All (IsOnly edge (the_fork edge)) (forks_left ends)
    only_one edge = forks_of_all (IsOnly edge (the_fork edge)) ends (λ s end at.
        let left = (left_at all s end at).left in
        subst (All (IsOnly edge (the_fork edge))) (sym left.forks)
        (forks_each (IsOnly edge (the_fork edge)) plan s left.state 0 (length left.state.traffic) (λ i within held same. held_fork s end at i (omega (arith, within, left.ended.keeps.every_place)) held ∙ ap the_fork same)))

    -- the fork of each edge is in a hand
    is_held_at : (s edge : ℕ) → s < site_count plan → edge < edge_count plan → is_end plan s edge ≡ true → forks_held plan s edge (traffic_of plan links s edge) ≡ 1 → IsIn (the_fork edge) (forks_left ends)
    is_held_at s edge is_site within is held =
        let end = end_of all s is_site in
        let place = edge_at-place_of plan s edge within is in
        let i = place_of plan s edge in
        let left = (left_at all s end.0 end.1).left in
        let here : fork_at plan s left.state i ≡ 1 = ap (forks_held plan s (edge_at plan s i)) (did_at s end.0 end.1 i place.0) ∙ ap (λ e. forks_held plan s e (traffic_of plan links s e)) place.1 ∙ held in
        let found_there = in_hand plan s left.state 0 (length left.state.traffic) i (omega arith) (omega (arith, place.0, left.ended.keeps.every_place)) here in
        in_all (the_fork edge) ends s end.0 end.1
        (subst (λ forks. IsIn (the_fork edge) forks) (sym left.forks)
        (subst (λ (f : SeenFork). IsIn f (forks_in_hand plan s left.state (range_with_len 0 (length left.state.traffic)))) (held_fork s end.0 end.1 i place.0 here ∙ ap the_fork place.1) found_there))

    is_held : (edge : ℕ) → edge < edge_count plan → IsIn (the_fork edge) (forks_left ends)
    is_held edge within = elim (cases_eq (forks_held plan (lo_of plan edge) edge (low_traffic links edge)) 1) [
      | inl held ↦ is_held_at (lo_of plan edge) edge (low_site edge within) within (low_end edge) (ap (forks_held plan (lo_of plan edge) edge) (of_low edge) ∙ held)
      | inr away ↦
          let one = (one_whole edge within).one_fork in
          let there : forks_held plan (hi_of plan edge) edge (high_traffic links edge) ≡ 1 = omega (arith, one, away) in
          is_held_at (hi_of plan edge) edge (all.is_plan.within edge within) within (high_end edge) (ap (forks_held plan (hi_of plan edge) edge) (of_high edge within) ∙ there)
    ]

    abbrev pub slots : List (Option SeenFork)
    slots = in_slots (forks_left ends) (replicate (edge_count plan) None)

    slots_count : length slots ≡ edge_count plan
    slots_count = length-in_slots (forks_left ends) (replicate (edge_count plan) None) ∙ length-replicate (edge_count plan) None

    slot_of : (edge : ℕ) → edge < edge_count plan → slice_get slots edge ≡ Some (Some (the_fork edge))
    slot_of edge within =
        let held = is_held edge within in
        in_slots_puts edge (the_fork edge) (forks_left ends) (replicate (edge_count plan) None) held.at (only_one edge) held.is refl (omega (arith, within, length-replicate {A = Option SeenFork} (edge_count plan) None))

    filled : (k : ℕ) → k < length slots → IsFilled slots 0 k
    filled k within = record { fork = the_fork k; at = slot_of k (omega (arith, within, slots_count)); edge = sym (zero-add k) }

    pub headline : AllJoined plan ates links → IsHeadline plan ates links (forks_found slots)
    headline joined = record {
      joined = joined;
      all_taken = closed;
      one_fork_an_edge = found_edges slots 0 filled ∙ ap (range_with_len 0) slots_count;
      each_fork = λ edge fork at.
          let here = found_get slots 0 edge fork filled at in
          let within : edge < edge_count plan = omega (arith, slice_get_within slots edge (Some fork) here, slots_count) in
          let is : fork ≡ the_fork edge = same_Some fork (the_fork edge) (same_Some (Some fork) (Some (the_fork edge)) (sym here ∙ slot_of edge within)) in
          let one = one_whole edge within in
          record {
            one = one.one_fork;
            in_hand = is;
            whole = subst (IsWholeLog plan edge (ate_of plan ates links (lo_of plan edge)) (ate_of plan ates links (hi_of plan edge))) (sym (ap (λ (f : SeenFork). f.log) is)) (whole_log edge within);
          };
    }
      where
        whole_log : (edge : ℕ) → edge < edge_count plan → IsWholeLog plan edge (ate_of plan ates links (lo_of plan edge)) (ate_of plan ates links (hi_of plan edge)) (log_in_hand plan ates links edge)
        whole_log edge within = let one = one_whole edge within in elim (cases_eq (forks_held plan (lo_of plan edge) edge (low_traffic links edge)) 1) [
          | inl held ↦ subst (IsWholeLog plan edge _ _) (sym (low_log edge held)) (one.at_lower held)
          | inr away ↦ let there = one.one_fork in subst (IsWholeLog plan edge _ _) (sym (high_log edge away)) (one.at_higher (omega (arith, there, away)))
        ]

    pub tokens_stand : AreTokensOf plan links (map out_of ends)
    tokens_stand = record {
      one = λ edge within.
          joined_token plan edge (low_traffic links edge) (high_traffic links edge) all.is_plan within
          (subst (AccountsForToken plan (lo_of plan edge) edge) (of_low edge) (accounts_token (lo_of plan edge) edge (low_site edge within) within (low_end edge)))
          (subst (AccountsForToken plan (hi_of plan edge) edge) (of_high edge within) (accounts_token (hi_of plan edge) edge (all.is_plan.within edge within) within (high_end edge)))
          (taken_whole edge within);
      stand = λ s out at.
          let end = end_for all s out at in
          let left = (left_at all s end.0 end.1).left in
          let passes : ℕ → Bool = λ edge. tokens_held plan s edge (traffic_of plan links s edge) == 1 in
          ap (λ (o : SiteOut D). o.tokens.items) (sym end.2) ∙ left.ended.tokens ∙ ap (λ n. tokens_in_hand plan s left.state (range_with_len 0 n)) left.ended.keeps.every_place
          ∙ tokens_passing plan s left.state passes (edges_of plan s) 0 (λ k e there.
          let inside = slice_get_within (edges_of plan s) k e there in
          let edge : edge_at plan s k ≡ e = get_or_from_slice_get (edges_of plan s) k e 0 there in
          let shift : 0 + k ≡ k = zero-add k in
          (ap (edge_at plan s) shift ∙ edge, ap (λ i. token_at plan s left.state i == 1) shift ∙ ap (λ t. tokens_held plan s (edge_at plan s k) t == 1) (did_at s end.0 end.1 k inside) ∙ ap passes edge));
    }
