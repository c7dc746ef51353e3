-- What the sites left where some of them ended with a fault: at most one fork an edge, and breaches that tell of an
-- early Close.
use Rattle.std.proofs.Common.{◌≡◌, ◌≢◌, ◌⊎◌, ℕ, zero, suc, ◌+◌, ◌*◌, ◌<◌, ◌≤◌, ◌==◌, ◌++◌, Bool, true, false, cond, List, [], ◌∷◌, All, length, map, replicate, set, slice_get, Option, Some, None, option_map, option_to_list, get_or, refl, sym, ◌∙◌, ap, subst, inl, inr, arith, append_assoc, length-append}
use Rattle.std.specs.List.{cons_option, filter_map, range_with_len}
use Rattle.std.proofs.lemmas.Bool.{cases_Bool, cases_eq, cond-true, cond-false, eq-eqb, ne_eqb, or_left, or_right}
use Rattle.std.proofs.lemmas.List.{append-nil, length-map, length-replicate}
use Rattle.std.proofs.lemmas.List.Elements.{All-head, All-tail}
use Rattle.std.proofs.lemmas.Option.{get_or_from_slice_get, none-some, same_Some, slice_get-map, slice_get_within}
use Rattle.std.proofs.Math.Nat.{zero-add}
use mathlib.Core.List.{IsPrefix}
use Rattle.dine_token.specs.Fork.{SeenFork}
use Rattle.dine_graph.specs.Plan.{SeenPlan, IsPlan, site_count, edge_count, edges_of, is_end, lo_of, hi_of}
use Rattle.dine_rules.specs.declared.breach.Breach.{Breach}
use Rattle.dine_rules.specs.declared.breach.Breach.TheVariants.{AfterClose, ClosedEarly}
use Rattle.dine_rules.specs.declared.letters.Letter.{Letter}
use Rattle.dine_rules.specs.declared.letters.Letter.TheVariants.{Fork, Request, Done, Close}
use Rattle.dine_rules.specs.Breach.{breach_before_close, first_breach}
use Rattle.dine_rules.specs.Holdings.{fork_at}
use Rattle.dine_rules.specs.JoinedEnds.{AccountsForFork, AreEndsOfEdge, AreForksLinked, AreLinked, next_between}
use Rattle.dine_rules.specs.Letters.{forks_among, forks_in, has_close}
use Rattle.dine_rules.specs.Local.{LocalState, Traffic, edge_at, neighbour_at, start_of, traffic_at}
use Rattle.dine_rules.specs.Steps.{hand_fork, hand_fork_at}
use Rattle.dine_rules.specs.Values.{KeepsValuesOfLogs, value_by}
use Rattle.dine_rules.specs.Streams.{IsPutInOrder, KeepsStreams, is_close_last}
use Rattle.dine_rules.specs.World.{place_of}
use Rattle.dine_rules.proofs.shared.links.Across.{across, edge_at-place_of, place_of-edge_at}
use Rattle.dine_rules.proofs.shared.lists.Counting.{forks_in-append, prefix_forks}
use Rattle.dine_rules.proofs.shared.lists.Forks.{forks_among-append, forks_among-before, forks_among-prefix}
use Rattle.dine_rules.proofs.shared.one_place.Placed.{placed}
use Rattle.dine_rules.proofs.shared.lists.Turns.{open_before, slice_get-behind}
use Rattle.dine_site.specs.Core.{forks_in_hand}
use Rattle.dine_site.specs.Standing.{all_places}
use Rattle.dine_link.specs.Links.{SeenLink, link_of}
use Rattle.dine_threads.specs.declared.gathered.SiteOut.{SiteOut}
use Rattle.dine_threads.specs.declared.starts.SiteStart.{SiteStart}
use Rattle.dine_site_thread.specs.declared.manner.Manner.{Manner}
use Rattle.dine_site_thread.specs.declared.site_end.SiteEnd.{SiteEnd}
use Rattle.dine_site_thread.specs.declared.site_end.SiteFault.{SiteFault}
use Rattle.dine_site_thread.specs.declared.site_end.SiteFault.TheVariants as fault
use Rattle.dine_threads.specs.declared.slots.Spot.{Spot}
use Rattle.dine_threads.specs.Brokens.{AllClosedEarly, AreStatesLeft, fork_at_end, fork_in_hand, held_at_end, high_links, links_of, low_links, report_in}
use Rattle.dine_threads.specs.private.Collecting.{AreLinksLeft, forks_left, forks_found, in_slots, out_of, rows_left}
use Rattle.dine_threads.specs.Gathered.{AreLinksOf, IsTakenInOrder, link_from_high, link_from_low, no_link, traffic_of}
use Rattle.dine_threads.specs.Headline.{AllJoined}
use Rattle.dine_site_thread.specs.Ports.{PutsFit, SeenPort, seen_port, seen_ports}
use Rattle.dine_site_thread.specs.Endings.{Ending, HasEnded, OnLinks, breached_at, letter_at, links_at, on_links, refused_at, traffic_on}
use Rattle.dine_threads.specs.private.Spots.{low_spot, high_spot}
use Rattle.dine_threads.specs.private.Wirings.{AreWired, port_at}
use Rattle.dine_threads.proofs.shared.all_sites.Collected.{length-in_slots}
use Rattle.dine_site_thread.proofs.shared.one_site.AtPlaces.{links_there}
use Rattle.dine_threads.proofs.all_sites.Gatherings.{AreAllLeft, end_for, end_of, forks_each, forks_of_all, left_at, row_of}
use Rattle.dine_threads.proofs.all_sites.Headlines.{in_all, in_hand}
use Rattle.dine_site_thread.proofs.shared.lists.Lists.{get-set_other}
use Rattle.dine_threads.proofs.all_sites.InSlots.{IsIn, in_slots_puts}
use Rattle.dine_threads.proofs.lists.Writes.{same_spot}
use Rattle.dine_link.specs.declared.lane.Lane.{Ghosts}
use Rattle.dine_site_thread.specs.declared.diner.Diner as diners

-- ---- forks in slots

-- something is there, or nothing
pub there_or_none : {X : Type 0} (o : Option X) → (o ≡ None) ⊎ ((x : X) × (o ≡ Some x))
there_or_none None = inl refl
there_or_none (Some x) = inr (x, refl)

-- a slot stays as it was where no fork has its number
in_slots_leaves : (e : ℕ) (forks : List SeenFork) (slots : List (Option SeenFork)) → All (λ (fork : SeenFork). fork.edge ≢ e) forks → slice_get (in_slots forks slots) e ≡ slice_get slots e
in_slots_leaves e [] slots apart = refl
in_slots_leaves e (fork ∷ forks) slots apart =
    in_slots_leaves e forks (set slots fork.edge (Some fork)) (All-tail (λ (x : SeenFork). x.edge ≢ e) fork forks apart)
    ∙ get-set_other slots fork.edge e (Some fork) (All-head (λ (x : SeenFork). x.edge ≢ e) fork forks apart)

-- at first each slot is empty
empty_slot : (n e : ℕ) → e < n → slice_get {X = Option SeenFork} (replicate n None) e ≡ Some None
empty_slot zero e h = absurd (omega arith)
empty_slot (suc n) zero h = refl
empty_slot (suc n) (suc e) h = empty_slot n e (omega arith)

module _ (h : ℕ → Option SeenFork) where
  -- the fork is the one of its edge
  abbrev pub IsGiven : SeenFork → Type 0
  IsGiven fork = h fork.edge ≡ Some fork

  -- in the slot of an edge stands its fork, where there is one
  slot_given : (forks : List SeenFork) (n e : ℕ) → All IsGiven forks → ((f : SeenFork) → h e ≡ Some f → IsIn f forks × (f.edge ≡ e)) → e < n → slice_get (in_slots forks (replicate n None)) e ≡ Some (h e)
  slot_given forks n e given there within = elim (there_or_none (h e)) [
    | inl none ↦
        in_slots_leaves e forks (replicate n None) (λ k d inside same. none-some _ (sym none ∙ ap h (sym same) ∙ given k d inside))
        ∙ empty_slot n e within ∙ ap (λ (o : Option SeenFork). Some o) (sym none)
    | inr some ↦
        let is_in = there some.0 some.1 in
        in_slots_puts e some.0 forks (replicate n None) is_in.0.at (λ k d inside same. same_Some _ some.0 (sym (given k d inside) ∙ ap h same ∙ some.1)) is_in.0.is is_in.1
        (omega (arith, within, length-replicate {A = Option SeenFork} n None))
        ∙ ap (λ (o : Option SeenFork). Some o) (sym some.1)
  ]

  found_one : (slot : Option SeenFork) (slots : List (Option SeenFork)) → forks_found (slot ∷ slots) ≡ cons_option slot (forks_found slots)
  found_one None slots = refl
  found_one (Some fork) slots = refl

  -- what is found in such slots are the forks of the edges in order
  found_given : (slots : List (Option SeenFork)) (first : ℕ) → ((k : ℕ) → k < length slots → slice_get slots k ≡ Some (h (first + k))) → forks_found slots ≡ filter_map h (range_with_len first (length slots))
  found_given [] first each = refl
  found_given (slot ∷ slots) first each =
      let still : first + 0 ≡ first = omega arith in
      let here : slot ≡ h first = same_Some slot (h first) (each 0 (omega arith) ∙ ap (λ k. Some (h k)) still) in
      let rest = found_given slots (first + 1) (λ k within. let shift : first + suc k ≡ first + 1 + k = omega arith in each (suc k) (omega (arith, within)) ∙ ap (λ j. Some (h j)) shift) in
      found_one slot slots ∙ ap (cons_option slot) rest ∙ ap (λ o. cons_option o (filter_map h (range_with_len (first + 1) (length slots)))) here

-- ---- letters on a link

prefix_trans : (xs ys zs : List Letter) → IsPrefix xs ys → IsPrefix ys zs → IsPrefix xs zs
prefix_trans xs ys zs one two = (one.0 ++ two.0, sym (append_assoc xs one.0 two.0) ∙ ap (λ (l : List Letter). l ++ two.0) one.1 ∙ two.1)

-- the link has no more Forks than the core put
puts_forks : (met : Bool) (refused : Option Letter) (by_core on_link : List Letter) → PutsFit met refused by_core on_link → forks_in on_link ≤ forks_in by_core
puts_forks met refused by_core on_link fit =
    let core = ap forks_in fit.core ∙ forks_in-append (fit.front ++ option_to_list refused) fit.closing in
    let behind = forks_in-append fit.front (option_to_list refused) in
    elim fit.link [
      | inl whole ↦ omega (arith, core, behind, ap forks_in whole, forks_in-append fit.front fit.closing)
      | inr cut ↦ omega (arith, core, ap forks_in cut.0)
    ]

-- where nothing was refused the core put all that the link has
puts_prefix : (met : Bool) (by_core on_link : List Letter) → PutsFit met None by_core on_link → IsPrefix on_link by_core
puts_prefix met by_core on_link fit = elim fit.link [
  | inl whole ↦ ([], append-nil on_link ∙ whole ∙ ap (λ (l : List Letter). l ++ fit.closing) (sym (append-nil fit.front)) ∙ sym fit.core)
  | inr cut ↦ (fit.closing, ap (λ (l : List Letter). l ++ fit.closing) (cut.0 ∙ sym (append-nil fit.front)) ∙ sym fit.core)
]

-- the Forks on the link are, in order, the first of those that the core put
puts_first : (met : Bool) (refused : Option Letter) (by_core on_link : List Letter) → PutsFit met refused by_core on_link
    → (k : ℕ) (fork : SeenFork) → slice_get (forks_among on_link) k ≡ Some fork → slice_get (forks_among by_core) k ≡ Some fork
puts_first met refused by_core on_link fit k fork at =
    ap (λ (letters : List Letter). slice_get (forks_among letters) k) fit.core
    ∙ forks_among-before (fit.front ++ option_to_list refused) fit.closing k fork (forks_among-before fit.front (option_to_list refused) k fork in_front)
  where
    no_fork_closes : (closing : List Letter) → (closing ≡ []) ⊎ (closing ≡ Close ∷ []) → forks_among closing ≡ []
    no_fork_closes closing (inl none) = ap forks_among none
    no_fork_closes closing (inr close) = ap forks_among close

    in_front : slice_get (forks_among fit.front) k ≡ Some fork
    in_front = elim fit.link [
      | inl whole ↦
          let same : forks_among on_link ≡ forks_among fit.front =
          ap forks_among whole ∙ forks_among-append fit.front fit.closing ∙ ap (λ (forks : List SeenFork). forks_among fit.front ++ forks) (no_fork_closes fit.closing fit.closes) ∙ append-nil (forks_among fit.front) in
          ap (λ (forks : List SeenFork). slice_get forks k) (sym same) ∙ at
      | inr cut ↦ ap (λ (letters : List Letter). slice_get (forks_among letters) k) (sym cut.0) ∙ at
    ]

is_close : (letter : Letter) → (letter ≡ Close) ⊎ (letter ≢ Close)
is_close (Fork fork) = inr (λ same. cc)
is_close (Request edge) = inr (λ same. cc)
is_close Done = inr (λ same. cc)
is_close Close = inl refl

-- a letter that is no Close stands before the Close at the end
in_front : (taken rest front : List Letter) (letter : Letter) → letter ≢ Close → taken ++ letter ∷ rest ≡ front ++ Close ∷ [] → (after : List Letter) × (front ≡ taken ++ letter ∷ after)
in_front [] rest [] letter other is = let same : letter ≡ Close = cc in absurd (other same)
in_front [] rest (f ∷ front) letter other is = (front, cc)
in_front (x ∷ taken) rest [] letter other is = absurd (omega (arith, ap length is, length-append taken (letter ∷ rest)))
in_front (x ∷ taken) rest (f ∷ front) letter other is =
    let tails : taken ++ letter ∷ rest ≡ front ++ Close ∷ [] = cc in
    let behind = in_front taken rest front letter other tails in
    (behind.0, let e = behind.1 in cc)

-- so the core put it at the same place
put_by_core : (met : Bool) (refused : Option Letter) (by_core on_link taken rest : List Letter) (letter : Letter) → PutsFit met refused by_core on_link → letter ≢ Close → taken ++ letter ∷ rest ≡ on_link → (after : List Letter) × (taken ++ letter ∷ after ≡ by_core)
put_by_core met refused by_core on_link taken rest letter fit other is =
    let end = option_to_list refused ++ fit.closing in
    let front : (after : List Letter) × (fit.front ≡ taken ++ letter ∷ after) = elim fit.link [
      | inl whole ↦ elim fit.closes [
        | inl none ↦ (rest, sym (is ∙ whole ∙ ap (λ (l : List Letter). fit.front ++ l) none ∙ append-nil fit.front))
        | inr close ↦ in_front taken rest fit.front letter other (is ∙ whole ∙ ap (λ (l : List Letter). fit.front ++ l) close)
      ]
      | inr cut ↦ (rest, sym (is ∙ cut.0))
    ] in
    (front.0 ++ end, sym (append_assoc taken (letter ∷ front.0) end) ∙ ap (λ (l : List Letter). l ++ end) (sym front.1) ∙ sym (append_assoc fit.front (option_to_list refused) fit.closing) ∙ sym fit.core)

only_early : (b : Bool) (breach : Breach) → cond b (Some ClosedEarly) None ≡ Some breach → breach ≡ ClosedEarly
only_early true breach is = sym (same_Some ClosedEarly breach is)
only_early false breach is = absurd (none-some breach is)

-- a site that took no Close yet tells of a Close only that it came early
close_early : (plan : SeenPlan) (s : ℕ) (state : LocalState) (i : ℕ) (breach : Breach) → has_close (traffic_at state i).taken ≡ false → first_breach plan s state i Close ≡ Some breach → breach ≡ ClosedEarly
close_early plan s state i breach still_open reported =
    only_early _ breach (sym (cond-false (has_close (traffic_at state i).taken) (Some AfterClose) (breach_before_close plan s state i Close) still_open) ∙ reported)

-- the law that a letter which comes next and is refused is a Close that came early
abbrev pub RefusesEarlyClosesOnly : Type 0
RefusesEarlyClosesOnly = (plan : SeenPlan) (s i other j : ℕ) (here there : LocalState) (letter : Letter) (breach : Breach) → IsPlan plan → AreEndsOfEdge plan s i other j → KeepsStreams plan s here → KeepsStreams plan other there
    → AreLinked (traffic_at here i) (traffic_at there j) → next_between (traffic_at here i) (traffic_at there j) ≡ Some letter → first_breach plan s here i letter ≡ Some breach → breach ≡ ClosedEarly

module _ (early : RefusesEarlyClosesOnly) where
  -- So it is of each letter that a site refuses, if it took it from its link in order.
  told_early : (plan : SeenPlan) (s i other j : ℕ) (here there : LocalState) (met_here met_there : Bool) (refused : Option Letter) (more put_here taken_here put_there taken_there : List Letter) (letter : Letter) (breach : Breach)
      → IsPlan plan → AreEndsOfEdge plan s i other j → KeepsStreams plan s here → KeepsStreams plan other there
      → PutsFit met_here None (traffic_at here i).put put_here → PutsFit met_there refused (traffic_at there j).put put_there
      → taken_here ≡ (traffic_at here i).taken ++ letter ∷ [] → taken_there ≡ (traffic_at there j).taken ++ more
      → IsPrefix taken_here put_there → IsPrefix taken_there put_here → is_close_last put_there ≡ true
      → first_breach plan s here i letter ≡ Some breach → breach ≡ ClosedEarly
  told_early plan s i other j here there met_here met_there refused more put_here taken_here put_there taken_there letter breach is_plan ends keeps_here keeps_there fit_here fit_there took_here took_there comes goes last first =
      let taken = (traffic_at here i).taken in
      let stands : taken ++ letter ∷ comes.0 ≡ put_there = sym (append_assoc taken (letter ∷ []) comes.0) ∙ ap (λ (l : List Letter). l ++ comes.0) (sym took_here) ∙ comes.1 in
      elim (is_close letter) [
        | inl close ↦
            close_early plan s here i breach (open_before taken comes.0 letter (ap is_close_last stands ∙ last))
            (subst (λ (l : Letter). first_breach plan s here i l ≡ Some breach) close first)
        | inr other_letter ↦
            let put = put_by_core met_there refused (traffic_at there j).put put_there taken comes.0 letter fit_there other_letter stands in
            let next : next_between (traffic_at here i) (traffic_at there j) ≡ Some letter = ap (λ (l : List Letter). slice_get l (length taken)) (sym put.1) ∙ slice_get-behind taken put.0 letter in
            let linked : AreLinked (traffic_at here i) (traffic_at there j) = record {
              comes = (letter ∷ put.0, put.1);
              goes =
                  prefix_trans (traffic_at there j).taken put_here (traffic_at here i).put
                  (prefix_trans (traffic_at there j).taken taken_there put_here (more, sym took_there) goes) (puts_prefix met_here (traffic_at here i).put put_here fit_here);
            } in
            early plan s i other j here there letter breach is_plan ends keeps_here keeps_there linked next first
      ]

-- what two links have at one end, by what two others have that are the same
same_on_links : (out out_too come come_too : SeenLink) → out ≡ out_too → come ≡ come_too
    → ◌≡◌ {A = OnLinks} (record { put = out.put; taken = come.taken; put_refused = out.put_refused; take_refused = come.take_refused }) (record { put = out_too.put; taken = come_too.taken; put_refused = out_too.put_refused; take_refused = come_too.take_refused })
same_on_links out out_too come come_too goes comes =
    ap (λ (l : SeenLink). record { put = l.put; taken = come.taken; put_refused = l.put_refused; take_refused = come.take_refused }) goes
    ∙ ap (λ (l : SeenLink). record { put = out_too.put; taken = l.taken; put_refused = out_too.put_refused; take_refused = l.take_refused }) comes

-- ---- all sites

module _ {Lane Tx Closed Rx D : Type 0} (lane : Ghosts Lane Tx Closed Rx) (manner : Manner) (plan : SeenPlan) where
  -- A site has its forks and its links by this state, and tells what fits it.
  pub record IsLeftBy (s : ℕ) (state : LocalState) (end : SiteEnd Lane D Tx Closed Rx) : Type 0 where
    pub ended : HasEnded manner plan s state (links_at (seen_ports lane end.ports.items)) (report_in (out_of end))
    pub forks : end.forks.items ≡ forks_in_hand plan s state (all_places state)
    pub degree : length end.ports.items ≡ length (edges_of plan s)

  -- so it is of a port that it left
  module _ (s : ℕ) (state : LocalState) (end : SiteEnd Lane D Tx Closed Rx) (left : IsLeftBy s state end) (i : ℕ) (port : SeenPort lane.Identity) (stands : slice_get (seen_ports lane end.ports.items) i ≡ Some port) where
    place_within : i < length state.traffic
    place_within = omega (arith, slice_get_within (seen_ports lane end.ports.items) i port stands, length-map end.ports.items (seen_port lane), left.degree, left.ended.keeps.every_place)

    links_are : links_at (seen_ports lane end.ports.items) i ≡ on_links port
    links_are = links_there (seen_ports lane end.ports.items) i port stands

    pub puts_by : PutsFit port.tx.refused (refused_at i end.fault end.stray) (traffic_at state i).put port.tx.letters
    puts_by = subst (λ (l : OnLinks). PutsFit l.put_refused (refused_at i end.fault end.stray) (traffic_at state i).put l.put) links_are (left.ended.puts i place_within)

    pub takes_by : port.rx.letters ≡ (traffic_at state i).taken ++ option_to_list (breached_at i end.fault end.stray)
    takes_by = sym (ap (λ (l : OnLinks). l.taken) links_are) ∙ left.ended.takes i place_within

-- an end fits links that are the same at each place of the site
ended_along : (manner : Manner) (plan : SeenPlan) (s : ℕ) (state : LocalState) (f g : ℕ → OnLinks) (end : Ending) → ((i : ℕ) → i < length state.traffic → f i ≡ g i) → HasEnded manner plan s state f end → HasEnded manner plan s state g end
ended_along manner plan s state f g end same ended = record {
  keeps = ended.keeps;
  rests = ended.rests;
  ate = ended.ate;
  tokens = ended.tokens;
  did = ended.did;
  did_all = ended.did_all;
  puts = λ i within. subst (λ (l : OnLinks). PutsFit l.put_refused (refused_at i end.fault end.stray) (traffic_at state i).put l.put) (same i within) (ended.puts i within);
  takes = λ i within. ap (λ (l : OnLinks). l.taken) (sym (same i within)) ∙ ended.takes i within;
  in_order = λ i within. subst (λ (l : OnLinks). IsPutInOrder plan s i state.ate (traffic_on l)) (same i within) (ended.in_order i within);
  whole = λ none i within. ap (λ (l : OnLinks). l.put) (sym (same i within)) ∙ ended.whole none i within;
  unrefused = λ none i within. (let was = ended.unrefused none i within in (ap (λ (l : OnLinks). l.put_refused) (sym (same i within)) ∙ was.0, ap (λ (l : OnLinks). l.take_refused) (sym (same i within)) ∙ was.1));
  finished = ended.finished;
  closed = ended.closed;
  not_started = ended.not_started;
  take_reported = λ i within refused. ended.take_reported i within (ap (λ (l : OnLinks). l.take_refused) (same i within) ∙ refused);
  no_stray = ended.no_stray;
  breach = ended.breach;
  lost = λ link reported. (let was = ended.lost link reported in record {
    within = was.within;
    refused = elim was.refused [
      | inl put ↦ inl (ap (λ (l : OnLinks). l.put_refused) (sym (same link was.within)) ∙ put)
      | inr take ↦ inr (ap (λ (l : OnLinks). l.take_refused) (sym (same link was.within)) ∙ take)
    ];
    to_place = was.to_place;
    no_close = was.no_close;
  });
  degree = ended.degree;
}

module _ {Lane Tx Closed Rx D : Type 0} {lane : Ghosts Lane Tx Closed Rx}
    {eater : diners.Ghosts D} {manner : Manner} {plan : SeenPlan}
    {starts : List (SiteStart Lane D Tx Closed Rx)} {ends : List (SiteEnd Lane D Tx Closed Rx)} (all : AreAllLeft lane eater manner plan starts ends)
    (links : List SeenLink) (are_left : AreLinksLeft plan (rows_left lane ends) links) (are_wired : AreWired plan (rows_left lane ends)) (in_order : All IsTakenInOrder links) where
  -- the state in which a site ended
  pub state_left : (s : ℕ) → (state : LocalState) × ((end : SiteEnd Lane D Tx Closed Rx) → slice_get ends s ≡ Some end → IsLeftBy lane manner plan s state end)
  state_left s = elim (there_or_none (slice_get ends s)) [
    | inl none ↦ (start_of plan s, λ end at. absurd (none-some end (sym none ∙ at)))
    | inr some ↦
        let here = left_at all s some.0 some.1 in
        let left = here.left in
        let by : IsLeftBy lane manner plan s left.state some.0 = record { ended = left.ended; forks = left.forks; degree = here.degree } in
        (left.state, λ end at. subst (IsLeftBy lane manner plan s left.state) (same_Some some.0 end (sym some.1 ∙ at)) by)
  ]

  abbrev pub states : ℕ → LocalState
  states s = (state_left s).0

  left_by : (s : ℕ) (end : SiteEnd Lane D Tx Closed Rx) → slice_get ends s ≡ Some end → IsLeftBy lane manner plan s (states s) end
  left_by s = (state_left s).1

  -- the port of a site at a place
  pub stands_at : (spot : Spot) (port : SeenPort lane.Identity) (end : SiteEnd Lane D Tx Closed Rx) → slice_get ends spot.site ≡ Some end → port_at (rows_left lane ends) spot ≡ Some port
      → slice_get (seen_ports lane end.ports.items) spot.at ≡ Some port
  stands_at spot port end at is = sym (ap (λ row. slice_get row spot.at) (row_of (λ (e : SiteEnd Lane D Tx Closed Rx). seen_ports lane e.ports.items) ends spot.site end at)) ∙ is

  low_site : (edge : ℕ) → edge < edge_count plan → lo_of plan edge < site_count plan
  low_site edge within = let ordered = all.is_plan.ordered edge within in let bound = all.is_plan.within edge within in omega (arith, ordered, bound)

  low_end : (edge : ℕ) → is_end plan (lo_of plan edge) edge ≡ true
  low_end edge = or_left (lo_of plan edge == lo_of plan edge) (hi_of plan edge == lo_of plan edge) (eq-eqb (lo_of plan edge) (lo_of plan edge) refl)

  high_end : (edge : ℕ) → is_end plan (hi_of plan edge) edge ≡ true
  high_end edge = or_right (lo_of plan edge == hi_of plan edge) (hi_of plan edge == hi_of plan edge) (eq-eqb (hi_of plan edge) (hi_of plan edge) refl)

  keeps_at : (s : ℕ) → s < site_count plan → KeepsStreams plan s (states s)
  keeps_at s is_site = let end = end_of all s is_site in (left_by s end.0 end.1).ended.keeps

  -- the two links of an edge, each taken in order
  goes : (edge : ℕ) (within : edge < edge_count plan) → IsTakenInOrder (link_of (are_wired edge within).low.tx (are_wired edge within).high.rx)
  goes edge within = let w = are_wired edge within in subst IsTakenInOrder (are_left.from_low edge w.low w.high within w.at_low w.at_high) (in_order (2 * edge) no_link (omega (arith, within, are_left.count)))

  comes : (edge : ℕ) (within : edge < edge_count plan) → IsTakenInOrder (link_of (are_wired edge within).high.tx (are_wired edge within).low.rx)
  comes edge within = let w = are_wired edge within in subst IsTakenInOrder (are_left.from_high edge w.low w.high within w.at_low w.at_high) (in_order (2 * edge + 1) no_link (omega (arith, within, are_left.count)))

  -- the place at the other end
  abbrev pub spot_across : ℕ → ℕ → Spot
  spot_across s i = record { site = neighbour_at plan s i; at = place_of plan (neighbour_at plan s i) (edge_at plan s i) }

  -- The ports at a place and at its other end, with their two links, each taken in order.
  pub record ArePortsAt (s i : ℕ) : Type 0 where
    pub near : SeenPort lane.Identity
    pub far : SeenPort lane.Identity
    pub at_near : port_at (rows_left lane ends) (record { site = s; at = i }) ≡ Some near
    pub at_far : port_at (rows_left lane ends) (spot_across s i) ≡ Some far
    pub comes : IsTakenInOrder (link_of far.tx near.rx)
    pub goes : IsTakenInOrder (link_of near.tx far.rx)
    pub has : links_of plan links s i ≡ on_links near

  pub ports_at : (s i : ℕ) → i < length (edges_of plan s) → ArePortsAt s i
  ports_at s i inside =
      let edge = edge_at plan s i in
      let p = placed plan s i all.is_plan inside in
      let w = are_wired edge p.edge_within in
      let spot : Spot = record { site = s; at = i } in
      let place = place_of-edge_at plan s i inside in
      let rows = rows_left lane ends in
      let low = low_links links edge in
      let high = high_links links edge in
      let from_low = are_left.from_low edge w.low w.high p.edge_within w.at_low w.at_high in
      let from_high = are_left.from_high edge w.low w.high p.edge_within w.at_low w.at_high in
      elim p.sides [
        | inl side ↦
            let here : low_spot plan edge ≡ spot = same_spot (low_spot plan edge) spot side.0 (ap (λ x. place_of plan x edge) side.0 ∙ place) in
            let there : high_spot plan edge ≡ spot_across s i = same_spot (high_spot plan edge) (spot_across s i) (sym side.1) (ap (λ x. place_of plan x edge) (sym side.1)) in
            let did : links_of plan links s i ≡ low = cond-true (lo_of plan edge == s) low high (eq-eqb (lo_of plan edge) s side.0) in
            record {
              near = w.low;
              far = w.high;
              at_near = ap (port_at rows) (sym here) ∙ w.at_low;
              at_far = ap (port_at rows) (sym there) ∙ w.at_high;
              comes = comes edge p.edge_within;
              goes = goes edge p.edge_within;
              has = did ∙ same_on_links (link_from_low links edge) (link_of w.low.tx w.high.rx) (link_from_high links edge) (link_of w.high.tx w.low.rx) from_low from_high;
            }
        | inr side ↦
            let here : high_spot plan edge ≡ spot = same_spot (high_spot plan edge) spot side.0 (ap (λ x. place_of plan x edge) side.0 ∙ place) in
            let there : low_spot plan edge ≡ spot_across s i = same_spot (low_spot plan edge) (spot_across s i) (sym side.1) (ap (λ x. place_of plan x edge) (sym side.1)) in
            let did : links_of plan links s i ≡ high = cond-false (lo_of plan edge == s) low high (ne_eqb (lo_of plan edge) s (λ same. let ordered = p.ordered in omega (arith, same, ordered, side.0))) in
            record {
              near = w.high;
              far = w.low;
              at_near = ap (port_at rows) (sym here) ∙ w.at_high;
              at_far = ap (port_at rows) (sym there) ∙ w.at_low;
              comes = goes edge p.edge_within;
              goes = comes edge p.edge_within;
              has = did ∙ same_on_links (link_from_high links edge) (link_of w.high.tx w.low.rx) (link_from_low links edge) (link_of w.low.tx w.high.rx) from_high from_low;
            }
      ]

  -- what a site put and took at a place, in Forks, beside what its links have
  record AreForksAt (spot : Spot) (port : SeenPort lane.Identity) : Type 0 where
    pub put : forks_in port.tx.letters ≤ forks_in (traffic_at (states spot.site) spot.at).put
    pub taken : forks_in (traffic_at (states spot.site) spot.at).taken ≤ forks_in port.rx.letters

  forks_at : (spot : Spot) (port : SeenPort lane.Identity) → spot.site < site_count plan → port_at (rows_left lane ends) spot ≡ Some port → AreForksAt spot port
  forks_at spot port is_site is =
      let end = end_of all spot.site is_site in
      let left = left_by spot.site end.0 end.1 in
      let stands = stands_at spot port end.0 end.1 is in
      let traffic = traffic_at (states spot.site) spot.at in
      let stray = option_to_list (breached_at spot.at end.0.fault end.0.stray) in
      record {
        put = puts_forks port.tx.refused (refused_at spot.at end.0.fault end.0.stray) traffic.put port.tx.letters (puts_by lane manner plan spot.site (states spot.site) end.0 left spot.at port stands);
        taken = omega (arith, ap forks_in (takes_by lane manner plan spot.site (states spot.site) end.0 left spot.at port stands), forks_in-append traffic.taken stray);
      }

  -- at most one end of an edge holds its fork
  at_most_one : (edge : ℕ) → edge < edge_count plan → held_at_end plan states (lo_of plan edge) edge + held_at_end plan states (hi_of plan edge) edge ≤ 1
  at_most_one edge within =
      let w = are_wired edge within in
      let lo = lo_of plan edge in
      let hi = hi_of plan edge in
      let bound = all.is_plan.within edge within in
      let ordered = all.is_plan.ordered edge within in
      let low = forks_at (low_spot plan edge) w.low (low_site edge within) w.at_low in
      let high = forks_at (high_spot plan edge) w.high bound w.at_high in
      let low_place = edge_at-place_of plan lo edge within (low_end edge) in
      let high_place = edge_at-place_of plan hi edge within (high_end edge) in
      let low_keeps = keeps_at lo (low_site edge within) in
      let high_keeps = keeps_at hi bound in
      let low_counted = (low_keeps.places (place_of plan lo edge) (omega (arith, low_place.0, low_keeps.every_place))).forks_counted in
      let high_counted = (high_keeps.places (place_of plan hi edge) (omega (arith, high_place.0, high_keeps.every_place))).forks_counted in
      let starts_low = cond-true {A = ℕ} (lo_of plan (edge_at plan lo (place_of plan lo edge)) == lo) 1 0 (eq-eqb _ lo (ap (lo_of plan) low_place.1)) in
      let starts_high = cond-false {A = ℕ} (lo_of plan (edge_at plan hi (place_of plan hi edge)) == hi) 1 0 (ne_eqb _ hi (λ same. let lower = ap (lo_of plan) high_place.1 in omega (arith, ordered, same, lower))) in
      let from_low = prefix_forks w.high.rx.letters w.low.tx.letters (goes edge within).prefix in
      let from_high = prefix_forks w.low.rx.letters w.high.tx.letters (comes edge within).prefix in
      omega (arith, low.put, low.taken, high.put, high.taken, low_counted, high_counted, starts_low, starts_high, from_low, from_high)

  -- a fork that a site holds is the one in hand of its edge
  held_is : (s i : ℕ) → i < length (edges_of plan s) → fork_at plan s (states s) i ≡ 1 → fork_in_hand plan states (edge_at plan s i) ≡ Some (hand_fork_at plan s (states s) i)
  held_is s i inside held =
      let edge = edge_at plan s i in
      let p = placed plan s i all.is_plan inside in
      let place = place_of-edge_at plan s i inside in
      let here : held_at_end plan states s edge ≡ 1 = ap (fork_at plan s (states s)) place ∙ held in
      let is : fork_at_end plan states s edge ≡ hand_fork plan s edge (states s).ate (traffic_at (states s) i) = ap (λ j. hand_fork plan s edge (states s).ate (traffic_at (states s) j)) place in
      let one = at_most_one edge p.edge_within in
      elim p.sides [
        | inl low ↦
            let low_held : held_at_end plan states (lo_of plan edge) edge ≡ 1 = ap (λ x. held_at_end plan states x edge) low.0 ∙ here in
            cond-true (held_at_end plan states (lo_of plan edge) edge == 1) _ _ (eq-eqb _ 1 low_held) ∙ ap (λ x. Some (fork_at_end plan states x edge)) low.0 ∙ ap (λ (f : SeenFork). Some f) is
        | inr high ↦
            let high_held : held_at_end plan states (hi_of plan edge) edge ≡ 1 = ap (λ x. held_at_end plan states x edge) high.0 ∙ here in
            cond-false (held_at_end plan states (lo_of plan edge) edge == 1) _ _ (ne_eqb _ 1 (λ both. omega (arith, one, both, high_held)))
            ∙ cond-true (held_at_end plan states (hi_of plan edge) edge == 1) _ _ (eq-eqb _ 1 high_held) ∙ ap (λ x. Some (fork_at_end plan states x edge)) high.0 ∙ ap (λ (f : SeenFork). Some f) is
      ]

  all_given : All (IsGiven (fork_in_hand plan states)) (forks_left ends)
  all_given = forks_of_all (IsGiven (fork_in_hand plan states)) ends (λ s end at.
      let left = left_by s end at in
      subst (All (IsGiven (fork_in_hand plan states))) (sym left.forks)
      (forks_each (IsGiven (fork_in_hand plan states)) plan s (states s) 0 (length (states s).traffic) (λ i within held. held_is s i (omega (arith, within, left.ended.keeps.every_place)) held)))

  -- a fork that an end holds is among those that were left
  is_left : (s edge : ℕ) → s < site_count plan → edge < edge_count plan → is_end plan s edge ≡ true → held_at_end plan states s edge ≡ 1 → IsIn (fork_at_end plan states s edge) (forks_left ends)
  is_left s edge is_site within is held =
      let end = end_of all s is_site in
      let left = left_by s end.0 end.1 in
      let place = edge_at-place_of plan s edge within is in
      let i = place_of plan s edge in
      let hands = in_hand plan s (states s) 0 (length (states s).traffic) i (omega arith) (omega (arith, place.0, left.ended.keeps.every_place)) held in
      in_all (fork_at_end plan states s edge) ends s end.0 end.1
      (subst (IsIn (fork_at_end plan states s edge)) (sym left.forks)
      (subst (λ e. IsIn (hand_fork plan s e (states s).ate (traffic_at (states s) i)) (forks_in_hand plan s (states s) (all_places (states s)))) place.1 hands))

  in_some_hand : (edge : ℕ) → edge < edge_count plan → (f : SeenFork) → fork_in_hand plan states edge ≡ Some f → IsIn f (forks_left ends) × (f.edge ≡ edge)
  in_some_hand edge within f is =
      let lo = lo_of plan edge in
      let hi = hi_of plan edge in
      elim (cases_eq (held_at_end plan states lo edge) 1) [
        | inl held ↦
            let same : fork_at_end plan states lo edge ≡ f = same_Some (fork_at_end plan states lo edge) f (sym (cond-true (held_at_end plan states lo edge == 1) _ _ (eq-eqb _ 1 held)) ∙ is) in
            (subst (λ (x : SeenFork). IsIn x (forks_left ends)) same (is_left lo edge (low_site edge within) within (low_end edge) held), ap (λ (x : SeenFork). x.edge) (sym same))
        | inr away ↦
            let rest = sym (cond-false (held_at_end plan states lo edge == 1) _ _ (ne_eqb _ 1 away)) ∙ is in
            elim (cases_eq (held_at_end plan states hi edge) 1) [
              | inl held ↦
                  let same : fork_at_end plan states hi edge ≡ f = same_Some (fork_at_end plan states hi edge) f (sym (cond-true (held_at_end plan states hi edge == 1) _ _ (eq-eqb _ 1 held)) ∙ rest) in
                  (subst (λ (x : SeenFork). IsIn x (forks_left ends)) same (is_left hi edge (all.is_plan.within edge within) within (high_end edge) held), ap (λ (x : SeenFork). x.edge) (sym same))
              | inr nowhere ↦ absurd (none-some f (sym (cond-false (held_at_end plan states hi edge == 1) _ _ (ne_eqb _ 1 nowhere)) ∙ rest))
            ]
      ]

  -- each site ended in its state
  ended_left : (s : ℕ) (out : SiteOut D) → slice_get (map out_of ends) s ≡ Some out → HasEnded manner plan s (states s) (links_of plan links s) (report_in out)
  ended_left s out at =
      let end = end_for all s out at in
      let left = left_by s end.0 end.1 in
      subst (λ (o : SiteOut D). HasEnded manner plan s (states s) (links_of plan links s) (report_in o)) end.2
      (ended_along manner plan s (states s) (links_at (seen_ports lane end.0.ports.items)) (links_of plan links s) (report_in (out_of end.0)) (λ i within.
      let ports = ports_at s i (omega (arith, within, left.ended.keeps.every_place)) in
      links_there (seen_ports lane end.0.ports.items) i ports.near (stands_at (record { site = s; at = i }) ports.near end.0 end.1 ports.at_near) ∙ sym ports.has) left.ended)

  traffic_is : (s i : ℕ) → traffic_on (links_of plan links s i) ≡ traffic_of plan links s (edge_at plan s i)
  traffic_is s i = elim (cases_Bool (lo_of plan (edge_at plan s i) == s)) [ inl low ↦ rw low refl | inr high ↦ rw high refl ]

  -- what each site put is in order
  pub all_joined : AreLinksOf plan links → AllJoined plan (map (λ (out : SiteOut D). out.ate) (map out_of ends)) links
  all_joined by_edge = record {
    by_edge = by_edge;
    in_order = in_order;
    puts = λ s i is_site inside.
        let end = end_of all s is_site in
        let at : slice_get (map out_of ends) s ≡ Some (out_of end.0) = slice_get-map out_of ends s ∙ ap (option_map out_of) end.1 in
        let ate_at : slice_get (map (λ (out : SiteOut D). out.ate) (map out_of ends)) s ≡ Some end.0.ate = slice_get-map (λ (out : SiteOut D). out.ate) (map out_of ends) s ∙ ap (option_map (λ (out : SiteOut D). out.ate)) at in
        let ended = ended_left s (out_of end.0) at in
        subst (λ (t : Traffic). IsPutInOrder plan s i (get_or (map (λ (out : SiteOut D). out.ate) (map out_of ends)) s 0) t) (traffic_is s i)
        (subst (λ n. IsPutInOrder plan s i n (traffic_on (links_of plan links s i))) (sym (get_or_from_slice_get (map (λ (out : SiteOut D). out.ate) (map out_of ends)) s end.0.ate 0 ate_at ∙ ended.ate))
        (ended.in_order i (omega (arith, inside, ended.keeps.every_place))));
  }

  module _ (early : RefusesEarlyClosesOnly) where
    -- each breach that a site tells is of a Close that came early
    pub all_closed_early : AllClosedEarly (map out_of ends)
    all_closed_early s out i breach at reported =
        let end = end_for all s out at in
        let left = left_by s end.0 end.1 in
        let fault_is : end.0.fault ≡ Some (fault.Breach i breach) = ap (λ (o : SiteOut D). o.fault) end.2 ∙ reported in
        let breached = left.ended.breach i breach fault_is in
        let inside : i < length (edges_of plan s) = let within = breached.within in omega (arith, within, left.ended.keeps.every_place) in
        let over = across plan s i all.is_plan inside in
        let there = spot_across s i in
        let far_end = end_of all there.site over.is_site in
        let far = left_by there.site far_end.0 far_end.1 in
        let ports = ports_at s i inside in
        let stands = stands_at (record { site = s; at = i }) ports.near end.0 end.1 ports.at_near in
        let stands_there = stands_at there ports.far far_end.0 far_end.1 ports.at_far in
        let stray : breached_at i end.0.fault end.0.stray ≡ Some breached.letter =
        ap (λ (f : Option SiteFault). breached_at i f end.0.stray) fault_is ∙ ap (letter_at i) breached.handed_back ∙ cond-true (i == i) (Some breached.letter) None (eq-eqb i i refl) in
        told_early early plan s i there.site there.at (states s) (states there.site) ports.near.tx.refused ports.far.tx.refused (refused_at there.at far_end.0.fault far_end.0.stray) (option_to_list (breached_at there.at far_end.0.fault far_end.0.stray))
        ports.near.tx.letters ports.near.rx.letters ports.far.tx.letters ports.far.rx.letters breached.letter breach all.is_plan
        (record { within = inside; within_there = over.within; same_edge = over.same_edge; across = refl; back = over.back }) left.ended.keeps far.ended.keeps
        (subst (λ r. PutsFit ports.near.tx.refused r (traffic_at (states s) i).put ports.near.tx.letters) (ap (λ (f : Option SiteFault). refused_at i f end.0.stray) fault_is) (puts_by lane manner plan s (states s) end.0 left i ports.near stands))
        (puts_by lane manner plan there.site (states there.site) far_end.0 far there.at ports.far stands_there)
        (takes_by lane manner plan s (states s) end.0 left i ports.near stands ∙ ap (λ o. (traffic_at (states s) i).taken ++ option_to_list o) stray)
        (takes_by lane manner plan there.site (states there.site) far_end.0 far there.at ports.far stands_there) ports.comes.prefix ports.goes.prefix ports.comes.nothing_after_close breached.first

  module _ (fork_law : (plan : SeenPlan) (s i : ℕ) (state : LocalState) → KeepsStreams plan s state → i < length (edges_of plan s) → AccountsForFork plan s (edge_at plan s i) state.ate (traffic_at state i))
      (low_values : (plan : SeenPlan) (edge low_ate high_ate : ℕ) (low high : Traffic) → IsPlan plan → edge < edge_count plan → AccountsForFork plan (lo_of plan edge) edge low_ate low → AccountsForFork plan (hi_of plan edge) edge high_ate high → AreForksLinked low high → KeepsValuesOfLogs plan (lo_of plan edge) edge low_ate low)
      (high_values : (plan : SeenPlan) (edge low_ate high_ate : ℕ) (low high : Traffic) → IsPlan plan → edge < edge_count plan → AccountsForFork plan (lo_of plan edge) edge low_ate low → AccountsForFork plan (hi_of plan edge) edge high_ate high → AreForksLinked low high → KeepsValuesOfLogs plan (hi_of plan edge) edge high_ate high) where
    accounts : (s edge : ℕ) → s < site_count plan → edge < edge_count plan → is_end plan s edge ≡ true → AccountsForFork plan s edge (states s).ate (traffic_at (states s) (place_of plan s edge))
    accounts s edge is_site within is =
        let place = edge_at-place_of plan s edge within is in
        subst (λ e. AccountsForFork plan s e (states s).ate (traffic_at (states s) (place_of plan s edge))) place.1 (fork_law plan s (place_of plan s edge) (states s) (keeps_at s is_site) place.0)

    -- the Forks that came over a link are the first of those that the core at its other end put
    came : (near far : Spot) (rx tx : SeenPort lane.Identity) → near.site < site_count plan → far.site < site_count plan → port_at (rows_left lane ends) near ≡ Some rx → port_at (rows_left lane ends) far ≡ Some tx
        → IsPrefix rx.rx.letters tx.tx.letters → (k : ℕ) (fork : SeenFork) → slice_get (forks_among (traffic_at (states near.site) near.at).taken) k ≡ Some fork → slice_get (forks_among (traffic_at (states far.site) far.at).put) k ≡ Some fork
    came near far rx tx is_near is_far at_near at_far prefix k fork at =
        let here = end_of all near.site is_near in
        let there = end_of all far.site is_far in
        let taken = takes_by lane manner plan near.site (states near.site) here.0 (left_by near.site here.0 here.1) near.at rx (stands_at near rx here.0 here.1 at_near) in
        let stray = option_to_list (breached_at near.at here.0.fault here.0.stray) in
        puts_first tx.tx.refused (refused_at far.at there.0.fault there.0.stray) (traffic_at (states far.site) far.at).put tx.tx.letters
        (puts_by lane manner plan far.site (states far.site) there.0 (left_by far.site there.0 there.1) far.at tx (stands_at far tx there.0 there.1 at_far)) k fork
        (forks_among-prefix rx.rx.letters tx.tx.letters prefix k fork
        (ap (λ (letters : List Letter). slice_get (forks_among letters) k) taken ∙ forks_among-before (traffic_at (states near.site) near.at).taken stray k fork at))

    linked : (edge : ℕ) → edge < edge_count plan → AreForksLinked (traffic_at (states (lo_of plan edge)) (place_of plan (lo_of plan edge) edge)) (traffic_at (states (hi_of plan edge)) (place_of plan (hi_of plan edge) edge))
    linked edge within =
        let w = are_wired edge within in
        let low = low_site edge within in
        let high = all.is_plan.within edge within in
        record {
          comes = came (low_spot plan edge) (high_spot plan edge) w.low w.high low high w.at_low w.at_high (comes edge within).prefix;
          goes = came (high_spot plan edge) (low_spot plan edge) w.high w.low high low w.at_high w.at_low (goes edge within).prefix;
        }

    -- a fork in the hand of an end has the value of its log
    low_value : (edge : ℕ) → edge < edge_count plan → (fork_at_end plan states (lo_of plan edge) edge).value ≡ value_by plan edge (fork_at_end plan states (lo_of plan edge) edge).log
    low_value edge within = (low_values plan edge _ _ _ _ all.is_plan within (accounts (lo_of plan edge) edge (low_site edge within) within (low_end edge)) (accounts (hi_of plan edge) edge (all.is_plan.within edge within) within (high_end edge)) (linked edge within)).in_hand

    high_value : (edge : ℕ) → edge < edge_count plan → (fork_at_end plan states (hi_of plan edge) edge).value ≡ value_by plan edge (fork_at_end plan states (hi_of plan edge) edge).log
    high_value edge within = (high_values plan edge _ _ _ _ all.is_plan within (accounts (lo_of plan edge) edge (low_site edge within) within (low_end edge)) (accounts (hi_of plan edge) edge (all.is_plan.within edge within) within (high_end edge)) (linked edge within)).in_hand

    values_left : (edge : ℕ) (fork : SeenFork) → edge < edge_count plan → fork_in_hand plan states edge ≡ Some fork → fork.value ≡ value_by plan edge fork.log
    values_left edge fork within is =
        let lo = lo_of plan edge in
        let hi = hi_of plan edge in
        elim (cases_eq (held_at_end plan states lo edge) 1) [
          | inl held ↦
              let same : fork_at_end plan states lo edge ≡ fork = same_Some (fork_at_end plan states lo edge) fork (sym (cond-true (held_at_end plan states lo edge == 1) _ _ (eq-eqb _ 1 held)) ∙ is) in
              subst (λ (f : SeenFork). f.value ≡ value_by plan edge f.log) same (low_value edge within)
          | inr away ↦
              let rest = sym (cond-false (held_at_end plan states lo edge == 1) _ _ (ne_eqb _ 1 away)) ∙ is in
              elim (cases_eq (held_at_end plan states hi edge) 1) [
                | inl held ↦
                    let same : fork_at_end plan states hi edge ≡ fork = same_Some (fork_at_end plan states hi edge) fork (sym (cond-true (held_at_end plan states hi edge == 1) _ _ (eq-eqb _ 1 held)) ∙ rest) in
                    subst (λ (f : SeenFork). f.value ≡ value_by plan edge f.log) same (high_value edge within)
                | inr nowhere ↦ absurd (none-some fork (sym (cond-false (held_at_end plan states hi edge == 1) _ _ (ne_eqb _ 1 nowhere)) ∙ rest))
              ]
        ]

    -- the forks that are found, and all that the sites left, by these states
    pub states_left : AreStatesLeft manner plan (map out_of ends) links (forks_found (in_slots (forks_left ends) (replicate (edge_count plan) None)))
    states_left = record {
      states = states;
      ended = ended_left;
      at_most_one = at_most_one;
      values = values_left;
      found =
          let slots = in_slots (forks_left ends) (replicate (edge_count plan) None) in
          let count : length slots ≡ edge_count plan = length-in_slots (forks_left ends) (replicate (edge_count plan) None) ∙ length-replicate (edge_count plan) None in
          found_given (fork_in_hand plan states) slots 0 (λ k within.
          let inside : k < edge_count plan = omega (arith, within, count) in
          slot_given (fork_in_hand plan states) (forks_left ends) (edge_count plan) k all_given (in_some_hand k inside) inside ∙ ap (λ j. Some (fork_in_hand plan states j)) (sym (zero-add k)))
          ∙ ap (λ n. filter_map (fork_in_hand plan states) (range_with_len 0 n)) count;
    }
