-- What the sites left, each of its start, and what is gathered of it edge by edge.
use Rattle.std.proofs.Common.{◌≡◌, ◌⊎◌, ℕ, zero, suc, ◌+◌, ◌*◌, ◌<◌, ◌==◌, ◌&&◌, ◌++◌, Bool, true, false, List, [], ◌∷◌, All, length, map, get_or, slice_get, Option, Some, None, is_some, option_map, option_to_list, if◌then◌else◌, refl, sym, ◌∙◌, ap, subst, inl, inr, arith}
use Rattle.std.specs.declared.thread.PromisedHandle.{PromisedHandle}
use Rattle.std.specs.List.{AllZip, position, range_with_len}
use Rattle.std.proofs.lemmas.Bool.{and_parts, eqb-true, or_cases, or_from, true≢false, false≢true}
use Rattle.std.proofs.lemmas.List.{length-map, append-nil}
use Rattle.std.proofs.lemmas.List.Elements.{All-append, All-cons}
use Rattle.std.proofs.lemmas.List.Quantifiers.{position-Some}
use Rattle.std.proofs.lemmas.Option.{same_Some, none-some, slice_get-map, slice_get_within, get_or_from_slice_get}
use Rattle.std.proofs.lemmas.Slice.Zip.{AllZip-long}
use Rattle.std.proofs.Math.Nat.{zero-add}
use Rattle.dine_token.specs.Fork.{SeenFork}
use Rattle.dine_graph.specs.Plan.{SeenPlan, IsPlan, site_count, edge_count, edges_of, job_count, lo_of, hi_of, resigns}
use Rattle.dine_graph.proofs.shared.ListLemmas.{position_none_at}
use Rattle.dine_rules.specs.declared.letters.Letter.{Letter}
use Rattle.dine_rules.specs.declared.letters.Letter.TheVariants.{Fork, Request, Done, Close}
use Rattle.dine_rules.specs.Letters.{has_close, has_done}
use Rattle.dine_rules.specs.Local.{LocalState, no_traffic, traffic_at}
use Rattle.dine_rules.specs.Holdings.{fork_at}
use Rattle.dine_rules.specs.Streams.{IsClosedInOrder, is_close_last, is_orderly}
use Rattle.dine_rules.specs.Steps.{hand_fork_at}
use Rattle.dine_rules.proofs.shared.one_place.Placed.{placed}
use Rattle.dine_rules.proofs.shared.one_site.SiteSteps.{list_all-range}
use Rattle.dine_rules.proofs.shared.lists.Turns.{ends_in_close}
use Rattle.dine_site.specs.Core.{forks_in_hand}
use Rattle.dine_link.specs.Links.{SeenLink, link_of}
use Rattle.dine_threads.specs.declared.gathered.SiteOut.{SiteOut}
use Rattle.dine_threads.specs.declared.starts.EndOf.{EndOf}
use Rattle.dine_threads.specs.declared.starts.SiteStart.{SiteStart}
use Rattle.dine_site_thread.specs.declared.site_end.SiteEnd.{SiteEnd}
use Rattle.dine_site_thread.specs.declared.site_end.SiteFault.{SiteFault}
use Rattle.dine_threads.specs.declared.slots.Spot.{Spot}
use Rattle.dine_threads.specs.declared.threads.Setup.{Setup}
use Rattle.dine_threads.specs.private.Collecting.{AreForksOf, AreLinksLeft, AreWholeEnds, IsTakenToClose, forks_left, out_of, rows_left}
use Rattle.dine_site_thread.specs.Diners.{HasEaten, ObeysFailures}
use Rattle.dine_threads.specs.Gathered.{AreFinishedOuts, AreLinksOf, AreOutsOf, IsClosedWhole, IsFinishedOut, IsLowestFault, IsOutOf, link_from_low, link_from_high, no_link}
use Rattle.dine_site_thread.specs.Ports.{SeenPort, SameLinks, seen_port, seen_ports}
use Rattle.dine_threads.specs.private.SiteStarts.{AreStartsOf, IsReady, IsEndOf, given_to}
use Rattle.dine_site_thread.specs.Endings.{OnLinks, breached_at, hands_back}
use Rattle.dine_site_thread.specs.declared.manner.Manner.{Manner}
use Rattle.dine_site_thread.specs.Threads.{HasWorkedToEnd}
use Rattle.dine_site_thread.specs.Doings.{empty_checks_of}
use Rattle.dine_site_thread.specs.SiteEnds.{IsLeft, seen_site_end}
use Rattle.dine_site_thread.specs.Times.{IsTimed, none_late}
use Rattle.dine_threads.specs.private.Setups.{IsSetUp, rows_of_starts}
use Rattle.dine_threads.specs.private.Spots.{low_spot, high_spot}
use Rattle.dine_threads.specs.private.Wirings.{AreWired, port_at}
use Rattle.dine_site_thread.proofs.shared.one_site.AtPlaces.{links_there}
use Rattle.dine_site_thread.proofs.shared.one_site.Quits.{quit_reported}
use Rattle.dine_site_thread.proofs.shared.lists.Lists.{all_at}
use Rattle.dine_site_thread.proofs.shared.lists.Seen.{there_is}
use Rattle.dine_threads.proofs.shared.lists.Zips.{AllZip-at}
use Rattle.dine_link.specs.declared.lane.Lane.{Ghosts}
use Rattle.dine_site_thread.specs.declared.diner.Diner as diners

-- the element that was made of one
pub row_of : {X Y : Type 0} (f : X → List Y) (xs : List X) (k : ℕ) (x : X) → slice_get xs k ≡ Some x → get_or (map f xs) k [] ≡ f x
row_of f xs k x at = get_or_from_slice_get (map f xs) k (f x) [] (slice_get-map f xs k ∙ ap (option_map f) at)

-- a position that was found is one of the list
found_within : {X : Type 0} (p : X → Bool) (xs : List X) (i : ℕ) → position p xs ≡ Some i → i < length xs
found_within p [] i found = absurd (none-some i found)
found_within p (x ∷ xs) i found = (position-Some p (x ∷ xs) i x found).0

-- every number is twice one, or one more
halves : (k : ℕ) → (e : ℕ) × ((k ≡ 2 * e) ⊎ (k ≡ 2 * e + 1))
halves zero = (0, inl refl)
halves (suc k) = let half = halves k in elim half.1 [
  | inl even ↦ (half.0, inr (omega (arith, even)))
  | inr odd ↦ (half.0 + 1, inl (omega (arith, odd)))
]

-- what is so of the two links of each edge is so of all links
pub all_links : (P : SeenLink → Type 0) (links : List SeenLink) (n : ℕ) → length links ≡ 2 * n → ((e : ℕ) → e < n → P (link_from_low links e) × P (link_from_high links e)) → All P links
all_links P links n count each k d within =
    let half = halves k in
    let there = there_is links k within in
    let is : get_or links k no_link ≡ get_or links k d = get_or_from_slice_get links k there.0 no_link there.1 ∙ sym (get_or_from_slice_get links k there.0 d there.1) in
    subst P is (elim half.1 [
      | inl even ↦ subst (λ j. P (get_or links j no_link)) (sym even) (each half.0 (omega (arith, even))).0
      | inr odd ↦ subst (λ j. P (get_or links j no_link)) (sym odd) (each half.0 (omega (arith, odd))).1
    ])

-- a stream with a Done and nothing behind Close has each Close behind a Done
orderly_when_done : (letters : List Letter) → has_done letters ≡ true → is_close_last letters ≡ true → is_orderly letters ≡ true
orderly_when_done [] done last = absurd (false≢true done)
orderly_when_done (Fork fork ∷ letters) done last = orderly_when_done letters done last
orderly_when_done (Request edge ∷ letters) done last = orderly_when_done letters done last
orderly_when_done (Done ∷ letters) done last = refl
orderly_when_done (Close ∷ []) done last = absurd (false≢true done)
orderly_when_done (Close ∷ letter ∷ letters) done last = absurd (false≢true last)

-- what is so of the rest of a list, and of the first where there is one
all_where : {X : Type 0} (P : X → Type 0) (b : Bool) (x : X) (xs : List X) → (b ≡ true → P x) → All P xs → All P (if b then x ∷ xs else xs)
all_where P true x xs here rest = All-cons P x xs (here refl) rest
all_where P false x xs here rest = rest

-- what is so of each fork that a site holds is so of all forks in its hand
pub forks_each : (P : SeenFork → Type 0) (plan : SeenPlan) (s : ℕ) (state : LocalState) (a n : ℕ)
    → ((i : ℕ) → i < a + n → fork_at plan s state i ≡ 1 → P (hand_fork_at plan s state i)) → All P (forks_in_hand plan s state (range_with_len a n))
forks_each P plan s state a zero each = λ k d none. absurd (omega (arith, none))
forks_each P plan s state a (suc n) each =
    all_where P (fork_at plan s state a == 1) (hand_fork_at plan s state a) (forks_in_hand plan s state (range_with_len (a + 1) n))
    (λ held. each a (omega arith) (eqb-true (fork_at plan s state a) 1 held))
    (forks_each P plan s state (a + 1) n (λ i within. each i (omega (arith, within))))

module _ {Lane Tx Closed Rx D : Type 0} where
  -- so it is of the forks in all hands
  pub forks_of_all : (P : SeenFork → Type 0) (ends : List (SiteEnd Lane D Tx Closed Rx)) → ((s : ℕ) (end : SiteEnd Lane D Tx Closed Rx) → slice_get ends s ≡ Some end → All P end.forks.items) → All P (forks_left ends)
  forks_of_all P [] each = λ k d none. absurd (omega (arith, none))
  forks_of_all P (end ∷ ends) each = All-append P end.forks.items (forks_left ends) (each 0 end refl) (forks_of_all P ends (λ s e at. each (suc s) e at))

-- Every site left what its start gives, and the starts are those of the plan.
pub record AreAllLeft {Lane Tx Closed Rx D : Type 0} (lane : Ghosts Lane Tx Closed Rx)
    (eater : diners.Ghosts D) (manner : Manner) (plan : SeenPlan)
    (starts : List (SiteStart Lane D Tx Closed Rx)) (ends : List (SiteEnd Lane D Tx Closed Rx)) : Type 0 where
  pub is_plan : IsPlan plan
  pub count : length starts ≡ site_count plan
  pub fresh : AreStartsOf manner plan starts
  pub ready : All (IsReady lane eater) starts
  pub left : AllZip (IsEndOf lane eater) starts ends

-- so it is where all that was set up was started and joined
pub left_of_children : {Lane Tx Closed Rx D : Type 0} {lane : Ghosts Lane Tx Closed Rx}
    {eater : diners.Ghosts D} {manner : Manner} {plan : SeenPlan} {given : List D}
    (setup : Setup Lane D Tx Closed Rx) (children : List (PromisedHandle (SiteEnd Lane D Tx Closed Rx) (EndOf Lane D Tx Closed Rx))) (ends : List (SiteEnd Lane D Tx Closed Rx))
    → IsPlan plan → IsSetUp lane eater manner plan given setup → map given_to children ≡ setup.starts.items → AllZip (IsEndOf lane eater) (map given_to children) ends
    → AreAllLeft lane eater manner plan setup.starts.items ends
left_of_children {lane = lane} {eater = eater} setup children ends is_plan set_up started left = record {
  is_plan = is_plan;
  count = omega (arith, set_up.count, setup.starts.ok.0);
  fresh = set_up.fresh;
  ready = set_up.ready;
  left = subst (λ starts. AllZip (IsEndOf lane eater) starts ends) started left;
}

module _ {Lane Tx Closed Rx D : Type 0} {lane : Ghosts Lane Tx Closed Rx}
    {eater : diners.Ghosts D} {manner : Manner} {plan : SeenPlan}
    {starts : List (SiteStart Lane D Tx Closed Rx)} {ends : List (SiteEnd Lane D Tx Closed Rx)} (all : AreAllLeft lane eater manner plan starts ends) where
  -- what a site left, and the start that it had
  pub record LeftAt (s : ℕ) (end : SiteEnd Lane D Tx Closed Rx) : Type 0 where
    pub start : SiteStart Lane D Tx Closed Rx
    pub at : slice_get starts s ≡ Some start
    pub left : IsLeft manner plan s (seen_ports lane start.ports.items) (seen_site_end lane end)
    pub eaten : HasEaten eater.calls eater.marks eater.fits end.ate end.failed start.diner end.diner
    pub timed : end.fault ≡ None → IsTimed none_late end.clock.events end.journal.items (seen_ports lane end.ports.items)
    pub obeys : ObeysFailures (resigns plan s) end.journal.items (eater.calls start.diner) (eater.calls end.diner)
    pub checks : end.bell.found_empty ≡ empty_checks_of manner end.journal.items
    pub threads : end.fault ≡ None → HasWorkedToEnd manner plan s end.journal.items end.log.deeds
    pub degree : length end.ports.items ≡ length (edges_of plan s)

  pub left_at : (s : ℕ) (end : SiteEnd Lane D Tx Closed Rx) → slice_get ends s ≡ Some end → LeftAt s end
  left_at s end at =
      let pair = AllZip-at (IsEndOf lane eater) starts ends s end all.left at in
      let start = pair.0 in
      let here = all.fresh s start pair.1 in
      let ready_here = all_at (IsReady lane eater) starts s start all.ready pair.1 in
      let left : IsLeft manner plan s (seen_ports lane start.ports.items) (seen_site_end lane end) =
      subst (λ m. IsLeft m plan s (seen_ports lane start.ports.items) (seen_site_end lane end)) here.2
      (subst (λ n. IsLeft start.manner plan n (seen_ports lane start.ports.items) (seen_site_end lane end)) here.1 (pair.2.left plan here.0)) in
      record {
        start = start;
        at = pair.1;
        left = left;
        eaten = pair.2.eaten;
        timed = pair.2.timed;
        checks = pair.2.checks ∙ ap (λ m. empty_checks_of m end.journal.items) here.2;
        threads = λ none.
            let run = pair.2.threads none plan here.0 in
            subst (λ m. HasWorkedToEnd m plan s end.journal.items end.log.deeds) here.2 (subst (λ n. HasWorkedToEnd start.manner plan n end.journal.items end.log.deeds) here.1 (run.state, run.memo, run.worked, run.finished));
        obeys = subst (λ (does : Bool). ObeysFailures does end.journal.items (eater.calls start.diner) (eater.calls end.diner)) (here.0.stands.resigns ∙ ap (resigns plan) here.1) pair.2.obeys;
        degree =
            sym (length-map end.ports.items (seen_port lane)) ∙ left.count ∙ length-map start.ports.items (seen_port lane)
            ∙ ready_here.ports ∙ here.0.stands.degree ∙ length-map (edges_of plan start.packed.site) (λ edge. no_traffic) ∙ ap (λ n. length (edges_of plan n)) here.1;
      }

  pub ends_count : length ends ≡ site_count plan
  ends_count = AllZip-long (IsEndOf lane eater) starts ends all.left ∙ all.count

  -- each site of the plan left something
  pub end_of : (s : ℕ) → s < site_count plan → (end : SiteEnd Lane D Tx Closed Rx) × (slice_get ends s ≡ Some end)
  end_of s is_site = there_is ends s (omega (arith, is_site, ends_count))

  pub ends_are_whole : AreWholeEnds plan ends
  ends_are_whole = record {
    count = ends_count;
    ports = λ s end at. (left_at s end at).degree;
    forks = forks_of_all (λ (fork : SeenFork). fork.edge < edge_count plan) ends (λ s end at.
        let left = (left_at s end at).left in
        subst (AreForksOf plan) (sym left.forks) (forks_each (λ fork. fork.edge < edge_count plan) plan s left.state 0 (length left.state.traffic) (λ i within held.
        (placed plan s i all.is_plan (omega (arith, within, left.ended.keeps.every_place))).edge_within)));
  }

  -- the port that a site left at a place where it had one, with the same links
  port_left : (spot : Spot) (old : SeenPort lane.Identity) → spot.site < site_count plan → port_at (rows_of_starts lane starts) spot ≡ Some old
      → (new : SeenPort lane.Identity) × (port_at (rows_left lane ends) spot ≡ Some new) × SameLinks old new
  port_left spot old is_site at =
      let end = end_of spot.site is_site in
      let left = left_at spot.site end.0 end.1 in
      let given = ap (λ row. slice_get row spot.at) (row_of (λ (start : SiteStart Lane D Tx Closed Rx). seen_ports lane start.ports.items) starts spot.site left.start left.at) in
      let now = ap (λ row. slice_get row spot.at) (row_of (λ (e : SiteEnd Lane D Tx Closed Rx). seen_ports lane e.ports.items) ends spot.site end.0 end.1) in
      let within = slice_get_within (seen_ports lane left.start.ports.items) spot.at old (sym given ∙ at) in
      let new = there_is (seen_ports lane end.0.ports.items) spot.at (omega (arith, within, left.left.count)) in
      (new.0, now ∙ new.1, left.left.same_links spot.at old new.0 (sym given ∙ at) new.1)

  -- the links of each edge are wired as they were
  pub still_wired : AreWired plan (rows_of_starts lane starts) → AreWired plan (rows_left lane ends)
  still_wired was edge within =
      let wired = was edge within in
      let ordered = all.is_plan.ordered edge within in
      let bound = all.is_plan.within edge within in
      let low = port_left (low_spot plan edge) wired.low (omega (arith, ordered, bound)) wired.at_low in
      let high = port_left (high_spot plan edge) wired.high (omega (arith, bound)) wired.at_high in
      record {
        low = low.0;
        high = high.0;
        at_low = low.1;
        at_high = high.1;
        goes = high.2.rx ∙ wired.goes ∙ sym low.2.tx;
        comes = low.2.rx ∙ wired.comes ∙ sym high.2.tx;
        low_edge = ap (λ link. link.edge) low.2.tx ∙ wired.low_edge;
        low_from = ap (λ link. link.from) low.2.tx ∙ wired.low_from;
        high_edge = ap (λ link. link.edge) high.2.tx ∙ wired.high_edge;
        high_from = ap (λ link. link.from) high.2.tx ∙ wired.high_from;
      }

  -- the port that stands at a place of a site's row
  pub at_end : (spot : Spot) (port : SeenPort lane.Identity) → spot.site < site_count plan → port_at (rows_left lane ends) spot ≡ Some port
      → (end : SiteEnd Lane D Tx Closed Rx) × (slice_get ends spot.site ≡ Some end) × (slice_get (seen_ports lane end.ports.items) spot.at ≡ Some port)
  at_end spot port is_site at =
      let end = end_of spot.site is_site in
      (end.0, end.1, sym (ap (λ row. slice_get row spot.at) (row_of (λ (e : SiteEnd Lane D Tx Closed Rx). seen_ports lane e.ports.items) ends spot.site end.0 end.1)) ∙ at)

  module _ (links : List SeenLink) (are_left : AreLinksLeft plan (rows_left lane ends) links) (are_wired : AreWired plan (rows_left lane ends)) where
    -- the links stand by edge, that from the lower end first
    pub links_by_edge : AreLinksOf plan links
    links_by_edge = record {
      count = are_left.count;
      low_edge = λ edge within. (let w = are_wired edge within in ap (λ link. link.edge) (are_left.from_low edge w.low w.high within w.at_low w.at_high) ∙ w.low_edge);
      low_from = λ edge within. (let w = are_wired edge within in ap (λ link. link.from) (are_left.from_low edge w.low w.high within w.at_low w.at_high) ∙ w.low_from);
      high_edge = λ edge within. (let w = are_wired edge within in ap (λ link. link.edge) (are_left.from_high edge w.low w.high within w.at_low w.at_high) ∙ w.high_edge);
      high_from = λ edge within. (let w = are_wired edge within in ap (λ link. link.from) (are_left.from_high edge w.low w.high within w.at_low w.at_high) ∙ w.high_from);
    }

  -- a site without a fault put a whole stream at each place, and took Close there
  pub record IsDoneAt (port : SeenPort lane.Identity) : Type 0 where
    pub put : IsClosedInOrder port.tx.letters
    pub taken : has_close port.rx.letters ≡ true
    pub put_unrefused : port.tx.refused ≡ false
    pub take_unrefused : port.rx.refused ≡ false

  -- the place of a port that a site left is one of its state
  pub place_of_port : (s : ℕ) (end : SiteEnd Lane D Tx Closed Rx) (i : ℕ) (port : SeenPort lane.Identity) (at : slice_get ends s ≡ Some end) → slice_get (seen_ports lane end.ports.items) i ≡ Some port
      → i < length (left_at s end at).left.state.traffic
  place_of_port s end i port at stands =
      let here = left_at s end at in
      omega (arith, slice_get_within (seen_ports lane end.ports.items) i port stands, length-map end.ports.items (seen_port lane), here.degree, here.left.ended.keeps.every_place)

  -- without a fault what its links have is what the site put and took
  pub put_at : (s : ℕ) (end : SiteEnd Lane D Tx Closed Rx) (i : ℕ) (port : SeenPort lane.Identity) (at : slice_get ends s ≡ Some end) → end.fault ≡ None → slice_get (seen_ports lane end.ports.items) i ≡ Some port
      → port.tx.letters ≡ (traffic_at (left_at s end at).left.state i).put
  put_at s end i port at no_fault stands =
      sym (ap (λ (l : OnLinks). l.put) (links_there (seen_ports lane end.ports.items) i port stands)) ∙ (left_at s end at).left.ended.whole no_fault i (place_of_port s end i port at stands)

  pub taken_at : (s : ℕ) (end : SiteEnd Lane D Tx Closed Rx) (i : ℕ) (port : SeenPort lane.Identity) (at : slice_get ends s ≡ Some end) → end.fault ≡ None → slice_get (seen_ports lane end.ports.items) i ≡ Some port
      → port.rx.letters ≡ (traffic_at (left_at s end at).left.state i).taken
  taken_at s end i port at no_fault stands =
      let left = (left_at s end at).left in
      sym (ap (λ (l : OnLinks). l.taken) (links_there (seen_ports lane end.ports.items) i port stands)) ∙ left.ended.takes i (place_of_port s end i port at stands)
      ∙ ap (λ (f : Option SiteFault). (traffic_at left.state i).taken ++ option_to_list (breached_at i f end.stray)) no_fault ∙ append-nil (traffic_at left.state i).taken

  done_at : (s : ℕ) (end : SiteEnd Lane D Tx Closed Rx) (i : ℕ) (port : SeenPort lane.Identity) → slice_get ends s ≡ Some end → end.fault ≡ None → slice_get (seen_ports lane end.ports.items) i ≡ Some port → IsDoneAt port
  done_at s end i port at no_fault stands =
      let here = left_at s end at in
      let left = here.left in
      let state = left.state in
      let within : i < length state.traffic = place_of_port s end i port at stands in
      let places = (and_parts _ _ (left.ended.finished no_fault)).1 in
      let test : ℕ → Bool = λ j. has_done (traffic_at state j).put && has_done (traffic_at state j).taken && has_close (traffic_at state j).put && has_close (traffic_at state j).taken in
      let marks_here = subst (λ j. test j ≡ true) (zero-add i) (list_all-range test 0 (length state.traffic) i places within) in
      let closed_here = and_parts _ _ marks_here in
      let put_here = and_parts _ _ closed_here.0 in
      let done_here = and_parts _ _ put_here.0 in
      let lawful = (left.ended.keeps.places i within).put_lawful in
      let last = ends_in_close (traffic_at state i).put lawful.close_last put_here.1 in
      let there = links_there (seen_ports lane end.ports.items) i port stands in
      let unrefused = left.ended.unrefused no_fault i within in
      record {
        put = subst IsClosedInOrder (sym (put_at s end i port at no_fault stands)) (record { orderly = orderly_when_done (traffic_at state i).put done_here.0 lawful.close_last; before_close = last.0; ends_in_close = last.1 });
        taken = ap has_close (taken_at s end i port at no_fault stands) ∙ closed_here.1;
        put_unrefused = ap (λ (l : OnLinks). l.put_refused) (sym there) ∙ unrefused.0;
        take_unrefused = ap (λ (l : OnLinks). l.take_refused) (sym there) ∙ unrefused.1;
      }

  whole_link : (link : SeenLink) (from to : SeenPort lane.Identity) → link ≡ link_of from.tx to.rx → IsDoneAt from → IsDoneAt to → IsTakenToClose link → IsClosedWhole link
  whole_link link from to is put_done taken_done to_close = record {
    taken = to_close (ap (λ (l : SeenLink). has_close l.taken) is ∙ taken_done.taken);
    in_order = subst IsClosedInOrder (sym (ap (λ (l : SeenLink). l.put) is)) put_done.put;
    unrefused = or_from link.put_refused link.take_refused (ap (λ (l : SeenLink). l.put_refused) is ∙ put_done.put_unrefused) (ap (λ (l : SeenLink). l.take_refused) is ∙ taken_done.take_unrefused);
  }

  -- what stands for a site in what is gathered, and what it left
  pub end_for : (s : ℕ) (out : SiteOut D) → slice_get (map out_of ends) s ≡ Some out → (end : SiteEnd Lane D Tx Closed Rx) × (slice_get ends s ≡ Some end) × (out_of end ≡ out)
  end_for s out at =
      let end = there_is ends s (omega (arith, slice_get_within (map out_of ends) s out at, length-map ends out_of)) in
      (end.0, end.1, same_Some (out_of end.0) out (sym (slice_get-map out_of ends s ∙ ap (option_map out_of) end.1) ∙ at))

  module _ (no_fault : (s : ℕ) (end : SiteEnd Lane D Tx Closed Rx) → slice_get ends s ≡ Some end → end.fault ≡ None) where
    -- every link is whole where no site has a fault
    pub links_are_whole : (links : List SeenLink) → AreLinksLeft plan (rows_left lane ends) links → AreWired plan (rows_left lane ends) → All IsTakenToClose links → All IsClosedWhole links
    links_are_whole links are_left are_wired to_close =
        all_links IsClosedWhole links (edge_count plan) are_left.count (λ edge within.
        let w = are_wired edge within in
        let ordered = all.is_plan.ordered edge within in
        let bound = all.is_plan.within edge within in
        let low = at_end (low_spot plan edge) w.low (omega (arith, ordered, bound)) w.at_low in
        let high = at_end (high_spot plan edge) w.high (omega (arith, bound)) w.at_high in
        let low_done = done_at (lo_of plan edge) low.0 (low_spot plan edge).at w.low low.1 (no_fault (lo_of plan edge) low.0 low.1) low.2 in
        let high_done = done_at (hi_of plan edge) high.0 (high_spot plan edge).at w.high high.1 (no_fault (hi_of plan edge) high.0 high.1) high.2 in
        let goes : link_from_low links edge ≡ link_of w.low.tx w.high.rx = are_left.from_low edge w.low w.high within w.at_low w.at_high in
        let comes : link_from_high links edge ≡ link_of w.high.tx w.low.rx = are_left.from_high edge w.low w.high within w.at_low w.at_high in (
          whole_link (link_from_low links edge) w.low w.high goes low_done high_done (to_close (2 * edge) no_link (omega (arith, within, are_left.count))),
          whole_link (link_from_high links edge) w.high w.low comes high_done low_done (to_close (2 * edge + 1) no_link (omega (arith, within, are_left.count))),
        ))

    -- every site did all
    pub outs_are_finished : AreFinishedOuts plan (map out_of ends)
    outs_are_finished s out at =
        let end = end_for s out at in
        let left = (left_at s end.0 end.1).left in
        let none = no_fault s end.0 end.1 in
        subst (IsFinishedOut plan s) end.2 (record {
          no_fault = none;
          no_stray = left.ended.no_stray (ap hands_back none);
          has_no_job_left = elim (or_cases (left.state.ate == job_count plan s) left.state.has_quit (and_parts _ _ (and_parts _ _ (left.ended.finished none)).0).1) [
            | inl all_eaten ↦ inl (left.ended.ate ∙ eqb-true left.state.ate (job_count plan s) all_eaten)
            | inr quit ↦ inr ((left.ended.keeps.has_dropped quit).0, sym (quit_reported plan s end.0.journal.items left.state (left.ended.did_all none).by_journal) ∙ quit)
          ];
        })

  -- every site has its diner, called for the meals that it ate
  pub outs_of_diners : (given : List D) → map (λ (start : SiteStart Lane D Tx Closed Rx). start.diner) starts ≡ given → AreOutsOf eater manner plan given (map out_of ends)
  outs_of_diners given diners = record {
    count = length-map ends out_of ∙ ends_count;
    each = λ s diner out at_diner at_out.
        let end = end_for s out at_out in
        let here = left_at s end.0 end.1 in
        let same : here.start.diner ≡ diner = same_Some here.start.diner diner (sym (slice_get-map (λ (start : SiteStart Lane D Tx Closed Rx). start.diner) starts s ∙ ap (option_map (λ (start : SiteStart Lane D Tx Closed Rx). start.diner)) here.at) ∙ ap (λ ds. slice_get ds s) diners ∙ at_diner) in
        subst (IsOutOf eater manner plan s diner) end.2 (record {
          site = here.left.site;
          ate = omega (arith, here.left.ended.ate, here.left.ended.keeps.ate_within);
          eaten = subst (λ d. HasEaten eater.calls eater.marks eater.fits end.0.ate end.0.failed d end.0.diner) same here.eaten;
          obeys = subst (λ d. ObeysFailures (resigns plan s) end.0.journal.items (eater.calls d) (eater.calls end.0.diner)) same here.obeys;
          checks = here.checks;
          threads = here.threads;
        });
  }

  -- no site has a fault where none was found, and the first that was found is the lowest
  is_none : (fault : Option SiteFault) → is_some fault ≡ false → fault ≡ None
  is_none None h = refl
  is_none (Some fault) h = absurd (true≢false h)

  pub none_found : position (λ (end : SiteEnd Lane D Tx Closed Rx). is_some end.fault) ends ≡ None → (s : ℕ) (end : SiteEnd Lane D Tx Closed Rx) → slice_get ends s ≡ Some end → end.fault ≡ None
  none_found none s end at =
      let fails = position_none_at (λ (e : SiteEnd Lane D Tx Closed Rx). is_some e.fault) ends s end none (slice_get_within ends s end at) in
      is_none end.fault (sym (ap (λ (e : SiteEnd Lane D Tx Closed Rx). is_some e.fault) (get_or_from_slice_get ends s end end at)) ∙ fails)

  pub lowest_found : (site : ℕ) → position (λ (end : SiteEnd Lane D Tx Closed Rx). is_some end.fault) ends ≡ Some site → IsLowestFault site (map out_of ends)
  lowest_found site found = record {
    within = omega (arith, found_within (λ (e : SiteEnd Lane D Tx Closed Rx). is_some e.fault) ends site found, length-map ends out_of);
    faulty = λ out at none.
        let end = end_for site out at in
        let first = position-Some (λ (e : SiteEnd Lane D Tx Closed Rx). is_some e.fault) ends site end.0 found in
        true≢false (sym first.1 ∙ ap (λ (e : SiteEnd Lane D Tx Closed Rx). is_some e.fault) (get_or_from_slice_get ends site end.0 end.0 end.1) ∙ ap is_some (ap (λ (o : SiteOut D). o.fault) end.2 ∙ none));
    lowest = λ s out below at.
        let end = end_for s out at in
        let first = position-Some (λ (e : SiteEnd Lane D Tx Closed Rx). is_some e.fault) ends site end.0 found in
        sym (ap (λ (o : SiteOut D). o.fault) end.2) ∙ is_none end.0.fault (sym (ap (λ (e : SiteEnd Lane D Tx Closed Rx). is_some e.fault) (get_or_from_slice_get ends s end.0 end.0 end.1)) ∙ first.2 s below);
  }
