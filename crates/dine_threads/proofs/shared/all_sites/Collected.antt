-- What the sites left, brought together by site, by edge and by link.
use Rattle.std.proofs.Common.{◌≡◌, ℕ, zero, suc, ◌+◌, ◌*◌, ◌<◌, All, Option, Some, None, IsSome, option_map, List, [], ◌∷◌, ◌++◌, length, map, set, get_or, slice_get, refl, sym, ap, ◌∙◌, subst, inl, inr, arith, append_assoc, append-nil, length-set}
use Rattle.std.specs.Global.{Vec}
use Rattle.std.proofs.lemmas.List.{length-map, take_at, drop_at}
use Rattle.std.proofs.lemmas.List.Elements.{All-take, All-drop}
use Rattle.std.proofs.lemmas.Option.{get_or_from_slice_get, none-some, same_Some, slice_get-get_or, slice_get-map}
use Rattle.dine_token.specs.Fork.{SeenFork}
use Rattle.dine_graph.specs.Plan.{SeenPlan, edge_count, edges_of}
use Rattle.dine_link.specs.Lanes.{seen_end}
use Rattle.dine_link.specs.Links.{SeenLink, link_of}
use Rattle.dine_site_thread.specs.declared.port.Port.{Port}
use Rattle.dine_site_thread.specs.declared.site_end.SiteEnd.{SiteEnd}
use Rattle.dine_threads.specs.declared.slots.EdgePair.{EdgePair}
use Rattle.dine_threads.specs.declared.slots.Spot.{Spot}
use Rattle.dine_threads.specs.private.Collecting.{AreJoined, AreLinksLeft, AreWholeEnds, in_slots, links_left, rows_left}
use Rattle.dine_threads.specs.Gathered.{no_link}
use Rattle.dine_site_thread.specs.Ports.{SeenPort, seen_port}
use Rattle.dine_threads.specs.private.Spots.{ArePairsAt, AreFull, IsFullRow, high_spot, low_spot, row_at, slot_at}
use Rattle.dine_threads.specs.private.Wirings.{AreWired, port_at}
use Rattle.dine_threads.proofs.all_sites.Edges.{slice_get-push}
use Rattle.dine_site_thread.proofs.shared.lists.Seen.{there_is}
use Rattle.dine_link.specs.declared.lane.Lane.{Ghosts}

-- what is so of each element by its index, where there is none, and where there is one more
pub each_of_none : {X : Type 0} (P : ℕ → X → Type 0) (xs : List X) → xs ≡ [] → (k : ℕ) (y : X) → slice_get xs k ≡ Some y → P k y
each_of_none P xs none k y at = absurd (none-some y (sym (ap (λ l. slice_get l k) none) ∙ at))

pub each_more : {X : Type 0} (P : ℕ → X → Type 0) (old new : List X) (x : X) → new ≡ old ++ x ∷ [] → ((k : ℕ) (y : X) → slice_get old k ≡ Some y → P k y) → P (length old) x → (k : ℕ) (y : X) → slice_get new k ≡ Some y → P k y
each_more P old new x grown was here k y at = elim (slice_get-push old x y k (subst (λ xs. slice_get xs k ≡ Some y) grown at)) [
  | inl earlier ↦ was k y earlier
  | inr last ↦ subst (P k) last.1 (subst (λ n. P n x) (sym last.0) here)
]

-- a loop that moves the first of what is left
pub moved_split : {X : Type 0} (old new : List X) (x : X) (before after all : List X) → new ≡ old ++ x ∷ [] → before ≡ x ∷ after → old ++ before ≡ all → new ++ after ≡ all
moved_split old new x before after all grown split was = ap (λ w. w ++ after) grown ∙ append_assoc old (x ∷ []) after ∙ ap (λ w. old ++ w) (sym split) ∙ was

-- so it is where what is moved is known as y
pub moved_as : {X : Type 0} (old new : List X) (x y : X) (before after all : List X) → new ≡ old ++ x ∷ [] → x ≡ y → before ≡ y ∷ after → old ++ before ≡ all → new ++ after ≡ all
moved_as old new x y before after all grown is split was = moved_split old new x before after all grown (split ∙ ap (λ z. z ∷ after) (sym is)) was

-- at its end nothing is left
pub none_left : {X : Type 0} (old after all : List X) → after ≡ [] → old ++ after ≡ all → old ≡ all
none_left old after all none was = sym (append-nil old) ∙ ap (λ w. old ++ w) (sym none) ∙ was

-- what holds of each of two lists
pub all_parts : {X : Type 0} (P : X → Type 0) (xs ys : List X) → All P (xs ++ ys) → All P xs × All P ys
all_parts P xs ys all = (
  subst (All P) (take_at xs ys (length xs) refl) (All-take P (length xs) (xs ++ ys) all),
  subst (All P) (drop_at xs ys (length xs) refl) (All-drop P (length xs) (xs ++ ys) all),
)

-- forks that are moved into their slots one after another
pub in_slots-append : (first others : List SeenFork) (slots : List (Option SeenFork)) → in_slots (first ++ others) slots ≡ in_slots others (in_slots first slots)
in_slots-append [] others slots = refl
in_slots-append (fork ∷ first) others slots = in_slots-append first others (set slots fork.edge (Some fork))

pub length-in_slots : (forks : List SeenFork) (slots : List (Option SeenFork)) → length (in_slots forks slots) ≡ length slots
length-in_slots [] slots = refl
length-in_slots (fork ∷ forks) slots = length-in_slots forks (set slots fork.edge (Some fork)) ∙ length-set slots fork.edge (Some fork)

-- what stands in a row where each slot is full
pub somes_full : {A : Type 0} (xs : List A) (i : ℕ) → i < length xs → IsSome (get_or (map Some xs) i None)
somes_full [] i within = absurd (omega (arith, within))
somes_full (x ∷ xs) zero within = refl
somes_full (x ∷ xs) (suc i) within = somes_full xs i (omega arith)

somes_at : {A B : Type 0} (f : A → B) (xs : List A) (i : ℕ) (x : A) → get_or (map Some xs) i None ≡ Some x → slice_get (map f xs) i ≡ Some (f x)
somes_at f [] i x at = absurd (none-some x at)
somes_at f (y ∷ xs) zero x at = ap (option_map f) at
somes_at f (y ∷ xs) (suc i) x at = somes_at f xs i x at

rows_at : {E A B : Type 0} (row : E → List A) (f : A → B) (es : List E) (s i : ℕ) (x : A) → get_or (get_or (map (λ e. map Some (row e)) es) s []) i None ≡ Some x → slice_get (get_or (map (λ e. map f (row e)) es) s []) i ≡ Some (f x)
rows_at row f [] s i x at = absurd (none-some x at)
rows_at row f (e ∷ es) zero i x at = somes_at f (row e) i x at
rows_at row f (e ∷ es) (suc s) i x at = rows_at row f es s i x at

row_listed : {P : Type 0} (rows : List (Vec (Option P))) (s : ℕ) → row_at rows s ≡ get_or (map (λ (row : Vec (Option P)). row.items) rows) s []
row_listed [] s = refl
row_listed (row ∷ rows) zero = refl
row_listed (row ∷ rows) (suc s) = row_listed rows s

module _ {Lane Tx Closed Rx D : Type 0} (ends : List (SiteEnd Lane D Tx Closed Rx)) (rows : List (Vec (Option (Port Lane Tx Closed Rx))))
    (moved : map (λ (row : Vec (Option (Port Lane Tx Closed Rx))). row.items) rows ≡ map (λ (end : SiteEnd Lane D Tx Closed Rx). map Some end.ports.items) ends) where
  -- the ports of a site, each in a slot of its own
  row_of : (s : ℕ) → row_at rows s ≡ get_or (map (λ (end : SiteEnd Lane D Tx Closed Rx). map Some end.ports.items) ends) s []
  row_of s = row_listed rows s ∙ ap (λ l. get_or l s []) moved

  pub rows_full : (plan : SeenPlan) → AreWholeEnds plan ends → AreFull plan rows
  rows_full plan whole s within =
      let left : SiteEnd Lane D Tx Closed Rx → List (Option (Port Lane Tx Closed Rx)) = λ end. map Some end.ports.items in
      let there = there_is ends s (omega (arith, within, whole.count)) in
      let ports = there.0.ports.items in
      let count = whole.ports s there.0 there.1 in
      let row : row_at rows s ≡ map Some ports = row_of s ∙ get_or_from_slice_get (map left ends) s (left there.0) [] (slice_get-map left ends s ∙ ap (option_map left) there.1) in
      let full : IsFullRow (length (edges_of plan s)) (map Some ports) = record {
        count = length-map ports Some ∙ count;
        full = λ i below. somes_full ports i (omega (arith, below, count));
      } in
      subst (IsFullRow (length (edges_of plan s))) (sym row) full

  pub slot_seen : (lane : Ghosts Lane Tx Closed Rx) (spot : Spot) (port : Port Lane Tx Closed Rx)
      → slot_at rows spot ≡ Some port → port_at (rows_left lane ends) spot ≡ Some (seen_port lane port)
  slot_seen lane spot port at =
      rows_at (λ (end : SiteEnd Lane D Tx Closed Rx). end.ports.items) (seen_port lane) ends spot.site spot.at port (sym (ap (λ r. get_or r spot.at None) (row_of spot.site)) ∙ at)

module _ {Lane Tx Closed Rx : Type 0} (lane : Ghosts Lane Tx Closed Rx) where
  -- the links of the pairs, and those of one pair
  length-links_left : (pairs : List (EdgePair (Port Lane Tx Closed Rx))) → length (links_left lane pairs) ≡ 2 * length pairs
  length-links_left [] = refl
  length-links_left (pair ∷ pairs) = let rest = length-links_left pairs in omega (arith, rest)

  low_link : (pairs : List (EdgePair (Port Lane Tx Closed Rx))) (k : ℕ) (both : EdgePair (Port Lane Tx Closed Rx)) → slice_get pairs k ≡ Some both
      → get_or (links_left lane pairs) (2 * k) no_link ≡ link_of (seen_end lane.seen_tx lane.seen_closed both.low.tx) (lane.seen_rx both.high.rx)
  low_link [] k both at = absurd (none-some both at)
  low_link (pair ∷ pairs) zero both at = ap (λ (b : EdgePair (Port Lane Tx Closed Rx)). link_of (seen_end lane.seen_tx lane.seen_closed b.low.tx) (lane.seen_rx b.high.rx)) (same_Some pair both at)
  low_link (pair ∷ pairs) (suc k) both at =
      let next : 2 * suc k ≡ suc (suc (2 * k)) = omega arith in
      ap (λ n. get_or (links_left lane (pair ∷ pairs)) n no_link) next ∙ low_link pairs k both at

  high_link : (pairs : List (EdgePair (Port Lane Tx Closed Rx))) (k : ℕ) (both : EdgePair (Port Lane Tx Closed Rx)) → slice_get pairs k ≡ Some both
      → get_or (links_left lane pairs) (2 * k + 1) no_link ≡ link_of (seen_end lane.seen_tx lane.seen_closed both.high.tx) (lane.seen_rx both.low.rx)
  high_link [] k both at = absurd (none-some both at)
  high_link (pair ∷ pairs) zero both at = ap (λ (b : EdgePair (Port Lane Tx Closed Rx)). link_of (seen_end lane.seen_tx lane.seen_closed b.high.tx) (lane.seen_rx b.low.rx)) (same_Some pair both at)
  high_link (pair ∷ pairs) (suc k) both at =
      let next : 2 * suc k + 1 ≡ suc (suc (2 * k + 1)) = omega arith in
      ap (λ n. get_or (links_left lane (pair ∷ pairs)) n no_link) next ∙ high_link pairs k both at

  module _ {D : Type 0} (plan : SeenPlan) (ends : List (SiteEnd Lane D Tx Closed Rx)) (rows : List (Vec (Option (Port Lane Tx Closed Rx))))
      (moved : map (λ (row : Vec (Option (Port Lane Tx Closed Rx))). row.items) rows ≡ map (λ (end : SiteEnd Lane D Tx Closed Rx). map Some end.ports.items) ends)
      (pairs : List (EdgePair (Port Lane Tx Closed Rx))) (count : length pairs ≡ edge_count plan) (each : ArePairsAt plan rows pairs) where
    low_seen : (edge : ℕ) (both : EdgePair (Port Lane Tx Closed Rx)) → slice_get pairs edge ≡ Some both → port_at (rows_left lane ends) (low_spot plan edge) ≡ Some (seen_port lane both.low)
    low_seen edge both at = slot_seen ends rows moved lane (low_spot plan edge) both.low (each edge both at).low

    high_seen : (edge : ℕ) (both : EdgePair (Port Lane Tx Closed Rx)) → slice_get pairs edge ≡ Some both → port_at (rows_left lane ends) (high_spot plan edge) ≡ Some (seen_port lane both.high)
    high_seen edge both at = slot_seen ends rows moved lane (high_spot plan edge) both.high (each edge both at).high

    -- each takes from the link that the other put in
    pub pairs_joined : AreWired plan (rows_left lane ends) → All (AreJoined lane) pairs
    pairs_joined wired edge d within =
        let both = get_or pairs edge d in
        let at : slice_get pairs edge ≡ Some both = slice_get-get_or pairs edge d within in
        let is = wired edge (omega (arith, within, count)) in
        let low : is.low ≡ seen_port lane both.low = same_Some is.low (seen_port lane both.low) (sym is.at_low ∙ low_seen edge both at) in
        let high : is.high ≡ seen_port lane both.high = same_Some is.high (seen_port lane both.high) (sym is.at_high ∙ high_seen edge both at) in
        record {
          goes = sym (ap (λ (port : SeenPort lane.Identity). port.rx.link) high) ∙ is.goes ∙ ap (λ (port : SeenPort lane.Identity). port.tx.link) low;
          comes = sym (ap (λ (port : SeenPort lane.Identity). port.rx.link) low) ∙ is.comes ∙ ap (λ (port : SeenPort lane.Identity). port.tx.link) high;
        }

    -- so the links of the pairs are those that were left
    pub links_of_pairs : (links : List SeenLink) → links ≡ links_left lane pairs → AreLinksLeft plan (rows_left lane ends) links
    links_of_pairs links are = record {
      count = (let len = length-links_left pairs in let same = ap length are in omega (arith, len, same, count));
      from_low = λ edge low high within at_low at_high.
          let there = there_is pairs edge (omega (arith, within, count)) in
          let both = there.0 in
          ap (λ l. get_or l (2 * edge) no_link) are
          ∙ low_link pairs edge both there.1
          ∙ ap (λ (port : SeenPort lane.Identity). link_of port.tx (lane.seen_rx both.high.rx)) (same_Some (seen_port lane both.low) low (sym (low_seen edge both there.1) ∙ at_low))
          ∙ ap (λ (port : SeenPort lane.Identity). link_of low.tx port.rx) (same_Some (seen_port lane both.high) high (sym (high_seen edge both there.1) ∙ at_high));
      from_high = λ edge low high within at_low at_high.
          let there = there_is pairs edge (omega (arith, within, count)) in
          let both = there.0 in
          ap (λ l. get_or l (2 * edge + 1) no_link) are
          ∙ high_link pairs edge both there.1
          ∙ ap (λ (port : SeenPort lane.Identity). link_of port.tx (lane.seen_rx both.low.rx)) (same_Some (seen_port lane both.high) high (sym (high_seen edge both there.1) ∙ at_high))
          ∙ ap (λ (port : SeenPort lane.Identity). link_of high.tx port.rx) (same_Some (seen_port lane both.low) low (sym (low_seen edge both there.1) ∙ at_low));
    }
