-- The ports of one edge more, the sites before the first, and the sites after the last.
use Rattle.std.proofs.Common.{◌≡◌, ◌≢◌, ℕ, zero, suc, ◌+◌, ◌<◌, ◌==◌, ◌||◌, Bool, true, false, cond, All, Some, None, IsSome, Option, List, [], ◌∷◌, ◌++◌, filter, map, length, set, get_or, slice_get, refl, sym, ap, ◌∙◌, subst, inl, inr, ⊎_elim, arith, length-set}
use Rattle.std.specs.List.{range_with_len}
use Rattle.std.specs.Global.{Vec}
use Rattle.std.proofs.lemmas.Bool.{cases_Bool, cases_eq, eq-eqb, ne_eqb}
use Rattle.std.proofs.lemmas.List.{append-nil, map-append, map-set, get_or-map, get_or-set_same, get_or-set_other, length-map}
use Rattle.std.proofs.lemmas.List.Elements.{All-nil, All-cons, All-append}
use Rattle.std.proofs.lemmas.Option.{same_Some, slice_get_within, slice_get-get_or, get_or_from_slice_get}
use Rattle.dine_graph.specs.Plan.{SeenPlan, IsPlan, site_count, edge_count, edges_of, ends_of, lo_of, hi_of, is_end}
use Rattle.dine_graph.proofs.shared.ListLemmas.{filter-range_more}
use Rattle.dine_link.specs.Bells.{SeenBell, SeenRinger, new_ringer}
use Rattle.dine_rules.specs.World.{place_of}
use Rattle.dine_rules.proofs.shared.links.Across.{edge_at-place_of, place_of-edge_at}
use Rattle.dine_rules.proofs.shared.lists.Counting.{slice_get-before}
use Rattle.dine_threads.specs.private.Openings.{HaveNoPort, ArePlaced, AreNewPorts, AreRingersOf, HavePorts, HasNoPort, bells_of, rows_of}
use Rattle.dine_site_thread.specs.Ports.{SeenPort, IsFreshPort, seen_port, seen_ports}
use Rattle.dine_threads.specs.private.Spots.{IsPairAt, IsFullRow, row_at, slot_at, low_spot, high_spot}
use Rattle.dine_threads.specs.private.Wirings.{AreRingersAt, IsRung, IsWired, port_at}
use Rattle.dine_threads.specs.declared.opening.SitePorts.{SitePorts}
use Rattle.dine_threads.specs.declared.slots.EdgePair.{EdgePair}
use Rattle.dine_threads.specs.declared.slots.Spot.{Spot}
use Rattle.dine_threads.proofs.all_sites.Edges.{slice_get-push}
use Rattle.dine_site_thread.proofs.shared.lists.Seen.{there_is}
use Rattle.dine_link.specs.declared.lane.Lane.{Ghosts}

-- ---- lists

-- the last of a list
slice_get-last : {X : Type 0} (xs : List X) (x : X) → slice_get (xs ++ x ∷ []) (length xs) ≡ Some x
slice_get-last [] x = refl
slice_get-last (z ∷ xs) x = slice_get-last xs x

-- a write of an element, as it is seen
pub map-set_read : {A B : Type 0} (f : A → B) (xs : List A) (i : ℕ) (x y : A) (h : B → B) (d : B)
    → i < length xs → x ≡ get_or xs i x → f y ≡ h (f x) → map f (set xs i y) ≡ set (map f xs) i (h (get_or (map f xs) i d))
map-set_read f xs i x y h d below is same =
    map-set f xs i y ∙ ap (set (map f xs) i) (same ∙ ap h (ap f is ∙ sym (get_or-map f xs i x d below)))

-- one element more, as it is seen
pub map_grown : {A B : Type 0} (f : A → B) (old new : List A) (x : A) → new ≡ old ++ x ∷ [] → map f new ≡ map f old ++ f x ∷ []
map_grown f old new x grown = ap (map f) grown ∙ map-append f old (x ∷ [])

-- among the numbers of a range that pass, a number that passes is after those before it
slice_get-passing : (p : ℕ → Bool) (a n k e : ℕ) → a + k ≡ e → k < n → p e ≡ true → slice_get (filter p (range_with_len a n)) (length (filter p (range_with_len a k))) ≡ Some e
slice_get-passing p a zero k e is within passes = absurd (omega (arith, within))
slice_get-passing p a (suc n) zero e is within passes =
    let same : e ≡ a = omega (arith, is) in
    rw (subst (λ (x : ℕ). p x ≡ true) same passes) (ap Some (sym same))
slice_get-passing p a (suc n) (suc k) e is within passes =
    let rest = slice_get-passing p (a + 1) n k e (omega (arith, is)) (omega (arith, within)) passes in
    elim (cases_Bool (p a)) [
      | inl keeps ↦ rw keeps rest
      | inr drops ↦ rw drops rest
    ]

-- the place of an edge at an end of it is behind the earlier edges of that site
place_of-earlier : (plan : SeenPlan) (s n : ℕ) → n < edge_count plan → is_end plan s n ≡ true → place_of plan s n ≡ length (filter (is_end plan s) (range_with_len 0 n))
place_of-earlier plan s n within is =
    let place = length (filter (is_end plan s) (range_with_len 0 n)) in
    let at = slice_get-passing (is_end plan s) 0 (edge_count plan) n n (omega arith) within is in
    ap (λ (e : ℕ). place_of plan s e) (sym (get_or_from_slice_get (edges_of plan s) place n 0 at)) ∙ place_of-edge_at plan s place (slice_get_within (edges_of plan s) place n at)

-- ---- one edge more

-- The row of a site after an edge was placed: it has one port more if the site is an end of it.
record HasGrown {Identity : Type 0} (is_here : Bool) (edge : ℕ) (old new : List (SeenPort Identity)) : Type 0 where
  more : List (SeenPort Identity)
  is : new ≡ old ++ more
  fresh : All IsFreshPort more
  edges : map (λ (port : SeenPort Identity). port.tx.link.edge) more ≡ cond is_here (edge ∷ []) []

module _ {Identity : Type 0} where
  abbrev edge_of : SeenPort Identity → ℕ
  edge_of port = port.tx.link.edge

  -- one port more at a site
  abbrev pub with_port : List (List (SeenPort Identity)) → ℕ → SeenPort Identity → List (List (SeenPort Identity))
  with_port rows site port = set rows site (get_or rows site [] ++ port ∷ [])

  grown_by : (row new : List (SeenPort Identity)) (port : SeenPort Identity) (is_here : Bool) (edge : ℕ)
      → is_here ≡ true → IsFreshPort port → port.tx.link.edge ≡ edge → new ≡ row ++ port ∷ [] → HasGrown is_here edge row new
  grown_by row new port is_here edge here fresh same is = record {
    more = port ∷ [];
    is = is;
    fresh = All-cons IsFreshPort port [] fresh (All-nil IsFreshPort);
    edges = ap (λ (e : ℕ). e ∷ []) same ∙ ap (λ (b : Bool). cond {A = List ℕ} b (edge ∷ []) []) (sym here);
  }

  not_grown : (row new : List (SeenPort Identity)) (is_here : Bool) (edge : ℕ) → is_here ≡ false → new ≡ row → HasGrown is_here edge row new
  not_grown row new is_here edge elsewhere is = record {
    more = [];
    is = is ∙ sym (append-nil row);
    fresh = All-nil IsFreshPort;
    edges = ap (λ (b : Bool). cond {A = List ℕ} b (edge ∷ []) []) (sym elsewhere);
  }

  module _ (plan : SeenPlan) (bells : List SeenBell) (n : ℕ) (rows : List (List (SeenPort Identity))) (low high : SeenPort Identity) (is_plan : IsPlan plan) (within : n < edge_count plan) (placed : ArePlaced plan bells n rows)
      (ports : AreNewPorts plan bells n low high) where
    abbrev lower : ℕ
    lower = lo_of plan n

    abbrev higher : ℕ
    higher = hi_of plan n

    abbrev one_placed : List (List (SeenPort Identity))
    one_placed = with_port rows lower low

    abbrev two_placed : List (List (SeenPort Identity))
    two_placed = with_port one_placed higher high

    ordered : lower < higher
    ordered = is_plan.ordered n within

    high_within : higher < length rows
    high_within = omega (arith, is_plan.within n within, placed.count)

    -- the edge is of its two ends, and of no other site
    low_end : is_end plan lower n ≡ true
    low_end = ap (λ (b : Bool). b || (higher == lower)) (eq-eqb lower lower refl)

    high_end : is_end plan higher n ≡ true
    high_end = ap (λ (b : Bool). b || (higher == higher)) (ne_eqb lower higher (λ same. omega (arith, same, ordered))) ∙ eq-eqb higher higher refl

    no_end : (s : ℕ) → s ≢ lower → s ≢ higher → is_end plan s n ≡ false
    no_end s not_low not_high = ap (λ (b : Bool). b || (higher == s)) (ne_eqb lower s (λ same. not_low (sym same))) ∙ ne_eqb higher s (λ same. not_high (sym same))

    -- the rows of the two ends, and of another site
    low_row : get_or two_placed lower [] ≡ get_or rows lower [] ++ low ∷ []
    low_row =
        get_or-set_other one_placed higher lower (get_or one_placed higher [] ++ high ∷ []) [] (λ same. omega (arith, same, ordered))
        ∙ get_or-set_same rows lower (get_or rows lower [] ++ low ∷ []) [] (omega (arith, ordered, high_within))

    high_row : get_or two_placed higher [] ≡ get_or rows higher [] ++ high ∷ []
    high_row =
        get_or-set_same one_placed higher (get_or one_placed higher [] ++ high ∷ []) [] (omega (arith, high_within, length-set rows lower (get_or rows lower [] ++ low ∷ [])))
        ∙ ap (λ (row : List (SeenPort Identity)). row ++ high ∷ []) (get_or-set_other rows lower higher (get_or rows lower [] ++ low ∷ []) [] (λ same. omega (arith, same, ordered)))

    other_row : (s : ℕ) → s ≢ lower → s ≢ higher → get_or two_placed s [] ≡ get_or rows s []
    other_row s not_low not_high =
        get_or-set_other one_placed higher s (get_or one_placed higher [] ++ high ∷ []) [] not_high ∙ get_or-set_other rows lower s (get_or rows lower [] ++ low ∷ []) [] not_low

    abbrev Grown : ℕ → Type 0
    Grown s = HasGrown (is_end plan s n) n (get_or rows s []) (get_or two_placed s [])

    grown : (s : ℕ) → Grown s
    grown s =
        ⊎_elim
        (λ (same : s ≡ lower). subst Grown (sym same) (grown_by (get_or rows lower []) (get_or two_placed lower []) low (is_end plan lower n) n low_end ports.low_fresh ports.low_edge low_row))
        (λ not_low.
        ⊎_elim
        (λ (same : s ≡ higher). subst Grown (sym same) (grown_by (get_or rows higher []) (get_or two_placed higher []) high (is_end plan higher n) n high_end ports.high_fresh ports.high_edge high_row))
        (λ not_high. not_grown (get_or rows s []) (get_or two_placed s []) (is_end plan s n) n (no_end s not_low not_high) (other_row s not_low not_high))
        (cases_eq s higher))
        (cases_eq s lower)

    new_edges : (s : ℕ) → s < site_count plan → map edge_of (get_or two_placed s []) ≡ filter (is_end plan s) (range_with_len 0 (n + 1))
    new_edges s inside =
        let row = grown s in
        ap (map edge_of) row.is
        ∙ map-append edge_of (get_or rows s []) row.more
        ∙ ap (λ (edges : List ℕ). edges ++ map edge_of row.more) (placed.edges s inside)
        ∙ ap (λ (edges : List ℕ). filter (is_end plan s) (range_with_len 0 n) ++ edges) row.edges
        ∙ sym (filter-range_more (is_end plan s) n)

    -- a port stays at its place
    stays : (spot : Spot) (port : SeenPort Identity) → port_at rows spot ≡ Some port → port_at two_placed spot ≡ Some port
    stays spot port at =
        let row = grown spot.site in
        subst (λ (ports : List (SeenPort Identity)). slice_get ports spot.at ≡ Some port) (sym row.is) (slice_get-before (get_or rows spot.site []) row.more port spot.at at)

    -- the new port of a site is at the place of the edge
    port_last : (s : ℕ) (port : SeenPort Identity) → s < site_count plan → is_end plan s n ≡ true → get_or two_placed s [] ≡ get_or rows s [] ++ port ∷ []
        → slice_get (get_or two_placed s []) (place_of plan s n) ≡ Some port
    port_last s port inside here is =
        let last : place_of plan s n ≡ length (get_or rows s []) = place_of-earlier plan s n within here ∙ sym (ap length (placed.edges s inside)) ∙ length-map (get_or rows s []) edge_of in
        ap (λ (row : List (SeenPort Identity)). slice_get row (place_of plan s n)) is ∙ ap (λ (k : ℕ). slice_get (get_or rows s [] ++ port ∷ []) k) last ∙ slice_get-last (get_or rows s []) port

    new_wired : IsWired plan two_placed n
    new_wired = record {
      low = low;
      high = high;
      at_low = port_last lower low (omega (arith, ordered, is_plan.within n within)) low_end low_row;
      at_high = port_last higher high (is_plan.within n within) high_end high_row;
      goes = ports.goes;
      comes = ports.comes;
      low_edge = ports.low_edge;
      low_from = ports.low_from;
      high_edge = ports.high_edge;
      high_from = ports.high_from;
    }

    new_rung : IsRung plan bells two_placed n
    new_rung = record {
      low = low;
      high = high;
      at_low = port_last lower low (omega (arith, ordered, is_plan.within n within)) low_end low_row;
      at_high = port_last higher high (is_plan.within n within) high_end high_row;
      ringers = ports.ringers;
    }

    still_rung : (edge : ℕ) → IsRung plan bells rows edge → IsRung plan bells two_placed edge
    still_rung edge rung = record {
      low = rung.low;
      high = rung.high;
      at_low = stays (low_spot plan edge) rung.low rung.at_low;
      at_high = stays (high_spot plan edge) rung.high rung.at_high;
      ringers = rung.ringers;
    }

    still_wired : (edge : ℕ) → IsWired plan rows edge → IsWired plan two_placed edge
    still_wired edge wired = record {
      low = wired.low;
      high = wired.high;
      at_low = stays (low_spot plan edge) wired.low wired.at_low;
      at_high = stays (high_spot plan edge) wired.high wired.at_high;
      goes = wired.goes;
      comes = wired.comes;
      low_edge = wired.low_edge;
      low_from = wired.low_from;
      high_edge = wired.high_edge;
      high_from = wired.high_from;
    }

    placed_more : ArePlaced plan bells (n + 1) two_placed
    placed_more = record {
      count = length-set one_placed higher (get_or one_placed higher [] ++ high ∷ []) ∙ length-set rows lower (get_or rows lower [] ++ low ∷ []) ∙ placed.count;
      edges = new_edges;
      unused = λ s inside. (let row = grown s in subst (All IsFreshPort) (sym row.is) (All-append IsFreshPort (get_or rows s []) row.more (placed.unused s inside) row.fresh));
      wired = λ edge below.
          ⊎_elim
          (λ (same : edge ≡ n). subst (IsWired plan two_placed) (sym same) new_wired)
          (λ differ. still_wired edge (placed.wired edge (omega (arith, below, differ))))
          (cases_eq edge n);
      rung = λ edge below.
          ⊎_elim
          (λ (same : edge ≡ n). subst (IsRung plan bells two_placed) (sym same) new_rung)
          (λ differ. still_rung edge (placed.rung edge (omega (arith, below, differ))))
          (cases_eq edge n);
    }

  -- a port more at each of the two ends, one after the other
  pub placed_by : (plan : SeenPlan) (bells : List SeenBell) (n : ℕ) (before half after : List (List (SeenPort Identity))) (low high : SeenPort Identity) (ends : ℕ × ℕ)
      → IsPlan plan → n < edge_count plan → ends ≡ ends_of plan n
      → half ≡ with_port before ends.0 low → after ≡ with_port half ends.1 high → AreNewPorts plan bells n low high → ArePlaced plan bells n before → ArePlaced plan bells (n + 1) after
  placed_by plan bells n before half after low high ends is_plan within is lower higher ports placed =
      let both = higher ∙ ap (λ (rows : List (List (SeenPort Identity))). with_port rows ends.1 high) lower ∙ ap (λ (p : ℕ × ℕ). with_port (with_port before p.0 low) p.1 high) is in
      subst (ArePlaced plan bells (n + 1)) (sym both) (placed_more plan bells n before low high is_plan within placed ports)

-- ---- before the first edge, and after the last

module _ {Lane Tx Closed Rx : Type 0} (lane : Ghosts Lane Tx Closed Rx) where
  abbrev row_of : SitePorts Lane Tx Closed Rx → List (SeenPort lane.Identity)
  row_of site_ports = seen_ports lane site_ports.ports.items

  abbrev bell_of : SitePorts Lane Tx Closed Rx → SeenBell
  bell_of site_ports = site_ports.bell

  no_row : (all_ports : List (SitePorts Lane Tx Closed Rx)) → ((s : ℕ) (site_ports : SitePorts Lane Tx Closed Rx) → slice_get all_ports s ≡ Some site_ports → site_ports.ports.items ≡ [])
      → (s : ℕ) → get_or (map row_of all_ports) s [] ≡ []
  no_row [] none s = refl
  no_row (site_ports ∷ all_ports) none zero = ap (map (seen_port lane)) (none 0 site_ports refl)
  no_row (site_ports ∷ all_ports) none (suc s) = no_row all_ports (λ t other at. none (suc t) other at) s

  -- no port is placed at bare sites
  pub placed_none : (plan : SeenPlan) (all_ports : List (SitePorts Lane Tx Closed Rx)) → length all_ports ≡ site_count plan → HaveNoPort plan all_ports → ArePlaced plan (bells_of all_ports) 0 (rows_of lane all_ports)
  placed_none plan all_ports count bare =
      let none = no_row all_ports (λ s site_ports at. (bare s site_ports at).no_port) in
      record {
        count = length-map all_ports row_of ∙ count;
        edges = λ s _. ap (map edge_of) (none s);
        unused = λ s _. subst (All IsFreshPort) (sym (none s)) (All-nil IsFreshPort);
        wired = λ edge below. absurd (omega (arith, below));
        rung = λ edge below. absurd (omega (arith, below));
      }

  -- where the ports of all edges are placed, each site has what it is to have
  pub ports_from_placed : (plan : SeenPlan) (bare all_ports : List (SitePorts Lane Tx Closed Rx)) → HaveNoPort plan bare → bells_of all_ports ≡ bells_of bare
      → ArePlaced plan (bells_of bare) (edge_count plan) (rows_of lane all_ports) → HavePorts lane plan all_ports
  ports_from_placed plan bare all_ports are_bare bells placed s site_ports at =
      let inside = slice_get_within all_ports s site_ports at in
      let is : get_or all_ports s site_ports ≡ site_ports = get_or_from_slice_get all_ports s site_ports site_ports at in
      let within : s < site_count plan = omega (arith, inside, placed.count, length-map all_ports row_of) in
      let bare_within : s < length bare = omega (arith, inside, ap length bells, length-map all_ports bell_of, length-map bare bell_of) in
      let was = are_bare s (get_or bare s site_ports) (slice_get-get_or bare s site_ports bare_within) in
      let same : site_ports.bell ≡ (get_or bare s site_ports).bell =
      sym (get_or-map bell_of all_ports s site_ports site_ports.bell inside ∙ ap bell_of is) ∙ ap (λ (bells : List SeenBell). get_or bells s site_ports.bell) bells ∙ get_or-map bell_of bare s site_ports site_ports.bell bare_within in
      let row : get_or (map row_of all_ports) s [] ≡ row_of site_ports = get_or-map row_of all_ports s site_ports [] inside ∙ ap row_of is in
      record {
        ports =
            sym (length-map site_ports.ports.items (seen_port lane)) ∙ sym (ap length row) ∙ sym (length-map (get_or (map row_of all_ports) s []) edge_of) ∙ ap length (placed.edges s within);
        unused = subst (All IsFreshPort) row (placed.unused s within);
        unrefused = ap (λ (bell : SeenBell). bell.refused) same ∙ was.unrefused;
        unchecked = ap (λ (bell : SeenBell). bell.found_empty) same ∙ was.unchecked;
      }

-- ---- one site more

-- a bare site more
pub bare_more : {Lane Tx Closed Rx : Type 0} (plan : SeenPlan) (old new : List (SitePorts Lane Tx Closed Rx)) (site_ports : SitePorts Lane Tx Closed Rx) (n : ℕ)
    → n ≡ length old → new ≡ old ++ site_ports ∷ [] → HaveNoPort plan old → HasNoPort plan n site_ports → HaveNoPort plan new
bare_more {Lane} {Tx} {Closed} {Rx} plan old new site_ports n count grown bare here = λ s other at.
    elim (slice_get-push old site_ports other s (subst (λ (all_ports : List (SitePorts Lane Tx Closed Rx)). slice_get all_ports s ≡ Some other) grown at)) [
      | inl before ↦ bare s other before
      | inr last ↦ subst (λ (one : SitePorts Lane Tx Closed Rx). HasNoPort plan s one) last.1 (subst (λ (k : ℕ). HasNoPort plan k site_ports) (count ∙ sym last.0) here)
    ]

module _ {P : Type 0} where
  some_each : (xs : List P) (i : ℕ) → i < length xs → IsSome (get_or (map Some xs) i None)
  some_each [] i below = absurd (omega (arith, below))
  some_each (x ∷ xs) zero below = refl
  some_each (x ∷ xs) (suc i) below = some_each xs i (omega arith)

  -- a row that was filled is full
  pub filled : (xs : List P) (row : List (Option P)) (n : ℕ) → length xs ≡ n → row ≡ map Some xs → IsFullRow n row
  filled xs row n count is = record {
    count = ap length is ∙ length-map xs Some ∙ count;
    full = λ i below. subst (λ (r : List (Option P)). IsSome (get_or r i None)) (sym is) (some_each xs i (omega (arith, below, count)));
  }

  row_before : (rows : List (Vec (Option P))) (row : Vec (Option P)) (s : ℕ) → s < length rows → row_at (rows ++ row ∷ []) s ≡ row_at rows s
  row_before [] row s below = absurd (omega (arith, below))
  row_before (r ∷ rows) row zero below = refl
  row_before (r ∷ rows) row (suc s) below = row_before rows row s (omega arith)

  row_last : (rows : List (Vec (Option P))) (row : Vec (Option P)) → row_at (rows ++ row ∷ []) (length rows) ≡ row.items
  row_last [] row = refl
  row_last (r ∷ rows) row = row_last rows row

  -- a full row more
  pub full_more : (plan : SeenPlan) (old new : List (Vec (Option P))) (row : Vec (Option P)) (n : ℕ) → n ≡ length old → new ≡ old ++ row ∷ []
      → ((s : ℕ) → s < n → IsFullRow (length (edges_of plan s)) (row_at old s)) → IsFullRow (length (edges_of plan n)) row.items
      → (s : ℕ) → s < n + 1 → IsFullRow (length (edges_of plan s)) (row_at new s)
  full_more plan old new row n count grown full here s below =
      ⊎_elim
      (λ (same : s ≡ n).
      let last : row_at new s ≡ row.items = ap (λ (rows : List (Vec (Option P))). row_at rows s) grown ∙ ap (row_at (old ++ row ∷ [])) (same ∙ count) ∙ row_last old row in
      subst (IsFullRow (length (edges_of plan s))) (sym last) (subst (λ (k : ℕ). IsFullRow (length (edges_of plan k)) row.items) (sym same) here))
      (λ differ.
      let earlier : s < n = omega (arith, below, differ) in
      let kept : row_at new s ≡ row_at old s = ap (λ (rows : List (Vec (Option P))). row_at rows s) grown ∙ row_before old row s (omega (arith, earlier, count)) in
      subst (IsFullRow (length (edges_of plan s))) (sym kept) (full s earlier))
      (cases_eq s n)

-- a row that was filled with one thing a number has that of each
pub filled_at : {P : Type 0} (f : ℕ → P) (a n i : ℕ) → i < n → get_or (map Some (map f (range_with_len a n))) i None ≡ Some (f (a + i))
filled_at f a zero i below = absurd (omega (arith, below))
filled_at f a (suc n) zero below = let same : a ≡ a + 0 = omega arith in ap (λ (k : ℕ). Some (f k)) same
filled_at f a (suc n) (suc i) below = let shift : a + 1 + i ≡ a + suc i = omega arith in filled_at f (a + 1) n i (omega arith) ∙ ap (λ (k : ℕ). Some (f k)) shift

-- the ringers of a bell more
pub ringers_more : {Lane Tx Closed Rx : Type 0} (plan : SeenPlan) (old new : List (SitePorts Lane Tx Closed Rx)) (site_ports : SitePorts Lane Tx Closed Rx) (rows grown_rows : List (Vec (Option SeenRinger))) (row : Vec (Option SeenRinger)) (n : ℕ)
    → n ≡ length old → n ≡ length rows → new ≡ old ++ site_ports ∷ [] → grown_rows ≡ rows ++ row ∷ [] → AreRingersOf plan (bells_of old) rows
    → ((i : ℕ) → i < length (edges_of plan n) → get_or row.items i None ≡ Some (new_ringer site_ports.bell.identity i)) → AreRingersOf plan (bells_of new) grown_rows
ringers_more {Lane} {Tx} {Closed} {Rx} plan old new site_ports rows grown_rows row n count row_count grown more before here = λ s i bell at inside.
    let pushed : slice_get (bells_of old ++ site_ports.bell ∷ []) s ≡ Some bell =
    ap (λ (bells : List SeenBell). slice_get bells s) (sym (map_grown (λ (one : SitePorts Lane Tx Closed Rx). one.bell) old new site_ports grown)) ∙ at in
    let counted : length (bells_of old) ≡ length old = length-map old (λ (one : SitePorts Lane Tx Closed Rx). one.bell) in
    ap (λ (r : List (Vec (Option SeenRinger))). slot_at r (record { site = s; at = i })) more
    ∙ elim (slice_get-push (bells_of old) site_ports.bell bell s pushed) [
      | inl earlier ↦
          ap (λ (r : List (Option SeenRinger)). get_or r i None) (row_before rows row s (omega (arith, slice_get_within (bells_of old) s bell earlier, counted, count, row_count)))
          ∙ before s i bell earlier inside
      | inr last ↦
          let number : s ≡ n = omega (arith, last.0, counted, count) in
          ap (λ (k : ℕ). get_or (row_at (rows ++ row ∷ []) k) i None) (number ∙ row_count) ∙ ap (λ (r : List (Option SeenRinger)). get_or r i None) (row_last rows row)
          ∙ here i (subst (λ (k : ℕ). i < length (edges_of plan k)) number inside) ∙ ap (λ (b : SeenBell). Some (new_ringer b.identity i)) last.1
    ]

-- the ringers of the two ends of an edge
pub ringers_at : (plan : SeenPlan) (bells : List SeenBell) (rows : List (Vec (Option SeenRinger))) → AreRingersOf plan bells rows → (edge : ℕ) (both : EdgePair SeenRinger) → IsPlan plan → edge < edge_count plan → length bells ≡ site_count plan
    → IsPairAt plan rows edge both → AreRingersAt plan bells edge both
ringers_at plan bells rows ringers edge both is_plan within count all_ports =
    let lo = lo_of plan edge in
    let hi = hi_of plan edge in
    let ordered = is_plan.ordered edge within in
    let bound = is_plan.within edge within in
    let low_bell = there_is bells lo (omega (arith, ordered, bound, count)) in
    let high_bell = there_is bells hi (omega (arith, bound, count)) in
    let low_is : is_end plan lo edge ≡ true = ap (λ (b : Bool). b || (hi == lo)) (eq-eqb lo lo refl) in
    let high_is : is_end plan hi edge ≡ true = ap (λ (b : Bool). b || (hi == hi)) (ne_eqb lo hi (λ same. omega (arith, same, ordered))) ∙ eq-eqb hi hi refl in
    record {
      low_bell = low_bell.0;
      high_bell = high_bell.0;
      has_low = low_bell.1;
      has_high = high_bell.1;
      low = same_Some both.low (new_ringer low_bell.0.identity (place_of plan lo edge)) (sym all_ports.low ∙ ringers lo (place_of plan lo edge) low_bell.0 low_bell.1 (edge_at-place_of plan lo edge within low_is).0);
      high = same_Some both.high (new_ringer high_bell.0.identity (place_of plan hi edge)) (sym all_ports.high ∙ ringers hi (place_of plan hi edge) high_bell.0 high_bell.1 (edge_at-place_of plan hi edge within high_is).0);
    }
