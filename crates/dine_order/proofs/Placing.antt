-- The search for an order: what is known after each look for the next event, and after each event.
use Rattle.std.proofs.Common.{◌≡◌, ◌≢◌, ℕ, ◌+◌, ◌<◌, ◌≤◌, ◌==◌, not, Bool, true, false, List, [], ◌∷◌, ◌++◌, length, get_or, replicate, slice_get, slice_set, Option, Some, None, position, refl, sym, ◌∙◌, ap, subst, inl, inr, arith, filter, length-append}
use Rattle.std.specs.Option.{option_and_then}
use Rattle.std.proofs.lemmas.Bool.{cases_eq, cases_lt, true≢false}
use Rattle.std.proofs.lemmas.List.{get_or-set_same, get_or-set_other, get_or-replicate, get_or_past, length-map, length-set, length-replicate}
use Rattle.std.proofs.lemmas.List.Filters.{length-filter_both}
use Rattle.std.proofs.lemmas.Option.{same_Some, slice_get-get_or, slice_get_past}
use Rattle.dine_graph.specs.Plan.{SeenPlan, IsPlan, edges_of, site_count}
use Rattle.dine_rules.specs.declared.events.Event.{Event}
use Rattle.dine_rules.specs.declared.events.EventKind.{EventKind}
use Rattle.dine_rules.specs.Bound.{bound_of}
use Rattle.dine_rules.specs.Journals.{IsFrontOf, IsLowestFirst, OrdersGrow, can_follow, is_ready, journal_of, next_of, part_of}
use Rattle.dine_rules.specs.Local.{neighbour_at}
use Rattle.dine_rules.specs.declared.events.Shape.TheVariants.{Puts}
use Rattle.dine_rules.specs.Steps.{IsPlaceWithin, shape_of}
use Rattle.dine_rules.specs.World.{Reaches, WorldState, after_events, is_enabled, start, world_after}
use Rattle.dine_world.specs.Worlds.{IsWorldOf, SeenWorld, WorldStep}
use Rattle.dine_order.specs.private.Searching.{AreCounts, IsFound, IsSearched, IsSearching, kind_at, receiver_by, receiver_of}
use Rattle.dine_order.proofs.Sets.{first_is_in, last_cases, longer_front, none_below, nothing_in, past_full}

-- ---- what the laws say, as they are called

-- there are no more events than the bound of the plan
abbrev pub AreBounded : Type 0
AreBounded = (plan : SeenPlan) (events : List Event) (world : WorldState) → IsPlan plan → Reaches plan events world → length events ≤ bound_of plan

-- an event of a site waits for its own site, or for a letter to it
abbrev pub EventsWait : Type 0
EventsWait = (plan : SeenPlan) (events : List Event) (world new : WorldState) (e other : Event) → IsPlan plan → Reaches plan events world → world_after plan world other ≡ Some new → e.site ≢ other.site
    → ((i : ℕ) → shape_of other.kind ≡ Puts i → neighbour_at plan other.site i ≢ e.site) → is_enabled plan new e ≡ is_enabled plan world e

-- ---- the next event of a site

module _ (plan : SeenPlan) (journals : List (List EventKind)) (placed : List Event) (counts : List ℕ) (untried : List Bool) (seen : SeenWorld) (search : IsSearching plan journals placed counts untried seen) where
  -- the counts give it
  pub next_is : (s : ℕ) → kind_at journals counts s ≡ next_of journals placed s
  next_is s = elim (cases_lt s (site_count plan)) [
    | inl is_site ↦
        let journal : slice_get journals s ≡ Some (journal_of journals s) = slice_get-get_or journals s [] (let n = search.journals_count in omega arith) in
        let count : slice_get counts s ≡ Some (get_or counts s 0) = slice_get-get_or counts s 0 (let n = search.counts_count in omega arith) in
        ap (option_and_then (λ (j : List EventKind). option_and_then (λ (k : ℕ). slice_get j k) (slice_get counts s))) journal
        ∙ ap (option_and_then (λ (k : ℕ). slice_get (journal_of journals s) k)) count
        ∙ ap (slice_get (journal_of journals s)) (search.counted s is_site)
    | inr past ↦
        let few : length journals ≤ s = let n = search.journals_count in omega arith in
        ap (option_and_then (λ (j : List EventKind). option_and_then (λ (k : ℕ). slice_get j k) (slice_get counts s))) (slice_get_past journals s few)
        ∙ sym (ap (λ (j : List EventKind). slice_get j (length (part_of s placed))) (get_or_past journals s [] few))
  ]

  -- a site with no next event is not ready, nor is one whose next event is not enabled
  pub not_ready_without : (s : ℕ) → kind_at journals counts s ≡ None → is_ready plan journals placed search.state s ≡ false
  not_ready_without s none = ap (can_follow plan search.state s) (sym (next_is s) ∙ none)

  pub not_ready_disabled : (s : ℕ) (kind : EventKind) → kind_at journals counts s ≡ Some kind → is_enabled plan search.state (record { site = s; kind = kind }) ≡ false → is_ready plan journals placed search.state s ≡ false
  not_ready_disabled s kind next disabled = ap (can_follow plan search.state s) (sym (next_is s) ∙ next) ∙ disabled

  -- such a site may leave the set
  pub taken_out : (s : ℕ) → is_ready plan journals placed search.state s ≡ false → IsSearching plan journals placed counts (slice_set untried s false) seen
  taken_out s not_ready = record {
    state = search.state;
    stands = search.stands;
    accepted = search.accepted;
    front = search.front;
    lowest_first = search.lowest_first;
    journals_count = search.journals_count;
    counts_count = search.counts_count;
    counted = search.counted;
    size = length-set untried s false ∙ search.size;
    tried = λ t out. elim (cases_eq t s) [
      | inl same ↦ ap (is_ready plan journals placed search.state) same ∙ not_ready
      | inr other ↦ search.tried t (sym (get_or-set_other untried s t false false other) ∙ out)
    ];
  }

  -- if the set is empty, no site is ready
  pub searched : position (λ b. b) untried ≡ None → IsSearched plan journals placed counts seen
  searched none = record {
    state = search.state;
    stands = search.stands;
    to_end = record { front = search.front; accepted = search.accepted; none_ready = λ s. search.tried s (nothing_in untried s none) };
    lowest_first = search.lowest_first;
    counts_count = search.counts_count;
    counted = search.counted;
  }

  -- if the world did the next event of the first site of the set, this is the lowest ready site
  pub found : (s : ℕ) (kind : EventKind) (new : SeenWorld) → position (λ b. b) untried ≡ Some s → kind_at journals counts s ≡ Some kind → WorldStep plan search.state (record { site = s; kind = kind }) new
      → IsFound plan journals placed counts untried (record { site = s; kind = kind }) new
  found s kind new first next step = record {
    state = search.state;
    accepted = search.accepted;
    front = search.front;
    lowest_first = search.lowest_first;
    journals_count = search.journals_count;
    counts_count = search.counts_count;
    counted = search.counted;
    size = search.size;
    tried = search.tried;
    is_next = sym (next_is s) ∙ next;
    lower = λ t h. search.tried t (none_below untried s t first h);
    own_is_in = λ out. true≢false (sym (first_is_in untried s first) ∙ out);
    next = step.after;
    happens = step.happens;
    stands = step.stands;
  }

-- ---- an event more

-- no site below that of the last event was ready before it
lowest_then : (plan : SeenPlan) (journals : List (List EventKind)) (placed : List Event) (state : WorldState) (e : Event) → IsLowestFirst plan journals placed → Reaches plan placed state
    → ((s : ℕ) → s < e.site → is_ready plan journals placed state s ≡ false) → IsLowestFirst plan journals (placed ++ e ∷ [])
lowest_then plan journals placed state e lowest accepted lower before rest f world is reached s below = elim (last_cases placed before rest e f is) [
  | inl w ↦
      let same : world ≡ state = same_Some world state (sym reached ∙ ap (λ (x : List Event). after_events plan (start plan) x) w.0 ∙ accepted) in
      ap (λ (x : List Event). is_ready plan journals x world s) w.0 ∙ ap (λ (x : WorldState). is_ready plan journals placed x s) same ∙ lower s (subst (λ (x : Event). s < x.site) w.1 below)
  | inr w ↦ lowest before w.0 f world w.1 reached s below
]

-- there are no more events of a site than of all
pub part_short : (s : ℕ) (events : List Event) → length (part_of s events) ≤ length events
part_short s events =
    let both = length-filter_both (λ (e : Event). e.site == s) (λ e. not (e.site == s)) (λ _. refl) events in
    omega (arith, both, length-map (filter (λ (e : Event). e.site == s) events) (λ e. e.kind))

module _ (grows : OrdersGrow) (plan : SeenPlan) (journals : List (List EventKind)) (placed : List Event) (counts : List ℕ) (untried : List Bool) (e : Event) (seen : SeenWorld) (found : IsFound plan journals placed counts untried e seen) where
  is_plan : IsPlan plan
  is_plan = found.stands.reached.is_plan

  pub is_site : e.site < site_count plan
  is_site = grows.is_site plan found.state found.next e found.happens

  -- its place is one of its site
  pub place_within : IsPlaceWithin (length (edges_of plan e.site)) (shape_of e.kind)
  place_within = grows.is_place plan placed found.state found.next e is_plan found.accepted found.happens

  -- the events of all sites are few
  pub few_placed : AreBounded → length (part_of e.site placed) ≤ bound_of plan
  few_placed bounded = omega (arith, part_short e.site placed, bounded plan placed found.state is_plan found.accepted)

  then_own : (s : ℕ) → e.site ≡ s → part_of s (placed ++ e ∷ []) ≡ part_of s placed ++ e.kind ∷ []
  then_own s same = subst (λ (x : ℕ). part_of x (placed ++ e ∷ []) ≡ part_of x placed ++ e.kind ∷ []) same (grows.own placed e)

  front_then : IsFrontOf journals (placed ++ e ∷ [])
  front_then s = elim (cases_eq e.site s) [
    | inl same ↦
        let w = longer_front (part_of s placed) (found.front s).0 (journal_of journals s) e.kind (found.front s).1 (subst (λ (x : ℕ). slice_get (journal_of journals x) (length (part_of x placed)) ≡ Some e.kind) same found.is_next) in
        (w.0, ap (λ (x : List EventKind). x ++ w.0) (then_own s same) ∙ w.1)
    | inr differs ↦ ((found.front s).0, ap (λ (x : List EventKind). x ++ (found.front s).0) (grows.others placed e s differs) ∙ (found.front s).1)
  ]

  counted_then : AreCounts plan (placed ++ e ∷ []) (slice_set counts e.site (get_or counts e.site 0 + 1))
  counted_then s h = elim (cases_eq e.site s) [
    | inl same ↦ subst (λ (x : ℕ). get_or (slice_set counts e.site (get_or counts e.site 0 + 1)) x 0 ≡ length (part_of x (placed ++ e ∷ []))) same
        (get_or-set_same counts e.site (get_or counts e.site 0 + 1) 0 (let n = found.counts_count in let m = is_site in omega arith)
        ∙ ap (λ (x : ℕ). x + 1) (found.counted e.site is_site)
        ∙ sym (ap length (grows.own placed e) ∙ length-append (part_of e.site placed) (e.kind ∷ [])))
    | inr differs ↦ get_or-set_other counts e.site s (get_or counts e.site 0 + 1) 0 (λ is. differs (sym is)) ∙ found.counted s h
        ∙ sym (ap length (grows.others placed e s differs))
  ]

  -- a site that did not act and got no letter is ready only if it was before
  still_not_ready : EventsWait → (s : ℕ) → get_or untried s false ≡ false → ((i : ℕ) → shape_of e.kind ≡ Puts i → neighbour_at plan e.site i ≢ s) → is_ready plan journals (placed ++ e ∷ []) found.next s ≡ false
  still_not_ready waits s out no_letter =
      let differs : e.site ≢ s = λ same. found.own_is_in (ap (λ (x : ℕ). get_or untried x false) same ∙ out) in
      ap (λ (x : List EventKind). can_follow plan found.next s (slice_get (journal_of journals s) (length x))) (grows.others placed e s differs)
      ∙ same_there (next_of journals placed s) ∙ found.tried s out where
        same_there : (next : Option EventKind) → can_follow plan found.next s next ≡ can_follow plan found.state s next
        same_there None = refl
        same_there (Some kind) = waits plan placed found.state found.next (record { site = s; kind = kind }) e is_plan found.accepted found.happens
            (λ same. found.own_is_in (ap (λ (x : ℕ). get_or untried x false) (sym same) ∙ out)) no_letter

  -- with the site in the set that gets a letter, if one does, each site outside it is not ready
  then_search : EventsWait → (set : List Bool) → length set ≡ 64 → ((s : ℕ) → get_or set s false ≡ false → (get_or untried s false ≡ false) × ((i : ℕ) → shape_of e.kind ≡ Puts i → neighbour_at plan e.site i ≢ s))
      → IsSearching plan journals (placed ++ e ∷ []) (slice_set counts e.site (get_or counts e.site 0 + 1)) set seen
  then_search waits set size outside = record {
    state = found.next;
    stands = found.stands;
    accepted = grows.accepted plan placed found.state found.next e found.accepted found.happens;
    front = front_then;
    lowest_first = lowest_then plan journals placed found.state e found.lowest_first found.accepted found.lower;
    journals_count = found.journals_count;
    counts_count = length-set counts e.site (get_or counts e.site 0 + 1) ∙ found.counts_count;
    counted = counted_then;
    size = size;
    tried = λ s out. still_not_ready waits s (outside s out).0 (outside s out).1;
  }

  pub search_without : EventsWait → None ≡ receiver_of plan e → IsSearching plan journals (placed ++ e ∷ []) (slice_set counts e.site (get_or counts e.site 0 + 1)) untried seen
  search_without waits none = then_search waits untried found.size (λ s out. (
    out,
    λ i is same.
        let some : None ≡ Some (neighbour_at plan e.site i) = none ∙ ap (receiver_by plan e.site) is in
        absurd cc,
  ))

  pub search_with : EventsWait → (r : ℕ) → r < 64 → Some r ≡ receiver_of plan e → IsSearching plan journals (placed ++ e ∷ []) (slice_set counts e.site (get_or counts e.site 0 + 1)) (slice_set untried r true) seen
  search_with waits r within gets = then_search waits (slice_set untried r true) (length-set untried r true ∙ found.size) (λ s out. elim (cases_eq s r) [
    | inl same ↦ absurd (true≢false (sym (get_or-set_same untried r true false (let n = found.size in omega arith)) ∙ ap (λ (x : ℕ). get_or (slice_set untried r true) x false) (sym same) ∙ out))
    | inr other ↦ (
      sym (get_or-set_other untried r s true false other) ∙ out,
      λ i is same.
          other (sym same ∙ sym (same_Some r (neighbour_at plan e.site i) (gets ∙ ap (receiver_by plan e.site) is))),
    )
  ])

-- ---- the start

pub starts : (plan : SeenPlan) (journals : List (List EventKind)) (seen : SeenWorld) → IsWorldOf plan (start plan) seen → length journals ≡ site_count plan
    → IsSearching plan journals [] (replicate (site_count plan) 0) (replicate 64 true) seen
starts plan journals seen stands count = record {
  state = start plan;
  stands = stands;
  accepted = refl;
  front = λ s. (journal_of journals s, refl);
  lowest_first = λ before rest e world is reached s below. absurd (no_end before e rest is);
  journals_count = count;
  counts_count = length-replicate (site_count plan) 0;
  counted = λ s h. get_or-replicate (site_count plan) s 0 0 h;
  size = refl;
  tried = λ s out. ap (λ (j : List EventKind). can_follow plan (start plan) s (slice_get j 0)) (get_or_past journals s []
      (let past = past_full 64 s out in let few = stands.reached.is_plan.few_sites in omega arith));
} where
  no_end : (before : List Event) (e : Event) (rest : List Event) → [] ≡ before ++ e ∷ rest → ⊥
  no_end [] e rest same = cc
  no_end (b ∷ before) e rest same = cc

-- the same for lists that are equal to the first ones
pub starts_as : (plan : SeenPlan) (journals : List (List EventKind)) (placed : List Event) (counts : List ℕ) (untried : List Bool) (seen : SeenWorld) → IsWorldOf plan (start plan) seen → length journals ≡ site_count plan
    → placed ≡ [] → counts ≡ replicate (site_count plan) 0 → untried ≡ replicate 64 true → IsSearching plan journals placed counts untried seen
starts_as plan journals placed counts untried seen stands count none zeros full =
    subst (λ (x : List Event). IsSearching plan journals x counts untried seen) (sym none)
    (subst (λ (x : List ℕ). IsSearching plan journals [] x untried seen) (sym zeros)
    (subst (λ (x : List Bool). IsSearching plan journals [] (replicate (site_count plan) 0) x seen) (sym full) (starts plan journals seen stands count)))

-- there are no more events than the bound of the plan
pub fewer_left : AreBounded → (plan : SeenPlan) (journals : List (List EventKind)) (placed : List Event) (counts : List ℕ) (untried : List Bool) (seen : SeenWorld) → IsSearching plan journals placed counts untried seen
    → length placed ≤ bound_of plan
fewer_left bounded plan journals placed counts untried seen search = bounded plan placed search.state search.stands.reached.is_plan search.accepted

-- the same for a set and a world that are equal to these
pub search_as : (plan : SeenPlan) (journals : List (List EventKind)) (placed : List Event) (counts : List ℕ) (set untried : List Bool) (new seen : SeenWorld) → set ≡ untried → new ≡ seen
    → IsSearching plan journals placed counts untried seen → IsSearching plan journals placed counts set new
search_as plan journals placed counts set untried new seen same_set same_world search =
    subst (λ (x : List Bool). IsSearching plan journals placed counts x new) (sym same_set) (subst (IsSearching plan journals placed counts untried) (sym same_world) search)
