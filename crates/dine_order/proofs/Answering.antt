-- What the search returns at its end.
use Rattle.std.proofs.Common.{◌≡◌, ◌≢◌, ℕ, ◌<◌, ◌≤◌, List, [], ◌∷◌, ◌++◌, length, get_or, Some, None, Result, Ok, Err, IfErr, IsErrAnd, refl, sym, ◌∙◌, ap, subst, inl, inr, arith, append-nil, length-append}
use mathlib.Core.List.{IsPrefix}
use Rattle.std.proofs.lemmas.Bool.{cases_lt}
use Rattle.std.proofs.lemmas.List.{get_or_past}
use Rattle.dine_graph.specs.Plan.{SeenPlan, IsPlan, site_count}
use Rattle.dine_rules.specs.declared.events.Event.{Event}
use Rattle.dine_rules.specs.declared.events.EventKind.{EventKind}
use Rattle.dine_rules.specs.Journals.{IsOrderOf, IsPlacedToEnd, IsWholeOrder, journal_of, part_of}
use Rattle.dine_rules.specs.World.{IsComplete, Reaches, WorldState, enabled_events}
use Rattle.dine_world.specs.Worlds.{SeenWorld}
use Rattle.dine_order.specs.declared.orders.OrderFault.{OrderFault}
use Rattle.dine_order.specs.declared.orders.OrderFault.TheVariants.{Memory}
use Rattle.dine_order.specs.Orders.{HasNoOrder, IsNotClosed, IsStuckAt}
use Rattle.dine_order.specs.private.Searching.{FirstLeft, IsSearched}

-- what the laws say of a world at the end of a search
abbrev pub FindsAll : Type 0
FindsAll = (plan : SeenPlan) (journals : List (List EventKind)) (order placed : List Event) (world : WorldState) → IsWholeOrder plan journals order → IsPlacedToEnd plan journals placed world → IsOrderOf journals placed

abbrev pub FindsComplete : Type 0
FindsComplete = (plan : SeenPlan) (journals : List (List EventKind)) (order placed : List Event) (world : WorldState) → IsWholeOrder plan journals order → IsPlacedToEnd plan journals placed world → IsComplete plan world

abbrev pub StuckIsComplete : Type 0
StuckIsComplete = (plan : SeenPlan) (events : List Event) (world : WorldState) → IsPlan plan → Reaches plan events world → enabled_events plan world ≡ [] → IsComplete plan world

abbrev pub CompleteIsStuck : Type 0
CompleteIsStuck = (plan : SeenPlan) (events : List Event) (world : WorldState) → IsPlan plan → Reaches plan events world → IsComplete plan world → enabled_events plan world ≡ []

-- a front of a list that is no shorter is all of it
whole_front : (front kinds : List EventKind) → IsPrefix front kinds → length kinds ≤ length front → front ≡ kinds
whole_front front kinds prefix long = none_left prefix.0 (omega (arith, length-append front prefix.0, ap length prefix.1)) prefix.1 where
  none_left : (rest : List EventKind) → length rest ≤ 0 → front ++ rest ≡ kinds → front ≡ kinds
  none_left [] few is = sym (append-nil front) ∙ is
  none_left (kind ∷ rest) few is = absurd (omega arith)

-- no element, no list
empty : {X : Type 0} (xs : List X) → length xs ≡ 0 → xs ≡ []
empty [] h = refl
empty (x ∷ xs) h = absurd (omega arith)

module _ (plan : SeenPlan) (journals : List (List EventKind)) (placed : List Event) (counts : List ℕ) (seen : SeenWorld) (done : IsSearched plan journals placed counts seen) (count : length journals ≡ site_count plan) where
  -- if as many of a site's events are placed as its journal has, all are placed
  all_of : (s : ℕ) → s < site_count plan → length (journal_of journals s) ≤ get_or counts s 0 → part_of s placed ≡ journal_of journals s
  all_of s is_site long = whole_front (part_of s placed) (journal_of journals s) (done.to_end.front s) (omega (arith, done.counted s is_site, long))

  pub stuck_at : FindsAll → (site : ℕ) → FirstLeft (site_count plan) journals counts (Some site) → IsStuckAt plan journals site (get_or counts site 0) × HasNoOrder plan journals
  stuck_at finds site first =
      let left : length (part_of site placed) < length (journal_of journals site) = omega (arith, done.counted site first.0, first.1) in (
        record {
          events = placed;
          world = done.state;
          to_end = done.to_end;
          lowest_first = done.lowest_first;
          is_site = first.0;
          has_left = left;
          lower_have_none = λ s h. all_of s (let n = first.0 in omega arith) (first.2 s h);
          count = done.counted site first.0;
        },
        λ events whole. omega (arith, left, ap length (finds plan journals events placed done.state whole done.to_end site)),
      )

  -- if no site has events left, the events are an order of the journals
  all_placed : FirstLeft (site_count plan) journals counts None → IsOrderOf journals placed
  all_placed none s = elim (cases_lt s (site_count plan)) [
    | inl is_site ↦ all_of s is_site (none s is_site)
    | inr past ↦ whole_front (part_of s placed) (journal_of journals s) (done.to_end.front s) (omega (arith, ap length (get_or_past journals s [] (let n = count in omega arith))))
  ]

  pub not_closed : FindsComplete → CompleteIsStuck → FirstLeft (site_count plan) journals counts None → length (enabled_events plan done.state) ≢ 0 → IsNotClosed plan journals × HasNoOrder plan journals
  not_closed finds stuck none some =
      let not_done : IsComplete plan done.state → ⊥ = λ complete. some (ap length (stuck plan placed done.state done.stands.reached.is_plan done.to_end.accepted complete)) in (
        record {
          events = placed;
          world = done.state;
          holds_journals = all_placed none;
          accepted = done.to_end.accepted;
          lowest_first = done.lowest_first;
          not_complete = not_done;
        },
        λ events whole. not_done (finds plan journals events placed done.state whole done.to_end),
      )

  pub whole_order : StuckIsComplete → FirstLeft (site_count plan) journals counts None → length (enabled_events plan done.state) ≡ 0 → IsWholeOrder plan journals placed
  whole_order complete none closed = record {
    world = done.state;
    holds_journals = all_placed none;
    accepted = done.to_end.accepted;
    complete = complete plan placed done.state done.stands.reached.is_plan done.to_end.accepted (empty (enabled_events plan done.state) closed);
  }

-- if an allocation failed, this is the fault
pub memory_told : {A : Type 0} (result : Result A OrderFault) → IsErrAnd result (λ fault. fault ≡ Memory) → (P : OrderFault → Type 0) → P Memory → IfErr result P
memory_told (Ok answer) told P holds = absurd told
memory_told (Err fault) told P holds = subst P (sym told) holds
