-- Two orders of the same journals lead to one world. An order that exists is found, whichever ready site goes first.
use Rattle.std.proofs.Common.{◌≡◌, ◌≢◌, ℕ, true, List, [], ◌∷◌, ◌++◌, length, slice_get, slice_set, Option, Some, is_some, refl, sym, ◌∙◌, ap, subst, inl, inr, append-nil, arith}
use mathlib.Core.List.{IsPrefix}
use Rattle.std.specs.Option.{option_and_then}
use Rattle.std.proofs.lemmas.Bool.{cases_eq, true≢false}
use Rattle.std.proofs.lemmas.List.{set_comm}
use Rattle.std.proofs.lemmas.Option.{same_Some}
use Rattle.dine_graph.specs.Plan.{SeenPlan}
use Rattle.dine_rules.specs.declared.events.Event.{Event}
use Rattle.dine_rules.specs.declared.events.EventKind.{EventKind}
use Rattle.dine_rules.specs.Local.{LocalState}
use Rattle.dine_rules.specs.Steps.{after}
use Rattle.dine_rules.specs.World.{WorldState, IsComplete, Reaches, after_events, is_enabled, start, state_of, world_after}
use Rattle.dine_rules.specs.Journals.{IsFrontOf, IsOrderOf, IsPlacedToEnd, IsWholeOrder, can_follow, is_ready, journal_of, next_of, part_of}
use Rattle.dine_rules.proofs.journals.Parts.{part-other, part-same, same_event}
use Rattle.dine_rules.proofs.shared.counting.Persistence.{event_stays}
use Rattle.dine_rules.proofs.shared.links.WorldStreams.{and_then_parts, event_is_step}

-- Two enabled events of different sites lead to one world, whichever comes first.
pub record LeadToOne (plan : SeenPlan) (one two : WorldState) (e f : Event) : Type 0 where
  pub both : WorldState
  pub then_other : world_after plan one f ≡ Some both
  pub then_first : world_after plan two e ≡ Some both

pub either_order : (plan : SeenPlan) (world one two : WorldState) (e f : Event) → e.site ≢ f.site → world_after plan world e ≡ Some one → world_after plan world f ≡ Some two → LeadToOne plan one two e f
either_order plan world one two e f differs h k =
    let first = event_is_step plan world e one h in
    let other = event_is_step plan world f two k in
    let here : LocalState = after plan e.site (state_of world e.site) first.step in
    let there : LocalState = after plan f.site (state_of world f.site) other.step in
    record {
      both = slice_set two e.site here;
      then_other = event_stays plan world one f e two other k h (λ same. differs (sym same))
          ∙ ap (λ (w : WorldState). Some w) (
          ap (λ (w : WorldState). slice_set w f.site there) first.changes
          ∙ set_comm world e.site f.site here there differs
          ∙ ap (λ (w : WorldState). slice_set w e.site here) (sym other.changes)
          );
      then_first = event_stays plan world two e f one first h k differs;
    }

-- ---- an enabled event that comes first at its site can come first of all

-- events that lead on to the end: the site's part is this, and all others are as they were
record IsRest (plan : SeenPlan) (world end : WorldState) (events : List Event) (s : ℕ) (kinds : List EventKind) : Type 0 where
  pub rest : List Event
  pub leads : after_events plan world rest ≡ Some end
  pub part_here : part_of s rest ≡ kinds
  pub part_there : (t : ℕ) → s ≢ t → part_of t rest ≡ part_of t events

to_front : (plan : SeenPlan) (e : Event) (kinds : List EventKind) (world next end : WorldState) (events : List Event) → world_after plan world e ≡ Some next → after_events plan world events ≡ Some end
    → part_of e.site events ≡ e.kind ∷ kinds → IsRest plan next end events e.site kinds
to_front plan e kinds world next end [] h leads part = absurd cc
to_front plan e kinds world next end (f ∷ events) h leads part =
    let w = and_then_parts (λ (x : WorldState). after_events plan x events) (world_after plan world f) end leads in
    elim (cases_eq e.site f.site) [
      | inl same ↦
          let head : f.kind ∷ part_of e.site events ≡ e.kind ∷ kinds = sym (part-same e.site f events (sym same)) ∙ part in
          let is_e : e ≡ f = same_event e f same (cc) in
          let is_next : next ≡ w.0 = same_Some next w.0 (sym h ∙ ap (world_after plan world) is_e ∙ w.1) in
          record {
            rest = events;
            leads = ap (λ (x : WorldState). after_events plan x events) is_next ∙ w.2;
            part_here = cc;
            part_there = λ t other. sym (part-other t f events (λ is. other (same ∙ is)));
          }
      | inr differs ↦
          let one = either_order plan world next w.0 e f differs h w.1 in
          let later = to_front plan e kinds w.0 one.both end events one.then_first w.2 (sym (part-other e.site f events (λ is. differs (sym is))) ∙ part) in
          record {
            rest = f ∷ later.rest;
            leads = ap (λ (o : Option WorldState). option_and_then (λ (x : WorldState). after_events plan x later.rest) o) one.then_other ∙ later.leads;
            part_here = part-other e.site f later.rest (λ is. differs (sym is)) ∙ later.part_here;
            part_there = λ t other. elim (cases_eq f.site t) [
              | inl is ↦ part-same t f later.rest is ∙ ap (λ (x : List EventKind). f.kind ∷ x) (later.part_there t other) ∙ sym (part-same t f events is)
              | inr apart ↦ part-other t f later.rest apart ∙ later.part_there t other ∙ sym (part-other t f events apart)
            ];
          }
    ]

-- ---- the same journals, the same world

-- two lists with the same part of each site that both are accepted lead to the same world
pub same_end : (plan : SeenPlan) (world one two : WorldState) (events others : List Event) → after_events plan world events ≡ Some one → after_events plan world others ≡ Some two
    → ((s : ℕ) → part_of s events ≡ part_of s others) → one ≡ two
same_end plan world one two [] [] h k parts = same_Some one two (sym h ∙ k)
same_end plan world one two [] (f ∷ others) h k parts = let none : [] ≡ f.kind ∷ part_of f.site others = parts f.site ∙ part-same f.site f others refl in absurd cc
same_end plan world one two (e ∷ events) others h k parts =
    let w = and_then_parts (λ (x : WorldState). after_events plan x events) (world_after plan world e) one h in
    let later = to_front plan e (part_of e.site events) world w.0 two others w.1 k (sym (parts e.site) ∙ part-same e.site e events refl) in
    same_end plan w.0 one two events later.rest w.2 later.leads (λ s. elim (cases_eq e.site s) [
      | inl same ↦ ap (λ (x : ℕ). part_of x events) (sym same) ∙ sym later.part_here ∙ ap (λ (x : ℕ). part_of x later.rest) same
      | inr differs ↦ sym (part-other s e events differs) ∙ parts s ∙ sym (later.part_there s differs)
    ])

-- ---- where some events are placed, the rest of an order leads on to its end

record GoesOn (plan : SeenPlan) (world end : WorldState) (placed order : List Event) : Type 0 where
  pub rest : List Event
  pub leads : after_events plan world rest ≡ Some end
  pub parts : (s : ℕ) → part_of s placed ++ part_of s rest ≡ part_of s order

goes_on : (plan : SeenPlan) (from world end : WorldState) (placed order : List Event) → after_events plan from placed ≡ Some world → after_events plan from order ≡ Some end
    → ((s : ℕ) → IsPrefix (part_of s placed) (part_of s order)) → GoesOn plan world end placed order
goes_on plan from world end [] order h k front = record {
  rest = order;
  leads = ap (λ (x : WorldState). after_events plan x order) (sym (same_Some from world h)) ∙ k;
  parts = λ s. refl;
}
goes_on plan from world end (e ∷ placed) order h k front =
    let w = and_then_parts (λ (x : WorldState). after_events plan x placed) (world_after plan from e) world h in
    let here : IsPrefix (part_of e.site (e ∷ placed)) (part_of e.site order) = front e.site in
    let kinds : List EventKind = part_of e.site placed ++ here.0 in
    let own : e.kind ∷ kinds ≡ part_of e.site order = ap (λ (x : List EventKind). x ++ here.0) (sym (part-same e.site e placed refl)) ∙ here.1 in
    let later = to_front plan e kinds from w.0 end order w.1 k (sym own) in
    let next = goes_on plan w.0 world end placed later.rest w.2 later.leads (λ s. elim (cases_eq e.site s) [
      | inl same ↦ subst (λ (x : ℕ). IsPrefix (part_of x placed) (part_of x later.rest)) same (here.0, sym later.part_here)
      | inr differs ↦ ((front s).0, ap (λ (x : List EventKind). x ++ (front s).0) (sym (part-other s e placed differs)) ∙ (front s).1 ∙ sym (later.part_there s differs))
    ]) in
    record {
      rest = next.rest;
      leads = next.leads;
      parts = λ s. elim (cases_eq e.site s) [
        | inl same ↦ ap (λ (x : List EventKind). x ++ part_of s next.rest) (part-same s e placed same) ∙ ap (λ (x : List EventKind). e.kind ∷ x) (next.parts s)
            ∙ subst (λ (x : ℕ). e.kind ∷ part_of x later.rest ≡ part_of x order) same (ap (λ (x : List EventKind). e.kind ∷ x) later.part_here ∙ own)
        | inr differs ↦ ap (λ (x : List EventKind). x ++ part_of s next.rest) (part-other s e placed differs) ∙ next.parts s ∙ later.part_there s differs
      ];
    }

-- ---- an order that exists is found

-- what stands right behind a front
behind : (front rest : List EventKind) (kind : EventKind) (kinds : List EventKind) → front ++ kind ∷ rest ≡ kinds → slice_get kinds (length front) ≡ Some kind
behind [] rest kind kinds h = ap (λ (x : List EventKind). slice_get x 0) (sym h)
behind (first ∷ front) rest kind [] h = absurd cc
behind (first ∷ front) rest kind (other ∷ kinds) h = behind front rest kind kinds (cc)

-- where an order exists, events that were placed until no site was ready are all events, and end where the order does
pub found : (plan : SeenPlan) (journals : List (List EventKind)) (order placed : List Event) (world end : WorldState) → Reaches plan order end → IsOrderOf journals order
    → IsPlacedToEnd plan journals placed world → IsOrderOf journals placed × (world ≡ end)
found plan journals order placed world end reached holds done =
    let w = goes_on plan (start plan) world end placed order done.accepted reached (λ s. ((done.front s).0, (done.front s).1 ∙ sym (holds s))) in
    none_left w.rest w.leads (λ s. w.parts s ∙ holds s) where
      none_left : (rest : List Event) → after_events plan world rest ≡ Some end → ((s : ℕ) → part_of s placed ++ part_of s rest ≡ journal_of journals s) → IsOrderOf journals placed × (world ≡ end)
      none_left [] leads parts = (λ s. sym (append-nil (part_of s placed)) ∙ parts s, same_Some world end leads)
      none_left (e ∷ rest) leads parts =
          let w = and_then_parts (λ (x : WorldState). after_events plan x rest) (world_after plan world e) end leads in
          let is_next : next_of journals placed e.site ≡ Some e.kind = behind (part_of e.site placed) (part_of e.site rest) e.kind (journal_of journals e.site)
          (ap (λ (x : List EventKind). part_of e.site placed ++ x) (sym (part-same e.site e rest refl)) ∙ parts e.site) in
          let enabled : is_enabled plan world e ≡ true = ap (λ (o : Option WorldState). is_some o) w.1 in
          let ready : is_ready plan journals placed world e.site ≡ true = ap (can_follow plan world e.site) is_next ∙ enabled in
          absurd (true≢false (sym ready ∙ done.none_ready e.site))

-- so they are an order that makes the world complete
pub found_whole : (plan : SeenPlan) (journals : List (List EventKind)) (order placed : List Event) (world : WorldState) → IsWholeOrder plan journals order → IsPlacedToEnd plan journals placed world
    → IsOrderOf journals placed × IsComplete plan world
found_whole plan journals order placed world whole done =
    let w = found plan journals order placed world whole.world whole.accepted whole.holds_journals done in
    (w.0, subst (IsComplete plan) (sym w.1) whole.complete)

-- two fronts of one list that have the same length are the same
same_front : (one two kinds : List EventKind) → IsPrefix one kinds → IsPrefix two kinds → length one ≡ length two → one ≡ two
same_front [] [] kinds a b h = refl
same_front [] (y ∷ two) kinds a b h = absurd (omega arith)
same_front (x ∷ one) [] kinds a b h = absurd (omega arith)
same_front (x ∷ one) (y ∷ two) [] a b h = let none : x ∷ one ++ a.0 ≡ [] = a.1 in absurd cc
same_front (x ∷ one) (y ∷ two) (kind ∷ kinds) a b h =
    let first : x ∷ one ++ a.0 ≡ kind ∷ kinds = a.1 in
    let second : y ∷ two ++ b.0 ≡ kind ∷ kinds = b.1 in
    let rest : one ≡ two = same_front one two kinds (a.0, cc) (b.0, cc) (omega arith) in
    cc

-- two accepted lists that have placed the same number of each journal's events lead to the same world
pub same_counts : (plan : SeenPlan) (journals : List (List EventKind)) (events others : List Event) (world other : WorldState) → Reaches plan events world → Reaches plan others other
    → IsFrontOf journals events → IsFrontOf journals others → ((s : ℕ) → length (part_of s events) ≡ length (part_of s others)) → world ≡ other
same_counts plan journals events others world other h k a b counts =
    same_end plan (start plan) world other events others h k (λ s. same_front (part_of s events) (part_of s others) (journal_of journals s) (a s) (b s) (counts s))
