-- The counts of the events that the sites can do: what they are by the plan, and when they are right.
use Rattle.std.proofs.Common.{◌≡◌, ℕ, ◌+◌, ◌<◌, ◌≤◌, Bool, true, false, List, [], length, map, get_or, replicate, slice_get, slice_set, Option, Some, None, option_map, refl, sym, ◌∙◌, ap, inl, inr, arith}
use Rattle.std.specs.List.{filter, range_with_len}
use Rattle.std.specs.Option.{option_map_or}
use Rattle.std.proofs.lemmas.Bool.{cases_eq}
use Rattle.std.proofs.lemmas.List.{get_or-set_other, get_or-set_same, get_or_past, length-map, length-set}
use Rattle.std.proofs.lemmas.Option.{get_or_from_slice_get, same_Some, slice_get-get_or, slice_get-map, slice_get_past}
use Rattle.dine_graph.specs.declared.limits.TheConstants.{MAX_SITES}
use Rattle.dine_graph.specs.Plan.{SeenPlan, edges_of}
use Rattle.dine_rules.specs.declared.events.Event.{Event}
use Rattle.dine_rules.specs.declared.events.EventKind.{EventKind}
use Rattle.dine_rules.specs.declared.events.EventKind.TheVariants as event
use Rattle.dine_rules.specs.World.{WorldState, events_at, is_enabled, kinds_at}
use Rattle.dine_world.specs.declared.world.sites.WorldSite.{WorldSite}
use Rattle.dine_world.specs.private.Counts.{HasCounts, kinds_now, kinds_now_at}
use Rattle.dine_world.specs.Worlds.{IsWorldOf, SeenWorld, can_at, can_happen}
use Rattle.dine_graph.proofs.shared.ListLemmas.{length-filter-le}
use Rattle.dine_rules.proofs.shared.counting.KindNumbers.{choices, choices_count, found_at, of_sites}
use Rattle.dine_world.proofs.enabled_events.FirstSite.{past_full}
use Rattle.dine_world.proofs.all_sites.CanHappen.{site_at}
use Rattle.dine_world.proofs.enabled_events.EnabledEvents.{degree_is, edges_few, enabled_at}
use Rattle.dine_world.proofs.enabled_events.FirstEvents.{event_of}
use Rattle.dine_site.proofs.shared.own_events.NextEvents.{filter-map}

-- ---- the events of a site, as events of the world

-- those of a site with so many places
pub choices_now : (seen : SeenWorld) (s d : ℕ) (o : Option WorldSite) → slice_get seen.sites s ≡ o → option_map (λ (world_site : WorldSite). length world_site.core.places) o ≡ Some d
    → filter (can_happen seen) (choices s d) ≡ map (event_of s) (kinds_now_at seen s)
choices_now seen s d None found places = absurd (cc)
choices_now seen s d (Some world_site) found places =
    let n : ℕ = length world_site.core.places in
    let same : n ≡ d = same_Some n d places in
    let kinds : List EventKind = kinds_at (range_with_len 0 n) in
    ap (λ (k : ℕ). filter (can_happen seen) (choices s k)) (sym same)
    ∙ filter-map (can_happen seen) (event_of s) kinds
    ∙ ap (λ (o : Option WorldSite). map (event_of s) (filter (λ kind. can_at seen.links kind o) kinds)) found
    ∙ ap (λ (o : Option WorldSite). map (event_of s) (option_map_or (λ (x : WorldSite). kinds_now seen.links x.core) o [])) (sym found)

module _ (plan : SeenPlan) (world : WorldState) (seen : SeenWorld) (is : IsWorldOf plan world seen) (s : ℕ) (within : s < length seen.sites) where
  -- those that the rules allow are those that the site can do
  pub enabled_kinds : filter (is_enabled plan world) (events_at plan s) ≡ map (event_of s) (kinds_now_at seen s)
  enabled_kinds =
      let w = site_at seen.sites s within in
      let degree : length w.0.core.places ≡ length (edges_of plan s) = ap (λ (x : WorldSite). length x.core.places) (sym w.2) ∙ degree_is plan world seen is s w.0 within in
      sym (enabled_at plan world seen is s (length w.0.core.places) degree) ∙ choices_now seen s (length w.0.core.places) (Some w.0) w.1 refl

  -- so their count is that of the rules
  pub count_is : length (kinds_now_at seen s) ≡ length (filter (is_enabled plan world) (events_at plan s))
  count_is = sym (ap length enabled_kinds ∙ length-map (kinds_now_at seen s) (event_of s))

  -- and they are few
  pub count_few : length (kinds_now_at seen s) ≤ 2564
  count_few =
      let events : List Event = choices s (length (edges_of plan s)) in
      omega (arith, count_is, length-filter-le (is_enabled plan world) events, choices_count s (length (edges_of plan s)), edges_few plan world seen is s)

-- ---- counts that are right

-- at the start none is taken to be right
pub full_has_counts : (seen : SeenWorld) (counts : List ℕ) → length seen.sites ≤ MAX_SITES → length counts ≡ length seen.sites → HasCounts seen counts (replicate 64 true)
full_has_counts seen counts few same = record {
  every_site = same;
  size = refl;
  others = λ s out.
      let past : 64 ≤ s = past_full 64 s out in
      get_or_past counts s 0 (omega (arith, past)) ∙ sym (ap (λ (o : Option WorldSite). length (option_map_or (λ (x : WorldSite). kinds_now seen.links x.core) o [])) (slice_get_past seen.sites s (omega (arith, past))));
}

-- a site past the last may be taken out
pub past_counted : (seen : SeenWorld) (counts : List ℕ) (outdated_counts : List Bool) (n : ℕ) → length seen.sites ≤ n → HasCounts seen counts outdated_counts → HasCounts seen counts (slice_set outdated_counts n false)
past_counted seen counts outdated_counts n past has = record {
  every_site = has.every_site;
  size = length-set outdated_counts n false ∙ has.size;
  others = λ s out. elim (cases_eq s n) [
    | inl same ↦ get_or_past counts s 0 (omega (arith, same, has.every_site)) ∙ sym (ap (λ (o : Option WorldSite). length (option_map_or (λ (x : WorldSite). kinds_now seen.links x.core) o [])) (slice_get_past seen.sites s (omega (arith, same))))
    | inr other ↦ has.others s (sym (get_or-set_other outdated_counts n s false false other) ∙ out)
  ];
}

-- a count that is kept is right
pub kept_count : (seen : SeenWorld) (counts : List ℕ) (outdated_counts : List Bool) (s d : ℕ) → HasCounts seen counts outdated_counts → s < length seen.sites → slice_get outdated_counts s ≡ Some false → get_or counts s d ≡ length (kinds_now_at seen s)
kept_count seen counts outdated_counts s d has within out =
    sym (get_or_from_slice_get counts s (get_or counts s d) 0 (slice_get-get_or counts s d (omega (arith, within, has.every_site))))
    ∙ has.others s (get_or_from_slice_get outdated_counts s false false out)

-- ---- an event by its number

-- the n-th enabled event of a site
pub event_is : (plan : SeenPlan) (world : WorldState) (seen : SeenWorld) → IsWorldOf plan world seen → (s n : ℕ) → s < length seen.sites
    → slice_get (filter (is_enabled plan world) (events_at plan s)) n ≡ option_map (event_of s) (slice_get (kinds_now_at seen s) n)
event_is plan world seen is s n within = ap (λ (events : List Event). slice_get events n) (enabled_kinds plan world seen is s within) ∙ slice_get-map (event_of s) (kinds_now_at seen s) n

-- where a site has so many events, the n-th of its own is that behind the events of all sites before it
pub event_behind : (p : Event → Bool) (f : ℕ → List Event) (s n k : ℕ) → s < n → k < length (filter p (f s)) → slice_get (of_sites p f n) (length (of_sites p f s) + k) ≡ slice_get (filter p (f s)) k
event_behind p f s n k before within =
    let here : slice_get (filter p (f s)) k ≡ Some (get_or (filter p (f s)) k (event_of 0 event.End)) = slice_get-get_or (filter p (f s)) k (event_of 0 event.End) within in
    found_at p f s n k (get_or (filter p (f s)) k (event_of 0 event.End)) before here ∙ sym here
