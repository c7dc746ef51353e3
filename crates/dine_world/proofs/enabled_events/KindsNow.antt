-- The events that a site can do: first the letters that it can take, and then what it may do by itself.
use Rattle.std.proofs.Common.{◌≡◌, ℕ, zero, suc, ◌+◌, ◌-◌, ◌<◌, ◌&&◌, nat_lt, Bool, cond, List, [], ◌∷◌, ◌++◌, length, length-append, map, slice_get, Option, Some, is_some, option_map, count_by, get_or, refl, sym, ◌∙◌, ap, ap₂, arith, append_assoc}
use Rattle.std.specs.List.{filter, range_with_len}
use Rattle.std.specs.Option.{option_map_or, option_or}
use Rattle.std.proofs.lemmas.Bool.{lt-ltb}
use Rattle.std.proofs.lemmas.List.{length-map}
use Rattle.std.proofs.lemmas.List.Elements.{filter-append, filter_agree}
use Rattle.std.proofs.lemmas.Option.{slice_get-map}
use Rattle.dine_graph.specs.Plan.{SeenPlan}
use Rattle.dine_rules.specs.declared.events.EventKind.{EventKind}
use Rattle.dine_rules.specs.declared.events.EventKind.TheVariants as event
use Rattle.dine_rules.specs.declared.letters.Letter.{Letter}
use Rattle.dine_rules.specs.World.{WorldState, placeless_kinds}
use Rattle.dine_world.specs.declared.world.sites.WorldSite.{WorldSite}
use Rattle.dine_site.specs.Core.{SeenCore}
use Rattle.dine_world.specs.private.Counts.{kinds_now, kinds_now_at, own_kinds_now}
use Rattle.dine_world.specs.private.Inboxes.{HasInboxes}
use Rattle.dine_site.specs.NextEvent.{can_by_itself, own_kinds}
use Rattle.dine_world.specs.WorldSites.{can_do, next_in}
use Rattle.dine_world.specs.Worlds.{IsWorldOf, SeenWorld}
use Rattle.dine_set.specs.Marks.{nth_position}
use Rattle.dine_site.proofs.shared.own_events.NextEvents.{filter-map}
use Rattle.dine_world.proofs.enabled_events.InboxPlaces.{count_by_set, nth_by_set}

agree_in : (p q : ℕ → Bool) (a n : ℕ) → ((i : ℕ) → i < a + n → p i ≡ q i) → filter p (range_with_len a n) ≡ filter q (range_with_len a n)
agree_in p q a zero agree = refl
agree_in p q a (suc n) agree = ap₂ (λ (b : Bool) (rest : List ℕ). cond b (a ∷ rest) rest) (agree a (omega arith)) (agree_in p q (a + 1) n (λ i h. agree i (omega arith)))

-- two tests that agree keep the same
module _ (p q : EventKind → Bool) where
  both : (xs ys : List EventKind) → filter p xs ≡ filter q xs → filter p ys ≡ filter q ys → filter p (xs ++ ys) ≡ filter q (xs ++ ys)
  both xs ys x y = filter-append p xs ys ∙ ap₂ (λ (a b : List EventKind). a ++ b) x y ∙ sym (filter-append q xs ys)

  mapped : (f : ℕ → EventKind) → ((i : ℕ) → p (f i) ≡ q (f i)) → (xs : List ℕ) → filter p (map f xs) ≡ filter q (map f xs)
  mapped f same xs = filter-map p f xs ∙ ap (map f) (filter_agree (λ i. p (f i)) (λ i. q (f i)) same xs) ∙ sym (filter-map q f xs)

regroup : (a b c d e f : List EventKind) → a ++ b ++ c ++ d ++ e ++ f ≡ a ++ (b ++ c ++ d ++ e ++ f)
regroup a b c d e f = simp append_assoc

module _ (links : List (List Letter)) (core : SeenCore) where
  abbrev n : ℕ
  n = length core.places

  abbrev places : List ℕ
  places = range_with_len 0 n

  abbrev p : EventKind → Bool
  p = can_do links core

  abbrev heard_at : List ℕ
  heard_at = filter (λ i. is_some (next_in links core i)) places

  takes_now : filter p (map event.Take places) ≡ map event.Take heard_at
  takes_now = filter-map p event.Take places
      ∙ ap (map event.Take) (agree_in (λ i. nat_lt i n && is_some (next_in links core i)) (λ i. is_some (next_in links core i)) 0 n
      (λ i h. ap (λ (b : Bool). b && is_some (next_in links core i)) (lt-ltb i n (omega arith))))

  own_now : filter p (own_kinds places) ≡ own_kinds_now core
  own_now =
      let q : EventKind → Bool = can_by_itself core in
      both p q (map event.Give places ++ placeless_kinds ++ map event.Ask places ++ map event.Done places) (map event.Close places)
      (both p q (map event.Give places ++ placeless_kinds ++ map event.Ask places) (map event.Done places)
      (both p q (map event.Give places ++ placeless_kinds) (map event.Ask places)
      (both p q (map event.Give places) placeless_kinds (mapped p q event.Give (λ i. refl) places) refl)
      (mapped p q event.Ask (λ i. refl) places))
      (mapped p q event.Done (λ i. refl) places))
      (mapped p q event.Close (λ i. refl) places)

  kinds_split : kinds_now links core ≡ map event.Take heard_at ++ own_kinds_now core
  kinds_split =
      ap (filter p) (regroup (map event.Take places) (map event.Give places) placeless_kinds (map event.Ask places) (map event.Done places) (map event.Close places))
      ∙ filter-append p (map event.Take places) (own_kinds places)
      ∙ ap₂ (λ (a b : List EventKind). a ++ b) takes_now own_now

-- an element of two lists
get_both : (xs ys : List EventKind) (k : ℕ) → slice_get (xs ++ ys) k ≡ option_or (slice_get xs k) (slice_get ys (k - length xs))
get_both [] ys k = ap (slice_get ys) (let e : k ≡ k - 0 = omega arith in e)
get_both (x ∷ xs) ys zero = refl
get_both (x ∷ xs) ys (suc k) = get_both xs ys k ∙ ap (λ (i : ℕ). option_or (slice_get xs k) (slice_get ys i)) (let e : k - length xs ≡ suc k - suc (length xs) = omega arith in e)

module _ (plan : SeenPlan) (world : WorldState) (seen : SeenWorld) (stands : IsWorldOf plan world seen) (nonempty_inboxes : List (List Bool)) (has : HasInboxes seen nonempty_inboxes)
    (s : ℕ) (world_site : WorldSite) (found : slice_get seen.sites s ≡ Some world_site) where
  abbrev core : SeenCore
  core = world_site.core

  abbrev row : List Bool
  row = get_or nonempty_inboxes s []

  abbrev takes : List EventKind
  takes = map event.Take (filter (λ i. is_some (next_in seen.links core i)) (range_with_len 0 (length core.places)))

  kinds_here : kinds_now_at seen s ≡ takes ++ own_kinds_now core
  kinds_here = ap (λ (o : Option WorldSite). option_map_or (λ (x : WorldSite). kinds_now seen.links x.core) o []) found ∙ kinds_split seen.links core

  takes_count : length takes ≡ count_by (λ b. b) row
  takes_count = length-map (filter (λ i. is_some (next_in seen.links core i)) (range_with_len 0 (length core.places))) event.Take
      ∙ sym (count_by_set plan world seen stands nonempty_inboxes has s world_site found)

  -- how many they are
  pub count_spelled : length (kinds_now_at seen s) ≡ count_by (λ b. b) row + length (own_kinds_now core)
  count_spelled = ap length kinds_here ∙ length-append takes (own_kinds_now core) ∙ ap (λ (k : ℕ). k + length (own_kinds_now core)) takes_count

  -- and the n-th of them
  pub nth_spelled : (k : ℕ) → slice_get (kinds_now_at seen s) k ≡ option_or (option_map event.Take (nth_position (λ b. b) k row)) (slice_get (own_kinds_now core) (k - count_by (λ b. b) row))
  nth_spelled k =
      ap (λ (kinds : List EventKind). slice_get kinds k) kinds_here
      ∙ get_both takes (own_kinds_now core) k
      ∙ ap₂ (λ (o : Option EventKind) (i : ℕ). option_or o (slice_get (own_kinds_now core) (k - i)))
      (slice_get-map event.Take (filter (λ i. is_some (next_in seen.links core i)) (range_with_len 0 (length core.places))) k ∙ ap (option_map event.Take) (sym (nth_by_set plan world seen stands nonempty_inboxes has s world_site found k)))
      takes_count
