-- The next event without a letter: what the code finds place by place, and what it is by the whole lists.
use Rattle.std.proofs.Common.{◌≡◌, ℕ, zero, suc, ◌+◌, ◌<◌, ◌&&◌, nat_lt, Bool, true, false, cond, List, [], ◌∷◌, ◌++◌, length, map, slice_get, Option, Some, None, option_map, refl, sym, ◌∙◌, ap, ap₂, arith}
use Rattle.std.specs.List.{filter, find, range_with_len}
use Rattle.std.specs.Option.{option_or}
use Rattle.std.proofs.lemmas.Bool.{lt-ltb}
use Rattle.std.proofs.lemmas.List.Folds.{find-append}
use Rattle.dine_graph.specs.Plan.{SeenPlan}
use Rattle.dine_rules.specs.declared.events.EventKind.{EventKind}
use Rattle.dine_rules.specs.declared.events.EventKind.TheVariants as event
use Rattle.dine_rules.specs.Local.{LocalState, is_eating}
use Rattle.dine_rules.specs.Streams.{KeepsStreams}
use Rattle.dine_rules.specs.World.{placeless_kinds}
use Rattle.dine_site.specs.Core.{SeenCore, Refines}
use Rattle.dine_site.specs.NextEvent.{can_by_itself, may_by_itself, next_event, next_of, own_kinds}
use Rattle.dine_site.specs.private.OwnEvents.{next_word_of}
use Rattle.dine_site.specs.Places.{can_give, can_ask, can_say_done, can_close}
use Rattle.dine_site.proofs.shared.one_site.SiteTests.{ask_is, close_is, done_is, give_is, guarded, hunger_is, quit_is}
use Rattle.dine_site.proofs.shared.lists.Ranges.{begin_by}

-- ---- finding

pub find-map : {X Y : Type 0} (f : X → Y) (p : Y → Bool) (xs : List X) → find p (map f xs) ≡ option_map f (find (λ x. p (f x)) xs)
find-map f p [] = refl
find-map f p (x ∷ xs) = elim (p (f x)) as (λ b. cond b (Some (f x)) (find p (map f xs)) ≡ option_map f (cond b (Some x) (find (λ y. p (f y)) xs))) [
  | true ↦ refl
  | false ↦ find-map f p xs
]

pub find_same : {X : Type 0} (p q : X → Bool) → ((x : X) → p x ≡ q x) → (xs : List X) → find p xs ≡ find q xs
find_same p q same [] = refl
find_same p q same (x ∷ xs) = ap₂ (λ b rest. cond b (Some x) rest) (same x) (find_same p q same xs)

-- the first that passes stands first of those that pass
pub filter_first : {X : Type 0} (p : X → Bool) (xs : List X) → slice_get (filter p xs) 0 ≡ find p xs
filter_first p [] = refl
filter_first p (x ∷ xs) = elim (p x) as (λ b. slice_get (cond b (x ∷ filter p xs) (filter p xs)) 0 ≡ cond b (Some x) (find p xs)) [
  | true ↦ refl
  | false ↦ filter_first p xs
]

-- a test of what a function gives
pub filter-map : {X Y : Type 0} (p : Y → Bool) (f : X → Y) (xs : List X) → filter p (map f xs) ≡ map f (filter (λ x. p (f x)) xs)
filter-map p f [] = refl
filter-map {Y = Y} p f (x ∷ xs) = elim (p (f x)) as (λ b. cond b (f x ∷ filter p (map f xs)) (filter p (map f xs)) ≡ map f (cond b (x ∷ filter (λ y. p (f y)) xs) (filter (λ y. p (f y)) xs))) [
  | true ↦ ap (λ (rest : List Y). f x ∷ rest) (filter-map p f xs)
  | false ↦ filter-map p f xs
]

find_agree : (p q : ℕ → Bool) (first n : ℕ) → ((i : ℕ) → i < first + n → p i ≡ q i) → find p (range_with_len first n) ≡ find q (range_with_len first n)
find_agree p q first zero agree = refl
find_agree p q first (suc n) agree = ap₂ (λ (b : Bool) (rest : Option ℕ). cond b (Some first) rest) (agree first (omega arith))
    (find_agree p q (first + 1) n (λ i within. agree i (omega arith)))

-- a test of places, with the bound that the places have anyway
pub bounded : (n : ℕ) (p : ℕ → Bool) → find (λ i. nat_lt i n && p i) (range_with_len 0 n) ≡ find p (range_with_len 0 n)
bounded n p = find_agree (λ i. nat_lt i n && p i) p 0 n (λ i within. ap (λ (b : Bool). b && p i) (lt-ltb i n (omega arith)))

-- ---- the next event, as the code looks for it

module _ (core : SeenCore) where
  -- all places of the core
  abbrev places : List ℕ
  places = range_with_len 0 (length core.places)

  found_at : (kind : ℕ → EventKind) (p : ℕ → Bool) → ((i : ℕ) → can_by_itself core (kind i) ≡ (nat_lt i (length core.places) && p i))
      → find (can_by_itself core) (map kind places) ≡ option_map kind (find p places)
  found_at kind p is = find-map kind (can_by_itself core) places
      ∙ ap (option_map kind) (find_same (λ i. can_by_itself core (kind i)) (λ i. nat_lt i (length core.places) && p i) is places ∙ bounded (length core.places) p)

  regroup : (x a d c : Option EventKind) → option_or (option_or (option_or x a) d) c ≡ option_or x (option_or (option_or a d) c)
  regroup None a d c = refl
  regroup (Some kind) a d c = refl

  pub next_spelled : next_of core ≡ option_or (option_or (option_map event.Give (find (can_give core) places)) (find (can_by_itself core) placeless_kinds)) (next_word_of core)
  next_spelled =
      let test : EventKind → Bool = can_by_itself core in
      find-append test (map event.Give places ++ placeless_kinds ++ map event.Ask places ++ map event.Done places) (map event.Close places)
      ∙ ap₂ option_or (find-append test (map event.Give places ++ placeless_kinds ++ map event.Ask places) (map event.Done places)
      ∙ ap₂ option_or (find-append test (map event.Give places ++ placeless_kinds) (map event.Ask places)
      ∙ ap₂ option_or (find-append test (map event.Give places) placeless_kinds
      ∙ ap (λ (o : Option EventKind). option_or o (find test placeless_kinds)) (found_at event.Give (can_give core) (λ i. refl)))
      (found_at event.Ask (can_ask core) (λ i. refl)))
      (found_at event.Done (can_say_done core) (λ i. refl)))
      (found_at event.Close (can_close core) (λ i. refl))
      ∙ regroup (option_or (option_map event.Give (find (can_give core) places)) (find test placeless_kinds)) (option_map event.Ask (find (can_ask core) places))
      (option_map event.Done (find (can_say_done core) places)) (option_map event.Close (find (can_close core) places))

  -- so it is by the three answers
  pub next_from : (g : Option ℕ) (p w : Option EventKind) → g ≡ find (can_give core) places → p ≡ find (can_by_itself core) placeless_kinds → w ≡ next_word_of core
      → option_or (option_or (option_map event.Give g) p) w ≡ next_of core
  next_from g p w is_give is_phase is_word = ap₂ (λ (x y : Option EventKind). option_or x y)
      (ap₂ (λ (x : Option ℕ) (y : Option EventKind). option_or (option_map event.Give x) y) is_give is_phase) is_word ∙ sym next_spelled

-- ---- by the whole lists

module _ (plan : SeenPlan) (state : LocalState) (core : SeenCore) (keeps : KeepsStreams plan core.site state) (stands : Refines plan state core) where
  own_is : (kind : EventKind) → can_by_itself core kind ≡ may_by_itself plan core.site state kind
  own_is (event.Take i) = refl
  own_is (event.Give i) = guarded i (length core.places) (length state.traffic) _ _ stands.degree (λ within. give_is plan state core stands keeps i within)
  own_is event.End = ap is_eating stands.phase
  own_is event.Begin = begin_by plan state core stands keeps
  own_is event.Quit = quit_is plan state core stands keeps
  own_is event.Hungry = hunger_is plan state core stands keeps
  own_is (event.Ask i) = guarded i (length core.places) (length state.traffic) _ _ stands.degree (λ within. ask_is plan state core stands keeps i within)
  own_is (event.Done i) = guarded i (length core.places) (length state.traffic) _ _ stands.degree (λ within. done_is plan state core stands keeps i within)
  own_is (event.Close i) = guarded i (length core.places) (length state.traffic) _ _ stands.degree (λ within. close_is plan state core stands keeps i within)

  pub next_by_lists : next_of core ≡ next_event plan core.site state
  next_by_lists = find_same (can_by_itself core) (may_by_itself plan core.site state) own_is (own_kinds (range_with_len 0 (length core.places)))
      ∙ ap (λ (n : ℕ). find (may_by_itself plan core.site state) (own_kinds (range_with_len 0 n))) stands.degree
