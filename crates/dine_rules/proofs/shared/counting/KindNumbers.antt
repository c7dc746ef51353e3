-- The kinds of events by their numbers, and a list of events by how many pass a test.
use Rattle.std.proofs.Common.{◌≡◌, ℕ, zero, suc, ◌+◌, ◌-◌, ◌*◌, ◌<◌, ◌≤◌, Bool, true, false, cond, List, [], ◌∷◌, ◌++◌, length, take, map, slice_get, option_map, Some, sym, ◌∙◌, ap, ap₂, arith, add-zero, append-nil, append_assoc, length-append, zero-add}
use Rattle.std.specs.List.{filter, flat_map, range_with_len}
use Rattle.std.proofs.lemmas.Grind.{flat_map-append}
use Rattle.std.proofs.lemmas.List.{length-map, take_all}
use Rattle.std.proofs.lemmas.List.Filters.{length-filter_more}
use Rattle.std.proofs.lemmas.Option.{get_or_from_slice_get, same_Some, slice_get-map, slice_get_within}
use Rattle.std.proofs.lemmas.List.Elements.{filter-append}
use Rattle.std.proofs.lemmas.List.FromFn.{length-map-range_with_len}
use Rattle.dine_rules.specs.declared.events.Event.{Event}
use Rattle.dine_rules.specs.declared.events.EventKind.{EventKind}
use Rattle.dine_rules.specs.declared.events.EventKind.TheVariants as event
use Rattle.dine_rules.specs.World.{kinds_at, placeless_kinds}

-- ---- the kinds by their numbers

-- a number of a range
range_here : (f : ℕ → EventKind) (a d i : ℕ) (rest : List EventKind) → i < d → slice_get (map f (range_with_len a d) ++ rest) i ≡ Some (f (a + i))
range_here f a zero i rest h = absurd (omega arith)
range_here f a (suc d) zero rest h = ap (λ (n : ℕ). Some (f n)) (let e : a ≡ a + 0 = omega arith in e)
range_here f a (suc d) (suc i) rest h = range_here f (a + 1) d i rest (omega arith) ∙ ap (λ (n : ℕ). Some (f n)) (let e : a + 1 + i ≡ a + suc i = omega arith in e)

-- a number behind a range
range_past : (f : ℕ → EventKind) (a d i : ℕ) (rest : List EventKind) → d ≤ i → slice_get (map f (range_with_len a d) ++ rest) i ≡ slice_get rest (i - d)
range_past f a zero i rest h = ap (slice_get rest) (let e : i ≡ i - 0 = omega arith in e)
range_past f a (suc d) zero rest h = absurd (omega arith)
range_past f a (suc d) (suc i) rest h = range_past f (a + 1) d i rest (omega arith) ∙ ap (slice_get rest) (let e : i - d ≡ suc i - suc d = omega arith in e)

-- a kind at a place, with others behind it
kind_here : (f : ℕ → EventKind) (d i : ℕ) (rest : List EventKind) → i < d → slice_get (map f (range_with_len 0 d) ++ rest) i ≡ Some (f i)
kind_here f d i rest h = range_here f 0 d i rest h ∙ ap (λ (n : ℕ). Some (f n)) (zero-add i)

-- a kind at a place, with none behind it
kind_last : (f : ℕ → EventKind) (d i : ℕ) → i < d → slice_get (map f (range_with_len 0 d)) i ≡ Some (f i)
kind_last f d i h = ap (λ (kinds : List EventKind). slice_get kinds i) (sym (append-nil (map f (range_with_len 0 d)))) ∙ kind_here f d i [] h

-- behind some kinds
kinds_past : (kinds rest : List EventKind) (i : ℕ) → length kinds ≤ i → slice_get (kinds ++ rest) i ≡ slice_get rest (i - length kinds)
kinds_past [] rest i h = ap (slice_get rest) (let e : i ≡ i - 0 = omega arith in e)
kinds_past (kind ∷ kinds) rest zero h = absurd (omega arith)
kinds_past (kind ∷ kinds) rest (suc i) h = kinds_past kinds rest i (omega arith) ∙ ap (slice_get rest) (let e : i - length kinds ≡ suc i - suc (length kinds) = omega arith in e)

-- how many kinds have no place
abbrev pub placeless : ℕ
placeless = length placeless_kinds

-- six lists, grouped from behind
regroup : (a b c d e f : List EventKind) → a ++ b ++ c ++ d ++ e ++ f ≡ a ++ (b ++ (c ++ (d ++ (e ++ f))))
regroup a b c d e f = simp append_assoc

module _ (d : ℕ) where
  -- the places of a site, and the kinds from each on
  abbrev pub places : List ℕ
  places = range_with_len 0 d

  abbrev pub dones : List EventKind
  dones = map event.Done places ++ map event.Close places

  abbrev pub asks : List EventKind
  asks = map event.Ask places ++ dones

  abbrev pub steps : List EventKind
  steps = placeless_kinds ++ asks

  -- all kinds, grouped from behind
  regrouped : kinds_at places ≡ map event.Take places ++ (map event.Give places ++ steps)
  regrouped = regroup (map event.Take places) (map event.Give places) placeless_kinds (map event.Ask places) (map event.Done places) (map event.Close places)

  module _ (n : ℕ) where
    -- the kind has number n
    abbrev pub IsKind : EventKind → Type 0
    IsKind kind = slice_get (kinds_at places) n ≡ Some kind

    -- each kind that has a place, and what is behind it
    pub kind_take : n < d → IsKind (event.Take n)
    kind_take h = ap (λ (kinds : List EventKind). slice_get kinds n) regrouped ∙ kind_here event.Take d n (map event.Give places ++ steps) h

    past_takes : d ≤ n → slice_get (kinds_at places) n ≡ slice_get (map event.Give places ++ steps) (n - d)
    past_takes h = ap (λ (kinds : List EventKind). slice_get kinds n) regrouped ∙ range_past event.Take 0 d n (map event.Give places ++ steps) h

    pub kind_give : d ≤ n → n - d < d → IsKind (event.Give (n - d))
    kind_give a b = past_takes a ∙ kind_here event.Give d (n - d) steps b

    -- those without a place come here
    pub past_gives : d ≤ n → d ≤ n - d → slice_get (kinds_at places) n ≡ slice_get steps (n - d - d)
    past_gives a b = past_takes a ∙ range_past event.Give 0 d (n - d) steps b

    past_steps : d ≤ n → d ≤ n - d → placeless ≤ n - d - d → slice_get (kinds_at places) n ≡ slice_get asks (n - d - d - placeless)
    past_steps a b c = past_gives a b ∙ kinds_past placeless_kinds asks (n - d - d) c

    pub kind_ask : d ≤ n → d ≤ n - d → placeless ≤ n - d - d → n - d - d - placeless < d → IsKind (event.Ask (n - d - d - placeless))
    kind_ask a b c h = past_steps a b c ∙ kind_here event.Ask d (n - d - d - placeless) dones h

    past_asks : d ≤ n → d ≤ n - d → placeless ≤ n - d - d → d ≤ n - d - d - placeless → slice_get (kinds_at places) n ≡ slice_get dones (n - d - d - placeless - d)
    past_asks a b c e = past_steps a b c ∙ range_past event.Ask 0 d (n - d - d - placeless) dones e

    pub kind_done : d ≤ n → d ≤ n - d → placeless ≤ n - d - d → d ≤ n - d - d - placeless → n - d - d - placeless - d < d → IsKind (event.Done (n - d - d - placeless - d))
    kind_done a b c e h = past_asks a b c e ∙ kind_here event.Done d (n - d - d - placeless - d) (map event.Close places) h

    pub kind_close : d ≤ n → d ≤ n - d → placeless ≤ n - d - d → d ≤ n - d - d - placeless → d ≤ n - d - d - placeless - d → n < 5 * d + placeless → IsKind (event.Close (n - d - d - placeless - d - d))
    kind_close a b c e f h = past_asks a b c e ∙ range_past event.Done 0 d (n - d - d - placeless - d) (map event.Close places) f ∙ kind_last event.Close d (n - d - d - placeless - d - d) (omega arith)

-- as many kinds as places
length_kinds : (f : ℕ → EventKind) (d : ℕ) → length (map f (range_with_len 0 d)) ≡ d
length_kinds f d = length-map-range_with_len f 0 d

-- how many kinds there are
pub kinds_count : (d : ℕ) → length (kinds_at (range_with_len 0 d)) ≡ 5 * d + placeless
kinds_count d =
    let R = range_with_len 0 d in
    omega (
      arith,
      ap length (regrouped d),
      length_kinds event.Take d,
      length_kinds event.Give d,
      length_kinds event.Ask d,
      length_kinds event.Done d,
      length_kinds event.Close d,
      length-append (map event.Take R) (map event.Give R ++ steps d),
      length-append (map event.Give R) (steps d),
      length-append (map event.Ask R) (dones d),
      length-append (map event.Done R) (map event.Close R),
    )

-- ---- the events of a site

-- the events that a site of so many places can have
abbrev pub choices : ℕ → ℕ → List Event
choices s d = map (λ kind. record { site = s; kind = kind }) (kinds_at (range_with_len 0 d))

-- how many they are
pub choices_count : (s d : ℕ) → length (choices s d) ≡ 5 * d + placeless
choices_count s d = length-map (kinds_at (range_with_len 0 d)) (λ kind. record { site = s; kind = kind }) ∙ kinds_count d

-- how many of the first events of a list pass a test
abbrev pub passed : (Event → Bool) → List Event → ℕ → ℕ
passed p events n = length (filter p (take n events))

-- one event more
one_more : (p : Event → Bool) (events : List Event) (n : ℕ) (e : Event) → slice_get events n ≡ Some e → passed p events (n + 1) ≡ passed p events n + cond (p e) 1 0
one_more p events n e h = length-filter_more p events n e (slice_get_within events n e h) ∙ ap (λ (x : Event). passed p events n + cond (p x) 1 0) (get_or_from_slice_get events n e e h)

-- the event that passes after so many have
the_next : (p : Event → Bool) (events : List Event) (n : ℕ) (e : Event) → slice_get events n ≡ Some e → p e ≡ true → slice_get (filter p events) (passed p events n) ≡ Some e
the_next p [] n e h t = absurd (cc)
the_next p (x ∷ events) zero e h t =
    let same : x ≡ e = same_Some x e h in
    ap (λ (b : Bool). slice_get (cond b (x ∷ filter p events) (filter p events)) 0) (ap p same ∙ t) ∙ h
the_next p (x ∷ events) (suc n) e h t =
    let rest = the_next p events n e h t in
    elim (p x) as (λ b. slice_get (cond b (x ∷ filter p events) (filter p events)) (length (cond b (x ∷ filter p (take n events)) (filter p (take n events)))) ≡ Some e) [ true ↦ rest | false ↦ rest ]

module _ (p : Event → Bool) (s d n : ℕ) (kind : EventKind) (h : slice_get (kinds_at (range_with_len 0 d)) n ≡ Some kind) where
  -- the event with that number
  event_is : slice_get (choices s d) n ≡ Some (record { site = s; kind = kind })
  event_is = slice_get-map (λ kind. record { site = s; kind = kind }) (kinds_at (range_with_len 0 d)) n ∙ ap (option_map (λ kind. record { site = s; kind = kind })) h

  -- how many pass, with that event
  passed_more : passed p (choices s d) (n + 1) ≡ passed p (choices s d) n + cond (p (record { site = s; kind = kind })) 1 0
  passed_more = one_more p (choices s d) n (record { site = s; kind = kind }) event_is

  -- it counts where it passes the test
  pub passed_one : p (record { site = s; kind = kind }) ≡ true → passed p (choices s d) (n + 1) ≡ passed p (choices s d) n + 1
  passed_one t = passed_more ∙ ap (λ (b : Bool). passed p (choices s d) n + cond b 1 0) t

  -- and else not
  pub passed_none : p (record { site = s; kind = kind }) ≡ false → passed p (choices s d) (n + 1) ≡ passed p (choices s d) n
  passed_none t = passed_more ∙ ap (λ (b : Bool). passed p (choices s d) n + cond b 1 0) t ∙ add-zero (passed p (choices s d) n)

  -- where it passes, it is the next that does
  pub passed_next : p (record { site = s; kind = kind }) ≡ true → slice_get (filter p (choices s d)) (passed p (choices s d) n) ≡ Some (record { site = s; kind = kind })
  passed_next t = the_next p (choices s d) n (record { site = s; kind = kind }) event_is t

-- ---- the events of all sites

-- a range in two parts
range_append : (a n m : ℕ) → range_with_len a (n + m) ≡ range_with_len a n ++ range_with_len (a + n) m
range_append a zero m = ap₂ range_with_len (let e : a ≡ a + 0 = omega arith in e) (zero-add m)
range_append a (suc n) m =
    ap (range_with_len a) (let e : suc n + m ≡ suc (n + m) = omega arith in e)
    ∙ ap (λ (l : List ℕ). a ∷ l) (range_append (a + 1) n m ∙ ap (λ (k : ℕ). range_with_len (a + 1) n ++ range_with_len k m) (let e : a + 1 + n ≡ a + suc n = omega arith in e))

-- an element of the first of two lists, and of the second
front : (xs ys : List Event) (k : ℕ) (e : Event) → slice_get xs k ≡ Some e → slice_get (xs ++ ys) k ≡ Some e
front [] ys k e h = absurd (cc)
front (x ∷ xs) ys zero e h = h
front (x ∷ xs) ys (suc k) e h = front xs ys k e h

behind : (xs ys : List Event) (k : ℕ) → slice_get (xs ++ ys) (length xs + k) ≡ slice_get ys k
behind [] ys k = ap (slice_get ys) (zero-add k)
behind (x ∷ xs) ys k = ap (slice_get (x ∷ xs ++ ys)) (let e : suc (length xs) + k ≡ suc (length xs + k) = omega arith in e) ∙ behind xs ys k

module _ (p : Event → Bool) (f : ℕ → List Event) where
  -- the events of the first sites that pass the test
  abbrev pub of_sites : ℕ → List Event
  of_sites n = filter p (flat_map f (range_with_len 0 n))

  -- the first sites, and then others
  split_sites : (s n : ℕ) → of_sites (s + n) ≡ of_sites s ++ filter p (flat_map f (range_with_len s n))
  split_sites s n =
      ap (λ (l : List ℕ). filter p (flat_map f l)) (range_append 0 s n ∙ ap (λ (k : ℕ). range_with_len 0 s ++ range_with_len k n) (zero-add s))
      ∙ ap (filter p) (flat_map-append f (range_with_len 0 s) (range_with_len s n))
      ∙ filter-append p (flat_map f (range_with_len 0 s)) (flat_map f (range_with_len s n))

  -- those of one site more
  pub more_sites : (s : ℕ) → length (of_sites (s + 1)) ≡ length (of_sites s) + length (filter p (f s))
  more_sites s =
      ap length (split_sites s 1 ∙ ap (λ (l : List Event). of_sites s ++ filter p l) (append-nil (f s)))
      ∙ length-append (of_sites s) (filter p (f s))

  -- an event of a site, by how many pass before it
  pub found_at : (s n k : ℕ) (e : Event) → s < n → slice_get (filter p (f s)) k ≡ Some e → slice_get (of_sites n) (length (of_sites s) + k) ≡ Some e
  found_at s n k e lt h =
      ap (λ (m : ℕ). slice_get (of_sites m) (length (of_sites s) + k)) (let same : n ≡ s + suc (n - s - 1) = omega arith in same)
      ∙ ap (λ (l : List Event). slice_get l (length (of_sites s) + k)) (split_sites s (suc (n - s - 1)))
      ∙ behind (of_sites s) (filter p (f s ++ flat_map f (range_with_len (s + 1) (n - s - 1)))) k
      ∙ ap (λ (l : List Event). slice_get l k) (filter-append p (f s) (flat_map f (range_with_len (s + 1) (n - s - 1))))
      ∙ front (filter p (f s)) (filter p (flat_map f (range_with_len (s + 1) (n - s - 1)))) k e h
