-- All events of timed journals in one list, by their moments.
use Rattle.std.proofs.Common.{◌≡◌, ◌≢◌, ℕ, zero, suc, ◌+◌, ◌<◌, ◌≤◌, ◌==◌, nat_lt, Bool, true, false, cond, List, [], ◌∷◌, ◌++◌, map, get_or, refl, sym, ◌∙◌, ap, subst, inl, inr, arith}
use Rattle.std.proofs.lemmas.Bool.{cases_eq, cond-false, cond-true, eq-eqb, ne_eqb, ltb-true}
use Rattle.dine_rules.specs.declared.events.Event.{Event}
use Rattle.dine_rules.specs.declared.events.EventKind.{EventKind}
use Rattle.dine_rules.specs.Journals.{part_of}
use Rattle.dine_rules.proofs.journals.Parts.{part-other, part-same}
use Rattle.dine_rules.specs.Timed.{Rise}

-- an event of some site with its moment
abbrev pub TimedEvent : Type 0
TimedEvent = Event × ℕ

abbrev pub event_at : ℕ → EventKind → Event
event_at s kind = record { site = s; kind = kind }

-- the events alone
abbrev pub events_in : List TimedEvent → List Event
events_in events = map (λ x. x.0) events

-- the events of one site
abbrev pub own : ℕ → List TimedEvent → List (EventKind × ℕ)
own s [] = []
own s (x ∷ xs) = cond (x.0.site == s) ((x.0.kind, x.1) ∷ own s xs) (own s xs)

-- no moment in the list is before this one
abbrev pub AtLeast : ℕ → List TimedEvent → Type 0
AtLeast m [] = Unit {0}
AtLeast m (x ∷ xs) = (m ≤ x.1) × AtLeast m xs

-- the moments never fall
abbrev pub Sorted : List TimedEvent → Type 0
Sorted [] = Unit {0}
Sorted (x ∷ xs) = AtLeast x.1 xs × Sorted xs

-- an event before the first that is not before it
abbrev insert : TimedEvent → List TimedEvent → List TimedEvent
insert x [] = x ∷ []
insert x (y ∷ ys) = cond (nat_lt y.1 x.1) (y ∷ insert x ys) (x ∷ y ∷ ys)

abbrev put_in : ℕ → List (EventKind × ℕ) → List TimedEvent → List TimedEvent
put_in s [] events = events
put_in s (e ∷ es) events = insert (event_at s e.0, e.1) (put_in s es events)

-- all events of the journals, of which the first is that of site s
abbrev pub merge : ℕ → List (List (EventKind × ℕ)) → List TimedEvent
merge s [] = []
merge s (j ∷ js) = put_in s j (merge (suc s) js)

-- ---- one event

at_least_less : (m n : ℕ) (xs : List TimedEvent) → m ≤ n → AtLeast n xs → AtLeast m xs
at_least_less m n [] le h = tt
at_least_less m n (x ∷ xs) le h = (omega (arith, h.0), at_least_less m n xs le h.1)

insert_at_least : (m : ℕ) (x : TimedEvent) (ys : List TimedEvent) → m ≤ x.1 → AtLeast m ys → AtLeast m (insert x ys)
insert_at_least m x [] le h = (le, tt)
insert_at_least m x (y ∷ ys) le h = by_case (insert_at_least m x ys le h.1) (nat_lt y.1 x.1) where
  by_case : AtLeast m (insert x ys) → (b : Bool) → AtLeast m (cond b (y ∷ insert x ys) (x ∷ y ∷ ys))
  by_case later true = (h.0, later)
  by_case later false = (le, h)

insert_sorted : (x : TimedEvent) (ys : List TimedEvent) → Sorted ys → Sorted (insert x ys)
insert_sorted x [] h = (tt, tt)
insert_sorted x (y ∷ ys) h = by_case (insert_sorted x ys h.1) (nat_lt y.1 x.1) refl where
  by_case : Sorted (insert x ys) → (b : Bool) → nat_lt y.1 x.1 ≡ b → Sorted (cond b (y ∷ insert x ys) (x ∷ y ∷ ys))
  by_case later true is = let l : y.1 < x.1 = ltb-true y.1 x.1 is in (insert_at_least y.1 x ys (omega arith) h.0, later)
  by_case later false is = let l : x.1 ≤ y.1 = grind (arith, is) in ((l, at_least_less x.1 y.1 ys l h.0), h)

pub own_same : (s : ℕ) (x : TimedEvent) (xs : List TimedEvent) → x.0.site ≡ s → own s (x ∷ xs) ≡ (x.0.kind, x.1) ∷ own s xs
own_same s x xs is = cond-true (x.0.site == s) _ _ (eq-eqb x.0.site s is)

pub own_other : (s : ℕ) (x : TimedEvent) (xs : List TimedEvent) → x.0.site ≢ s → own s (x ∷ xs) ≡ own s xs
own_other s x xs is = cond-false (x.0.site == s) _ _ (ne_eqb x.0.site s is)

insert_other : (s : ℕ) (x : TimedEvent) (ys : List TimedEvent) → x.0.site ≢ s → own s (insert x ys) ≡ own s ys
insert_other s x [] differs = own_other s x [] differs
insert_other s x (y ∷ ys) differs = by_case (insert_other s x ys differs) (nat_lt y.1 x.1) where
  by_case : own s (insert x ys) ≡ own s ys → (b : Bool) → own s (cond b (y ∷ insert x ys) (x ∷ y ∷ ys)) ≡ own s (y ∷ ys)
  by_case later true = ap (λ (z : List (EventKind × ℕ)). cond (y.0.site == s) ((y.0.kind, y.1) ∷ z) z) later
  by_case later false = own_other s x (y ∷ ys) differs

-- none of these events is before the moment
Late : ℕ → List (EventKind × ℕ) → Type 0
Late m [] = Unit {0}
Late m (e ∷ es) = (m ≤ e.1) × Late m es

late_less : (m n : ℕ) (es : List (EventKind × ℕ)) → m ≤ n → Late n es → Late m es
unfolding Late
late_less m n [] le h = tt
late_less m n (e ∷ es) le h = (omega (arith, h.0), late_less m n es le h.1)

late : (m : ℕ) (es : List (EventKind × ℕ)) → Rise m es → Late m es
unfolding Late
late m [] h = tt
late m (e ∷ es) h = (omega (arith, h.0), late_less m e.1 es (omega (arith, h.0)) (late e.1 es h.1))

insert_same : (s : ℕ) (x : TimedEvent) (ys : List TimedEvent) → x.0.site ≡ s → Late x.1 (own s ys) → own s (insert x ys) ≡ (x.0.kind, x.1) ∷ own s ys
unfolding Late
insert_same s x [] is late = own_same s x [] is
insert_same s x (y ∷ ys) is late = by_case (insert_same s x ys is) (nat_lt y.1 x.1) refl where
  by_case : (Late x.1 (own s ys) → own s (insert x ys) ≡ (x.0.kind, x.1) ∷ own s ys) → (b : Bool) → nat_lt y.1 x.1 ≡ b → own s (cond b (y ∷ insert x ys) (x ∷ y ∷ ys)) ≡ (x.0.kind, x.1) ∷ own s (y ∷ ys)
  by_case later true before =
      let l : y.1 < x.1 = ltb-true y.1 x.1 before in
      let other : y.0.site ≢ s = λ same. let w : Late x.1 ((y.0.kind, y.1) ∷ own s ys) = subst (Late x.1) (own_same s y ys same) late in omega (arith, w.0) in
      own_other s y (insert x ys) other ∙ later (subst (Late x.1) (own_other s y ys other) late) ∙ ap (λ (z : List (EventKind × ℕ)). (x.0.kind, x.1) ∷ z) (sym (own_other s y ys other))
  by_case later false before = own_same s x (y ∷ ys) is

-- ---- one journal, and all

put_in_own : (s b : ℕ) (es : List (EventKind × ℕ)) (events : List TimedEvent) → own s events ≡ [] → Rise b es → own s (put_in s es events) ≡ es
put_in_own s b [] events none rise = none
put_in_own s b (e ∷ es) events none rise =
    let rest : own s (put_in s es events) ≡ es = put_in_own s e.1 es events none rise.1 in
    insert_same s (event_at s e.0, e.1) (put_in s es events) refl (subst (Late e.1) (sym rest) (late e.1 es rise.1)) ∙ ap (λ (z : List (EventKind × ℕ)). e ∷ z) rest

put_in_other : (s t : ℕ) (es : List (EventKind × ℕ)) (events : List TimedEvent) → s ≢ t → own t (put_in s es events) ≡ own t events
put_in_other s t [] events differs = refl
put_in_other s t (e ∷ es) events differs = insert_other t (event_at s e.0, e.1) (put_in s es events) differs ∙ put_in_other s t es events differs

merge_below : (s t : ℕ) (js : List (List (EventKind × ℕ))) → t < s → own t (merge s js) ≡ []
merge_below s t [] below = refl
merge_below s t (j ∷ js) below = put_in_other s t j (merge (suc s) js) (λ same. omega arith) ∙ merge_below (suc s) t js (omega arith)

merge_own_from : (s k : ℕ) (js : List (List (EventKind × ℕ))) → ((i : ℕ) → Rise 0 (get_or js i [])) → own (s + k) (merge s js) ≡ get_or js k []
merge_own_from s k [] rise = refl
merge_own_from s zero (j ∷ js) rise =
    let same : s ≡ s + 0 = omega arith in
    subst (λ (t : ℕ). own t (put_in s j (merge (suc s) js)) ≡ j) same (put_in_own s 0 j (merge (suc s) js) (merge_below (suc s) s js (omega arith)) (rise 0))
merge_own_from s (suc k) (j ∷ js) rise =
    let same : suc s + k ≡ s + suc k = omega arith in
    put_in_other s (s + suc k) j (merge (suc s) js) (λ is. omega arith)
    ∙ subst (λ (t : ℕ). own t (merge (suc s) js) ≡ get_or js k []) same (merge_own_from (suc s) k js (λ i. rise (suc i)))

-- the events of each site are those of its journal
pub merge_own : (js : List (List (EventKind × ℕ))) → ((i : ℕ) → Rise 0 (get_or js i [])) → (s : ℕ) → own s (merge 0 js) ≡ get_or js s []
merge_own js rise s = let same : 0 + s ≡ s = omega arith in subst (λ (t : ℕ). own t (merge 0 js) ≡ get_or js s []) same (merge_own_from 0 s js rise)

put_in_sorted : (s : ℕ) (es : List (EventKind × ℕ)) (events : List TimedEvent) → Sorted events → Sorted (put_in s es events)
put_in_sorted s [] events h = h
put_in_sorted s (e ∷ es) events h = insert_sorted (event_at s e.0, e.1) (put_in s es events) (put_in_sorted s es events h)

pub merge_sorted : (s : ℕ) (js : List (List (EventKind × ℕ))) → Sorted (merge s js)
merge_sorted s [] = tt
merge_sorted s (j ∷ js) = put_in_sorted s j (merge (suc s) js) (merge_sorted (suc s) js)

-- ---- parts

pub own_append : (s : ℕ) (xs ys : List TimedEvent) → own s (xs ++ ys) ≡ own s xs ++ own s ys
own_append s [] ys = refl
own_append s (x ∷ xs) ys = elim (cases_eq x.0.site s) [
  | inl is ↦ own_same s x (xs ++ ys) is ∙ ap (λ (z : List (EventKind × ℕ)). (x.0.kind, x.1) ∷ z) (own_append s xs ys) ∙ ap (λ (z : List (EventKind × ℕ)). z ++ own s ys) (sym (own_same s x xs is))
  | inr differs ↦ own_other s x (xs ++ ys) differs ∙ own_append s xs ys ∙ ap (λ (z : List (EventKind × ℕ)). z ++ own s ys) (sym (own_other s x xs differs))
]

pub own_part : (s : ℕ) (xs : List TimedEvent) → part_of s (events_in xs) ≡ map (λ event. event.0) (own s xs)
own_part s [] = refl
own_part s (x ∷ xs) = elim (cases_eq x.0.site s) [
  | inl is ↦ part-same s x.0 (events_in xs) is ∙ ap (λ (z : List EventKind). x.0.kind ∷ z) (own_part s xs) ∙ ap (map (λ event. event.0)) (sym (own_same s x xs is))
  | inr differs ↦ part-other s x.0 (events_in xs) differs ∙ own_part s xs ∙ ap (map (λ event. event.0)) (sym (own_other s x xs differs))
]
