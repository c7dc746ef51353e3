-- The sets that a site keeps of its places, through each change of a place.
use Rattle.std.proofs.Common.{◌≡◌, ℕ, zero, suc, ◌+◌, ◌-◌, ◌<◌, ◌≤◌, ◌&&◌, ◌||◌, not, Bool, true, false, cond, is_none, position, List, [], ◌∷◌, ◌++◌, length, map, replicate, set, get_or, Some, None, Option, refl, sym, ◌∙◌, ap, ap₂, arith}
use Rattle.std.specs.List.{All, list_all}
use Rattle.std.specs.Option.{option_map}
use Rattle.dine_token.specs.Fork.{SeenFork, IsDirty}
use Rattle.dine_set.specs.Marks.{marks_of, marks_without, nth_position}
use Rattle.dine_set.proofs.shared.MarksOf.{without-marks_of, marks_of-agree, marks_of-push, marks_of-set, marks_of-same, marks_of-none, marks_of-each, marks_of-map}
use Rattle.dine_set.proofs.shared.NthPosition.{nth_position-zero}
use Rattle.dine_site.specs.declared.site.places.Place.{Place}
use Rattle.dine_site.specs.declared.site.places.ForkSlot.{ForkSlot}
use Rattle.dine_site.specs.declared.site.places.ForkSlot.TheVariants.{Away, Here, InMeal}
use Rattle.dine_site.specs.Places.{is_away_at, is_dirty_at, has_token_at, is_ready_at, is_open_at, has_put_done_at, can_say_done_at, is_held, places_with_forks, place_in_meal, with_fork, OnHere}
use Rattle.dine_site.specs.private.PlaceSteps.{IsLiftable}

-- a place is changed, and the mark of a test is put; or its test gives the same as before, and the marks stay
module _ (test : Place → Bool) (xs : List Place) (marks : List Bool) (are : marks ≡ marks_of test xs) (i : ℕ) (place : Place) where
  pub put : (mark : Bool) → i < length xs → mark ≡ test place → set marks i mark ≡ marks_of test (set xs i place)
  put mark within is = ap (λ (l : List Bool). set l i mark) are ∙ ap (set (marks_of test xs) i) is ∙ sym (marks_of-set test xs i place within)

  pub kept : (past : Place) → test place ≡ test (get_or xs i past) → marks ≡ marks_of test (set xs i place)
  kept past same = are ∙ sym (marks_of-same test xs i place past same)

  -- it is added at the end
  pub added : (mark : Bool) → length xs < 64 → i ≡ length xs → mark ≡ test place → set marks i mark ≡ marks_of test (xs ++ place ∷ [])
  added mark few last is = ap (λ (l : List Bool). set l i mark) are ∙ ap (λ (n : ℕ). set (marks_of test xs) n mark) last ∙ ap (set (marks_of test xs) (length xs)) is ∙ sym (marks_of-push test xs place few)

-- ---- all places

here_held : (P : SeenFork → Type 0) (slot : ForkSlot) → OnHere P slot → not (is_held slot) ≡ false
here_held P Away h = absurd h
here_held P (Here fork) h = refl
here_held P (InMeal meals) h = absurd h

-- where all forks go into a meal, none is away, and none is dirty in hand
module _ (site : ℕ) (xs : List Place) (few : length xs ≤ 64) where
  pub lifted_away : All (IsLiftable site) xs → marks_of is_away_at xs ≡ marks_of is_away_at (map (place_in_meal site) xs)
  lifted_away here =
      marks_of-none is_away_at xs few (λ i past within. here_held _ (get_or xs i past).fork (here i past within))
      ∙ sym (all_away xs few)
    where
      all_away : (ys : List Place) → length ys ≤ 64 → marks_of is_away_at (map (place_in_meal site) ys) ≡ replicate 64 false
      all_away ys few = marks_of-map (λ place. false) is_away_at (place_in_meal site) (λ place. refl) ys ∙ marks_of-none (λ place. false) ys few (λ i past within. refl)

  pub lifted_dirty : replicate 64 false ≡ marks_of is_dirty_at (map (place_in_meal site) xs)
  lifted_dirty = sym (marks_of-map (λ place. false) is_dirty_at (place_in_meal site) (λ place. refl) xs ∙ marks_of-none (λ place. false) xs few (λ i past within. refl))

  -- other tests give the same
  pub lifted_same : (test : Place → Bool) → ((place : Place) → test (place_in_meal site place) ≡ test place) → marks_of test xs ≡ marks_of test (map (place_in_meal site) xs)
  lifted_same test same = sym (marks_of-map test test (place_in_meal site) same xs)

pub length-places_with_forks : (xs : List Place) (forks : List SeenFork) → length (places_with_forks xs forks) ≡ length xs
length-places_with_forks [] forks = refl
length-places_with_forks (x ∷ xs) [] = refl
length-places_with_forks (x ∷ xs) (fork ∷ forks) = ap suc (length-places_with_forks xs forks)

-- where a fork is laid down at each place, none is away
pub laid_here : (xs : List Place) (forks : List SeenFork) → length forks ≡ length xs → (i : ℕ) (past : Place) → i < length (places_with_forks xs forks) → is_away_at (get_or (places_with_forks xs forks) i past) ≡ false
laid_here [] forks all i past within = absurd (omega arith)
laid_here (x ∷ xs) [] all i past within = absurd (omega (arith, all))
laid_here (x ∷ xs) (fork ∷ forks) all zero past within = refl
laid_here (x ∷ xs) (fork ∷ forks) all (suc i) past within = laid_here xs forks (omega arith) i past (omega arith)

pub laid_away : (xs : List Place) (forks : List SeenFork) → length xs ≤ 64 → length forks ≡ length xs → replicate 64 false ≡ marks_of is_away_at (places_with_forks xs forks)
laid_away xs forks few all = sym (marks_of-none is_away_at (places_with_forks xs forks) (omega (arith, length-places_with_forks xs forks)) (laid_here xs forks all))

-- where a dirty fork is laid down at each place, all are dirty
laid_soiled : (xs : List Place) (forks : List SeenFork) → length forks ≡ length xs → All IsDirty forks → (i : ℕ) (past : Place) → i < length (places_with_forks xs forks) → is_dirty_at (get_or (places_with_forks xs forks) i past) ≡ true
laid_soiled [] forks all dirty i past within = absurd (omega arith)
laid_soiled (x ∷ xs) [] all dirty i past within = absurd (omega (arith, all))
laid_soiled (x ∷ xs) (fork ∷ forks) all dirty zero past within = dirty 0 fork (omega arith)
laid_soiled (x ∷ xs) (fork ∷ forks) all dirty (suc i) past within = laid_soiled xs forks (omega arith) (λ j d h. dirty (suc j) d (omega arith)) i past (omega arith)

-- the marks of the first n places
abbrev pub marks_below : ℕ → List Bool
marks_below n = replicate n true ++ replicate (64 - n) false

pub laid_dirty : (xs : List Place) (forks : List SeenFork) → length forks ≡ length xs → All IsDirty forks → marks_below (length xs) ≡ marks_of is_dirty_at (places_with_forks xs forks)
laid_dirty xs forks all dirty = ap marks_below (sym (length-places_with_forks xs forks)) ∙ sym (marks_of-each is_dirty_at (places_with_forks xs forks) (laid_soiled xs forks all dirty))

map_laid : (test : Place → Bool) → ((slot : ForkSlot) (place : Place) → test (with_fork slot place) ≡ test place) → (xs : List Place) (forks : List SeenFork) → map test (places_with_forks xs forks) ≡ map test xs
map_laid test same [] forks = refl
map_laid test same (x ∷ xs) [] = refl
map_laid test same (x ∷ xs) (fork ∷ forks) = ap₂ (λ (mark : Bool) (marks : List Bool). mark ∷ marks) (same (Here fork) x) (map_laid test same xs forks)

pub laid_same : (test : Place → Bool) → ((slot : ForkSlot) (place : Place) → test (with_fork slot place) ≡ test place) → (xs : List Place) (forks : List SeenFork) → marks_of test xs ≡ marks_of test (places_with_forks xs forks)
unfolding marks_of
laid_same test same xs forks = ap₂ (λ (marks : List Bool) (n : ℕ). marks ++ replicate (64 - n) false) (sym (map_laid test same xs forks)) (sym (length-places_with_forks xs forks))

-- ---- all are ready where none is away, and none has a dirty fork that was asked for

none_more : (o : Option ℕ) → is_none (option_map (λ i. i + 1) o) ≡ is_none o
none_more None = refl
none_more (Some i) = refl

none_first : (test : Place → Bool) (xs : List Place) → is_none (nth_position test 0 xs) ≡ list_all (λ place. not (test place)) xs
none_first test [] = refl
none_first test (x ∷ xs) = elim (test x) as (λ b. is_none (cond b (Some 0) (option_map (λ i. i + 1) (nth_position test 0 xs))) ≡ (not b && list_all (λ place. not (test place)) xs)) [
  | true ↦ refl
  | false ↦ none_more (nth_position test 0 xs) ∙ none_first test xs
]

none_of_all : (test : Place → Bool) (xs : List Place) → is_none (position test xs) ≡ list_all (λ place. not (test place)) xs
none_of_all test xs = ap is_none (sym (nth_position-zero test xs)) ∙ none_first test xs

ready_test : (held dirty token : Bool) → (not (not held) && not (dirty && token)) ≡ (held && (not dirty || not token))
ready_test true true true = refl
ready_test true true false = refl
ready_test true false token = refl
ready_test false dirty token = refl

regroup : (a b c d : Bool) → ((a && c) && (b && d)) ≡ ((a && b) && (c && d))
regroup true true c d = refl
regroup true false true d = refl
regroup true false false d = refl
regroup false b c d = refl

all_ready : (xs : List Place) → (list_all (λ place. not (is_away_at place)) xs && list_all (λ place. not (is_dirty_at place && has_token_at place)) xs) ≡ list_all is_ready_at xs
all_ready [] = refl
all_ready (x ∷ xs) =
    regroup (not (is_away_at x)) (not (is_dirty_at x && has_token_at x)) (list_all (λ place. not (is_away_at place)) xs) (list_all (λ place. not (is_dirty_at place && has_token_at place)) xs)
    ∙ ap₂ (λ (a b : Bool). a && b) (ready_test (is_held x.fork) (is_dirty_at x) (has_token_at x)) (all_ready xs)

pub ready_by_sets : (xs : List Place) → (is_none (position is_away_at xs) && is_none (position (λ place. is_dirty_at place && has_token_at place) xs)) ≡ list_all is_ready_at xs
ready_by_sets xs = ap₂ (λ (a b : Bool). a && b) (none_of_all is_away_at xs) (none_of_all (λ place. is_dirty_at place && has_token_at place) xs) ∙ all_ready xs

-- Done may be said where it is not put, of the places where Close is not
swapped : (a b : Bool) → (a && not b) ≡ (not b && a)
swapped true true = refl
swapped true false = refl
swapped false true = refl
swapped false false = refl

pub dones_by_sets : (xs : List Place) → marks_without (marks_of is_open_at xs) (marks_of has_put_done_at xs) ≡ marks_of can_say_done_at xs
dones_by_sets xs = without-marks_of is_open_at has_put_done_at xs
    ∙ marks_of-agree (λ place. is_open_at place && not (has_put_done_at place)) can_say_done_at (λ place. swapped (is_open_at place) (has_put_done_at place)) xs
