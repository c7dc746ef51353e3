-- Letters that are put off: a ring is heard out of its order, and a site falls asleep with rings left.
use Rattle.std.proofs.Common.{◌≡◌, ℕ, ◌+◌, ◌<◌, ◌≤◌, ◌==◌, Bool, true, false, not, ◌&&◌, List, [], ◌∷◌, ◌++◌, length, map, get_or, is_some, refl, sym, ◌∙◌, ap, subst, inl, inr, arith, length-append, if◌then◌else◌}
use Rattle.std.specs.List.{AllByRecursion, range_with_len}
use Rattle.std.proofs.lemmas.Bool.{and_parts, cases_eq, eqb-true, false≢true, true≢false}
use Rattle.std.proofs.lemmas.List.{get_or_append_left, map-append}
use Rattle.std.proofs.lemmas.List.FromFn.{get_or-map-range_with_len, length-map-range_with_len}
use Rattle.dine_token.specs.Log.{is_dirty}
use Rattle.dine_graph.specs.Plan.{SeenPlan}
use Rattle.dine_set.specs.Marks.{marks_of}
use Rattle.dine_rules.specs.declared.letters.Letter.{Letter}
use Rattle.dine_rules.specs.declared.letters.Letter.TheVariants as letter
use Rattle.dine_rules.specs.declared.letters.LetterKind.{LetterKind}
use Rattle.dine_rules.specs.declared.letters.LetterKind.TheVariants as kind
use Rattle.dine_rules.specs.Breach.{first_breach, is_allowed}
use Rattle.dine_rules.specs.Holdings.{fork_at, hand_at}
use Rattle.dine_rules.specs.Letters.{kind_of}
use Rattle.dine_rules.specs.Local.{LocalState, is_eating}
use Rattle.dine_rules.specs.Wants.{SeenWants, is_wanted, still_wanted}
use Rattle.dine_rules.proofs.shared.one_site.BreachLaw.{no_breach}
use Rattle.dine_site.specs.CoreWants.{can_put_off_by_lists, has_dirty_fork, wants_by_lists}
use Rattle.dine_site.proofs.shared.one_site.Breaches.{fork_in_turn}
use Rattle.dine_waking.specs.Sleeping.{ArePlacesBelow, ComeUnwanted, Coming, letters_coming_at}
use Rattle.dine_waking.specs.Runs.{rings_for}
use Rattle.dine_waking.proofs.Letters.{count_letters, first_at, first_elsewhere}

-- the places of the letters
abbrev pub places_of : List Coming → List ℕ
places_of = map (λ (one : Coming). one.place)

none_long : {X : Type 0} (xs : List X) → length xs ≡ 0 → xs ≡ []
none_long [] none = refl
none_long (x ∷ xs) none = absurd (omega arith)

pub letters_append : (i : ℕ) (xs ys : List Coming) → letters_coming_at i (xs ++ ys) ≡ letters_coming_at i xs ++ letters_coming_at i ys
letters_append i [] ys = refl
letters_append i (first ∷ xs) ys = by_test (first.place == i) (letters_append i xs ys)
  where
    by_test : (b : Bool) → letters_coming_at i (xs ++ ys) ≡ letters_coming_at i xs ++ letters_coming_at i ys
        → (if b then first.letter ∷ letters_coming_at i (xs ++ ys) else letters_coming_at i (xs ++ ys)) ≡ (if b then first.letter ∷ letters_coming_at i xs else letters_coming_at i xs) ++ letters_coming_at i ys
    by_test true more = ap (λ (letters : List Letter). first.letter ∷ letters) more
    by_test false more = more

-- ---- one letter is told apart from those before it and those behind it

pub record IsCut (coming : List Coming) (front : List ℕ) (i : ℕ) (rest : List ℕ) : Type 0 where
  pub before : List Coming
  pub one : Coming
  pub behind : List Coming
  pub is : coming ≡ before ++ one ∷ behind
  pub front_is : places_of before ≡ front
  pub here : one.place ≡ i
  pub rest_is : places_of behind ≡ rest

pub cut_at : (coming : List Coming) (front : List ℕ) (i : ℕ) (rest : List ℕ) → places_of coming ≡ front ++ i ∷ rest → IsCut coming front i rest
cut_at [] [] i rest is = absurd (let e : [] ≡ i ∷ rest = is in cc)
cut_at [] (j ∷ front) i rest is = absurd (let e : [] ≡ j ∷ (front ++ i ∷ rest) = is in cc)
cut_at (one ∷ coming) [] i rest is = record {
  before = [];
  one = one;
  behind = coming;
  is = refl;
  front_is = refl;
  here = let e : one.place ∷ places_of coming ≡ i ∷ rest = is in cc;
  rest_is = let e : one.place ∷ places_of coming ≡ i ∷ rest = is in cc;
}
cut_at (first ∷ coming) (j ∷ front) i rest is =
    let same : first.place ≡ j = (let e : first.place ∷ places_of coming ≡ j ∷ (front ++ i ∷ rest) = is in cc) in
    let more : IsCut coming front i rest = cut_at coming front i rest (let e : first.place ∷ places_of coming ≡ j ∷ (front ++ i ∷ rest) = is in cc) in
    record {
      before = first ∷ more.before;
      one = more.one;
      behind = more.behind;
      is = ap (λ (c : List Coming). first ∷ c) more.is;
      front_is = subst (λ (k : ℕ). places_of (first ∷ more.before) ≡ k ∷ front) same (ap (λ (numbers : List ℕ). first.place ∷ numbers) more.front_is);
      here = more.here;
      rest_is = more.rest_is;
    }

-- it comes first, and the others keep their order
module _ (n : ℕ) (one : Coming) (behind : List Coming) where
  pub places_moved : (before : List Coming) → ArePlacesBelow n (before ++ one ∷ behind) → ArePlacesBelow n (one ∷ (before ++ behind))
  places_moved [] below = below
  places_moved (first ∷ before) below =
      let more : ArePlacesBelow n (one ∷ (before ++ behind)) = places_moved before below.1 in
      (more.0, (below.0, more.1))

  pub place_below : (before : List Coming) → ArePlacesBelow n (before ++ one ∷ behind) → one.place < n
  place_below [] below = below.0
  place_below (first ∷ before) below = place_below before below.1

-- no letter of those before comes at this place
pub none_before : (i : ℕ) (before : List Coming) → rings_for i (places_of before) ≡ 0 → letters_coming_at i before ≡ []
none_before i before none = none_long (letters_coming_at i before) (count_letters i before ∙ none)

pub letters_moved : (i : ℕ) (before : List Coming) (one : Coming) (behind : List Coming) → rings_for one.place (places_of before) ≡ 0 → letters_coming_at i (before ++ one ∷ behind) ≡ letters_coming_at i (one ∷ (before ++ behind))
letters_moved i before one behind first = elim (cases_eq i one.place) [
  | inl same ↦ subst (λ (k : ℕ). letters_coming_at k (before ++ one ∷ behind) ≡ letters_coming_at k (one ∷ (before ++ behind))) (sym same)
      (letters_append one.place before (one ∷ behind)
      ∙ ap (λ (letters : List Letter). letters ++ letters_coming_at one.place (one ∷ behind)) (none_before one.place before first)
      ∙ first_at one behind
      ∙ ap (λ (letters : List Letter). one.letter ∷ (letters ++ letters_coming_at one.place behind)) (sym (none_before one.place before first))
      ∙ ap (λ (letters : List Letter). one.letter ∷ letters) (sym (letters_append one.place before behind))
      ∙ sym (first_at one (before ++ behind)))
  | inr other ↦
      letters_append i before (one ∷ behind)
      ∙ ap (λ (letters : List Letter). letters_coming_at i before ++ letters) (first_elsewhere i one behind other)
      ∙ sym (letters_append i before behind)
      ∙ sym (first_elsewhere i one (before ++ behind) other)
]

pub numbers_moved : (front rest : List ℕ) (i : ℕ) (before : List Coming) (one : Coming) (behind : List Coming) → places_of before ≡ front → one.place ≡ i → places_of behind ≡ rest → places_of (one ∷ (before ++ behind)) ≡ i ∷ (front ++ rest)
numbers_moved front rest i before one behind front_is here rest_is =
    ap (λ (numbers : List ℕ). one.place ∷ numbers) (map-append (λ (c : Coming). c.place) before behind)
    ∙ ap (λ (k : ℕ). k ∷ (places_of before ++ places_of behind)) here
    ∙ ap (λ (numbers : List ℕ). i ∷ (numbers ++ places_of behind)) front_is
    ∙ ap (λ (numbers : List ℕ). i ∷ (front ++ numbers)) rest_is

-- ---- what can be put off

module _ (plan : SeenPlan) (s : ℕ) (state : LocalState) (i : ℕ) (can : can_put_off_by_lists plan s state i ≡ true) where
  halves : ((not (is_eating state.phase) && fork_at plan s state i == 1 && not (is_dirty (hand_at s state i))) ≡ true) × ((is_some (first_breach plan s state i letter.Done) && is_some (first_breach plan s state i letter.Close)) ≡ true)
  halves = and_parts _ _ can

  holds_clean : ((not (is_eating state.phase) && fork_at plan s state i == 1) ≡ true) × (not (is_dirty (hand_at s state i)) ≡ true)
  holds_clean = and_parts _ _ halves.0

  pub has_fork : fork_at plan s state i ≡ 1
  has_fork = eqb-true (fork_at plan s state i) 1 (and_parts _ _ holds_clean.0).1

  -- only a Request may come
  pub only_requests : (l : Letter) → is_allowed plan s state i l ≡ true → kind_of l ≡ kind.Request
  only_requests (letter.Request edge) allowed = refl
  only_requests (letter.Fork fork) allowed =
      let away : fork_at plan s state i ≡ 0 = eqb-true (fork_at plan s state i) 0 (fork_in_turn plan s state i fork (no_breach plan s state i (letter.Fork fork) allowed)).1 in
      absurd (omega (arith, away, has_fork))
  only_requests letter.Done allowed = absurd (false≢true (sym (ap (λ b. is_some b) (no_breach plan s state i letter.Done allowed)) ∙ (and_parts _ _ halves.1).0))
  only_requests letter.Close allowed = absurd (false≢true (sym (ap (λ b. is_some b) (no_breach plan s state i letter.Close allowed)) ∙ (and_parts _ _ halves.1).1))

  clean_alone : (b : Bool) (rest : Bool) → not b ≡ true → (rest && b) ≡ false
  clean_alone true true clean = absurd (false≢true clean)
  clean_alone true false clean = refl
  clean_alone false true clean = refl
  clean_alone false false clean = refl

  not_dirty : has_dirty_fork plan s state i ≡ false
  not_dirty = clean_alone (is_dirty (hand_at s state i)) (not (is_eating state.phase) && fork_at plan s state i == 1) holds_clean.1

marked : (test : ℕ → Bool) (n i : ℕ) → i < n → get_or (marks_of test (range_with_len 0 n)) i false ≡ test i
unfolding marks_of
marked test n i within = get_or_append_left (map test (range_with_len 0 n)) _ false i (omega (arith, length-map-range_with_len test 0 n)) ∙ get_or-map-range_with_len test 0 n i i false within (omega arith)

-- the site waits for no Request there
pub request_unwanted : (plan : SeenPlan) (s : ℕ) (state : LocalState) (i : ℕ) → can_put_off_by_lists plan s state i ≡ true → i < length state.traffic → is_wanted (wants_by_lists plan s state) i kind.Request ≡ false
request_unwanted plan s state i can within = marked (has_dirty_fork plan s state) (length state.traffic) i within ∙ not_dirty plan s state i can

-- a dirty fork, and so nothing to put off
pub dirty_puts_off_none : (plan : SeenPlan) (s : ℕ) (state : LocalState) (i : ℕ) → is_dirty (hand_at s state i) ≡ true → can_put_off_by_lists plan s state i ≡ false
dirty_puts_off_none plan s state i dirty = by_test (can_put_off_by_lists plan s state i) refl
  where
    by_test : (b : Bool) → can_put_off_by_lists plan s state i ≡ b → can_put_off_by_lists plan s state i ≡ false
    by_test true is = absurd (true≢false (sym (holds_clean plan s state i is).1 ∙ ap not dirty))
    by_test false is = is

-- ---- letters that come while a site sleeps

-- each is a Request for which the site does not wait
abbrev pub AreUnwantedRequests : SeenWants → List Coming → Type 0
AreUnwantedRequests wants = AllByRecursion (λ (one : Coming). (kind_of one.letter ≡ kind.Request) × (is_wanted wants one.place kind.Request ≡ false))

pub requests_come : (wants : SeenWants) (coming : List Coming) → AreUnwantedRequests wants coming → ComeUnwanted wants coming wants
requests_come wants [] all = refl
requests_come wants (one ∷ coming) all = (
  ap (λ (k : LetterKind). is_wanted wants one.place k) all.0.0 ∙ all.0.1,
  subst (λ (k : LetterKind). ComeUnwanted (still_wanted wants k) coming wants) (sym all.0.0) (requests_come wants coming all.1),
)

-- the only letter of its place is the first one there
pub only_one_first : (front : List Coming) (one : Coming) (coming : List Coming) → rings_for one.place (places_of (front ++ one ∷ coming)) ≤ 1
    → (letters_coming_at one.place (front ++ one ∷ coming) ≡ one.letter ∷ letters_coming_at one.place coming) × (0 < rings_for one.place (places_of (front ++ one ∷ coming)))
only_one_first front one coming once =
    let parts : letters_coming_at one.place (front ++ one ∷ coming) ≡ letters_coming_at one.place front ++ one.letter ∷ letters_coming_at one.place coming =
    letters_append one.place front (one ∷ coming) ∙ ap (λ (letters : List Letter). letters_coming_at one.place front ++ letters) (first_at one coming) in
    let long : length (letters_coming_at one.place front) + length (one.letter ∷ letters_coming_at one.place coming) ≡ rings_for one.place (places_of (front ++ one ∷ coming)) =
    sym (length-append (letters_coming_at one.place front) (one.letter ∷ letters_coming_at one.place coming)) ∙ sym (ap (λ (letters : List Letter). length letters) parts) ∙ count_letters one.place (front ++ one ∷ coming) in
    let none : letters_coming_at one.place front ≡ [] = none_long (letters_coming_at one.place front) (omega (arith, long, once)) in
    (parts ∙ ap (λ (letters : List Letter). letters ++ one.letter ∷ letters_coming_at one.place coming) none, omega (arith, long))
