-- How many rings a bell holds: at most four for each place, and fewer while a neighbour has yet to ring.
use Rattle.std.proofs.Common.{◌≡◌, ℕ, zero, suc, ◌+◌, ◌*◌, ◌<◌, ◌≤◌, ◌==◌, Bool, true, false, cond, List, [], ◌∷◌, length, sum_by, refl, sym, ◌∙◌, ap, subst, inl, inr, arith, length-append, if◌then◌else◌}
use Rattle.std.specs.List.{range_with_len}
use Rattle.std.proofs.lemmas.Bool.{cases_eq, cond-true, eq-eqb}
use Rattle.std.proofs.lemmas.List.{length-map}
use Rattle.std.proofs.lemmas.List.Sums.{sum_by-cons, sum_by-le-sum_by}
use Rattle.dine_graph.specs.Plan.{SeenPlan, IsPlan, site_count, edges_of}
use Rattle.dine_rules.specs.declared.letters.LetterKind.{LetterKind}
use Rattle.dine_rules.specs.declared.letters.Letter.{Letter}
use Rattle.dine_rules.specs.Local.{edge_at, neighbour_at}
use Rattle.dine_rules.specs.World.{place_of, state_of}
use Rattle.dine_rules.proofs.shared.lists.Sums.{sum_by-add}
use Rattle.dine_rules.proofs.shared.links.Across.{IsAcross, across, place_of-edge_at}
use Rattle.dine_rules.proofs.shared.links.Links.{link_letters}
use Rattle.dine_rules.proofs.shared.links.WorldStreams.{WorldKeeps, reached_kept}
use Rattle.dine_waking.specs.Sleeping.{ArePlacesBelow, Coming, letters_coming_at}
use Rattle.dine_waking.specs.Runs.{Doing, HasToRing, Run, places_heard, thread_of}
use Rattle.dine_waking.proofs.Bells.{Fits, InLink, IsUnrung, KeepsBell, RunKeeps}

-- ---- sums over places

-- a place stands among the places
at_least_once : (k a n : ℕ) → a ≤ k → k < a + n → 1 ≤ sum_by (λ s. cond (k == s) 1 0) (range_with_len a n)
at_least_once k a zero low high = absurd (omega arith)
at_least_once k a (suc n) low high = elim (cases_eq k a) [
  | inl same ↦ omega (arith, sum_by-cons (λ s. cond (k == s) 1 0) a (range_with_len (a + 1) n), cond-true {A = ℕ} (k == a) 1 0 (eq-eqb k a same))
  | inr other ↦ omega (arith, sum_by-cons (λ s. cond (k == s) 1 0) a (range_with_len (a + 1) n), at_least_once k (a + 1) n (omega (arith, other)) (omega arith))
]

-- all letters come at the places
letters_within : (d : ℕ) (coming : List Coming) → ArePlacesBelow d coming → length coming ≤ sum_by (λ i. length (letters_coming_at i coming)) (range_with_len 0 d)
letters_within d [] places = omega arith
letters_within d (first ∷ coming) places = omega (
  arith,
  letters_within d coming places.1,
  at_least_once first.place 0 d (omega arith) (omega (arith, places.0)),
  sum_by-add (λ i. cond (first.place == i) 1 0) (λ i. length (letters_coming_at i coming)) (range_with_len 0 d),
  sum_by-le-sum_by (λ i. cond (first.place == i) 1 0 + length (letters_coming_at i coming)) (λ i. length (letters_coming_at i (first ∷ coming))) (range_with_len 0 d)
      (λ i. longer (first.place == i) (letters_coming_at i coming)),
)
  where
    longer : (b : Bool) (letters : List Letter) → cond b 1 0 + length letters ≤ length (if b then first.letter ∷ letters else letters)
    longer true letters = omega arith
    longer false letters = omega arith

-- four letters at each place, or less at one
few_in_all : (f : ℕ → ℕ) (a n : ℕ) → ((i : ℕ) → i < n → f (a + i) ≤ 4) → sum_by f (range_with_len a n) ≤ 4 * n
few_in_all f a zero few = omega arith
few_in_all f a (suc n) few =
    let here : f a ≤ 4 = subst (λ (k : ℕ). f k ≤ 4) (let e : a + 0 ≡ a = omega arith in e) (few 0 (omega arith)) in
    omega (
      arith,
      sum_by-cons f a (range_with_len (a + 1) n),
      here,
      few_in_all f (a + 1) n (λ i h. subst (λ (k : ℕ). f k ≤ 4) (let e : a + suc i ≡ a + 1 + i = omega arith in e) (few (suc i) (omega arith))),
    )

fewer_in_all : (f : ℕ → ℕ) (a n j : ℕ) → ((i : ℕ) → i < n → f (a + i) ≤ 4) → j < n → f (a + j) < 4 → sum_by f (range_with_len a n) < 4 * n
fewer_in_all f a zero j few within fewer = absurd (omega arith)
fewer_in_all f a (suc n) zero few within fewer =
    let here : f a < 4 = subst (λ (k : ℕ). f k < 4) (let e : a + 0 ≡ a = omega arith in e) fewer in
    omega (
      arith,
      sum_by-cons f a (range_with_len (a + 1) n),
      here,
      few_in_all f (a + 1) n (λ i h. subst (λ (k : ℕ). f k ≤ 4) (let e : a + suc i ≡ a + 1 + i = omega arith in e) (few (suc i) (omega arith))),
    )
fewer_in_all f a (suc n) (suc j) few within fewer =
    let here : f a ≤ 4 = subst (λ (k : ℕ). f k ≤ 4) (let e : a + 0 ≡ a = omega arith in e) (few 0 (omega arith)) in
    omega (
      arith,
      sum_by-cons f a (range_with_len (a + 1) n),
      here,
      fewer_in_all f (a + 1) n j (λ i h. subst (λ (k : ℕ). f k ≤ 4) (let e : a + suc i ≡ a + 1 + i = omega arith in e) (few (suc i) (omega arith))) (omega arith)
          (subst (λ (k : ℕ). f k < 4) (let e : a + suc j ≡ a + 1 + j = omega arith in e) fewer),
    )

-- ---- one site

module _ (plan : SeenPlan) (is_plan : IsPlan plan) (run : Run) (keeps : RunKeeps plan run) (s : ℕ) (is_site : s < site_count plan) where
  kept : WorldKeeps plan run.world
  kept = reached_kept plan keeps.events run.world is_plan keeps.reached

  keeps_here : KeepsBell plan run s
  keeps_here = keeps.sites s is_site

  abbrev coming_at : ℕ → ℕ
  coming_at i = length (letters_coming_at i keeps_here.rung_for)

  bell_within : length (thread_of run s).bell ≤ sum_by coming_at (range_with_len 0 (length (edges_of plan s)))
  bell_within = omega (
    arith,
    letters_within (length (edges_of plan s)) keeps_here.rung_for keeps_here.places,
    ap (λ (numbers : List ℕ). length numbers) keeps_here.numbers,
    length-map keeps_here.rung_for (λ (one : Coming). one.place),
    length-append (places_heard (thread_of run s).doing) (thread_of run s).bell,
  )

  few_at : (i : ℕ) → i < length (edges_of plan s) → coming_at (0 + i) ≤ 4
  few_at i within =
      let link : InLink plan run s i keeps_here.rung_for = keeps_here.links i within in
      subst (λ (k : ℕ). coming_at k ≤ 4) (let e : i ≡ 0 + i = omega arith in e)
      (omega (arith, link_letters plan is_plan run.world kept s i is_site within, ap (λ (letters : List Letter). length letters) link.queue, length-append (letters_coming_at i keeps_here.rung_for) link.left))

  pub bell_is_small : length (thread_of run s).bell ≤ 4 * length (edges_of plan s)
  bell_is_small = omega (arith, bell_within, few_in_all coming_at 0 (length (edges_of plan s)) few_at)

  -- a neighbour has yet to ring
  pub bell_has_room : (i : ℕ) (kind : LetterKind) → i < length (edges_of plan s) → (thread_of run (neighbour_at plan s i)).doing ≡ HasToRing (place_of plan (neighbour_at plan s i) (edge_at plan s i)) kind
      → length (thread_of run s).bell < 4 * length (edges_of plan s)
  bell_has_room i kind within rings =
      let place : ℕ = place_of plan (neighbour_at plan s i) (edge_at plan s i) in
      let link : InLink plan run s i keeps_here.rung_for = keeps_here.links i within in
      let one : length link.left ≡ 1 = elim (subst (λ (d : Doing). IsUnrung d place link.left) rings link.unrung) [
        | inl w ↦ ap (λ (letters : List Letter). length letters) w.2
        | inr w ↦ absurd (w.0 refl)
      ] in
      let fewer : coming_at (0 + i) < 4 = subst (λ (k : ℕ). coming_at k < 4) (let e : i ≡ 0 + i = omega arith in e)
      (omega (arith, one, link_letters plan is_plan run.world kept s i is_site within, ap (λ (letters : List Letter). length letters) link.queue, length-append (letters_coming_at i keeps_here.rung_for) link.left)) in
      omega (arith, bell_within, fewer_in_all coming_at 0 (length (edges_of plan s)) i few_at within fewer)

-- a bell that is rung has room
pub rung_has_room : (plan : SeenPlan) (is_plan : IsPlan plan) (run : Run) (keeps : RunKeeps plan run) (s i : ℕ) (kind : LetterKind) → s < site_count plan → (thread_of run s).doing ≡ HasToRing i kind
    → length (thread_of run (neighbour_at plan s i)).bell < 4 * length (edges_of plan (neighbour_at plan s i))
rung_has_room plan is_plan run keeps s i kind is_site rings =
    let here : KeepsBell plan run s = keeps.sites s is_site in
    let within : i < length (edges_of plan s) = subst (λ (d : Doing). Fits plan run.is_open s (state_of run.world s) here.rung_for d) rings here.fits in
    let there : ℕ = neighbour_at plan s i in
    let number : ℕ = place_of plan (neighbour_at plan s i) (edge_at plan s i) in
    let over : IsAcross plan s i there number = across plan s i is_plan within in
    let place_here : place_of plan (neighbour_at plan there number) (edge_at plan there number) ≡ i =
    ap (λ (x : ℕ). place_of plan x (edge_at plan there number)) over.back ∙ ap (place_of plan s) over.same_edge ∙ place_of-edge_at plan s i within in
    bell_has_room plan is_plan run keeps there over.is_site number kind over.within
    (ap (λ (x : ℕ). (thread_of run x).doing) over.back ∙ rings ∙ ap (λ (p : ℕ). HasToRing p kind) (sym place_here))
