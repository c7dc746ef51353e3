-- No letter comes to a site that has finished, and no ring.
use Rattle.std.proofs.Common.{◌≡◌, ℕ, ◌<◌, true, false, List, [], ◌∷◌, ◌++◌, length, map, refl, sym, ◌∙◌, ap, subst, inl, inr, arith}
use Rattle.std.proofs.lemmas.Bool.{and_from, false_from_ne_true, lt-ltb, true≢false}
use Rattle.dine_graph.specs.Plan.{SeenPlan, IsPlan, site_count, edges_of}
use Rattle.dine_rules.specs.declared.letters.LetterKind.{LetterKind}
use Rattle.dine_rules.specs.declared.letters.Letter.{Letter}
use Rattle.dine_rules.specs.Links.{queue_to}
use Rattle.dine_rules.specs.Local.{edge_at, neighbour_at, traffic_at}
use Rattle.dine_rules.specs.Steps.{Take, may}
use Rattle.dine_rules.specs.Streams.{KeepsStreams}
use Rattle.dine_rules.specs.World.{place_of, put_to, state_of}
use Rattle.dine_rules.proofs.shared.links.Across.{IsAcross, across, place_of-edge_at}
use Rattle.dine_rules.proofs.shared.links.NextLetters.{reached_allowed}
use Rattle.dine_rules.proofs.shared.links.WorldStreams.{reached_kept}
use Rattle.dine_site.specs.Standing.{has_finished}
use Rattle.dine_waking.specs.Sleeping.{ArePlacesBelow, Coming, letters_coming_at}
use Rattle.dine_waking.specs.Runs.{Doing, HasToRing, Run, rings_left, thread_of}
use Rattle.dine_waking.proofs.Letters.{first_at}
use Rattle.dine_waking.proofs.Quiet.{finished_parts, finished_takes_none, first_is_next}
use Rattle.dine_waking.proofs.Bells.{Fits, InLink, IsUnrung, KeepsBell, RunKeeps}

module _ (plan : SeenPlan) (is_plan : IsPlan plan) (run : Run) (keeps : RunKeeps plan run) (s : ℕ) (is_site : s < site_count plan) (finished : has_finished plan s (state_of run.world s) ≡ true) where
  keeps_streams : KeepsStreams plan s (state_of run.world s)
  keeps_streams = (reached_kept plan keeps.events run.world is_plan keeps.reached).keeps s is_site

  keeps_here : KeepsBell plan run s
  keeps_here = keeps.sites s is_site

  -- a letter in a link would be allowed, and is not
  none_comes : (i : ℕ) → i < length (edges_of plan s) → (l : Letter) (rest : List Letter) → queue_to plan run.world s i ≡ l ∷ rest → ⊥
  none_comes i within l rest queue =
      let next = first_is_next (put_to plan run.world s i) (length (traffic_at (state_of run.world s) i).taken) l rest queue in
      let is_place : i < length (state_of run.world s).traffic = omega (arith, keeps_streams.every_place) in
      let may_take : may plan s (state_of run.world s) (Take i l) ≡ true = and_from _ _ (lt-ltb i (length (state_of run.world s).traffic) is_place) (reached_allowed plan keeps.events run.world s i is_plan keeps.reached is_site within l next.0) in
      true≢false (sym may_take ∙ finished_takes_none plan s (state_of run.world s) keeps_streams (finished_parts plan s (state_of run.world s) finished) i l)

  none_rung : (rung_for : List Coming) → keeps_here.rung_for ≡ rung_for → rings_left (thread_of run s) ≡ []
  none_rung [] is = sym keeps_here.numbers ∙ ap (map (λ (one : Coming). one.place)) is
  none_rung (first ∷ coming) is =
      let places : ArePlacesBelow (length (edges_of plan s)) (first ∷ coming) = subst (ArePlacesBelow (length (edges_of plan s))) is keeps_here.places in
      let link : InLink plan run s first.place keeps_here.rung_for = keeps_here.links first.place places.0 in
      absurd (none_comes first.place places.0 first.letter (letters_coming_at first.place coming ++ link.left) (link.queue ∙ ap (λ (c : List Coming). letters_coming_at first.place c ++ link.left) is
      ∙ ap (λ (letters : List Letter). letters ++ link.left) (first_at first coming)))

  pub finished_is_silent : rings_left (thread_of run s) ≡ []
  finished_is_silent = none_rung keeps_here.rung_for refl

  -- no neighbour has to ring
  pub finished_not_rung : (i : ℕ) (kind : LetterKind) → i < length (edges_of plan s) → (thread_of run (neighbour_at plan s i)).doing ≡ HasToRing (place_of plan (neighbour_at plan s i) (edge_at plan s i)) kind → ⊥
  finished_not_rung i kind within rings =
      let place : ℕ = place_of plan (neighbour_at plan s i) (edge_at plan s i) in
      let link : InLink plan run s i keeps_here.rung_for = keeps_here.links i within in
      elim (subst (λ (d : Doing). IsUnrung d place link.left) rings link.unrung) [
        | inl w ↦ not_empty (letters_coming_at i keeps_here.rung_for) w.1 (link.queue ∙ ap (λ (letters : List Letter). letters_coming_at i keeps_here.rung_for ++ letters) w.2)
        | inr w ↦ w.0 refl
      ]
    where
      not_empty : (front : List Letter) (l : Letter) → queue_to plan run.world s i ≡ front ++ l ∷ [] → ⊥
      not_empty [] l queue = none_comes i within l [] queue
      not_empty (x ∷ front) l queue = none_comes i within x (front ++ l ∷ []) queue

-- so a site rings for none that has finished
pub rung_has_not_finished : (plan : SeenPlan) (is_plan : IsPlan plan) (run : Run) (keeps : RunKeeps plan run) (s i : ℕ) (kind : LetterKind) → s < site_count plan → (thread_of run s).doing ≡ HasToRing i kind
    → has_finished plan (neighbour_at plan s i) (state_of run.world (neighbour_at plan s i)) ≡ false
rung_has_not_finished plan is_plan run keeps s i kind is_site rings =
    let here : KeepsBell plan run s = keeps.sites s is_site in
    let within : i < length (edges_of plan s) = subst (λ (d : Doing). Fits plan run.is_open s (state_of run.world s) here.rung_for d) rings here.fits in
    let there : ℕ = neighbour_at plan s i in
    let number : ℕ = place_of plan (neighbour_at plan s i) (edge_at plan s i) in
    let over : IsAcross plan s i there number = across plan s i is_plan within in
    let place_here : place_of plan (neighbour_at plan there number) (edge_at plan there number) ≡ i =
    ap (λ (x : ℕ). place_of plan x (edge_at plan there number)) over.back ∙ ap (place_of plan s) over.same_edge ∙ place_of-edge_at plan s i within in
    false_from_ne_true (has_finished plan there (state_of run.world there)) (λ finished. finished_not_rung plan is_plan run keeps there over.is_site finished number kind over.within
    (ap (λ (x : ℕ). (thread_of run x).doing) over.back ∙ rings ∙ ap (λ (p : ℕ). HasToRing p kind) (sym place_here)))
