-- How many letters a link has, by the rings of its bell.
use Rattle.std.proofs.Common.{◌≡◌, ℕ, ◌+◌, ◌<◌, ◌==◌, List, length, count_by, sym, ◌∙◌, ap, inl, inr, arith, length-append}
use Rattle.std.proofs.lemmas.Bool.{cond-true, cond-false, eq-eqb, ne_eqb}
use Rattle.dine_graph.specs.Plan.{SeenPlan, edges_of}
use Rattle.dine_rules.specs.declared.letters.Letter.{Letter}
use Rattle.dine_rules.specs.Links.{queue_to}
use Rattle.dine_rules.specs.Local.{edge_at, neighbour_at}
use Rattle.dine_rules.specs.World.{place_of}
use Rattle.dine_waking.specs.Sleeping.{letters_coming_at}
use Rattle.dine_waking.specs.Runs.{Doing, GoesOn, HasToRing, Run, Sleeps, HasToTake, HasToWake, IsToBeWoken, has_yet_to_ring, rings_left, thread_of}
use Rattle.dine_waking.proofs.Letters.{count_letters}
use Rattle.dine_waking.proofs.Bells.{InLink, IsUnrung, KeepsBell}

unrung_length : (doing : Doing) (place : ℕ) (letters : List Letter) → IsUnrung doing place letters → length letters ≡ has_yet_to_ring doing place
unrung_length GoesOn place letters none = ap (λ (l : List Letter). length l) none
unrung_length (HasToRing i kind) place letters (inl w) = ap (λ (l : List Letter). length l) w.2 ∙ sym (cond-true {A = ℕ} (i == place) 1 0 (eq-eqb i place w.0))
unrung_length (HasToRing i kind) place letters (inr w) = ap (λ (l : List Letter). length l) w.1 ∙ sym (cond-false {A = ℕ} (i == place) 1 0 (ne_eqb i place w.0))
unrung_length (HasToWake i) place letters none = ap (λ (l : List Letter). length l) none
unrung_length (IsToBeWoken i) place letters none = ap (λ (l : List Letter). length l) none
unrung_length (HasToTake i) place letters none = ap (λ (l : List Letter). length l) none
unrung_length (Sleeps wants) place letters none = ap (λ (l : List Letter). length l) none

pub account : (plan : SeenPlan) (run : Run) (s i : ℕ) → KeepsBell plan run s → i < length (edges_of plan s)
    → length (queue_to plan run.world s i) ≡ count_by (λ k. k == i) (rings_left (thread_of run s)) + has_yet_to_ring (thread_of run (neighbour_at plan s i)).doing (place_of plan (neighbour_at plan s i) (edge_at plan s i))
account plan run s i keeps within =
    let link : InLink plan run s i keeps.rung_for = keeps.links i within in
    omega (
      arith,
      ap (λ (letters : List Letter). length letters) link.queue,
      length-append (letters_coming_at i keeps.rung_for) link.left,
      count_letters i keeps.rung_for,
      ap (count_by (λ (k : ℕ). k == i)) keeps.numbers,
      unrung_length (thread_of run (neighbour_at plan s i)).doing (place_of plan (neighbour_at plan s i) (edge_at plan s i)) link.left link.unrung,
    )
