-- Sites that sleep although letters are on their way to them.
use Rattle.std.specs.Prelude.{◌≡◌, ◌⊎◌, ℕ, ◌<◌, ◌==◌, true, false, List, [], ◌∷◌, length, None, if◌then◌else◌}
use Rattle.std.specs.List.{AllByRecursion}
use Rattle.dine_graph.specs.Plan.{SeenPlan, site_count, edges_of}
use Rattle.dine_rules.specs.declared.letters.Letter.{Letter}
use Rattle.dine_rules.specs.Letters.{kind_of}
use Rattle.dine_rules.specs.Links.{queue_to}
use Rattle.dine_rules.specs.Wants.{SeenWants, is_wanted, still_wanted}
use Rattle.dine_rules.specs.World.{WorldState, state_of}
use Rattle.dine_site.specs.CoreWants.{wants_by_lists}
use Rattle.dine_site.specs.NextEvent.{next_event}
use Rattle.dine_site.specs.Standing.{has_finished}

-- a letter on its way to a site, with the place at which it comes
pub record Coming : Type 0 where
  pub place : ℕ
  pub letter : Letter

-- the letters that come at place i, in order
abbrev pub letters_coming_at : ℕ → List Coming → List Letter
letters_coming_at i [] = []
letters_coming_at i (first ∷ coming) = if first.place == i then first.letter ∷ letters_coming_at i coming else letters_coming_at i coming

-- The letters come one after the other, and the site waits for none of them when it comes. It waits at first for the
-- letters of `wants`, and at the end for those of `last`.
abbrev pub ComeUnwanted : SeenWants → List Coming → SeenWants → Type 0
ComeUnwanted wants [] last = wants ≡ last
ComeUnwanted wants (first ∷ coming) last = (is_wanted wants first.place (kind_of first.letter) ≡ false) × ComeUnwanted (still_wanted wants (kind_of first.letter)) coming last

-- The place of each of these letters is less than n.
abbrev pub ArePlacesBelow : ℕ → List Coming → Type 0
ArePlacesBelow n = AllByRecursion (λ (one : Coming). one.place < n)

-- The site may sleep. It can do nothing without a letter. The letters on their way to it have an order, which at each
-- place is that of the link, in which they come unwanted.
pub record SleepsWell (plan : SeenPlan) (world : WorldState) (s : ℕ) : Type 0 where
  pub idle : next_event plan s (state_of world s) ≡ None
  pub coming : List Coming
  pub last : SeenWants
  pub places : ArePlacesBelow (length (edges_of plan s)) coming
  pub in_links : (i : ℕ) → i < length (edges_of plan s) → letters_coming_at i coming ≡ queue_to plan world s i
  pub unwanted : ComeUnwanted (wants_by_lists plan s (state_of world s)) coming last

-- Each site of the plan has finished, or it may sleep.
abbrev pub AllSleepWell : SeenPlan → WorldState → Type 0
AllSleepWell plan world = (s : ℕ) → s < site_count plan → (has_finished plan s (state_of world s) ≡ true) ⊎ SleepsWell plan world s
