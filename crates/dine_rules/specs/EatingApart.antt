-- Which sites eat at a point of a list of events, by the events before that point.
use Rattle.std.specs.Prelude.{◌≡◌, ℕ, ◌<◌, Bool, true, false, List, [], ◌∷◌, ◌++◌, length}
use Rattle.dine_graph.specs.Plan.{SeenPlan, edges_of, site_count}
use Rattle.dine_rules.specs.declared.events.Event.{Event}
use Rattle.dine_rules.specs.declared.events.EventKind.{EventKind}
use Rattle.dine_rules.specs.declared.events.EventKind.TheVariants as event
use Rattle.dine_rules.specs.Journals.{part_of}
use Rattle.dine_rules.specs.Local.{neighbour_at}

-- whether a site eats after these events of its own, if `eats` says whether it did before them: it eats from a Begin to
-- the next End
abbrev pub eats_after : Bool → List EventKind → Bool
eats_after eats [] = eats
eats_after eats (event.Begin ∷ kinds) = eats_after true kinds
eats_after eats (event.End ∷ kinds) = eats_after false kinds
eats_after eats (kind ∷ kinds) = eats_after eats kinds

-- after these events of all sites the site is in a meal: it began one and has not ended it
abbrev pub is_in_meal : ℕ → List Event → Bool
is_in_meal s events = eats_after false (part_of s events)

-- At no point of the list are two neighbours in a meal.
abbrev pub NeighboursEatApart : SeenPlan → List Event → Type 0
NeighboursEatApart plan events = (before rest : List Event) (s i : ℕ) → events ≡ before ++ rest → s < site_count plan → i < length (edges_of plan s)
    → is_in_meal s before ≡ true → is_in_meal (neighbour_at plan s i) before ≡ false
