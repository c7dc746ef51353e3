-- Sites that rest: each sleeps, or thinks on although it has jobs left.
use Rattle.std.specs.Prelude.{◌≡◌, ◌⊎◌, ℕ, ◌<◌, true, List, length, None, Some}
use Rattle.dine_graph.specs.Plan.{SeenPlan, site_count, edges_of}
use Rattle.dine_rules.specs.declared.events.EventKind.TheVariants as event
use Rattle.dine_rules.specs.Links.{queue_to}
use Rattle.dine_rules.specs.Wants.{SeenWants}
use Rattle.dine_rules.specs.World.{WorldState, state_of}
use Rattle.dine_site.specs.CoreWants.{wants_by_lists}
use Rattle.dine_site.specs.NextEvent.{next_event}
use Rattle.dine_site.specs.Standing.{has_finished}
use Rattle.dine_waking.specs.Sleeping.{ArePlacesBelow, ComeUnwanted, Coming, letters_coming_at}

-- The site may rest. It can do nothing without a letter, or the first that it can do is to grow hungry: it thinks, and
-- nobody calls it to a job. The letters on their way to it have an order, which at each place is that of the link, in
-- which they come unwanted.
pub record RestsWell (plan : SeenPlan) (world : WorldState) (s : ℕ) : Type 0 where
  pub idle : (next_event plan s (state_of world s) ≡ None) ⊎ (next_event plan s (state_of world s) ≡ Some event.Hungry)
  pub coming : List Coming
  pub last : SeenWants
  pub places : ArePlacesBelow (length (edges_of plan s)) coming
  pub in_links : (i : ℕ) → i < length (edges_of plan s) → letters_coming_at i coming ≡ queue_to plan world s i
  pub unwanted : ComeUnwanted (wants_by_lists plan s (state_of world s)) coming last

-- Each site of the plan has finished, or it may rest.
abbrev pub AllRestWell : SeenPlan → WorldState → Type 0
AllRestWell plan world = (s : ℕ) → s < site_count plan → (has_finished plan s (state_of world s) ≡ true) ⊎ RestsWell plan world s
