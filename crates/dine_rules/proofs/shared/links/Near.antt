-- The Forks in a link, counted, and the log of a fork at an end or on the way to it.
use Rattle.std.proofs.Common.{◌≡◌, ℕ, ◌+◌, ◌<◌, Bool, List, length, Option, Some, None, ap, ◌∙◌, if◌then◌else◌}
use Rattle.dine_token.specs.declared.log_entry.Entry.{Entry}
use Rattle.dine_graph.specs.Plan.{SeenPlan, IsPlan, site_count, edges_of}
use Rattle.dine_rules.specs.declared.letters.Letter.{Letter}
use Rattle.dine_rules.specs.Letters.{forks_in}
use Rattle.dine_rules.specs.Local.{traffic_at}
use Rattle.dine_rules.specs.World.{WorldState, state_of, put_to}
use Rattle.dine_rules.specs.Links.{queue_to}
use Rattle.dine_rules.proofs.shared.lists.Counting.{forks_in-append}
use Rattle.dine_rules.proofs.shared.links.Links.{link_holds}
use Rattle.dine_rules.proofs.shared.links.WorldStreams.{WorldKeeps}

module _ (plan : SeenPlan) (is_plan : IsPlan plan) (world : WorldState) (kept : WorldKeeps plan world) (s i : ℕ) (is_site : s < site_count plan) (within : i < length (edges_of plan s)) where
  abbrev taken : List Letter
  taken = (traffic_at (state_of world s) i).taken

  abbrev coming : List Letter
  coming = queue_to plan world s i

  pub put_count : forks_in (put_to plan world s i) ≡ forks_in taken + forks_in coming
  put_count = ap forks_in (link_holds plan is_plan world kept s i is_site within) ∙ forks_in-append taken coming

-- a log that may be near an end: in hand, or in the link
abbrev pub near_log : Bool → Bool → List Entry → List Entry → Option (List Entry)
near_log held sent hand last = if held then Some hand else (if sent then Some last else None)
