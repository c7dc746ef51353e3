-- In a world that events reach from the start, no letter that is next in a link meets a breach.
use Rattle.std.proofs.Common.{◌≡◌, ℕ, ◌<◌, true, List, ◌∷◌, length, slice_get, Some, None, sym, ◌∙◌, ap, subst}
use Rattle.dine_graph.specs.Plan.{SeenPlan, IsPlan, site_count, edges_of}
use Rattle.dine_rules.specs.declared.events.Event.{Event}
use Rattle.dine_rules.specs.declared.letters.Letter.{Letter}
use Rattle.dine_rules.specs.Local.{traffic_at}
use Rattle.dine_rules.specs.Breach.{first_breach, is_allowed}
use Rattle.dine_rules.specs.Links.{queue_to}
use Rattle.dine_rules.specs.World.{WorldState, state_of, next_letter, Reaches}
use Rattle.dine_rules.proofs.shared.links.Across.{across}
use Rattle.dine_rules.proofs.shared.one_site.BreachLaw.{no_breach}
use Rattle.dine_rules.proofs.links.Coming.{next_is_allowed}
use Rattle.dine_rules.proofs.links.EachSite.{reached_holds}
use Rattle.dine_rules.proofs.shared.one_site.InOrder.{IsOrderly, start_in_order, step_in_order}
use Rattle.dine_rules.proofs.shared.links.Joined.{Joined}
use Rattle.dine_rules.proofs.shared.links.Links.{other, other_place, joined, link_holds}
use Rattle.dine_rules.proofs.shared.links.WorldStreams.{WorldKeeps, reached_kept, next_of}

-- the letters of each site are in order
pub in_order : (plan : SeenPlan) (events : List Event) (world : WorldState) → IsPlan plan → Reaches plan events world → (s : ℕ) → s < site_count plan → IsOrderly (state_of world s)
in_order plan events world is_plan reached = reached_holds plan is_plan (λ s. IsOrderly) (λ s is_site. start_in_order plan s)
    (λ s state step is_site keeps order steps_on needs. step_in_order plan s state order step steps_on needs) events world reached

module _ (plan : SeenPlan) (is_plan : IsPlan plan) (world : WorldState) (kept : WorldKeeps plan world) (order : (s : ℕ) → s < site_count plan → IsOrderly (state_of world s)) (s i : ℕ) (is_site : s < site_count plan) (within : i < length (edges_of plan s)) where
  -- the next letter is the first in the link
  next_is_first : (l : Letter) → next_letter plan world s i ≡ Some l → (rest : List Letter) × (queue_to plan world s i ≡ l ∷ rest)
  next_is_first l next = next_of (traffic_at (state_of world s) i).taken (queue_to plan world s i) l
      (ap (λ (letters : List Letter). slice_get letters (length (traffic_at (state_of world s) i).taken)) (sym (link_holds plan is_plan world kept s i is_site within)) ∙ next)

  -- the site may take it
  pub next_allowed : (l : Letter) → next_letter plan world s i ≡ Some l → is_allowed plan s (state_of world s) i l ≡ true
  next_allowed l next =
      let first = next_is_first l next in
      let there : ℕ = other plan is_plan world kept s i is_site within in
      let place : ℕ = other_place plan is_plan world kept s i is_site within in
      next_is_allowed plan s i place (state_of world s) (state_of world there) (queue_to plan world there place) l first.0
      (subst (λ (coming : List Letter). Joined plan s i there place (state_of world s) (state_of world there) coming (queue_to plan world there place)) first.1 (joined plan is_plan world kept s i is_site within))
      (order there (across plan s i is_plan within).is_site place)

module _ (plan : SeenPlan) (events : List Event) (world : WorldState) (s i : ℕ) (is_plan : IsPlan plan) (reached : Reaches plan events world) (is_site : s < site_count plan) (within : i < length (edges_of plan s)) (l : Letter) (next : next_letter plan world s i ≡ Some l) where
  -- the same of a world that events reach
  pub reached_allowed : is_allowed plan s (state_of world s) i l ≡ true
  reached_allowed = next_allowed plan is_plan world (reached_kept plan events world is_plan reached) (in_order plan events world is_plan reached) s i is_site within l next

  -- and so it is no breach
  pub reached_no_breach : first_breach plan s (state_of world s) i l ≡ None
  reached_no_breach = no_breach plan s (state_of world s) i l reached_allowed
