-- What a hungry site waits for.
use Rattle.std.specs.Prelude.{◌≡◌, ◌⊎◌, ℕ, ◌==◌, ◌&&◌, not, Bool, false, true, List, [], ◌∷◌, ◌++◌, filter, length, if◌then◌else◌}
use Rattle.std.specs.List.{range_with_len}
use Rattle.dine_token.specs.Log.{is_dirty}
use Rattle.dine_graph.specs.Plan.{SeenPlan}
use Rattle.dine_rules.specs.Holdings.{fork_at, hand_at, token_at}
use Rattle.dine_rules.specs.Letters.{forks_in, requests_in}
use Rattle.dine_rules.specs.Links.{queue_to}
use Rattle.dine_rules.specs.Local.{LocalState, edge_at, is_eating, is_hungry, neighbour_at}
use Rattle.dine_rules.specs.Steps.{is_ready}
use Rattle.dine_rules.specs.World.{WorldState, place_of, state_of}
use Rattle.dine_states.specs.declared.ends.End.{End}
use Rattle.dine_states.specs.declared.waits.Cause.{Cause}
use Rattle.dine_states.specs.declared.waits.Cause.TheVariants as cause
use Rattle.dine_states.specs.declared.waits.Wait.{Wait}

-- the places that keep a hungry site from eating: those where the fork is not there, or is dirty and was asked for
abbrev pub places_waited : SeenPlan → ℕ → LocalState → List ℕ
places_waited plan s state = if is_hungry state.phase then filter (λ i. not (is_ready plan s state i)) (range_with_len 0 (length state.traffic)) else []

-- the place of the edge at the other end
abbrev pub place_across : SeenPlan → ℕ → ℕ → ℕ
place_across plan s i = place_of plan (neighbour_at plan s i) (edge_at plan s i)

module _ (plan : SeenPlan) (world : WorldState) (s i o j : ℕ) where
  -- What each cause says of place i of site s, whose neighbour there is site o, at its place j.
  abbrev pub keeps_by : Cause → Bool
  -- the site has the token and not the fork, so it has not asked yet
  keeps_by cause.NotAsked = token_at plan s (state_of world s) i == 1 && fork_at plan s (state_of world s) i == 0
  -- its request is on its way
  keeps_by cause.RequestSent = requests_in (queue_to plan world o j) == 1
  -- the neighbour was asked, holds the fork dirty, and does not eat: it may give it
  keeps_by cause.MayGive = token_at plan o (state_of world o) j == 1 && fork_at plan o (state_of world o) j == 1
      && is_dirty (hand_at o (state_of world o) j) && not (is_eating (state_of world o).phase)
  -- the neighbour was asked, and eats
  keeps_by cause.Eats = token_at plan o (state_of world o) j == 1 && is_eating (state_of world o).phase
  -- the neighbour was asked, and holds the fork clean
  keeps_by cause.KeepsClean = token_at plan o (state_of world o) j == 1 && fork_at plan o (state_of world o) j == 1
      && not (is_dirty (hand_at o (state_of world o) j))
  -- the fork is on its way to the site
  keeps_by cause.ForkSent = forks_in (queue_to plan world s i) == 1
  -- the site holds the fork dirty, and was asked for it: it gives it first
  keeps_by cause.Owes = fork_at plan s (state_of world s) i == 1 && token_at plan s (state_of world s) i == 1 && is_dirty (hand_at s (state_of world s) i)

-- The site waits at the place for the neighbour there, and the cause is so.
pub record IsWait (plan : SeenPlan) (world : WorldState) (s : ℕ) (wait : Wait) : Type 0 where
  pub edge : wait.edge ≡ edge_at plan s wait.place
  pub from : wait.from ≡ neighbour_at plan s wait.place
  pub why : keeps_by plan world s wait.place (neighbour_at plan s wait.place) (place_across plan s wait.place) wait.why ≡ true

-- The waits grow by the one at this end, unless the end is ready.
abbrev pub AddsWait : SeenPlan → WorldState → End → List Wait → List Wait → Type 0
AddsWait plan world end old new = ((is_ready plan end.site (state_of world end.site) end.place ≡ true) × (new ≡ old))
    ⊎ ((is_ready plan end.site (state_of world end.site) end.place ≡ false)
    × ((wait : Wait) × (new ≡ old ++ wait ∷ []) × (wait.place ≡ end.place) × IsWait plan world end.site wait))
