-- When a run has ended, each fork that was asked for was given, and each site that asked has eaten.
use Rattle.std.proofs.Common.{◌≡◌, ◌⊎◌, ℕ, ◌+◌, ◌<◌, ◌≤◌, true, length, ◌∙◌, ap, inl, inr, arith}
use Rattle.std.proofs.lemmas.Bool.{false≢true}
use Rattle.dine_graph.specs.Plan.{SeenPlan, IsPlan, site_count, edges_of}
use Rattle.dine_rules.specs.declared.phase.Phase.{Phase}
use Rattle.dine_rules.specs.declared.phase.Phase.TheVariants as phase
use Rattle.dine_rules.specs.Letters.{forks_in, requests_in}
use Rattle.dine_rules.specs.Links.{queue_to}
use Rattle.dine_rules.specs.Local.{edge_at, is_hungry, is_thinking, neighbour_at, traffic_at}
use Rattle.dine_rules.specs.World.{place_of, state_of}
use Rattle.dine_rules.proofs.shared.counting.Persistence.{IsLonger}
use Rattle.dine_rules.proofs.shared.lists.Counting.{requests_in-append}
use Rattle.dine_rules.proofs.shared.links.Across.{across}
use Rattle.dine_rules.proofs.shared.links.Joined.{Joined, forks_going, requests_coming}
use Rattle.dine_rules.proofs.shared.links.Links.{joined}
use Rattle.dine_rules.proofs.shared.links.WorldStreams.{WorldKeeps, reached_kept}
use Rattle.dine_waking.specs.Manners.{IsAsked, forks_given, meals_so_far}
use Rattle.dine_waking.specs.Runs.{RunHasEnded, LeadsBySteps, Run}
use Rattle.dine_waking.proofs.Bells.{RunKeeps}
use Rattle.dine_waking.proofs.AskedPlaces.{asker_waits}
use Rattle.dine_waking.proofs.SiteMoves.{steps_eat, steps_hunger, steps_put}

-- a site that thinks is not hungry
not_hungry : (p : Phase) → is_thinking p ≡ true → is_hungry p ≡ true → ⊥
not_hungry phase.Thinking thinks hungers = false≢true hungers
not_hungry phase.Hungry thinks hungers = false≢true thinks
not_hungry phase.Eating thinks hungers = false≢true thinks

-- at most as many, or more
fewer_or_not : (a b : ℕ) → (a < b) ⊎ (b ≤ a)
fewer_or_not a b = grind arith

pub asked_is_given : (plan : SeenPlan) (is_plan : IsPlan plan) (run end : Run) (m s i : ℕ) → RunKeeps plan run → RunKeeps plan end → s < site_count plan → i < length (edges_of plan s)
    → IsAsked plan run s i → LeadsBySteps plan m run end → RunHasEnded plan end → forks_given run s i < forks_given end s i
asked_is_given plan is_plan run end m s i keeps keeps_end is_site within asked leads ended =
    let there : ℕ = neighbour_at plan s i in
    let place : ℕ = place_of plan (neighbour_at plan s i) (edge_at plan s i) in
    let kept : WorldKeeps plan run.world = reached_kept plan keeps.events run.world is_plan keeps.reached in
    let kept_end : WorldKeeps plan end.world = reached_kept plan keeps_end.events end.world is_plan keeps_end.reached in
    let over = across plan s i is_plan within in
    let before : Joined plan s i there place (state_of run.world s) (state_of run.world there) (queue_to plan run.world s i) (queue_to plan run.world there place) = joined plan is_plan run.world kept s i is_site within in
    let after : Joined plan s i there place (state_of end.world s) (state_of end.world there) (queue_to plan end.world s i) (queue_to plan end.world there place) = joined plan is_plan end.world kept_end s i is_site within in
    let longer : IsLonger (traffic_at (state_of run.world there) place).put (traffic_at (state_of end.world there) place).put = steps_put plan m run end leads there place in
    let requests : requests_in (traffic_at (state_of end.world there) place).put ≡ requests_in (traffic_at (state_of run.world there) place).put + requests_in longer.more =
    ap requests_in longer.is ∙ requests_in-append (traffic_at (state_of run.world there) place).put longer.more in
    let coming : requests_in (traffic_at (state_of run.world there) place).put ≡ requests_in (traffic_at (state_of run.world s) i).taken + requests_in (queue_to plan run.world s i) =
    requests_coming plan s i there place (state_of run.world s) (state_of run.world there) (queue_to plan run.world s i) (queue_to plan run.world there place) before in
    let going : forks_in (traffic_at (state_of end.world s) i).put ≡ forks_in (traffic_at (state_of end.world there) place).taken + forks_in (queue_to plan end.world there place) =
    forks_going plan s i there place (state_of end.world s) (state_of end.world there) (queue_to plan end.world s i) (queue_to plan end.world there place) after in
    elim (fewer_or_not (forks_in (traffic_at (state_of end.world there) place).taken) (requests_in (traffic_at (state_of end.world there) place).put)) [
      | inl waits ↦
          let none = asker_waits plan there place (state_of end.world there) (after.there.places place after.within_there) waits in
          absurd (not_hungry (state_of end.world there).phase (ended.complete.all_think there over.is_site) ((after.there.places place after.within_there).waiter_is_hungry none.0 none.1))
      | inr all ↦ omega (arith, (before.here.places i before.within).given_when_asked)
    ]

pub asker_eats : (plan : SeenPlan) (is_plan : IsPlan plan) (run end : Run) (m s i : ℕ) → RunKeeps plan run → s < site_count plan → i < length (edges_of plan s)
    → IsAsked plan run s i → LeadsBySteps plan m run end → RunHasEnded plan end → meals_so_far run (neighbour_at plan s i) < meals_so_far end (neighbour_at plan s i)
asker_eats plan is_plan run end m s i keeps is_site within asked leads ended =
    let there : ℕ = neighbour_at plan s i in
    let place : ℕ = place_of plan (neighbour_at plan s i) (edge_at plan s i) in
    let kept : WorldKeeps plan run.world = reached_kept plan keeps.events run.world is_plan keeps.reached in
    let both : Joined plan s i there place (state_of run.world s) (state_of run.world there) (queue_to plan run.world s i) (queue_to plan run.world there place) = joined plan is_plan run.world kept s i is_site within in
    let none = asker_waits plan there place (state_of run.world there) (both.there.places place both.within_there) (omega (
      arith,
      asked,
      (both.here.places i both.within).given_when_asked,
      requests_coming plan s i there place (state_of run.world s) (state_of run.world there) (queue_to plan run.world s i) (queue_to plan run.world there place) both,
      forks_going plan s i there place (state_of run.world s) (state_of run.world there) (queue_to plan run.world s i) (queue_to plan run.world there place) both,
    )) in
    let hungry : is_hungry (state_of run.world there).phase ≡ true = (both.there.places place both.within_there).waiter_is_hungry none.0 none.1 in
    elim (fewer_or_not (meals_so_far run there) (meals_so_far end there)) [
      | inl more ↦ more
      | inr no_more ↦ absurd (not_hungry (state_of end.world there).phase (ended.complete.all_think there (across plan s i is_plan within).is_site)
          (steps_hunger plan m run end leads there hungry (omega (arith, steps_eat plan m run end leads there))))
    ]
