-- A site that has just rung for a Request has asked, and has rung.
use Rattle.std.proofs.Common.{◌≡◌, ℕ, ◌<◌, ◌≤◌, Bool, true, false, [], ◌∷◌, length, refl, ◌∙◌, ap, subst, arith}
use Rattle.dine_graph.specs.Plan.{SeenPlan, IsPlan, site_count, edges_of}
use Rattle.dine_rules.specs.declared.letters.LetterKind.TheVariants as kind
use Rattle.dine_rules.specs.declared.letters.Letter.{Letter}
use Rattle.dine_rules.specs.declared.letters.Letter.TheVariants as letter
use Rattle.dine_rules.specs.Letters.{kind_of, requests_in}
use Rattle.dine_rules.specs.Links.{queue_to}
use Rattle.dine_rules.specs.Local.{neighbour_at}
use Rattle.dine_rules.specs.World.{state_of}
use Rattle.dine_rules.proofs.shared.lists.Counting.{requests_in-append}
use Rattle.dine_rules.proofs.shared.links.Across.{across}
use Rattle.dine_rules.proofs.shared.links.Links.{link_requests}
use Rattle.dine_rules.proofs.shared.links.WorldStreams.{WorldKeeps, reached_kept}
use Rattle.dine_waking.specs.Manners.{HasRungForAll, IsAsked, WaitsForFork}
use Rattle.dine_waking.specs.Runs.{Doing, RingsBell, Run, after_ringing, has_yet_to_ring, number_there}
use Rattle.dine_waking.proofs.Bells.{Fits, RunKeeps}
use Rattle.dine_waking.proofs.Ringing.{rang, rang_for_last}
use Rattle.dine_waking.proofs.Waiters.{asker_waits}
use Rattle.dine_waking.proofs.Waking.{keeps_rung}

-- a letter of this kind is a Request
is_request : (l : Letter) → kind_of l ≡ kind.Request → requests_in (l ∷ []) ≡ 1
is_request (letter.Fork fork) is = absurd cc
is_request (letter.Request edge) is = refl
is_request letter.Done is = absurd cc
is_request letter.Close is = absurd cc

-- a thread that rang has no letter left to ring for
none_left : (wakes : Bool) (i place : ℕ) → has_yet_to_ring (after_ringing wakes i) place ≡ 0
none_left true i place = refl
none_left false i place = refl

pub rang_for_request : (plan : SeenPlan) (is_plan : IsPlan plan) (old new : Run) (t : ℕ) → RunKeeps plan old → t < site_count plan → (r : RingsBell plan t old new) → r.kind ≡ kind.Request
    → IsAsked plan new (neighbour_at plan t r.i) (number_there plan t r.i) × HasRungForAll plan new (neighbour_at plan t r.i) (number_there plan t r.i)
rang_for_request plan is_plan old new t keeps is_site r is =
    let there : ℕ = neighbour_at plan t r.i in
    let number : ℕ = number_there plan t r.i in
    let within : r.i < length (edges_of plan t) = subst (λ (d : Doing). Fits plan old.is_open t (state_of old.world t) (keeps.sites t is_site).rung_for d) r.rings (keeps.sites t is_site).fits in
    let over = across plan t r.i is_plan within in
    let keeps_new : RunKeeps plan new = keeps_rung plan is_plan old new keeps t is_site r in
    let kept : WorldKeeps plan new.world = reached_kept plan keeps_new.events new.world is_plan keeps_new.reached in
    let last = rang_for_last plan is_plan old new keeps t is_site r in
    let few : requests_in (queue_to plan new.world there number) ≤ 1 = link_requests plan is_plan new.world kept there number over.is_site over.within in (
      omega (arith, ap requests_in last.2, requests_in-append last.0 (last.1 ∷ []), is_request last.1 (last.3 ∙ is), few),
      ap (λ (doing : Doing). has_yet_to_ring doing (number_there plan there number)) (rang plan is_plan old new keeps t is_site r) ∙ none_left _ r.i (number_there plan there number),
    )

pub rang_waits : (plan : SeenPlan) (is_plan : IsPlan plan) (old new : Run) (t : ℕ) → RunKeeps plan old → t < site_count plan → (r : RingsBell plan t old new) → r.kind ≡ kind.Request → WaitsForFork plan new t r.i
rang_waits plan is_plan old new t keeps is_site r is =
    let within : r.i < length (edges_of plan t) = subst (λ (d : Doing). Fits plan old.is_open t (state_of old.world t) (keeps.sites t is_site).rung_for d) r.rings (keeps.sites t is_site).fits in
    let asks = rang_for_request plan is_plan old new t keeps is_site r is in
    asker_waits plan is_plan t r.i within new (keeps_rung plan is_plan old new keeps t is_site r) asks.0 asks.1
