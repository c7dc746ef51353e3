-- The links of a world that keeps its streams: the letters in them, and the forks and tokens of each edge.
use Rattle.std.proofs.Common.{◌≡◌, ℕ, ◌<◌, ◌≤◌, List, ◌++◌, length, drop, refl, sym, ◌∙◌, ap, arith}
use mathlib.Core.List.{IsPrefix}
use Rattle.std.proofs.Math.Seq.{drop-append_seam}
use Rattle.dine_graph.specs.Plan.{SeenPlan, IsPlan, site_count, edges_of}
use Rattle.dine_rules.specs.declared.letters.Letter.{Letter}
use Rattle.dine_rules.specs.Letters.{forks_in, requests_in, dones_in, closes_in}
use Rattle.dine_rules.specs.Local.{traffic_at, edge_at, neighbour_at}
use Rattle.dine_rules.specs.World.{WorldState, state_of, place_of, put_to}
use Rattle.dine_rules.specs.Links.{queue_to}
use Rattle.dine_rules.proofs.shared.links.Across.{across, place_of-edge_at}
use Rattle.dine_rules.proofs.shared.one_place.Placed.{placed}
use Rattle.dine_rules.proofs.shared.links.WorldStreams.{WorldKeeps, neighbour_differs}
use Rattle.dine_rules.proofs.shared.links.Joined.{Joined, few_forks, few_requests, few_dones, few_closes, few_letters}

-- a list is what a prefix of it is, and the rest
pub prefix_and_rest : (taken put : List Letter) → IsPrefix taken put → put ≡ taken ++ drop (length taken) put
prefix_and_rest taken put h =
    let rest : drop (length taken) put ≡ h.0 = ap (drop (length taken)) (sym h.1) ∙ drop-append_seam taken h.0 in
    sym h.1 ∙ ap (λ (l : List Letter). taken ++ l) (sym rest)

module _ (plan : SeenPlan) (is_plan : IsPlan plan) (world : WorldState) (kept : WorldKeeps plan world) (s i : ℕ) (is_site : s < site_count plan) (within : i < length (edges_of plan s)) where
  -- the site at the other end of the place
  abbrev pub other : ℕ
  other = neighbour_at plan s i

  -- the place of the edge there
  abbrev pub other_place : ℕ
  other_place = place_of plan (neighbour_at plan s i) (edge_at plan s i)

  -- what was put on the link is what was taken, and then the letters in it
  pub link_holds : put_to plan world s i ≡ (traffic_at (state_of world s) i).taken ++ queue_to plan world s i
  link_holds = prefix_and_rest (traffic_at (state_of world s) i).taken (put_to plan world s i) (kept.links s i is_site within)

  -- the other end of the other end's place is this place
  pub puts_back : put_to plan world other other_place ≡ (traffic_at (state_of world s) i).put
  puts_back =
      let over = across plan s i is_plan within in
      let place : place_of plan s (edge_at plan other other_place) ≡ i = ap (place_of plan s) over.same_edge ∙ place_of-edge_at plan s i within in
      ap (λ (x : ℕ). (traffic_at (state_of world x) (place_of plan x (edge_at plan other other_place))).put) over.back
      ∙ ap (λ (x : ℕ). (traffic_at (state_of world s) x).put) place

  -- the two ends of the place's edge, with the letters in both links
  pub joined : Joined plan s i other other_place (state_of world s) (state_of world other) (queue_to plan world s i) (queue_to plan world other other_place)
  joined =
      let over = across plan s i is_plan within in
      let here = kept.keeps s is_site in
      let there = kept.keeps other over.is_site in
      record {
        neighbour = refl;
        differ = λ same. neighbour_differs plan s i (placed plan s i is_plan within) (sym same);
        back = over.back;
        same_edge = over.same_edge;
        other_side = over.other_side;
        here = here;
        there = there;
        within = omega (arith, here.every_place);
        within_there = omega (arith, over.within, there.every_place);
        comes = link_holds;
        goes = sym puts_back ∙ prefix_and_rest (traffic_at (state_of world other) other_place).taken (put_to plan world other other_place) (kept.links other other_place over.is_site over.within);
      }

  -- a link holds at most one letter of each kind: one Fork
  pub link_forks : forks_in (queue_to plan world s i) ≤ 1
  link_forks = few_forks plan s i other other_place (state_of world s) (state_of world other) (queue_to plan world s i) (queue_to plan world other other_place) joined

  -- one Request
  pub link_requests : requests_in (queue_to plan world s i) ≤ 1
  link_requests = few_requests plan s i other other_place (state_of world s) (state_of world other) (queue_to plan world s i) (queue_to plan world other other_place) joined

  -- one Done
  pub link_dones : dones_in (queue_to plan world s i) ≤ 1
  link_dones = few_dones plan s i other other_place (state_of world s) (state_of world other) (queue_to plan world s i) (queue_to plan world other other_place) joined

  -- one Close
  pub link_closes : closes_in (queue_to plan world s i) ≤ 1
  link_closes = few_closes plan s i other other_place (state_of world s) (state_of world other) (queue_to plan world s i) (queue_to plan world other other_place) joined

  -- and so at most four letters
  pub link_letters : length (queue_to plan world s i) ≤ 4
  link_letters = few_letters plan s i other other_place (state_of world s) (state_of world other) (queue_to plan world s i) (queue_to plan world other other_place) joined
