-- Two ends of an edge whose sites keep their streams, by whole lists: if the next letter is not allowed, it is a Close.
use Rattle.std.proofs.Common.{◌≡◌, ℕ, ◌<◌, Bool, true, false, not, ◌||◌, ◌==◌, cond, List, [], ◌∷◌, ◌++◌, append-nil, length, drop, slice_get, Some, None, refl, sym, ◌∙◌, ap, subst, inl, inr, arith}
use mathlib.Core.List.{IsPrefix}
use Rattle.std.proofs.lemmas.Bool.{false≢true, true≢false, cond-false, not-true}
use Rattle.std.proofs.lemmas.Option.{same_Some}
use Rattle.dine_graph.specs.Plan.{SeenPlan, IsPlan, site_count, edge_count, edges_of, lo_of, hi_of, other_of}
use Rattle.dine_rules.specs.declared.breach.Breach.{Breach}
use Rattle.dine_rules.specs.declared.breach.Breach.TheVariants.{AfterClose, ClosedEarly}
use Rattle.dine_rules.specs.declared.letters.Letter.{Letter}
use Rattle.dine_rules.specs.declared.letters.Letter.TheVariants.{Close}
use Rattle.dine_rules.specs.Breach.{is_allowed, first_breach, breach_before_close}
use Rattle.dine_rules.specs.JoinedEnds.{AreEndsOfEdge, AreLinked, AreWhollyTaken, next_between, traffic_across}
use Rattle.dine_rules.specs.Letters.{has_done, has_close}
use Rattle.dine_rules.specs.Local.{LocalState, traffic_at, edge_at, neighbour_at}
use Rattle.dine_rules.specs.Streams.{KeepsStreams, is_lower_at, is_close_last}
use Rattle.dine_rules.specs.World.{WorldState, IsComplete, state_of, place_of}
use Rattle.dine_rules.proofs.shared.links.Across.{IsAcross, across}
use Rattle.dine_rules.proofs.shared.one_site.BreachLaw.{no_breach}
use Rattle.dine_rules.proofs.links.Coming.{allowed_or_close, still_open}
use Rattle.dine_rules.proofs.shared.links.Joined.{Joined}
use Rattle.dine_rules.proofs.shared.links.Links.{prefix_and_rest, other, other_place, puts_back}
use Rattle.dine_rules.proofs.shared.one_place.Placed.{placed}
use Rattle.dine_rules.proofs.shared.precedence.Preference.{IsEdge, is_edge}
use Rattle.dine_rules.proofs.shared.lists.Turns.{open_before}
use Rattle.dine_rules.proofs.shared.links.WorldStreams.{WorldKeeps, neighbour_differs, next_of}

-- ---- the places of an edge

-- each place of a site is an end of its edge, and the other end is at the place where the neighbour finds the edge
pub ends_at : (plan : SeenPlan) (s i : ℕ) → IsPlan plan → i < length (edges_of plan s) → AreEndsOfEdge plan s i (neighbour_at plan s i) (place_of plan (neighbour_at plan s i) (edge_at plan s i))
ends_at plan s i is_plan within =
    let over = across plan s i is_plan within in
    record { within = within; within_there = over.within; same_edge = over.same_edge; across = refl; back = over.back }

module _ (plan : SeenPlan) (edge : ℕ) (is_plan : IsPlan plan) (within : edge < edge_count plan) where
  -- what the plan says of the edge
  edge_is : IsEdge plan edge
  edge_is = is_edge plan edge is_plan within

  -- each edge has a place at its lower end, and one at its higher
  pub ends_of_edge : AreEndsOfEdge plan (lo_of plan edge) (place_of plan (lo_of plan edge) edge) (hi_of plan edge) (place_of plan (hi_of plan edge) edge)
  ends_of_edge = record {
    within = edge_is.low_within;
    within_there = edge_is.high_within;
    same_edge = edge_is.high_edge ∙ sym edge_is.low_edge;
    across = ap (λ (e : ℕ). other_of plan e (lo_of plan edge)) edge_is.low_edge ∙ edge_is.from_low;
    back = ap (λ (e : ℕ). other_of plan e (hi_of plan edge)) edge_is.high_edge ∙ edge_is.from_high;
  }

  -- and it is the edge at that place
  pub edge_of_low : edge_at plan (lo_of plan edge) (place_of plan (lo_of plan edge) edge) ≡ edge
  edge_of_low = edge_is.low_edge

-- ---- what comes next

module _ (plan : SeenPlan) (is_plan : IsPlan plan) (s i j : ℕ) (near far : LocalState) (ends : AreEndsOfEdge plan s i (neighbour_at plan s i) j) (here : KeepsStreams plan s near)
    (there : KeepsStreams plan (neighbour_at plan s i) far) (linked : AreLinked (traffic_at near i) (traffic_at far j)) where
  -- the letters that come and go
  abbrev coming : List Letter
  coming = drop (length (traffic_at near i).taken) (traffic_at far j).put

  abbrev going : List Letter
  going = drop (length (traffic_at far j).taken) (traffic_at near i).put

  -- one of the two ends is the lower
  sides : is_lower_at plan (neighbour_at plan s i) j ≡ not (is_lower_at plan s i)
  sides =
      let over = across plan s i is_plan ends.within in
      ap (λ (e : ℕ). lo_of plan e == neighbour_at plan s i) (ends.same_edge ∙ sym over.same_edge) ∙ over.other_side

  joined_by : Joined plan s i (neighbour_at plan s i) j near far coming going
  joined_by = record {
    neighbour = refl;
    differ = λ same. neighbour_differs plan s i (placed plan s i is_plan ends.within) (sym same);
    back = ends.back;
    same_edge = ends.same_edge;
    other_side = sides;
    here = here;
    there = there;
    within = omega (arith, ends.within, here.every_place);
    within_there = omega (arith, ends.within_there, there.every_place);
    comes = prefix_and_rest (traffic_at near i).taken (traffic_at far j).put linked.comes;
    goes = prefix_and_rest (traffic_at far j).taken (traffic_at near i).put linked.goes;
  }

  module _ (l : Letter) (next : next_between (traffic_at near i) (traffic_at far j) ≡ Some l) where
    -- the next letter is the first of those that come
    next_is : (rest : List Letter) × (coming ≡ l ∷ rest)
    next_is = next_of (traffic_at near i).taken coming l (ap (λ (letters : List Letter). slice_get letters (length (traffic_at near i).taken)) (sym joined_by.comes) ∙ next)

    ends_next : Joined plan s i (neighbour_at plan s i) j near far (l ∷ next_is.0) going
    ends_next = subst (λ (letters : List Letter). Joined plan s i (neighbour_at plan s i) j near far letters going) next_is.1 joined_by

    -- it is Close where it is not allowed
    refused_is_close : is_allowed plan s near i l ≡ false → l ≡ Close
    refused_is_close refused = elim (allowed_or_close plan s i j near far going l next_is.0 ends_next) [
      | inl allowed ↦ absurd (false≢true (sym refused ∙ allowed))
      | inr is ↦ is
    ]

    -- and then it came early, since nothing comes after Close
    breach_is_early : (breach : Breach) → first_breach plan s near i l ≡ Some breach → breach ≡ ClosedEarly
    breach_is_early breach told = elim (allowed_or_close plan s i j near far going l next_is.0 ends_next) [
      | inl allowed ↦ absurd (let none = no_breach plan s near i l allowed in cc)
      | inr is ↦
          let closed : has_close (traffic_at near i).taken ≡ false = not-true (has_close (traffic_at near i).taken) (still_open plan s i j near far going l next_is.0 ends_next) in
          early (not (has_done (traffic_at near i).taken) || not (has_done (traffic_at near i).put)) breach
          (sym (cond-false (has_close (traffic_at near i).taken) (Some AfterClose) (breach_before_close plan s near i Close) closed) ∙ ap (first_breach plan s near i) (sym is) ∙ told)
    ] where
      early : (before : Bool) (breach : Breach) → cond before (Some ClosedEarly) None ≡ Some breach → breach ≡ ClosedEarly
      early true breach h = sym (same_Some ClosedEarly breach h)
      early false breach h = absurd cc

-- the same with the name of the other end
pub refused_at : (plan : SeenPlan) → IsPlan plan → (s i o j : ℕ) (near far : LocalState) (l : Letter) → AreEndsOfEdge plan s i o j → KeepsStreams plan s near → KeepsStreams plan o far
    → AreLinked (traffic_at near i) (traffic_at far j) → next_between (traffic_at near i) (traffic_at far j) ≡ Some l → is_allowed plan s near i l ≡ false → l ≡ Close
refused_at plan is_plan s i o j near far l ends =
    subst (λ (o : ℕ). AreEndsOfEdge plan s i o j → KeepsStreams plan s near → KeepsStreams plan o far → AreLinked (traffic_at near i) (traffic_at far j)
    → next_between (traffic_at near i) (traffic_at far j) ≡ Some l → is_allowed plan s near i l ≡ false → l ≡ Close) ends.across
    (λ ends here there linked next. refused_is_close plan is_plan s i j near far ends here there linked l next) ends

pub breach_at : (plan : SeenPlan) → IsPlan plan → (s i o j : ℕ) (near far : LocalState) (l : Letter) (breach : Breach) → AreEndsOfEdge plan s i o j → KeepsStreams plan s near → KeepsStreams plan o far
    → AreLinked (traffic_at near i) (traffic_at far j) → next_between (traffic_at near i) (traffic_at far j) ≡ Some l → first_breach plan s near i l ≡ Some breach → breach ≡ ClosedEarly
breach_at plan is_plan s i o j near far l breach ends =
    subst (λ (o : ℕ). AreEndsOfEdge plan s i o j → KeepsStreams plan s near → KeepsStreams plan o far → AreLinked (traffic_at near i) (traffic_at far j)
    → next_between (traffic_at near i) (traffic_at far j) ≡ Some l → first_breach plan s near i l ≡ Some breach → breach ≡ ClosedEarly) ends.across
    (λ ends here there linked next. breach_is_early plan is_plan s i j near far ends here there linked l next breach) ends

-- ---- worlds, and closed links

module _ (plan : SeenPlan) (is_plan : IsPlan plan) (world : WorldState) (kept : WorldKeeps plan world) (s i : ℕ) (is_site : s < site_count plan) (within : i < length (edges_of plan s)) where
  -- the same edge is at a place of the other end
  over : IsAcross plan s i (neighbour_at plan s i) (place_of plan (neighbour_at plan s i) (edge_at plan s i))
  over = across plan s i is_plan within

  -- the ends of a world's link took prefixes
  pub world_linked : AreLinked (traffic_at (state_of world s) i) (traffic_across plan world s i)
  world_linked = record {
    comes = kept.links s i is_site within;
    goes = subst (IsPrefix (traffic_across plan world s i).taken) (puts_back plan is_plan world kept s i is_site within)
        (kept.links (other plan is_plan world kept s i is_site within) (other_place plan is_plan world kept s i is_site within) over.is_site over.within);
  }

  -- and in a complete world they took all
  pub world_taken : IsComplete plan world → AreWhollyTaken (traffic_at (state_of world s) i) (traffic_across plan world s i)
  world_taken complete = record {
    comes = complete.all_taken s i is_site within;
    goes = complete.all_taken (other plan is_plan world kept s i is_site within) (other_place plan is_plan world kept s i is_site within) over.is_site over.within ∙ puts_back plan is_plan world kept s i is_site within;
  }

-- nothing stands behind Close, so all was taken where Close was
pub all_taken_with_close : (taken put : List Letter) → is_close_last put ≡ true → IsPrefix taken put → has_close taken ≡ true → taken ≡ put
all_taken_with_close taken put last (rest, is) closed = elim rest as (λ rest. taken ++ rest ≡ put → taken ≡ put) [
  | [] ↦ λ is. sym (append-nil taken) ∙ is
  | l ∷ more ↦ λ is. absurd (true≢false (sym closed ∙ open_before taken more l (ap is_close_last is ∙ last)))
] is
