-- Two sites that keep their streams, in two processes: what each took by bytes is what the other put, and the next
-- letter goes on from the fork that is kept.
use Rattle.std.proofs.Common.{◌≡◌, ◌⊎◌, ℕ, ◌<◌, length, Some, refl, sym, ◌∙◌, ap, subst, inl, inr, arith}
use Rattle.dine_graph.specs.Plan.{SeenPlan, IsPlan, edge_count, edges_of, hi_of, lo_of}
use Rattle.dine_rules.specs.declared.letters.Letter.{Letter}
use Rattle.dine_rules.specs.JoinedEnds.{AccountsForFork, AreEndsOfEdge, AreLinked, next_between, traffic_across}
use Rattle.dine_rules.specs.Local.{LocalState, Traffic, edge_at, neighbour_at, traffic_at}
use Rattle.dine_rules.specs.Streams.{AreRequestsOf, KeepsStreams, KeepsStreamsAt}
use Rattle.dine_rules.specs.World.{LinksAreOrdered, WorldState, place_of, state_of}
use Rattle.dine_rules.proofs.shared.one_place.Placed.{placed}
use Rattle.dine_rules.proofs.shared.two_ends.JoinedEnds.{accounts_for_fork}
use Rattle.dine_rules.proofs.shared.two_ends.TwoEnds.{ends_at}
use Rattle.dine_rules.proofs.shared.links.Across.{across, place_of-edge_at}
use Rattle.dine_wire.specs.Carried.{AreAllJoinedByBytes, IsOfKept, TakesByBytes, fork_for_next}
use Rattle.dine_wire.proofs.CarriedLinks.{links_carry, next_high, next_low}

-- An end of an edge accounts for the fork, and its Requests name the edge.
pub record EndIs (plan : SeenPlan) (s edge ate : ℕ) (traffic : Traffic) : Type 0 where
  pub accounts : AccountsForFork plan s edge ate traffic
  pub put : AreRequestsOf edge traffic.put
  pub taken : AreRequestsOf edge traffic.taken

pub end_is : (plan : SeenPlan) (s : ℕ) (state : LocalState) (i : ℕ) → KeepsStreams plan s state → i < length (edges_of plan s) → EndIs plan s (edge_at plan s i) state.ate (traffic_at state i)
end_is plan s state i keeps within =
    let at : KeepsStreamsAt plan s state i = keeps.places i (omega (arith, within, keeps.every_place)) in
    record { accounts = accounts_for_fork plan s state i keeps within; put = at.put_requests; taken = at.taken_requests }

-- the two ends of an edge, the lower first
by_ends : (plan : SeenPlan) → IsPlan plan → (run edge : ℕ) → edge < edge_count plan → (low_ate high_ate : ℕ) (low high : Traffic)
    → EndIs plan (lo_of plan edge) edge low_ate low → EndIs plan (hi_of plan edge) edge high_ate high
    → TakesByBytes plan run (lo_of plan edge) edge low high → TakesByBytes plan run (hi_of plan edge) edge high low → AreLinked low high
by_ends plan is_plan run edge within low_ate high_ate low high is_low is_high takes_low takes_high =
    links_carry plan is_plan run edge within low_ate high_ate low high is_low.accounts is_high.accounts takes_low takes_high is_low.put is_low.taken is_high.put is_high.taken

turned : (here there : Traffic) → AreLinked here there → AreLinked there here
turned here there linked = record { comes = linked.goes; goes = linked.comes }

pub linked_by_bytes : (plan : SeenPlan) (run s i other j : ℕ) (here there : LocalState) → IsPlan plan → AreEndsOfEdge plan s i other j → KeepsStreams plan s here → KeepsStreams plan other there
    → TakesByBytes plan run s (edge_at plan s i) (traffic_at here i) (traffic_at there j) → TakesByBytes plan run other (edge_at plan s i) (traffic_at there j) (traffic_at here i)
    → AreLinked (traffic_at here i) (traffic_at there j)
linked_by_bytes plan run s i other j here there is_plan ends keeps keeps_there takes takes_there =
    let edge : ℕ = edge_at plan s i in
    let place = placed plan s i is_plan ends.within in
    let mine : EndIs plan s edge here.ate (traffic_at here i) = end_is plan s here i keeps ends.within in
    let theirs : EndIs plan other edge there.ate (traffic_at there j) =
    subst (λ (e : ℕ). EndIs plan other e there.ate (traffic_at there j)) ends.same_edge (end_is plan other there j keeps_there ends.within_there) in
    elim place.sides [
      | inl low ↦
          let s_is : s ≡ lo_of plan edge = sym low.0 in
          let other_is : other ≡ hi_of plan edge = sym ends.across ∙ low.1 in
          by_ends plan is_plan run edge place.edge_within here.ate there.ate (traffic_at here i) (traffic_at there j)
          (subst (λ (e : ℕ). EndIs plan e edge here.ate (traffic_at here i)) s_is mine)
          (subst (λ (e : ℕ). EndIs plan e edge there.ate (traffic_at there j)) other_is theirs)
          (subst (λ (e : ℕ). TakesByBytes plan run e edge (traffic_at here i) (traffic_at there j)) s_is takes)
          (subst (λ (e : ℕ). TakesByBytes plan run e edge (traffic_at there j) (traffic_at here i)) other_is takes_there)
      | inr high ↦
          let s_is : s ≡ hi_of plan edge = sym high.0 in
          let other_is : other ≡ lo_of plan edge = sym ends.across ∙ high.1 in
          turned (traffic_at there j) (traffic_at here i)
          (by_ends plan is_plan run edge place.edge_within there.ate here.ate (traffic_at there j) (traffic_at here i)
          (subst (λ (e : ℕ). EndIs plan e edge there.ate (traffic_at there j)) other_is theirs)
          (subst (λ (e : ℕ). EndIs plan e edge here.ate (traffic_at here i)) s_is mine)
          (subst (λ (e : ℕ). TakesByBytes plan run e edge (traffic_at there j) (traffic_at here i)) other_is takes_there)
          (subst (λ (e : ℕ). TakesByBytes plan run e edge (traffic_at here i) (traffic_at there j)) s_is takes))
    ]

-- ---- the next letter

next_of_ends : (plan : SeenPlan) → IsPlan plan → (run edge : ℕ) → edge < edge_count plan → (low_ate high_ate : ℕ) (low high : Traffic)
    → EndIs plan (lo_of plan edge) edge low_ate low → EndIs plan (hi_of plan edge) edge high_ate high
    → TakesByBytes plan run (lo_of plan edge) edge low high → TakesByBytes plan run (hi_of plan edge) edge high low
    → (s : ℕ) (here there : Traffic) → ((s ≡ lo_of plan edge) × (here ≡ low) × (there ≡ high)) ⊎ ((s ≡ hi_of plan edge) × (here ≡ high) × (there ≡ low))
    → (l : Letter) → next_between here there ≡ Some l → IsOfKept plan (fork_for_next plan s edge here) edge l
next_of_ends plan is_plan run edge within low_ate high_ate low high is_low is_high takes_low takes_high s here there side =
    let linked = by_ends plan is_plan run edge within low_ate high_ate low high is_low is_high takes_low takes_high in
    elim side as (λ side. (l : Letter) → next_between here there ≡ Some l → IsOfKept plan (fork_for_next plan s edge here) edge l) [
      | inl x ↦ λ l next.
          subst (λ (e : ℕ). IsOfKept plan (fork_for_next plan e edge here) edge l) (sym x.0) (subst (λ (t : Traffic). IsOfKept plan (fork_for_next plan (lo_of plan edge) edge t) edge l) (sym x.1)
          (next_low plan is_plan run edge within low_ate high_ate low high is_low.accounts is_high.accounts takes_low takes_high linked is_high.put l
          (sym (ap (λ (t : Traffic). next_between t there) x.1 ∙ ap (λ (t : Traffic). next_between low t) x.2) ∙ next)))
      | inr x ↦ λ l next.
          subst (λ (e : ℕ). IsOfKept plan (fork_for_next plan e edge here) edge l) (sym x.0) (subst (λ (t : Traffic). IsOfKept plan (fork_for_next plan (hi_of plan edge) edge t) edge l) (sym x.1)
          (next_high plan is_plan run edge within low_ate high_ate low high is_low.accounts is_high.accounts takes_low takes_high linked is_low.put l
          (sym (ap (λ (t : Traffic). next_between t there) x.1 ∙ ap (λ (t : Traffic). next_between high t) x.2) ∙ next)))
    ]

pub next_by_bytes : (plan : SeenPlan) (run s i other j : ℕ) (here there : LocalState) → IsPlan plan → AreEndsOfEdge plan s i other j → KeepsStreams plan s here → KeepsStreams plan other there
    → TakesByBytes plan run s (edge_at plan s i) (traffic_at here i) (traffic_at there j) → TakesByBytes plan run other (edge_at plan s i) (traffic_at there j) (traffic_at here i)
    → (l : Letter) → next_between (traffic_at here i) (traffic_at there j) ≡ Some l → IsOfKept plan (fork_for_next plan s (edge_at plan s i) (traffic_at here i)) (edge_at plan s i) l
next_by_bytes plan run s i other j here there is_plan ends keeps keeps_there takes takes_there =
    let edge : ℕ = edge_at plan s i in
    let place = placed plan s i is_plan ends.within in
    let mine : EndIs plan s edge here.ate (traffic_at here i) = end_is plan s here i keeps ends.within in
    let theirs : EndIs plan other edge there.ate (traffic_at there j) =
    subst (λ (e : ℕ). EndIs plan other e there.ate (traffic_at there j)) ends.same_edge (end_is plan other there j keeps_there ends.within_there) in
    elim place.sides as (λ sides. (l : Letter) → next_between (traffic_at here i) (traffic_at there j) ≡ Some l → IsOfKept plan (fork_for_next plan s edge (traffic_at here i)) edge l) [
      | inl low ↦
          let s_is : s ≡ lo_of plan edge = sym low.0 in
          let other_is : other ≡ hi_of plan edge = sym ends.across ∙ low.1 in
          next_of_ends plan is_plan run edge place.edge_within here.ate there.ate (traffic_at here i) (traffic_at there j)
          (subst (λ (e : ℕ). EndIs plan e edge here.ate (traffic_at here i)) s_is mine)
          (subst (λ (e : ℕ). EndIs plan e edge there.ate (traffic_at there j)) other_is theirs)
          (subst (λ (e : ℕ). TakesByBytes plan run e edge (traffic_at here i) (traffic_at there j)) s_is takes)
          (subst (λ (e : ℕ). TakesByBytes plan run e edge (traffic_at there j) (traffic_at here i)) other_is takes_there)
          s (traffic_at here i) (traffic_at there j) (inl (s_is, refl, refl))
      | inr high ↦
          let s_is : s ≡ hi_of plan edge = sym high.0 in
          let other_is : other ≡ lo_of plan edge = sym ends.across ∙ high.1 in
          next_of_ends plan is_plan run edge place.edge_within there.ate here.ate (traffic_at there j) (traffic_at here i)
          (subst (λ (e : ℕ). EndIs plan e edge there.ate (traffic_at there j)) other_is theirs)
          (subst (λ (e : ℕ). EndIs plan e edge here.ate (traffic_at here i)) s_is mine)
          (subst (λ (e : ℕ). TakesByBytes plan run e edge (traffic_at there j) (traffic_at here i)) other_is takes_there)
          (subst (λ (e : ℕ). TakesByBytes plan run e edge (traffic_at here i) (traffic_at there j)) s_is takes)
          s (traffic_at here i) (traffic_at there j) (inr (s_is, refl, refl))
    ]

-- ---- all sites

pub ordered_by_bytes : (plan : SeenPlan) (run : ℕ) (states : WorldState) → AreAllJoinedByBytes plan run states → LinksAreOrdered plan states
ordered_by_bytes plan run states all s i is_site within =
    let is_plan = all.is_plan in
    let o : ℕ = neighbour_at plan s i in
    let ends = ends_at plan s i is_plan within in
    let j : ℕ = place_of plan o (edge_at plan s i) in
    let over = across plan s i is_plan within in
    let place : place_of plan s (edge_at plan o j) ≡ i = ap (place_of plan s) over.same_edge ∙ place_of-edge_at plan s i within in
    let back : traffic_across plan states o j ≡ traffic_at (state_of states s) i =
    ap (λ (x : ℕ). traffic_at (state_of states x) (place_of plan x (edge_at plan o j))) over.back ∙ ap (λ (x : ℕ). traffic_at (state_of states s) x) place in
    let theirs = subst (λ (e : ℕ). TakesByBytes plan run o e (traffic_at (state_of states o) j) (traffic_across plan states o j)) ends.same_edge (all.take o j over.is_site ends.within_there) in
    (linked_by_bytes plan run s i o j (state_of states s) (state_of states o) is_plan ends (all.keep s is_site) (all.keep o over.is_site) (all.take s i is_site within)
    (subst (λ (t : Traffic). TakesByBytes plan run o (edge_at plan s i) (traffic_at (state_of states o) j) t) back theirs)).comes
