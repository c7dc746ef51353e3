-- Where the fork and the token of an edge can be: two joint states of its ends and links that no world reaches. All
-- follows by counting letters.
use Rattle.std.proofs.Common.{◌≡◌, ℕ, ◌+◌, ◌<◌, ◌≤◌, ◌==◌, not, Bool, true, false, List, [], ◌∷◌, ◌++◌, refl, sym, ◌∙◌, ap, subst, inl, inr, arith, cond}
use Rattle.std.proofs.lemmas.Bool.{cond-false, cond-true, eq-eqb, false≢true, ne_eqb}
use Rattle.dine_graph.specs.Plan.{SeenPlan, hi_of, lo_of, other_of}
use Rattle.dine_rules.specs.declared.letters.Letter.{Letter}
use Rattle.dine_rules.specs.declared.letters.Letter.TheVariants.{Fork, Request, Done, Close}
use Rattle.dine_rules.specs.Holdings.{fork_at, token_at}
use Rattle.dine_rules.specs.Letters.{forks_in, requests_in}
use Rattle.dine_rules.specs.Links.{forks_near, queue_to, tokens_near}
use Rattle.dine_rules.specs.Local.{LocalState, edge_at, neighbour_at, traffic_at}
use Rattle.dine_rules.specs.Streams.{KeepsStreamsAt, is_alternating, is_lower_at}
use Rattle.dine_rules.specs.World.{WorldState, place_of, put_to, state_of}
use Rattle.dine_world.specs.Worlds.{IsReached}
use Rattle.dine_rules.proofs.shared.lists.Counting.{forks_in-append, requests_in-append}
use Rattle.dine_rules.proofs.shared.links.Links.{link_holds}
use Rattle.dine_rules.proofs.shared.links.WorldStreams.{WorldKeeps, reached_kept}
use Rattle.dine_states.specs.Ends.{IsEnd}
use Rattle.dine_states.specs.declared.ends.End.{End}
use Rattle.dine_states.proofs.Orders.{same}
use Rattle.dine_states.proofs.Reading.{one_fork, one_token}

-- Forks and Requests that alternate are as many, or there is one more of those that come first.
in_turn : (fork_next : Bool) (xs : List Letter) → is_alternating fork_next xs ≡ true → (forks_in xs ≤ cond fork_next 1 0 + requests_in xs) × (cond fork_next 1 0 + requests_in xs ≤ forks_in xs + 1)
in_turn true [] h = (omega arith, omega arith)
in_turn false [] h = (omega arith, omega arith)
in_turn true (Fork fork ∷ xs) h = let w = in_turn false xs h in (omega (arith, w.0, w.1), omega (arith, w.0, w.1))
in_turn false (Fork fork ∷ xs) h = absurd (false≢true h)
in_turn true (Request edge ∷ xs) h = absurd (false≢true h)
in_turn false (Request edge ∷ xs) h = let w = in_turn true xs h in (omega (arith, w.0, w.1), omega (arith, w.0, w.1))
in_turn b (Done ∷ xs) h = in_turn b xs h
in_turn b (Close ∷ xs) h = in_turn b xs h

-- What is counted at one end, whose first turn is to put a Fork if l is 1, and a Request if m is 1: forks and tokens
-- held, and Forks and Requests put and taken.
pub record Counted (l m forks tokens forks_put requests_put forks_taken requests_taken : ℕ) : Type 0 where
  pub held : forks + forks_put ≡ l + forks_taken
  pub tokens_held : tokens + requests_put ≡ m + requests_taken
  pub put_forks : forks_put ≤ l + requests_put
  pub put_requests : l + requests_put ≤ forks_put + 1
  pub taken_forks : forks_taken ≤ m + requests_taken
  pub taken_requests : m + requests_taken ≤ forks_taken + 1
  pub given : forks_put ≤ requests_taken
  pub comes : forks_taken ≤ requests_put

abbrev pub first : Bool → ℕ
first b = cond b 1 0

counted_here : (plan : SeenPlan) (s i : ℕ) (state : LocalState) (b : Bool) → is_lower_at plan s i ≡ b → KeepsStreamsAt plan s state i
    → Counted (first b) (first (not b)) (fork_at plan s state i) (token_at plan s state i) (forks_in (traffic_at state i).put) (requests_in (traffic_at state i).put) (forks_in (traffic_at state i).taken) (requests_in (traffic_at state i).taken)
counted_here plan s i state b lower k =
    let put = in_turn b (traffic_at state i).put (subst (λ (x : Bool). is_alternating x (traffic_at state i).put ≡ true) lower k.put_lawful.alternating) in
    let taken = in_turn (not b) (traffic_at state i).taken (subst (λ (x : Bool). is_alternating (not x) (traffic_at state i).taken ≡ true) lower k.taken_lawful.alternating) in
    record {
      held = subst (λ (x : Bool). fork_at plan s state i + forks_in (traffic_at state i).put ≡ first x + forks_in (traffic_at state i).taken) lower k.forks_counted;
      tokens_held = subst (λ (x : Bool). token_at plan s state i + requests_in (traffic_at state i).put ≡ first (not x) + requests_in (traffic_at state i).taken) lower (k.tokens_counted ∙ ap (λ (n : ℕ). n + requests_in (traffic_at state i).taken) (turned (is_lower_at plan s i)));
      put_forks = put.0;
      put_requests = put.1;
      taken_forks = taken.0;
      taken_requests = taken.1;
      given = k.given_when_asked;
      comes = k.comes_when_asked;
    } where
      turned : (x : Bool) → cond x 0 1 ≡ first (not x)
      turned true = refl
      turned false = refl

-- What is counted at both ends of an edge, and of what is in the links between them.
pub record Joint (plan : SeenPlan) (world : WorldState) (a b : End) : Type 0 where
  pub lower : Bool
  pub here : Counted (first lower) (first (not lower)) (fork_at plan a.site (state_of world a.site) a.place) (token_at plan a.site (state_of world a.site) a.place)
      (forks_in (traffic_at (state_of world a.site) a.place).put) (requests_in (traffic_at (state_of world a.site) a.place).put)
      (forks_in (traffic_at (state_of world a.site) a.place).taken) (requests_in (traffic_at (state_of world a.site) a.place).taken)
  pub there : Counted (first (not lower)) (first lower) (fork_at plan b.site (state_of world b.site) b.place) (token_at plan b.site (state_of world b.site) b.place)
      (forks_in (traffic_at (state_of world b.site) b.place).put) (requests_in (traffic_at (state_of world b.site) b.place).put)
      (forks_in (traffic_at (state_of world b.site) b.place).taken) (requests_in (traffic_at (state_of world b.site) b.place).taken)
  pub forks_coming : forks_in (traffic_at (state_of world b.site) b.place).put ≡ forks_in (traffic_at (state_of world a.site) a.place).taken + forks_in (queue_to plan world a.site a.place)
  pub requests_coming : requests_in (traffic_at (state_of world b.site) b.place).put ≡ requests_in (traffic_at (state_of world a.site) a.place).taken + requests_in (queue_to plan world a.site a.place)
  pub forks_going : forks_in (traffic_at (state_of world a.site) a.place).put ≡ forks_in (traffic_at (state_of world b.site) b.place).taken + forks_in (queue_to plan world b.site b.place)
  pub requests_going : requests_in (traffic_at (state_of world a.site) a.place).put ≡ requests_in (traffic_at (state_of world b.site) b.place).taken + requests_in (queue_to plan world b.site b.place)

-- by the counts, an end that lacks the fork, with none on its way, was asked for nothing that is still on its way
no_request : (low : Bool) (f t fp rp ft rt f' t' fp' rp' ft' rt' coming requests : ℕ) → Counted (first low) (first (not low)) f t fp rp ft rt → Counted (first (not low)) (first low) f' t' fp' rp' ft' rt'
    → fp' ≡ ft + coming → rp' ≡ rt + requests → f ≡ 0 → coming ≡ 0 → t ≡ 0 → requests ≡ 0
no_request true f t fp rp ft rt f' t' fp' rp' ft' rt' coming requests here there forks asks no_fork none no_token = omega (arith, no_fork, none, no_token, forks, asks, here.held, here.tokens_held, here.given, there.put_requests, there.put_forks)
no_request false f t fp rp ft rt f' t' fp' rp' ft' rt' coming requests here there forks asks no_fork none no_token = omega (arith, no_fork, none, no_token, forks, asks, here.held, here.tokens_held, here.given, there.put_requests, there.put_forks)

-- by the counts, no fork is on its way to the other end if that has the token then
no_fork_going : (low : Bool) (f t fp rp ft rt f' t' fp' rp' ft' rt' coming requests going asked : ℕ) → Counted (first low) (first (not low)) f t fp rp ft rt → Counted (first (not low)) (first low) f' t' fp' rp' ft' rt'
    → fp' ≡ ft + coming → rp' ≡ rt + requests → fp ≡ ft' + going → rp ≡ rt' + asked → f ≡ 0 → coming ≡ 0 → t' ≡ 1 → going ≡ 0
no_fork_going true f t fp rp ft rt f' t' fp' rp' ft' rt' coming requests going asked here there forks asks gives turns no_fork none token =
    omega (arith, no_fork, none, token, forks, asks, gives, turns, here.held, here.tokens_held, here.given, there.held, there.tokens_held, there.taken_forks, there.taken_requests)
no_fork_going false f t fp rp ft rt f' t' fp' rp' ft' rt' coming requests going asked here there forks asks gives turns no_fork none token =
    omega (arith, no_fork, none, token, forks, asks, gives, turns, here.held, here.tokens_held, here.given, there.held, there.tokens_held, there.taken_forks, there.taken_requests)

module _ (plan : SeenPlan) (world : WorldState) (a b : End) (joint : Joint plan world a b) (no_fork : fork_at plan a.site (state_of world a.site) a.place ≡ 0) (none_coming : forks_in (queue_to plan world a.site a.place) ≡ 0) where
  pub no_request_coming : token_at plan a.site (state_of world a.site) a.place ≡ 0 → requests_in (queue_to plan world a.site a.place) ≡ 0
  no_request_coming no_token = no_request joint.lower _ _ _ _ _ _ _ _ _ _ _ _ _ _ joint.here joint.there joint.forks_coming joint.requests_coming no_fork none_coming no_token

  pub holder_has_fork : token_at plan b.site (state_of world b.site) b.place ≡ 1 → forks_in (queue_to plan world b.site b.place) ≡ 0
  holder_has_fork token =
      no_fork_going joint.lower _ _ _ _ _ _ _ _ _ _ _ _ _ _ _ _ joint.here joint.there joint.forks_coming joint.requests_coming joint.forks_going joint.requests_going no_fork none_coming token

-- ---- the ends of an edge

of_low : (plan : SeenPlan) (a : End) → other_of plan a.edge (lo_of plan a.edge) ≡ hi_of plan a.edge
of_low plan a = cond-true (lo_of plan a.edge == lo_of plan a.edge) (hi_of plan a.edge) (lo_of plan a.edge) (same (lo_of plan a.edge))

of_high : (plan : SeenPlan) (a : End) → IsEnd plan a → other_of plan a.edge (hi_of plan a.edge) ≡ lo_of plan a.edge
of_high plan a is = cond-false (lo_of plan a.edge == hi_of plan a.edge) (hi_of plan a.edge) (lo_of plan a.edge) (ne_eqb (lo_of plan a.edge) (hi_of plan a.edge) (λ h. omega (arith, h, is.is_plan.ordered a.edge is.edge)))

-- the other end of the other end is the end
back : (plan : SeenPlan) (a : End) → IsEnd plan a → other_of plan a.edge (other_of plan a.edge a.site) ≡ a.site
back plan a is = elim is.at_end [
  | inl low ↦ ap (λ (s : ℕ). other_of plan a.edge (other_of plan a.edge s)) low ∙ ap (other_of plan a.edge) (of_low plan a) ∙ of_high plan a is ∙ sym low
  | inr high ↦ ap (λ (s : ℕ). other_of plan a.edge (other_of plan a.edge s)) high ∙ ap (other_of plan a.edge) (of_high plan a is) ∙ of_low plan a ∙ sym high
]

-- one end is the lower one, and the other is not
lower_once : (plan : SeenPlan) (a : End) → IsEnd plan a → (lo_of plan a.edge == other_of plan a.edge a.site) ≡ not (lo_of plan a.edge == a.site)
lower_once plan a is = elim is.at_end [
  | inl low ↦
      let lo_is : (lo_of plan a.edge == a.site) ≡ true = eq-eqb (lo_of plan a.edge) a.site (sym low) in
      ap (λ (s : ℕ). lo_of plan a.edge == s) (cond-true (lo_of plan a.edge == a.site) (hi_of plan a.edge) (lo_of plan a.edge) lo_is)
      ∙ ne_eqb (lo_of plan a.edge) (hi_of plan a.edge) (λ h. omega (arith, h, ordered)) ∙ sym (ap not lo_is)
  | inr high ↦
      let lo_is : (lo_of plan a.edge == a.site) ≡ false = ne_eqb (lo_of plan a.edge) a.site (λ h. omega (arith, h, high, ordered)) in
      ap (λ (s : ℕ). lo_of plan a.edge == s) (cond-false (lo_of plan a.edge == a.site) (hi_of plan a.edge) (lo_of plan a.edge) lo_is)
      ∙ same (lo_of plan a.edge) ∙ sym (ap not lo_is)
] where
  ordered : lo_of plan a.edge < hi_of plan a.edge
  ordered = is.is_plan.ordered a.edge is.edge

module _ (plan : SeenPlan) (world : WorldState) (reached : IsReached plan world) where
  kept : WorldKeeps plan world
  kept = reached_kept plan reached.events world reached.is_plan reached.reaches

  -- the letters that lead to an end are those that the other end put
  put_across : (a b : End) → IsEnd plan a → IsEnd plan b → b.edge ≡ a.edge → b.site ≡ neighbour_at plan a.site a.place → put_to plan world a.site a.place ≡ (traffic_at (state_of world b.site) b.place).put
  put_across a b is_a is_b edge site =
      ap (λ (o : ℕ). (traffic_at (state_of world o) (place_of plan o (edge_at plan a.site a.place))).put) (sym site)
      ∙ ap (λ (j : ℕ). (traffic_at (state_of world b.site) j).put) (ap (place_of plan b.site) (is_a.is_at ∙ sym edge) ∙ is_b.only_at)

  counts_at : (a : End) → IsEnd plan a → (b : Bool) → is_lower_at plan a.site a.place ≡ b
      → Counted (first b) (first (not b)) (fork_at plan a.site (state_of world a.site) a.place) (token_at plan a.site (state_of world a.site) a.place)
      (forks_in (traffic_at (state_of world a.site) a.place).put) (requests_in (traffic_at (state_of world a.site) a.place).put)
      (forks_in (traffic_at (state_of world a.site) a.place).taken) (requests_in (traffic_at (state_of world a.site) a.place).taken)
  counts_at a is b lower =
      let keeps = kept.keeps a.site is.site in
      counted_here plan a.site a.place (state_of world a.site) b lower (keeps.places a.place (subst (λ (n : ℕ). a.place < n) (sym keeps.every_place) is.place))

  pub joint_of : (a b : End) → IsEnd plan a → IsEnd plan b → b.edge ≡ a.edge → b.site ≡ a.neighbour → Joint plan world a b
  joint_of a b is_a is_b edge site = record {
    lower = lo_of plan a.edge == a.site;
    here = counts_at a is_a (lo_of plan a.edge == a.site) (ap (λ (e : ℕ). lo_of plan e == a.site) is_a.is_at);
    there = turned (lo_of plan a.edge == a.site) (counts_at b is_b (not (lo_of plan a.edge == a.site)) lower_there);
    forks_coming = ap forks_in (sym to_a ∙ holds_a) ∙ forks_in-append (traffic_at (state_of world a.site) a.place).taken (queue_to plan world a.site a.place);
    requests_coming = ap requests_in (sym to_a ∙ holds_a) ∙ requests_in-append (traffic_at (state_of world a.site) a.place).taken (queue_to plan world a.site a.place);
    forks_going = ap forks_in (sym to_b ∙ holds_b) ∙ forks_in-append (traffic_at (state_of world b.site) b.place).taken (queue_to plan world b.site b.place);
    requests_going = ap requests_in (sym to_b ∙ holds_b) ∙ requests_in-append (traffic_at (state_of world b.site) b.place).taken (queue_to plan world b.site b.place);
  } where
    other_is : b.site ≡ other_of plan a.edge a.site
    other_is = site ∙ is_a.neighbour ∙ ap (λ (e : ℕ). other_of plan e a.site) is_a.is_at

    across_b : a.site ≡ neighbour_at plan b.site b.place
    across_b = sym (back plan a is_a) ∙ sym (ap (other_of plan a.edge) other_is) ∙ sym (ap (λ (e : ℕ). other_of plan e b.site) (is_b.is_at ∙ edge))

    to_a : put_to plan world a.site a.place ≡ (traffic_at (state_of world b.site) b.place).put
    to_a = put_across a b is_a is_b edge (site ∙ is_a.neighbour)

    to_b : put_to plan world b.site b.place ≡ (traffic_at (state_of world a.site) a.place).put
    to_b = put_across b a is_b is_a (sym edge) across_b

    holds_a : put_to plan world a.site a.place ≡ (traffic_at (state_of world a.site) a.place).taken ++ queue_to plan world a.site a.place
    holds_a = link_holds plan reached.is_plan world kept a.site a.place is_a.site is_a.place

    holds_b : put_to plan world b.site b.place ≡ (traffic_at (state_of world b.site) b.place).taken ++ queue_to plan world b.site b.place
    holds_b = link_holds plan reached.is_plan world kept b.site b.place is_b.site is_b.place

    lower_there : is_lower_at plan b.site b.place ≡ not (lo_of plan a.edge == a.site)
    lower_there = ap (λ (e : ℕ). lo_of plan e == b.site) (is_b.is_at ∙ edge) ∙ ap (λ (s : ℕ). lo_of plan a.edge == s) other_is ∙ lower_once plan a is_a

    turned : (x : Bool) {f t fp rp ft rt : ℕ} → Counted (first (not x)) (first (not (not x))) f t fp rp ft rt → Counted (first (not x)) (first x) f t fp rp ft rt
    turned true c = c
    turned false c = c

  -- what is counted near both ends adds up as it does near the lower and the higher end
  both_near : (a b : End) → IsEnd plan a → b.site ≡ a.neighbour → (near : ℕ → ℕ) → near (lo_of plan a.edge) + near (hi_of plan a.edge) ≡ 1 → near a.site + near b.site ≡ 1
  both_near a b is site near one = elim is.at_end [
    | inl low ↦ ap (λ (s : ℕ). near s + near b.site) low ∙ ap (λ (s : ℕ). near (lo_of plan a.edge) + near s) (other_is ∙ ap (other_of plan a.edge) low ∙ of_low plan a) ∙ one
    | inr high ↦ ap (λ (s : ℕ). near s + near b.site) high ∙ ap (λ (s : ℕ). near (hi_of plan a.edge) + near s) (other_is ∙ ap (other_of plan a.edge) high ∙ of_high plan a is) ∙ turned (near (lo_of plan a.edge)) (near (hi_of plan a.edge)) one
  ] where
    other_is : b.site ≡ other_of plan a.edge a.site
    other_is = site ∙ is.neighbour ∙ ap (λ (e : ℕ). other_of plan e a.site) is.is_at

    turned : (x y : ℕ) → x + y ≡ 1 → y + x ≡ 1
    turned x y h = omega (arith, h)

  pub forks_near_both : (a b : End) → IsEnd plan a → IsEnd plan b → b.edge ≡ a.edge → b.site ≡ a.neighbour
      → fork_at plan a.site (state_of world a.site) a.place + forks_in (queue_to plan world a.site a.place) + (fork_at plan b.site (state_of world b.site) b.place + forks_in (queue_to plan world b.site b.place)) ≡ 1
  forks_near_both a b is_a is_b edge site =
      ap (λ (i : ℕ). fork_at plan a.site (state_of world a.site) i + forks_in (queue_to plan world a.site i) + (fork_at plan b.site (state_of world b.site) b.place + forks_in (queue_to plan world b.site b.place))) (sym is_a.only_at)
      ∙ ap (λ (j : ℕ). forks_near plan world a.site a.edge + (fork_at plan b.site (state_of world b.site) j + forks_in (queue_to plan world b.site j))) (sym is_b.only_at ∙ ap (place_of plan b.site) edge)
      ∙ both_near a b is_a site (λ (s : ℕ). forks_near plan world s a.edge) (one_fork plan world a.edge reached is_a.edge)

  pub tokens_near_both : (a b : End) → IsEnd plan a → IsEnd plan b → b.edge ≡ a.edge → b.site ≡ a.neighbour
      → token_at plan a.site (state_of world a.site) a.place + requests_in (queue_to plan world a.site a.place) + (token_at plan b.site (state_of world b.site) b.place + requests_in (queue_to plan world b.site b.place)) ≡ 1
  tokens_near_both a b is_a is_b edge site =
      ap (λ (i : ℕ). token_at plan a.site (state_of world a.site) i + requests_in (queue_to plan world a.site i) + (token_at plan b.site (state_of world b.site) b.place + requests_in (queue_to plan world b.site b.place))) (sym is_a.only_at)
      ∙ ap (λ (j : ℕ). tokens_near plan world a.site a.edge + (token_at plan b.site (state_of world b.site) j + requests_in (queue_to plan world b.site j))) (sym is_b.only_at ∙ ap (place_of plan b.site) edge)
      ∙ both_near a b is_a site (λ (s : ℕ). tokens_near plan world s a.edge) (one_token plan world a.edge reached is_a.edge)

  module _ (a b : End) (is_a : IsEnd plan a) (is_b : IsEnd plan b) (edge : b.edge ≡ a.edge) (site : b.site ≡ a.neighbour)
      (no_fork : fork_at plan a.site (state_of world a.site) a.place ≡ 0) (none_coming : forks_in (queue_to plan world a.site a.place) ≡ 0) where
    -- the request is on its way where neither end has the token
    pub request_sent : token_at plan a.site (state_of world a.site) a.place ≡ 0 → token_at plan b.site (state_of world b.site) b.place ≡ 0 → requests_in (queue_to plan world b.site b.place) ≡ 1
    request_sent none_here none_there = omega (arith, none_here, none_there, no_request_coming plan world a b (joint_of a b is_a is_b edge site) no_fork none_coming none_here, tokens_near_both a b is_a is_b edge site)

    -- the other end has the fork where it has the token
    pub fork_there : token_at plan b.site (state_of world b.site) b.place ≡ 1 → fork_at plan b.site (state_of world b.site) b.place ≡ 1
    fork_there token = omega (arith, no_fork, none_coming, holder_has_fork plan world a b (joint_of a b is_a is_b edge site) no_fork none_coming token, forks_near_both a b is_a is_b edge site)
