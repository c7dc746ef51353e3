-- The two ends of an edge: what they hold, and what is in the links between them, counted from their lists.
use Rattle.std.proofs.Common.{◌≡◌, ◌≢◌, ℕ, ◌+◌, ◌<◌, ◌≤◌, Bool, true, false, cond, not, List, [], ◌∷◌, ◌++◌, length, ◌∙◌, ap, arith}
use Rattle.dine_graph.specs.Plan.{SeenPlan}
use Rattle.dine_rules.specs.declared.letters.Letter.{Letter}
use Rattle.dine_rules.specs.declared.letters.Letter.TheVariants.{Fork, Request, Done, Close}
use Rattle.dine_rules.specs.Letters.{forks_in, requests_in, dones_in, closes_in}
use Rattle.dine_rules.specs.Local.{LocalState, traffic_at, edge_at, neighbour_at}
use Rattle.dine_rules.specs.Holdings.{fork_at, token_at}
use Rattle.dine_rules.specs.Streams.{KeepsStreams, KeepsStreamsAt, is_lower_at}
use Rattle.dine_rules.proofs.shared.lists.Counting.{forks_in-append, requests_in-append}
use Rattle.dine_rules.proofs.one_site.PutBounds.{length-letters, dones_within, closes_within}

-- Place i of a site and place j of its neighbour are the two ends of an edge, and each site keeps its streams. What
-- comes to the site is what the neighbour put and it did not take, and what goes is the same the other way.
pub record Joined (plan : SeenPlan) (s i other j : ℕ) (near far : LocalState) (coming going : List Letter) : Type 0 where
  pub neighbour : neighbour_at plan s i ≡ other
  pub differ : s ≢ other
  pub back : neighbour_at plan other j ≡ s
  pub same_edge : edge_at plan other j ≡ edge_at plan s i
  pub other_side : is_lower_at plan other j ≡ not (is_lower_at plan s i)
  pub here : KeepsStreams plan s near
  pub there : KeepsStreams plan other far
  pub within : i < length near.traffic
  pub within_there : j < length far.traffic
  pub comes : (traffic_at far j).put ≡ (traffic_at near i).taken ++ coming
  pub goes : (traffic_at near i).put ≡ (traffic_at far j).taken ++ going

-- ---- numbers

-- one of the two ends is the lower, and the other the higher
pub one_lower : (lower other : Bool) → other ≡ not lower → cond {A = ℕ} lower 1 0 + cond {A = ℕ} other 1 0 ≡ 1
one_lower true other h = omega (arith, ap (λ (b : Bool). cond {A = ℕ} b 1 0) h)
one_lower false other h = omega (arith, ap (λ (b : Bool). cond {A = ℕ} b 1 0) h)

-- and the same for the one that starts with the token
pub one_higher : (lower other : Bool) → other ≡ not lower → cond {A = ℕ} lower 0 1 + cond {A = ℕ} other 0 1 ≡ 1
one_higher true other h = omega (arith, ap (λ (b : Bool). cond {A = ℕ} b 0 1) h)
one_higher false other h = omega (arith, ap (λ (b : Bool). cond {A = ℕ} b 0 1) h)

-- what both ends hold and what is under way both ways, from what each started with, put and took
one_in_all : (start start_there held held_there put put_there taken taken_there coming going : ℕ) → start + start_there ≡ 1
    → held + put ≡ start + taken → held_there + put_there ≡ start_there + taken_there → put_there ≡ taken + coming → put ≡ taken_there + going
    → held + coming + (held_there + going) ≡ 1
one_in_all start start_there held held_there put put_there taken taken_there coming going one counted counted_there comes goes = omega arith

-- ---- Done and Close are counted like Forks and Requests

-- the Dones of two lists
pub dones_in-append : (xs ys : List Letter) → dones_in (xs ++ ys) ≡ dones_in xs + dones_in ys
dones_in-append [] ys = omega arith
dones_in-append (Fork fork ∷ xs) ys = dones_in-append xs ys
dones_in-append (Request edge ∷ xs) ys = dones_in-append xs ys
dones_in-append (Done ∷ xs) ys = omega (arith, dones_in-append xs ys)
dones_in-append (Close ∷ xs) ys = dones_in-append xs ys

-- the Closes of two lists
pub closes_in-append : (xs ys : List Letter) → closes_in (xs ++ ys) ≡ closes_in xs + closes_in ys
closes_in-append [] ys = omega arith
closes_in-append (Fork fork ∷ xs) ys = closes_in-append xs ys
closes_in-append (Request edge ∷ xs) ys = closes_in-append xs ys
closes_in-append (Done ∷ xs) ys = closes_in-append xs ys
closes_in-append (Close ∷ xs) ys = omega (arith, closes_in-append xs ys)

-- ---- one fork, one token, few letters

module _ (plan : SeenPlan) (s i other j : ℕ) (near far : LocalState) (coming going : List Letter) (ends : Joined plan s i other j near far coming going) where
  -- what this end keeps at its place
  keeps_here : KeepsStreamsAt plan s near i
  keeps_here = ends.here.places i ends.within

  -- the same at the other end
  keeps_there : KeepsStreamsAt plan other far j
  keeps_there = ends.there.places j ends.within_there

  -- the Forks put at either end are those taken at the other and those under way, and so the Requests: Forks that come
  pub forks_coming : forks_in (traffic_at far j).put ≡ forks_in (traffic_at near i).taken + forks_in coming
  forks_coming = ap forks_in ends.comes ∙ forks_in-append (traffic_at near i).taken coming

  -- Forks that go
  pub forks_going : forks_in (traffic_at near i).put ≡ forks_in (traffic_at far j).taken + forks_in going
  forks_going = ap forks_in ends.goes ∙ forks_in-append (traffic_at far j).taken going

  -- Requests that come
  pub requests_coming : requests_in (traffic_at far j).put ≡ requests_in (traffic_at near i).taken + requests_in coming
  requests_coming = ap requests_in ends.comes ∙ requests_in-append (traffic_at near i).taken coming

  -- Requests that go
  pub requests_going : requests_in (traffic_at near i).put ≡ requests_in (traffic_at far j).taken + requests_in going
  requests_going = ap requests_in ends.goes ∙ requests_in-append (traffic_at far j).taken going

  -- the fork is at one of the ends or under way one way
  pub one_fork : fork_at plan s near i + forks_in coming + (fork_at plan other far j + forks_in going) ≡ 1
  one_fork = one_in_all (cond (is_lower_at plan s i) 1 0) (cond (is_lower_at plan other j) 1 0) (fork_at plan s near i) (fork_at plan other far j)
      (forks_in (traffic_at near i).put) (forks_in (traffic_at far j).put) (forks_in (traffic_at near i).taken) (forks_in (traffic_at far j).taken) (forks_in coming) (forks_in going)
      (one_lower (is_lower_at plan s i) (is_lower_at plan other j) ends.other_side) keeps_here.forks_counted keeps_there.forks_counted forks_coming forks_going

  -- and so is the token, which goes as a Request
  pub one_token : token_at plan s near i + requests_in coming + (token_at plan other far j + requests_in going) ≡ 1
  one_token = one_in_all (cond (is_lower_at plan s i) 0 1) (cond (is_lower_at plan other j) 0 1) (token_at plan s near i) (token_at plan other far j)
      (requests_in (traffic_at near i).put) (requests_in (traffic_at far j).put) (requests_in (traffic_at near i).taken) (requests_in (traffic_at far j).taken) (requests_in coming) (requests_in going)
      (one_higher (is_lower_at plan s i) (is_lower_at plan other j) ends.other_side) keeps_here.tokens_counted keeps_there.tokens_counted requests_coming requests_going

  -- of each kind at most one letter comes: one Fork
  pub few_forks : forks_in coming ≤ 1
  few_forks = omega (arith, one_fork)

  -- one Request
  pub few_requests : requests_in coming ≤ 1
  few_requests = omega (arith, one_token)

  -- one Done
  pub few_dones : dones_in coming ≤ 1
  few_dones = omega (arith, dones_within plan other far j keeps_there, ap dones_in ends.comes, dones_in-append (traffic_at near i).taken coming)

  -- one Close
  pub few_closes : closes_in coming ≤ 1
  few_closes = omega (arith, closes_within plan other far j keeps_there, ap closes_in ends.comes, closes_in-append (traffic_at near i).taken coming)

  -- and so four letters
  pub few_letters : length coming ≤ 4
  few_letters = omega (arith, length-letters coming, few_forks, few_requests, few_dones, few_closes)
