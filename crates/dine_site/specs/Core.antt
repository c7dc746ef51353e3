-- A site core as contracts see it, and the states with whole lists of letters that it represents. A core keeps no
-- letter that was put or taken. So many states have the same core, and a core alone does not determine a list.
use Rattle.std.specs.Prelude.{◌≡◌, ℕ, ◌<◌, ◌==◌, Bool, List, [], ◌∷◌, length, slice_index_or, Option, Some, None, if◌then◌else◌}
use Rattle.dine_token.specs.declared.act.Act.{Act}
use Rattle.dine_token.specs.Log.{meals_of}
use Rattle.dine_token.specs.Fork.{SeenFork}
use Rattle.dine_graph.specs.Plan.{SeenPlan, IsPlan, acts_of, job_count, lo_of, hi_of, other_of, resigns, site_count}
use Rattle.dine_rules.specs.declared.phase.Phase.{Phase}
use Rattle.dine_site.specs.declared.site.places.Place.{Place}
use Rattle.dine_site.specs.declared.site.places.ForkSlot.{ForkSlot}
use Rattle.dine_site.specs.declared.site.places.ForkSlot.TheVariants.{Away, Here, InMeal}
use Rattle.dine_rules.specs.Letters.{has_done, has_close}
use Rattle.dine_rules.specs.Local.{LocalState, Traffic, traffic_at, edge_at, is_eating}
use Rattle.dine_rules.specs.Holdings.{forks_held, tokens_held, hand, fork_at, token_at}
use Rattle.dine_rules.specs.Steps.{hand_fork, hand_fork_at, opened_fork}

-- A site core: its site, the number of its jobs, the acts of its meals, whether it resigns, its phase, the number of
-- meals that it began, whether it has to quit, whether it has quit, and what it keeps at each place, in edge order.
pub record SeenCore : Type 0 where
  pub site : ℕ
  pub due : ℕ
  pub acts : List Act
  pub resigns : Bool
  pub phase : Phase
  pub ate : ℕ
  pub must_quit : Bool
  pub has_quit : Bool
  pub places : List Place

-- What a core keeps at the place of an edge, if its site is in this phase and ate this number of meals, and these
-- letters were put and taken.
module _ (plan : SeenPlan) (s : ℕ) (phase : Phase) (ate edge : ℕ) (traffic : Traffic) where
  -- The fork: as the whole lists give it if it is in hand; in the meal; or not held. Of a fork in the meal the core
  -- keeps the number of meals of the other end.
  abbrev pub fork_kept : ForkSlot
  fork_kept = if forks_held plan s edge traffic == 1
      then (if is_eating phase then InMeal (meals_of (other_of plan edge s) (hand s ate traffic)) else Here (hand_fork plan s edge ate traffic))
      else Away

  -- the token, if it is held
  abbrev pub token_kept : Option ℕ
  token_kept = if tokens_held plan s edge traffic == 1 then Some edge else None

  -- all that is kept: the edge, the ends and the meals due to them, whether the other end resigns, fork and token, and
  -- which of Done and Close were put and taken
  abbrev pub kept_of : Place
  kept_of = record {
    edge = edge;
    ends = (lo_of plan edge, hi_of plan edge);
    due = (job_count plan (lo_of plan edge), job_count plan (hi_of plan edge));
    neighbour_resigns = resigns plan (other_of plan edge s);
    fork = fork_kept;
    token = token_kept;
    done_put = has_done traffic.put;
    done_taken = has_done traffic.taken;
    close_put = has_close traffic.put;
    close_taken = has_close traffic.taken;
  }

-- what is kept at place i of a state
abbrev pub kept_at : SeenPlan → ℕ → LocalState → ℕ → Place
kept_at plan s state i = kept_of plan s state.phase state.ate (edge_at plan s i) (traffic_at state i)

-- The core represents the state. It is the core of a site of the plan, with the acts of its jobs, and it resigns if
-- that site does. It has the phase of the state, its number of meals, and its values of having to quit and having quit.
-- At each place it keeps what the state gives.
pub record Refines (plan : SeenPlan) (state : LocalState) (core : SeenCore) : Type 0 where
  pub is_plan : IsPlan plan
  pub is_site : core.site < site_count plan
  pub due : core.due ≡ job_count plan core.site
  pub acts : core.acts ≡ acts_of plan core.site
  pub resigns : core.resigns ≡ resigns plan core.site
  pub phase : core.phase ≡ state.phase
  pub ate : core.ate ≡ state.ate
  pub must_quit : core.must_quit ≡ state.must_quit
  pub has_quit : core.has_quit ≡ state.has_quit
  pub degree : length core.places ≡ length state.traffic
  pub places : (i : ℕ) (past : Place) → i < length core.places → slice_index_or core.places i past ≡ kept_at plan core.site state i

-- the forks that the site holds at these places of a state, in hand or in the meal, each with the log in hand, in order
abbrev pub forks_in_hand : SeenPlan → ℕ → LocalState → List ℕ → List SeenFork
forks_in_hand plan s state [] = []
forks_in_hand plan s state (i ∷ places) = if fork_at plan s state i == 1
    then hand_fork_at plan s state i ∷ forks_in_hand plan s state places
    else forks_in_hand plan s state places

-- the tokens that a state holds at these places, in order
abbrev pub tokens_in_hand : SeenPlan → ℕ → LocalState → List ℕ → List ℕ
tokens_in_hand plan s state [] = []
tokens_in_hand plan s state (i ∷ places) = if token_at plan s state i == 1
    then edge_at plan s i ∷ tokens_in_hand plan s state places
    else tokens_in_hand plan s state places

-- the forks, newly opened, that a site has at the start: those of these edges whose lower end it is, in order
abbrev pub fresh_forks : SeenPlan → ℕ → List ℕ → List SeenFork
fresh_forks plan s [] = []
fresh_forks plan s (edge ∷ edges) = if lo_of plan edge == s then opened_fork plan edge ∷ fresh_forks plan s edges else fresh_forks plan s edges

-- the tokens that a site has at the start: those of these edges whose higher end it is, in order
abbrev pub fresh_tokens : SeenPlan → ℕ → List ℕ → List ℕ
fresh_tokens plan s [] = []
fresh_tokens plan s (edge ∷ edges) = if hi_of plan edge == s then edge ∷ fresh_tokens plan s edges else fresh_tokens plan s edges
