-- A site goes on its way: each event leaves it running.
use Rattle.std.proofs.Common.{◌≡◌, ℕ, zero, suc, ◌+◌, ◌*◌, ◌<◌, ◌≤◌, ◌^◌, Bool, true, false, List, [], ◌∷◌, ◌++◌, length, map, set, get_or, Option, Some, None, refl, sym, ◌∙◌, ap, subst, arith, length-append, length-set}
use Rattle.std.specs.List.{slice_get, All}
use Rattle.std.proofs.lemmas.Option.{slice_get_within}
use Rattle.std.proofs.lemmas.List.{get_or-set_same}
use Rattle.dine_token.specs.declared.limits.TheConstants.{MAX_JOBS}
use Rattle.dine_graph.specs.Plan.{SeenPlan, IsPlan, site_count, edges_of}
use Rattle.dine_rules.specs.declared.events.EventKind.{EventKind}
use Rattle.dine_rules.specs.declared.events.EventKind.TheVariants as event
use Rattle.dine_rules.specs.declared.letters.Letter.{Letter}
use Rattle.dine_rules.specs.declared.letters.Letter.TheVariants as letter
use Rattle.dine_rules.specs.Local.{LocalState, Traffic, no_traffic, traffic_at, start_of}
use Rattle.dine_rules.specs.Steps.{Hungry, Begin, End, Quit, Take, after, with_put, with_taken}
use Rattle.dine_rules.specs.Streams.{KeepsStreams}
use Rattle.dine_link.specs.Bells.{SeenBell}
use Rattle.dine_link.specs.Closing.{is_close}
use Rattle.dine_token.specs.Fork.{SeenFork}
use Rattle.dine_site.specs.Core.{SeenCore, forks_in_hand}
use Rattle.dine_site.specs.Standing.{CoreStep, CoreSteps, ForEachState, IsFreshFor, all_places}
use Rattle.dine_site_thread.specs.Ports.{SeenPort, SameLinks, IsFreshPort}
use Rattle.dine_site_thread.specs.private.PortSteps.{port_after_put, port_after_close, port_after_take}
use Rattle.dine_site_thread.specs.Doings.{HasActed}
use Rattle.dine_site_thread.specs.declared.manner.Manner.{Manner}
use Rattle.dine_site_thread.specs.private.Running.{SeenRun, RunsAt, IsNext, IsRunning, IsPutting, MayTakeNow}
use Rattle.dine_site_thread.proofs.shared.lists.Lists.{all_at}
use Rattle.dine_site_thread.proofs.shared.one_site.Letters.{runs-put, runs-closed, runs-taken, live_where_open}
use Rattle.dine_site_thread.proofs.one_site.Turns.{JournalsGrow, acted_more, acted_nothing, end_is_next}
use Rattle.dine_site_thread.proofs.shared.one_site.AtPlaces.{at-set, did_step, has-core, has-step, has-port}

module _ {Identity : Type 0} (plan : SeenPlan) (given : List (SeenPort Identity)) (run : SeenRun Identity) where
  -- ---- a letter goes out

  pub putting_within : (i : ℕ) (l : Letter) → IsPutting i l plan given run → i < length run.ports
  putting_within i l putting =
      let same = length-set putting.before.traffic i (record (traffic_at putting.before i) { put = (traffic_at putting.before i).put ++ l ∷ [] }) in
      omega (arith, putting.within, putting.has.stands.degree, putting.has.places, same)

  module _ (i : ℕ) (l : Letter) (putting : IsPutting i l plan given run) (port : SeenPort Identity) (at : slice_get run.ports i ≡ Some port) where
    unfoldable pub put_runs : (m : ℕ) → is_close l ≡ false → IsRunning plan given (record { manner = run.manner; core = run.core; ports = set run.ports i (port_after_put m l port); bell = run.bell; journal = run.journal })
    put_runs m other = record {
      state = with_put i l putting.before;
      has = has-port plan given run (with_put i l putting.before) i port (port_after_put m l port) putting.has at refl refl refl refl;
      lists = at-set (λ j. RunsAt) (λ j. RunsAt) putting.before (with_put i l putting.before) i _ refl putting.within run.ports (port_after_put m l port) putting.lists
          (runs-put (traffic_at putting.before i) port (putting.lists i port at) m l putting.open_place other) (λ j t p ne h. h);
      heard = putting.heard;
      did = putting.did;
    }

    -- the end is live, and has room
    pub put_live : port.is_live ≡ true
    put_live = live_where_open (traffic_at putting.before i) port (putting.lists i port at) putting.open_place

    pub put_room : ((plan : SeenPlan) (s : ℕ) (state : LocalState) (j : ℕ) → IsPlan plan → s < site_count plan → KeepsStreams plan s state → j < length state.traffic → length (traffic_at state j).put ≤ 2 * MAX_JOBS + 3)
        → length port.tx.letters < 2 ^ 61
    put_room few =
        let traffic = traffic_at putting.before i in
        let after_it : traffic_at (with_put i l putting.before) i ≡ record traffic { put = traffic.put ++ l ∷ [] } = get_or-set_same putting.before.traffic i (record traffic { put = traffic.put ++ l ∷ [] }) no_traffic putting.within in
        let within : i < length (with_put i l putting.before).traffic = omega (arith, slice_get_within run.ports i port at, putting.has.places, putting.has.stands.degree) in
        let bound : length (traffic_at (with_put i l putting.before) i).put ≤ 2 * MAX_JOBS + 3 = few plan run.core.site (with_put i l putting.before) i putting.has.is_plan putting.has.is_site putting.has.keeps within in
        let grown : length (traffic_at (with_put i l putting.before) i).put ≡ length traffic.put + 1 = ap (λ (t : Traffic). length t.put) after_it ∙ length-append traffic.put (l ∷ []) in
        omega (arith, bound, grown, ap (λ (xs : List Letter). length xs) (putting.lists i port at).puts)

  unfoldable pub close_runs : (m i : ℕ) → IsPutting i letter.Close plan given run → (port : SeenPort Identity) → slice_get run.ports i ≡ Some port
      → IsRunning plan given (record { manner = run.manner; core = run.core; ports = set run.ports i (port_after_close m port); bell = run.bell; journal = run.journal })
  close_runs m i putting port at = record {
    state = with_put i letter.Close putting.before;
    has = has-port plan given run (with_put i letter.Close putting.before) i port (port_after_close m port) putting.has at refl refl refl refl;
    lists = at-set (λ j. RunsAt) (λ j. RunsAt) putting.before (with_put i letter.Close putting.before) i _ refl putting.within run.ports (port_after_close m port) putting.lists
        (runs-closed (traffic_at putting.before i) port (putting.lists i port at) m) (λ j t p ne h. h);
    heard = putting.heard;
    did = putting.did;
  }

  -- ---- a letter comes in

  pub place_within : (running : IsRunning plan given run) (i : ℕ) → i < length run.core.places → i < length running.state.traffic
  place_within running i h = omega (arith, running.has.stands.degree)

  unfoldable pub take_runs : JournalsGrow → (m i : ℕ) (l : Letter) (core : SeenCore) (journal : List EventKind) → journal ≡ run.journal ++ event.Take i ∷ [] → i < length run.core.places → CoreSteps (Take i l) run.core core → MayTakeNow run.manner run.core → IsRunning plan given run → (port : SeenPort Identity) → slice_get run.ports i ≡ Some port
      → IsRunning plan given (record { manner = run.manner; core = core; ports = set run.ports i (port_after_take m l port); bell = run.bell; journal = journal })
  take_runs grows m i l core journal noted within steps next running port at = record {
    state = with_taken i l running.state;
    has = has-port plan given (record { manner = run.manner; core = core; ports = run.ports; bell = run.bell; journal = journal }) (with_taken i l running.state) i port (port_after_take m l port)
        (has-step plan given run running.state (Take i l) core journal running.has (steps plan running.state running.has.keeps running.has.stands) running.has.rests) at refl refl refl refl;
    lists = at-set (λ j. RunsAt) (λ j. RunsAt) running.state (with_taken i l running.state) i _ refl (place_within running i within) run.ports (port_after_take m l port) running.lists
        (runs-taken (traffic_at running.state i) port (running.lists i port at) m l) (λ j t p ne h. h);
    heard = running.heard;
    did = subst (λ (kinds : List EventKind). HasActed run.manner plan core.site kinds (with_taken i l running.state)) (sym noted)
        (did_step grows plan given run running (event.Take i) (Take i l) core false (λ j. Some l) refl refl (next plan running.state running.has.keeps running.has.stands) (steps plan running.state running.has.keeps running.has.stands));
  }

  pub take_room : ((plan : SeenPlan) (s : ℕ) (state : LocalState) (j : ℕ) → IsPlan plan → s < site_count plan → KeepsStreams plan s state → j < length state.traffic → length (traffic_at state j).taken ≤ 2 * MAX_JOBS + 3)
      → IsRunning plan given run → (i : ℕ) → i < length run.core.places → (port : SeenPort Identity) → slice_get run.ports i ≡ Some port → length port.rx.letters < 2 ^ 61
  take_room few running i within port at =
      let bound = few plan run.core.site running.state i running.has.is_plan running.has.is_site running.has.keeps (place_within running i within) in
      omega (arith, bound, ap (λ (xs : List Letter). length xs) (running.lists i port at).takes)

  -- the bell reported a number
  pub told_runs : (bell : SeenBell) → bell.refused ≡ false → IsRunning plan given run → IsRunning plan given (record { manner = run.manner; core = run.core; ports = run.ports; bell = bell; journal = run.journal })
  told_runs bell unheard running = record {
    state = running.state;
    has = record {
      is_plan = running.has.is_plan;
      is_site = running.has.is_site;
      keeps = running.has.keeps;
      stands = running.has.stands;
      rests = running.has.rests;
      count = running.has.count;
      places = running.has.places;
      same_links = running.has.same_links;
    };
    lists = running.lists;
    heard = unheard;
    did = running.did;
  }

  -- ---- no letter goes

  -- only the bell was heard
  unfoldable pub heard_runs : (bell : SeenBell) → bell.refused ≡ run.bell.refused → IsRunning plan given run → IsRunning plan given (record { manner = run.manner; core = run.core; ports = run.ports; bell = bell; journal = run.journal })
  heard_runs bell same running = record {
    state = running.state;
    has = record {
      is_plan = running.has.is_plan;
      is_site = running.has.is_site;
      keeps = running.has.keeps;
      stands = running.has.stands;
      rests = running.has.rests;
      count = running.has.count;
      places = running.has.places;
      same_links = running.has.same_links;
    };
    lists = running.lists;
    heard = same ∙ running.heard;
    did = running.did;
  }

  unfoldable pub hungry_runs : JournalsGrow → (core : SeenCore) (journal : List EventKind) → journal ≡ run.journal ++ event.Hungry ∷ [] → CoreSteps Hungry run.core core → IsNext (Some event.Hungry) run.core → IsRunning plan given run → IsRunning plan given (record { manner = run.manner; core = core; ports = run.ports; bell = run.bell; journal = journal })
  hungry_runs grows core journal noted steps next running = record {
    state = after plan run.core.site running.state Hungry;
    has = has-step plan given run running.state Hungry core journal running.has (steps plan running.state running.has.keeps running.has.stands) refl;
    lists = running.lists;
    heard = running.heard;
    did = subst (λ (kinds : List EventKind). HasActed run.manner plan core.site kinds (after plan run.core.site running.state Hungry)) (sym noted)
        (did_step grows plan given run running event.Hungry Hungry core false (λ j. None) refl refl (next plan running.state running.has.keeps running.has.stands) (steps plan running.state running.has.keeps running.has.stands));
  }

  unfoldable pub quit_runs : JournalsGrow → (core : SeenCore) (journal : List EventKind) → journal ≡ run.journal ++ event.Quit ∷ [] → CoreSteps Quit run.core core → IsNext (Some event.Quit) run.core → IsRunning plan given run → IsRunning plan given (record { manner = run.manner; core = core; ports = run.ports; bell = run.bell; journal = journal })
  quit_runs grows core journal noted steps next running = record {
    state = after plan run.core.site running.state Quit;
    has = has-step plan given run running.state Quit core journal running.has (steps plan running.state running.has.keeps running.has.stands) running.has.rests;
    lists = running.lists;
    heard = running.heard;
    did = subst (λ (kinds : List EventKind). HasActed run.manner plan core.site kinds (after plan run.core.site running.state Quit)) (sym noted)
        (did_step grows plan given run running event.Quit Quit core false (λ j. None) refl refl (next plan running.state running.has.keeps running.has.stands) (steps plan running.state running.has.keeps running.has.stands));
  }

  unfoldable pub eat_runs : JournalsGrow → (failed : Bool) (eating core : SeenCore) (forks : List SeenFork) (first journal : List EventKind) → first ≡ run.journal ++ event.Begin ∷ [] → journal ≡ first ++ event.End ∷ [] → CoreSteps Begin run.core eating
      → ForEachState run.core (λ plan state. forks ≡ forks_in_hand plan run.core.site (after plan run.core.site state Begin) (all_places state))
      → ForEachState eating (λ plan state. forks ≡ forks_in_hand plan eating.site state (all_places state) → CoreStep plan state (End failed) eating core)
      → IsNext (Some event.Begin) run.core → IsRunning plan given run → IsRunning plan given (record { manner = run.manner; core = core; ports = run.ports; bell = run.bell; journal = journal })
  eat_runs grows failed eating core forks first journal began_noted ended_noted begins in_hand ends next running =
      let state = after plan run.core.site running.state Begin in
      let began = begins plan running.state running.has.keeps running.has.stands in
      let hands = in_hand plan running.state running.has.keeps running.has.stands ∙ ap (λ (s : ℕ). forks_in_hand plan s state (all_places state)) (sym began.site) in
      let ended = ends plan state began.keeps began.stands hands in
      record {
        state = after plan eating.site state (End failed);
        has = has-core plan given run running.state (after plan eating.site state (End failed)) core journal running.has (ended.site ∙ began.site) ended.stands ended.keeps refl;
        lists = running.lists;
        heard = running.heard;
        did = subst (λ (s : ℕ). HasActed run.manner plan s journal (after plan eating.site state (End failed))) (sym ended.site)
            (subst (λ (kinds : List EventKind). HasActed run.manner plan eating.site kinds (after plan eating.site state (End failed))) (sym ended_noted)
            (acted_more grows run.manner plan eating.site first state event.End failed (λ j. None) (End failed)
            (subst (λ (s : ℕ). HasActed run.manner plan s first state) (sym began.site)
            (subst (λ (kinds : List EventKind). HasActed run.manner plan run.core.site kinds state) (sym began_noted)
            (acted_more grows run.manner plan run.core.site run.journal running.state event.Begin false (λ j. None) Begin running.did refl refl began.allowed.needs (next plan running.state running.has.keeps running.has.stands))))
            refl refl ended.allowed.needs (end_is_next plan eating.site state refl)));
      }

-- ---- the start

unfoldable pub start_runs : {Identity : Type 0} (manner : Manner) (plan : SeenPlan) (core : SeenCore) (ports : List (SeenPort Identity))
    → ((plan : SeenPlan) (s : ℕ) → IsPlan plan → s < site_count plan → KeepsStreams plan s (start_of plan s))
    → IsFreshFor plan core → length ports ≡ length core.places → All IsFreshPort ports → (bell : SeenBell) → bell.refused ≡ false → (journal : List EventKind) → journal ≡ [] → IsRunning plan ports (record { manner = manner; core = core; ports = ports; bell = bell; journal = journal })
start_runs {Identity} manner plan core ports starts fresh count unused bell unheard journal none_yet = record {
  state = start_of plan core.site;
  has = record {
    is_plan = fresh.is_plan;
    is_site = fresh.is_site;
    keeps = starts plan core.site fresh.is_plan fresh.is_site;
    stands = fresh.stands;
    rests = refl;
    count = refl;
    places = count;
    same_links = λ i old new was is. same i old new (sym was ∙ is);
  };
  lists = λ i port at. unused_runs i port (all_at IsFreshPort ports i port unused at);
  heard = unheard;
  did = acted_nothing manner plan core.site journal none_yet;
} where
  same : (i : ℕ) (old new : SeenPort Identity) → ◌≡◌ {A = Option (SeenPort Identity)} (Some old) (Some new) → SameLinks old new
  same i old new e = record { tx = cc; rx = cc; bell = cc; number = cc }

  nothing : (edges : List ℕ) (i : ℕ) → get_or (map (λ edge. no_traffic) edges) i no_traffic ≡ no_traffic
  nothing [] i = refl
  nothing (edge ∷ edges) zero = refl
  nothing (edge ∷ edges) (suc i) = nothing edges i

  unused_runs : (i : ℕ) (port : SeenPort Identity) → IsFreshPort port → RunsAt (traffic_at (start_of plan core.site) i) port
  unused_runs i port fresh_port = subst (λ (t : Traffic). RunsAt t port) (sym (nothing (edges_of plan core.site) i))
      (record { puts = fresh_port.nothing_put; takes = fresh_port.nothing_taken; live = fresh_port.live; rang = fresh_port.nothing_rung ∙ sym (ap length fresh_port.nothing_put); unrefused = fresh_port.unrefused })
