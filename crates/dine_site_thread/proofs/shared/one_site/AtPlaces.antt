-- What holds at each place, and of the state as a whole, when a letter is put or taken at one place.
use Rattle.std.proofs.Common.{◌≡◌, ℕ, ◌<◌, Bool, true, false, List, [], ◌∷◌, ◌++◌, length, map, set, get_or, Option, Some, None, option_map, sym, ◌∙◌, ap, subst, inl, inr, length-set}
use Rattle.std.specs.List.{slice_get}
use Rattle.std.proofs.lemmas.Option.{get_or_from_slice_get, slice_get-map}
use Rattle.std.proofs.lemmas.List.{get_or-set_same, get_or-set_other, set-get_or}
use Rattle.std.proofs.lemmas.Bool.{and_parts, not-true, ltb-true}
use Rattle.dine_graph.specs.Plan.{SeenPlan, edges_of}
use Rattle.dine_rules.specs.declared.events.EventKind.{EventKind}
use Rattle.dine_rules.specs.declared.letters.Letter.{Letter}
use Rattle.dine_rules.specs.Letters.{has_close}
use Rattle.dine_rules.specs.Local.{LocalState, Traffic, no_traffic, traffic_at, is_eating}
use Rattle.dine_rules.specs.Steps.{Step, Give, Ask, Done, Close, Break, may, after, step_by, with_put}
use Rattle.dine_site.specs.NextEvent.{next_event}
use Rattle.dine_site_thread.specs.Doings.{HasActed, IsInTurn, event_of, own_event}
use Rattle.dine_rules.specs.Streams.{KeepsStreams}
use Rattle.dine_site.specs.Core.{SeenCore, Refines}
use Rattle.dine_site.specs.Standing.{CoreStep, CorePuts}
use Rattle.dine_site_thread.specs.Endings.{links_at, nothing_on_links, on_links}
use Rattle.dine_site_thread.specs.Ports.{SeenPort, SameLinks}
use Rattle.dine_site_thread.specs.private.Running.{SeenRun, AtEach, HasState, IsNext, IsRunning, IsPutting}
use Rattle.dine_site_thread.proofs.shared.lists.Lists.{get-set, set-get}
use Rattle.dine_site_thread.proofs.one_site.Turns.{JournalsGrow, acted_more, own_turn}

along : {A B C : Type 0} (Q : A → B → C → Type 0) (a a' : A) (b b' : B) (c c' : C) → a ≡ a' → b ≡ b' → c ≡ c' → Q a' b' c' → Q a b c
along Q a a' b b' c c' p q r h = subst (λ x. Q x b c) (sym p) (subst (λ y. Q a' y c) (sym q) (subst (λ z. Q a' b' z) (sym r) h))

-- ---- what the links of a place have

-- the links of a place where there is a port
pub links_there : {Identity : Type 0} (ports : List (SeenPort Identity)) (i : ℕ) (port : SeenPort Identity) → slice_get ports i ≡ Some port → links_at ports i ≡ on_links port
links_there ports i port at = get_or_from_slice_get (map on_links ports) i (on_links port) nothing_on_links (slice_get-map on_links ports i ∙ ap (option_map on_links) at)

-- ---- one place changes

module _ {Identity : Type 0} (P Q : ℕ → Traffic → SeenPort Identity → Type 0) (state new : LocalState) (i : ℕ) (traffic : Traffic) (is : new.traffic ≡ set state.traffic i traffic) (within : i < length state.traffic) where
  -- the port too
  pub at-set : (ports : List (SeenPort Identity)) (port : SeenPort Identity) → AtEach P state ports → Q i traffic port
      → ((j : ℕ) (t : Traffic) (p : SeenPort Identity) → (j ≡ i → ⊥) → P j t p → Q j t p) → AtEach Q new (set ports i port)
  at-set ports port each here others j p h = elim (get-set ports i port j p h) [
    | inl w ↦
        let there : traffic_at new j ≡ traffic = ap (λ (xs : List Traffic). get_or xs j no_traffic) is ∙ ap (λ (n : ℕ). get_or (set state.traffic i traffic) n no_traffic) w.0 ∙ get_or-set_same state.traffic i traffic no_traffic within in
        along Q j i (traffic_at new j) traffic p port w.0 there w.1 here
    | inr w ↦
        let there : traffic_at new j ≡ traffic_at state j = ap (λ (xs : List Traffic). get_or xs j no_traffic) is ∙ get_or-set_other state.traffic i j traffic no_traffic w.0 in
        subst (λ (t : Traffic). Q j t p) (sym there) (others j (traffic_at state j) p w.0 (each j p w.1))
  ]

  -- the port is as it was
  pub at-keep : (ports : List (SeenPort Identity)) (port : SeenPort Identity) → slice_get ports i ≡ Some port → AtEach P state ports → Q i traffic port
      → ((j : ℕ) (t : Traffic) (p : SeenPort Identity) → (j ≡ i → ⊥) → P j t p → Q j t p) → AtEach Q new ports
  at-keep ports port at each here others = subst (λ (xs : List (SeenPort Identity)). AtEach Q new xs) (set-get ports i port at) (at-set ports port each here others)

-- the state is as it was
pub at-port : {Identity : Type 0} (P Q : ℕ → Traffic → SeenPort Identity → Type 0) (state : LocalState) (i : ℕ) → i < length state.traffic
    → (ports : List (SeenPort Identity)) (port : SeenPort Identity) → AtEach P state ports → Q i (traffic_at state i) port
    → ((j : ℕ) (t : Traffic) (p : SeenPort Identity) → (j ≡ i → ⊥) → P j t p → Q j t p) → AtEach Q state (set ports i port)
at-port P Q state i within ports port = at-set P Q state state i (traffic_at state i) (sym (set-get_or state.traffic i no_traffic)) within ports port

-- ---- the state as a whole

module _ {Identity : Type 0} (plan : SeenPlan) (given : List (SeenPort Identity)) where
  -- the core stands for another state
  pub has-core : (run : SeenRun Identity) (state new : LocalState) (core : SeenCore) (journal : List EventKind) → HasState plan given run state → core.site ≡ run.core.site → Refines plan new core → KeepsStreams plan core.site new
      → is_eating new.phase ≡ false → HasState plan given (record { manner = run.manner; core = core; ports = run.ports; bell = run.bell; journal = journal }) new
  has-core run state new core journal has site stands keeps rests = record {
    is_plan = has.is_plan;
    is_site = stands.is_site;
    keeps = keeps;
    stands = stands;
    rests = rests;
    count = has.count;
    places = has.places ∙ has.stands.degree ∙ has.keeps.every_place ∙ ap (λ (s : ℕ). length (edges_of plan s)) (sym site) ∙ sym keeps.every_place ∙ sym stands.degree;
    same_links = has.same_links;
  }

  -- the core did a step
  pub has-step : (run : SeenRun Identity) (state : LocalState) (step : Step) (core : SeenCore) (journal : List EventKind) → HasState plan given run state → CoreStep plan state step run.core core
      → is_eating (after plan run.core.site state step).phase ≡ false → HasState plan given (record { manner = run.manner; core = core; ports = run.ports; bell = run.bell; journal = journal }) (after plan run.core.site state step)
  has-step run state step core journal has did rests = has-core run state (after plan run.core.site state step) core journal has did.site did.stands did.keeps rests

  -- a port changed, and has its links still
  pub has-port : (run : SeenRun Identity) (state : LocalState) (i : ℕ) (old new : SeenPort Identity) → HasState plan given run state → slice_get run.ports i ≡ Some old
      → new.tx.link ≡ old.tx.link → new.rx.link ≡ old.rx.link → new.ringer.bell ≡ old.ringer.bell → new.ringer.number ≡ old.ringer.number → HasState plan given (record { manner = run.manner; core = run.core; ports = set run.ports i new; bell = run.bell; journal = run.journal }) state
  has-port run state i old new has at tx rx bell number = record {
    is_plan = has.is_plan;
    is_site = has.is_site;
    keeps = has.keeps;
    stands = has.stands;
    rests = has.rests;
    count = length-set run.ports i new ∙ has.count;
    places = length-set run.ports i new ∙ has.places;
    same_links = λ j first now was is. elim (get-set run.ports i new j now is) [
      | inl w ↦
          let before : SameLinks first old = has.same_links i first old (ap (λ (n : ℕ). slice_get given n) (sym w.0) ∙ was) at in
          record { tx = ap (λ (p : SeenPort Identity). p.tx.link) w.1 ∙ tx ∙ before.tx; rx = ap (λ (p : SeenPort Identity). p.rx.link) w.1 ∙ rx ∙ before.rx; bell = ap (λ (p : SeenPort Identity). p.ringer.bell) w.1 ∙ bell ∙ before.bell; number = ap (λ (p : SeenPort Identity). p.ringer.number) w.1 ∙ number ∙ before.number }
      | inr w ↦ has.same_links j first now was w.1
    ];
  }

-- ---- the core puts a letter

-- a step that needs the place open
abbrev pub Opens : ℕ → Step → Type 0
Opens i step = (plan : SeenPlan) (s : ℕ) (state : LocalState) → may plan s state step ≡ true → (i < length state.traffic) × (has_close (traffic_at state i).put ≡ false)

pub opens-give : (i : ℕ) → Opens i (Give i)
opens-give i plan s state h =
    let parts = and_parts _ _ h in
    (ltb-true i (length state.traffic) parts.0, not-true (has_close (traffic_at state i).put) (and_parts _ _ (and_parts _ _ parts.1).1).1)

pub opens-ask : (i : ℕ) → Opens i (Ask i)
opens-ask i plan s state h =
    let parts = and_parts _ _ h in
    (ltb-true i (length state.traffic) parts.0, not-true (has_close (traffic_at state i).put) (and_parts _ _ parts.1).1)

pub opens-done : (i : ℕ) → Opens i (Done i)
opens-done i plan s state h =
    let parts = and_parts _ _ h in
    (ltb-true i (length state.traffic) parts.0, not-true (has_close (traffic_at state i).put) (and_parts _ _ (and_parts _ _ parts.1).1).1)

pub opens-close : (i : ℕ) → Opens i (Close i)
opens-close i plan s state h =
    let parts = and_parts _ _ h in
    (ltb-true i (length state.traffic) parts.0, not-true (has_close (traffic_at state i).put) (and_parts _ _ parts.1).1)

pub opens-break : (i : ℕ) → Opens i (Break i)
opens-break i plan s state h =
    let parts = and_parts _ _ h in
    (ltb-true i (length state.traffic) parts.0, not-true (has_close (traffic_at state i).put) (and_parts _ _ parts.1).1)

-- an event more of the journal
pub did_step : {Identity : Type 0} (grows : JournalsGrow) (plan : SeenPlan) (given : List (SeenPort Identity)) (run : SeenRun Identity) (running : IsRunning plan given run) (kind : EventKind) (step : Step) (core : SeenCore)
    (failed : Bool) (next : ℕ → Option Letter) → step_by failed next kind ≡ Some step → event_of step ≡ Some kind → IsInTurn run.manner (next_event plan run.core.site running.state) step → CoreStep plan running.state step run.core core
    → HasActed run.manner plan core.site (run.journal ++ kind ∷ []) (after plan run.core.site running.state step)
did_step grows plan given run running kind step core failed next is_step is_event turn did =
    subst (λ (s : ℕ). HasActed run.manner plan s (run.journal ++ kind ∷ []) (after plan run.core.site running.state step)) (sym did.site)
    (acted_more grows run.manner plan run.core.site run.journal running.state kind failed next step running.did is_step is_event did.allowed.needs turn)

module _ {Identity : Type 0} (plan : SeenPlan) (given : List (SeenPort Identity)) (i : ℕ) (step : Step) (l : Letter) (opens : Opens i step) where
  -- the state once the core put the letter
  pub has-put : (run : SeenRun Identity) (core : SeenCore) (journal : List EventKind) (state : LocalState) → CorePuts i step run.core core l → HasState plan given run state
      → HasState plan given (record { manner = run.manner; core = core; ports = run.ports; bell = run.bell; journal = journal }) (with_put i l state)
  has-put run core journal state puts has =
      let did = puts plan state has.keeps has.stands in
      subst (λ (new : LocalState). HasState plan given (record { manner = run.manner; core = core; ports = run.ports; bell = run.bell; journal = journal }) new) did.0
      (has-step plan given run state step core journal has did.1 (ap (λ (new : LocalState). is_eating new.phase) did.0 ∙ has.rests))

  unfoldable pub putting : JournalsGrow → (kind : EventKind) → step_by false (λ j. None) kind ≡ Some step → event_of step ≡ Some kind → (run : SeenRun Identity) (core : SeenCore) (journal : List EventKind) → journal ≡ run.journal ++ kind ∷ [] → CorePuts i step run.core core l → IsNext (own_event step) run.core → IsRunning plan given run
      → IsPutting i l plan given (record { manner = run.manner; core = core; ports = run.ports; bell = run.bell; journal = journal })
  putting grows kind is_step is_event run core journal noted puts next running =
      let did = puts plan running.state running.has.keeps running.has.stands in
      let room = opens plan run.core.site running.state did.1.allowed.needs in
      record {
        before = running.state;
        within = room.0;
        open_place = room.1;
        has = has-put run core journal running.state puts running.has;
        lists = running.lists;
        heard = running.heard;
        did = subst (λ (kinds : List EventKind). HasActed run.manner plan core.site kinds (with_put i l running.state)) (sym noted)
            (subst (λ (new : LocalState). HasActed run.manner plan core.site (run.journal ++ kind ∷ []) new) did.0 (did_step grows plan given run running kind step core false (λ j. None) is_step is_event (own_turn run.manner _ step (next plan running.state running.has.keeps running.has.stands)) did.1));
      }
