-- A site stops: each fault leaves it with what a stop says, and breaking off keeps that.
use Rattle.std.proofs.Common.{◌≡◌, ◌⊎◌, ℕ, ◌+◌, ◌*◌, ◌<◌, ◌≤◌, ◌^◌, ◌==◌, Bool, true, false, cond, if◌then◌else◌, List, [], ◌∷◌, ◌++◌, length, map, set, get_or, Option, Some, None, refl, sym, ◌∙◌, ap, subst, inl, inr, arith, length-append, length-set}
use Rattle.std.specs.List.{slice_get}
use Rattle.std.proofs.lemmas.List.{get_or-set_same, get_or-set_other, map-set, map_push}
use Rattle.std.proofs.lemmas.Bool.{cases_eq, eq-eqb, false≢true, ne_eqb, true≢false}
use Rattle.std.proofs.lemmas.Option.{none-some, same_Some}
use Rattle.dine_token.specs.declared.limits.TheConstants.{MAX_JOBS}
use Rattle.dine_graph.specs.Plan.{SeenPlan, IsPlan, site_count}
use Rattle.dine_rules.specs.declared.breach.Breach.{Breach}
use Rattle.dine_rules.specs.declared.events.EventKind.{EventKind}
use Rattle.dine_rules.specs.declared.letters.Letter.{Letter}
use Rattle.dine_rules.specs.declared.letters.Letter.TheVariants as letter
use Rattle.dine_rules.specs.Letters.{has_close, has_done, forks_in, requests_in}
use Rattle.dine_rules.specs.Breach.{first_breach}
use Rattle.dine_rules.specs.Local.{LocalState, Traffic, no_traffic, traffic_at}
use Rattle.dine_rules.specs.StepLists.{LeadTo}
use Rattle.dine_rules.specs.Steps.{Step, Break, may, with_put}
use Rattle.dine_site_thread.specs.declared.manner.Manner.{Manner}
use Rattle.dine_site_thread.specs.Doings.{HasActed, HasDone}
use Rattle.dine_rules.specs.Streams.{KeepsStreams}
use Rattle.dine_link.specs.Bells.{SeenBell}
use Rattle.dine_link.specs.Closing.{is_close}
use Rattle.dine_site_thread.specs.declared.port.Closed.{Closed}
use Rattle.dine_site_thread.specs.declared.port.Closed.TheVariants.{Heard, Refused, Unheard}
use Rattle.dine_site_thread.proofs.shared.lists.Lists.{get-set_other, get-set_same}
use Rattle.dine_site.specs.Core.{SeenCore}
use Rattle.dine_site.specs.Standing.{CoreStep, CorePuts, ReportsBreach}
use Rattle.dine_site_thread.specs.declared.site_end.SiteFault.{SiteFault}
use Rattle.dine_site_thread.specs.declared.site_end.SiteFault.TheVariants as fault
use Rattle.dine_site_thread.specs.declared.site_end.Stray.{Stray}
use Rattle.dine_site_thread.specs.Ports.{BrokeOffUnheard, SameLinks, SeenPort}
use Rattle.dine_site_thread.specs.private.PortSteps.{SendsClose, port_after_unheard_close, port_after_refusal, port_after_take, port_after_refused_take}
use Rattle.dine_site_thread.specs.Endings.{IsBreached, IsLost, OnLinks, breached_at, links_at, nothing_on_links, on_links, refused_at}
use Rattle.dine_site_thread.specs.SiteEnds.{HasBellRefused}
use Rattle.dine_site_thread.specs.private.Running.{AtEach, SeenRun, HasState, RunsAt, StopsAt, IsRunning, IsPutting, IsStopped}
use Rattle.dine_site_thread.proofs.shared.one_site.Letters.{puts_fit-shorter, stops-as_it_was, stops-refused, stops-unclosed, stops-untaken, stops-breached, stops-closed, stops-close_refused, stops-close_unheard, forks_in-closed, requests_in-closed, has_done-closed}
use Rattle.dine_site_thread.proofs.one_site.Turns.{led_more}
use Rattle.dine_site_thread.proofs.one_site.Closes.{no_close_event}
use Rattle.dine_site_thread.proofs.shared.one_site.AtPlaces.{at-set, at-port, has-port, has-put, links_there, opens-break}

-- what the letter of a stray is, at its place and at another
here : (i : ℕ) (l : Letter) → (if i == i then Some l else None) ≡ Some l
here i l = ap (λ (b : Bool). cond b (Some l) None) (eq-eqb i i refl)

elsewhere : (i j : ℕ) (l : Letter) → (j ≡ i → ⊥) → (if i == j then Some l else None) ≡ None
elsewhere i j l ne = ap (λ (b : Bool). cond b (Some l) None) (ne_eqb i j (λ e. ne (sym e)))

-- a breach is known by the letters taken, and by how many Forks and Requests and whether Done are among those put
module _ (plan : SeenPlan) (s : ℕ) (old new : LocalState) (link : ℕ) (ate : new.ate ≡ old.ate) (taken : (traffic_at new link).taken ≡ (traffic_at old link).taken)
    (forks : forks_in (traffic_at new link).put ≡ forks_in (traffic_at old link).put) (requests : requests_in (traffic_at new link).put ≡ requests_in (traffic_at old link).put)
    (done : has_done (traffic_at new link).put ≡ has_done (traffic_at old link).put) where
  same_breach : (l : Letter) → first_breach plan s new link l ≡ first_breach plan s old link l
  same_breach (letter.Fork fork) = simp (ate, taken, forks, requests)
  same_breach (letter.Request edge) = simp (ate, taken, forks, requests)
  same_breach letter.Done = simp (ate, taken, forks)
  same_breach letter.Close = simp (taken, done)

-- so Close that is put changes no breach
closing_breach : (plan : SeenPlan) (s : ℕ) (state : LocalState) (i : ℕ) → i < length state.traffic → (link : ℕ) (l : Letter)
    → first_breach plan s (with_put i letter.Close state) link l ≡ first_breach plan s state link l
closing_breach plan s state i within link l = elim (cases_eq link i) [
  | inl same ↦
      let t = traffic_at state i in
      let there : traffic_at (with_put i letter.Close state) link ≡ record t { put = t.put ++ letter.Close ∷ [] } =
      ap (λ (n : ℕ). traffic_at (with_put i letter.Close state) n) same ∙ get_or-set_same state.traffic i (record t { put = t.put ++ letter.Close ∷ [] }) no_traffic within in
      let was : t ≡ traffic_at state link = ap (traffic_at state) (sym same) in
      same_breach plan s state (with_put i letter.Close state) link refl
      (ap (λ (u : Traffic). u.taken) there ∙ ap (λ (u : Traffic). u.taken) was)
      (ap (λ (u : Traffic). forks_in u.put) there ∙ forks_in-closed t.put ∙ ap (λ (u : Traffic). forks_in u.put) was)
      (ap (λ (u : Traffic). requests_in u.put) there ∙ requests_in-closed t.put ∙ ap (λ (u : Traffic). requests_in u.put) was)
      (ap (λ (u : Traffic). has_done u.put) there ∙ has_done-closed t.put ∙ ap (λ (u : Traffic). has_done u.put) was) l
  | inr ne ↦
      let t = traffic_at state i in
      let there : traffic_at (with_put i letter.Close state) link ≡ traffic_at state link = get_or-set_other state.traffic i link (record t { put = t.put ++ letter.Close ∷ [] }) no_traffic ne in
      same_breach plan s state (with_put i letter.Close state) link refl
      (ap (λ (u : Traffic). u.taken) there) (ap (λ (u : Traffic). forks_in u.put) there) (ap (λ (u : Traffic). requests_in u.put) there) (ap (λ (u : Traffic). has_done u.put) there) l
]

-- what the journal led to, with no Close of a way out yet
pub just_did : {manner : Manner} {plan : SeenPlan} {s : ℕ} {journal : List EventKind} {state : LocalState} → HasActed manner plan s journal state → HasDone manner plan s journal state
just_did {state = state} did = record { before = state; acted = did; places = []; broke_off = refl }

-- one Close more of the way out
one_more : (plan : SeenPlan) (s : ℕ) (places : List ℕ) (before state : LocalState) (i : ℕ) → LeadTo plan s before (map Break places) state → may plan s state (Break i) ≡ true
    → LeadTo plan s before (map Break (places ++ i ∷ [])) (with_put i letter.Close state)
one_more plan s places before state i led needs =
    subst (λ (steps : List Step). LeadTo plan s before steps (with_put i letter.Close state)) (sym (map_push Break places i)) (led_more plan s (map Break places) before state (Break i) led needs)

-- a letter that is put adds no place
grown_place : (state : LocalState) (i : ℕ) (l : Letter) → length (with_put i l state).traffic ≡ length state.traffic
grown_place state i l = length-set state.traffic i (record (traffic_at state i) { put = (traffic_at state i).put ++ l ∷ [] })

-- a stop with this cause and this journal, of a site of this degree, reports the refused ring of the port at place i
abbrev ReportsRing : {Identity : Type 0} → SiteFault → ℕ → List EventKind → ℕ → SeenPort Identity → Type 0
ReportsRing cause degree journal i port = (cause ≡ fault.LostBell degree) ⊎ BrokeOffUnheard i journal port

-- the links of a place whose port changed, and of another
module _ {Identity : Type 0} (ports : List (SeenPort Identity)) (i : ℕ) (old new : SeenPort Identity) (at : slice_get ports i ≡ Some old) where
  new_links : links_at (set ports i new) i ≡ on_links new
  new_links = links_there (set ports i new) i new (get-set_same ports i old new at)

  other_links : (j : ℕ) → (j ≡ i → ⊥) → links_at (set ports i new) j ≡ links_at ports j
  other_links j ne = ap (λ (links : List OnLinks). get_or links j nothing_on_links) (map-set on_links ports i new) ∙ get_or-set_other (map on_links ports) i j (on_links new) nothing_on_links ne

  -- a refusal is still reported, if it is reported of the port that changed
  still_reported : (refused : SeenPort Identity → Bool) (P : ℕ → SeenPort Identity → Type 0) → ((j : ℕ) (port : SeenPort Identity) → slice_get ports j ≡ Some port → refused port ≡ true → P j port) → (refused new ≡ true → P i new)
      → (j : ℕ) (port : SeenPort Identity) → slice_get (set ports i new) j ≡ Some port → refused port ≡ true → P j port
  still_reported refused P reported here j port there r = elim (cases_eq j i) [
    | inl same ↦
        let is : port ≡ new = same_Some port new (sym there ∙ ap (λ (n : ℕ). slice_get (set ports i new) n) same ∙ get-set_same ports i old new at) in
        subst (λ (n : ℕ). P n port) (sym same) (subst (P i) (sym is) (here (ap refused (sym is) ∙ r)))
    | inr ne ↦ reported j port (sym (get-set_other ports i j new (λ e. ne (sym e))) ∙ there) r
  ]

  takes_reported : (P : ℕ → Type 0) → ((j : ℕ) (port : SeenPort Identity) → slice_get ports j ≡ Some port → port.rx.refused ≡ true → P j) → (new.rx.refused ≡ true → P i)
      → (j : ℕ) (port : SeenPort Identity) → slice_get (set ports i new) j ≡ Some port → port.rx.refused ≡ true → P j
  takes_reported P = still_reported (λ port. port.rx.refused) (λ j port. P j)

  rings_reported : (P : ℕ → SeenPort Identity → Type 0) → ((j : ℕ) (port : SeenPort Identity) → slice_get ports j ≡ Some port → port.ringer.refused ≡ true → P j port) → (new.ringer.refused ≡ true → P i new)
      → (j : ℕ) (port : SeenPort Identity) → slice_get (set ports i new) j ≡ Some port → port.ringer.refused ≡ true → P j port
  rings_reported = still_reported (λ port. port.ringer.refused)

-- while a site runs no take was refused
quiet_takes : {Identity : Type 0} (state : LocalState) (ports : List (SeenPort Identity)) (P : ℕ → Type 0) → AtEach (λ i. RunsAt) state ports → (i : ℕ) (port : SeenPort Identity) → slice_get ports i ≡ Some port → port.rx.refused ≡ true → P i
quiet_takes state ports P lists i port at refused = absurd (false≢true (sym (lists i port at).unrefused.take ∙ refused))

-- nor a ring
quiet_rings : {Identity : Type 0} (state : LocalState) (ports : List (SeenPort Identity)) (P : ℕ → SeenPort Identity → Type 0) → AtEach (λ i. RunsAt) state ports → (i : ℕ) (port : SeenPort Identity) → slice_get ports i ≡ Some port → port.ringer.refused ≡ true → P i port
quiet_rings state ports P lists i port at refused = absurd (false≢true (sym (lists i port at).unrefused.ring ∙ refused))

-- what a port refused it has refused still
record StillRefused {Identity : Type 0} (old new : SeenPort Identity) : Type 0 where
  pub put : old.tx.refused ≡ true → new.tx.refused ≡ true
  pub take : new.rx.refused ≡ old.rx.refused
  pub ring : old.ringer.refused ≡ true → new.ringer.refused ≡ true

module _ {Identity : Type 0} (ports : List (SeenPort Identity)) (i : ℕ) (old new : SeenPort Identity) (at : slice_get ports i ≡ Some old) (keeps : StillRefused old new) where
  lost_still : {places : ℕ} (stray : Option Stray) (link : ℕ) → IsLost places (links_at ports) stray link → IsLost places (links_at (set ports i new)) stray link
  lost_still stray link lost = record {
    within = lost.within;
    refused = elim (cases_eq link i) [
      | inl same ↦
          let was : links_at ports link ≡ on_links old = ap (links_at ports) same ∙ links_there ports i old at in
          let is : links_at (set ports i new) link ≡ on_links new = ap (links_at (set ports i new)) same ∙ new_links ports i old new at in
          elim (lost.refused) [
            | inl put ↦ inl (ap (λ (l : OnLinks). l.put_refused) is ∙ keeps.put (ap (λ (l : OnLinks). l.put_refused) (sym was) ∙ put))
            | inr take ↦ inr (ap (λ (l : OnLinks). l.take_refused) is ∙ keeps.take ∙ ap (λ (l : OnLinks). l.take_refused) (sym was) ∙ take)
          ]
      | inr ne ↦
          let is : links_at (set ports i new) link ≡ links_at ports link = other_links ports i old new at link ne in
          elim (lost.refused) [
            | inl put ↦ inl (ap (λ (l : OnLinks). l.put_refused) is ∙ put)
            | inr take ↦ inr (ap (λ (l : OnLinks). l.take_refused) is ∙ take)
          ]
    ];
    to_place = lost.to_place;
    no_close = lost.no_close;
  }

  bell_still : (bell : SeenBell) → HasBellRefused ports bell → HasBellRefused (set ports i new) bell
  bell_still bell (inl own) = inl own
  bell_still bell (inr (j, port, there, refused)) = elim (cases_eq j i) [
    | inl same ↦
        let is : port ≡ old = same_Some port old (sym there ∙ ap (λ (n : ℕ). slice_get ports n) same ∙ at) in
        inr (i, new, get-set_same ports i old new at, keeps.ring (ap (λ (p : SeenPort Identity). p.ringer.refused) (sym is) ∙ refused))
    | inr ne ↦ inr (j, port, get-set_other ports i j new (λ e. ne (sym e)) ∙ there, refused)
  ]

module _ {Identity : Type 0} (plan : SeenPlan) (given : List (SeenPort Identity)) (run : SeenRun Identity) where
  -- the wait for the bell was refused
  pub bell_stops : (bell : SeenBell) → bell.refused ≡ true → IsRunning plan given run
      → IsStopped None (fault.LostBell (length run.core.places)) plan given (record { manner = run.manner; core = run.core; ports = run.ports; bell = bell; journal = run.journal })
  bell_stops bell refused running = record {
    state = running.state;
    has = same_state_of running.has;
    lists = λ i port at. stops-as_it_was (traffic_at running.state i) port (running.lists i port at);
    did = just_did running.did;
    breach = λ link breach e. absurd (cc);
    lost = λ link e. absurd (cc);
    lost_bell = λ degree e. (let same : length run.core.places ≡ degree = cc in (omega (arith, same, running.has.stands.degree), inl refused));
    take_reported = quiet_takes running.state run.ports (λ j. fault.LostBell (length run.core.places) ≡ fault.Lost j) running.lists;
    wait_reported = λ e. ap fault.LostBell running.has.stands.degree;
    ring_reported = quiet_rings running.state run.ports (ReportsRing (fault.LostBell (length run.core.places)) (length running.state.traffic) run.journal) running.lists;
    no_stray = λ e. refl;
    started = λ e. absurd (cc);
  } where
    same_state_of : HasState plan given run running.state → HasState plan given (record { manner = run.manner; core = run.core; ports = run.ports; bell = bell; journal = run.journal }) running.state
    same_state_of has = record { is_plan = has.is_plan; is_site = has.is_site; keeps = has.keeps; stands = has.stands; rests = has.rests; count = has.count; places = has.places; same_links = has.same_links }

  -- memory was refused
  pub memory_stop : IsRunning plan given run → IsStopped None fault.Memory plan given run
  memory_stop running = record {
    state = running.state;
    has = running.has;
    lists = λ i port at. stops-as_it_was (traffic_at running.state i) port (running.lists i port at);
    did = just_did running.did;
    breach = λ link breach e. absurd (cc);
    lost = λ link e. absurd (cc);
    lost_bell = λ degree e. absurd (cc);
    take_reported = quiet_takes running.state run.ports (λ j. fault.Memory ≡ fault.Lost j) running.lists;
    wait_reported = λ e. absurd (false≢true (sym running.heard ∙ e));
    ring_reported = quiet_rings running.state run.ports (ReportsRing fault.Memory (length running.state.traffic) run.journal) running.lists;
    no_stray = λ e. refl;
    started = λ e. absurd (cc);
  }

  -- the link refused to give a letter
  pub take_stops : (i : ℕ) → i < length run.core.places → IsRunning plan given run → (port : SeenPort Identity) → slice_get run.ports i ≡ Some port
      → IsStopped None (fault.Lost i) plan given (record { manner = run.manner; core = run.core; ports = set run.ports i (port_after_refused_take port); bell = run.bell; journal = run.journal })
  take_stops i within running port at =
      let inside : i < length running.state.traffic = omega (arith, within, running.has.stands.degree) in
      record {
        state = running.state;
        has = has-port plan given run running.state i port (port_after_refused_take port) running.has at refl refl refl refl;
        lists = at-port (λ j. RunsAt) (λ j. StopsAt None None) running.state i inside run.ports (port_after_refused_take port) running.lists
            (stops-untaken (traffic_at running.state i) port (running.lists i port at)) (λ j t p ne h. stops-as_it_was t p h);
        did = just_did running.did;
        breach = λ link breach e. absurd (cc);
        lost = λ link e.
            let same : i ≡ link = cc in
            record {
              within = omega (arith, same, inside);
              refused = inr (ap (λ (n : ℕ). (links_at (set run.ports i (port_after_refused_take port)) n).take_refused) (sym same) ∙ ap (λ (l : OnLinks). l.take_refused) (new_links run.ports i port (port_after_refused_take port) at));
              to_place = λ back is. absurd (none-some back is);
              no_close = λ back is. absurd (none-some back is);
            };
        lost_bell = λ degree e. absurd (cc);
        take_reported = takes_reported run.ports i port (port_after_refused_take port) at (λ j. fault.Lost i ≡ fault.Lost j) (quiet_takes running.state run.ports (λ j. fault.Lost i ≡ fault.Lost j) running.lists) (λ e. refl);
        wait_reported = λ e. absurd (false≢true (sym running.heard ∙ e));
        ring_reported = rings_reported run.ports i port (port_after_refused_take port) at (ReportsRing (fault.Lost i) (length running.state.traffic) run.journal) (quiet_rings running.state run.ports (ReportsRing (fault.Lost i) (length running.state.traffic) run.journal) running.lists)
            (λ e. absurd (false≢true (sym (running.lists i port at).unrefused.ring ∙ e)));
        no_stray = λ e. refl;
        started = λ e. absurd (cc);
      }

  -- the link refused a letter
  pub put_stops : (i : ℕ) (l : Letter) → is_close l ≡ false → IsPutting i l plan given run → (port : SeenPort Identity) → slice_get run.ports i ≡ Some port
      → IsStopped (Some (record { link = i; letter = l })) (fault.Lost i) plan given (record { manner = run.manner; core = run.core; ports = set run.ports i (port_after_refusal port); bell = run.bell; journal = run.journal })
  put_stops i l other putting port at =
      let inside : i < length (with_put i l putting.before).traffic = omega (arith, putting.within, grown_place putting.before i l) in
      record {
        state = with_put i l putting.before;
        has = has-port plan given run (with_put i l putting.before) i port (port_after_refusal port) putting.has at refl refl refl refl;
        lists = at-set (λ j. RunsAt) (λ j. StopsAt (if i == j then Some l else None) None) putting.before (with_put i l putting.before) i _ refl putting.within run.ports (port_after_refusal port) putting.lists
            (subst (λ (o : Option Letter). StopsAt o None (record (traffic_at putting.before i) { put = (traffic_at putting.before i).put ++ l ∷ [] }) (port_after_refusal port)) (sym (here i l))
            (stops-refused (traffic_at putting.before i) port (putting.lists i port at) l putting.open_place))
            (λ j t p ne h. subst (λ (o : Option Letter). StopsAt o None t p) (sym (elsewhere i j l ne)) (stops-as_it_was t p h));
        did = just_did putting.did;
        breach = λ link breach e. absurd (cc);
        lost = λ link e.
            let same : i ≡ link = cc in
            record {
              within = omega (arith, same, inside);
              refused = inl (ap (λ (n : ℕ). (links_at (set run.ports i (port_after_refusal port)) n).put_refused) (sym same) ∙ ap (λ (l : OnLinks). l.put_refused) (new_links run.ports i port (port_after_refusal port) at));
              to_place = λ back is. ap (λ (b : Stray). b.link) (the_stray back is) ∙ same;
              no_close = λ back is. ap (λ (b : Stray). is_close b.letter) (the_stray back is) ∙ other;
            };
        lost_bell = λ degree e. absurd (cc);
        take_reported = takes_reported run.ports i port (port_after_refusal port) at (λ j. fault.Lost i ≡ fault.Lost j) (quiet_takes putting.before run.ports (λ j. fault.Lost i ≡ fault.Lost j) putting.lists) (λ e. refl);
        wait_reported = λ e. absurd (false≢true (sym putting.heard ∙ e));
        ring_reported = rings_reported run.ports i port (port_after_refusal port) at (ReportsRing (fault.Lost i) (length (with_put i l putting.before).traffic) run.journal) (quiet_rings putting.before run.ports (ReportsRing (fault.Lost i) (length (with_put i l putting.before).traffic) run.journal) putting.lists)
            (λ e. absurd (false≢true (sym (putting.lists i port at).unrefused.ring ∙ e)));
        no_stray = λ e. absurd (true≢false e);
        started = λ e. absurd (cc);
      } where
        the_stray : (back : Stray) → Some (record { link = i; letter = l }) ≡ Some back → back ≡ record { link = i; letter = l }
        the_stray back is = sym (same_Some (record { link = i; letter = l }) back is)

  -- the link refused Close
  pub close_stops : (i : ℕ) → IsPutting i letter.Close plan given run → (port : SeenPort Identity) → slice_get run.ports i ≡ Some port
      → IsStopped None (fault.Lost i) plan given (record { manner = run.manner; core = run.core; ports = set run.ports i (port_after_refusal port); bell = run.bell; journal = run.journal })
  close_stops i putting port at =
      let inside : i < length (with_put i letter.Close putting.before).traffic = omega (arith, putting.within, grown_place putting.before i letter.Close) in
      record {
        state = with_put i letter.Close putting.before;
        has = has-port plan given run (with_put i letter.Close putting.before) i port (port_after_refusal port) putting.has at refl refl refl refl;
        lists = at-set (λ j. RunsAt) (λ j. StopsAt None None) putting.before (with_put i letter.Close putting.before) i _ refl putting.within run.ports (port_after_refusal port) putting.lists
            (stops-unclosed (traffic_at putting.before i) port (putting.lists i port at) putting.open_place) (λ j t p ne h. stops-as_it_was t p h);
        did = just_did putting.did;
        breach = λ link breach e. absurd (cc);
        lost = λ link e.
            let same : i ≡ link = cc in
            record {
              within = omega (arith, same, inside);
              refused = inl (ap (λ (n : ℕ). (links_at (set run.ports i (port_after_refusal port)) n).put_refused) (sym same) ∙ ap (λ (l : OnLinks). l.put_refused) (new_links run.ports i port (port_after_refusal port) at));
              to_place = λ back is. absurd (none-some back is);
              no_close = λ back is. absurd (none-some back is);
            };
        lost_bell = λ degree e. absurd (cc);
        take_reported = takes_reported run.ports i port (port_after_refusal port) at (λ j. fault.Lost i ≡ fault.Lost j) (quiet_takes putting.before run.ports (λ j. fault.Lost i ≡ fault.Lost j) putting.lists) (λ e. refl);
        wait_reported = λ e. absurd (false≢true (sym putting.heard ∙ e));
        ring_reported = rings_reported run.ports i port (port_after_refusal port) at (ReportsRing (fault.Lost i) (length (with_put i letter.Close putting.before).traffic) run.journal) (quiet_rings putting.before run.ports (ReportsRing (fault.Lost i) (length (with_put i letter.Close putting.before).traffic) run.journal) putting.lists)
            (λ e. absurd (false≢true (sym (putting.lists i port at).unrefused.ring ∙ e)));
        no_stray = λ e. refl;
        started = λ e. absurd (cc);
      }

  -- a letter was put, and the bell refused the ring
  module _ (i : ℕ) (l : Letter) (putting : IsPutting i l plan given run) (port new : SeenPort Identity) (at : slice_get run.ports i ≡ Some port)
      (links : SameLinks port new) (stops : StopsAt None None (record (traffic_at putting.before i) { put = (traffic_at putting.before i).put ++ l ∷ [] }) new) (refused : new.ringer.refused ≡ true) (took : new.rx.refused ≡ port.rx.refused) where
    pub unheard_stops : IsStopped None (fault.LostBell (length run.core.places)) plan given (record { manner = run.manner; core = run.core; ports = set run.ports i new; bell = run.bell; journal = run.journal })
    unheard_stops = record {
      state = with_put i l putting.before;
      has = has-port plan given run (with_put i l putting.before) i port new putting.has at links.tx links.rx links.bell links.number;
      lists = at-set (λ j. RunsAt) (λ j. StopsAt None None) putting.before (with_put i l putting.before) i _ refl putting.within run.ports new putting.lists stops (λ j t p ne h. stops-as_it_was t p h);
      did = just_did putting.did;
      breach = λ link breach e. absurd (cc);
      lost = λ link e. absurd (cc);
      lost_bell = λ degree e. (let same : length run.core.places ≡ degree = cc in (omega (arith, same, putting.has.stands.degree), inr (i, new, get-set_same run.ports i port new at, refused)));
      take_reported = takes_reported run.ports i port new at (λ j. fault.LostBell (length run.core.places) ≡ fault.Lost j) (quiet_takes putting.before run.ports (λ j. fault.LostBell (length run.core.places) ≡ fault.Lost j) putting.lists)
          (λ e. absurd (false≢true (sym (putting.lists i port at).unrefused.take ∙ sym took ∙ e)));
      wait_reported = λ e. absurd (false≢true (sym putting.heard ∙ e));
      ring_reported = rings_reported run.ports i port new at (ReportsRing (fault.LostBell (length run.core.places)) (length (with_put i l putting.before).traffic) run.journal) (quiet_rings putting.before run.ports (ReportsRing (fault.LostBell (length run.core.places)) (length (with_put i l putting.before).traffic) run.journal) putting.lists)
          (λ e. inl (ap fault.LostBell putting.has.stands.degree));
      no_stray = λ e. refl;
      started = λ e. absurd (cc);
    }

  -- a letter came that was not in turn
  pub breach_stops : (m i : ℕ) (l : Letter) (reported : Breach) → i < length run.core.places → ReportsBreach run.core i l (Some reported) → IsRunning plan given run
      → (port : SeenPort Identity) → slice_get run.ports i ≡ Some port
      → IsStopped (Some (record { link = i; letter = l })) (fault.Breach i reported) plan given (record { manner = run.manner; core = run.core; ports = set run.ports i (port_after_take m l port); bell = run.bell; journal = run.journal })
  breach_stops m i l reported within tells running port at =
      let inside : i < length running.state.traffic = omega (arith, running.has.stands.degree) in
      record {
        state = running.state;
        has = has-port plan given run running.state i port (port_after_take m l port) running.has at refl refl refl refl;
        lists = at-port (λ j. RunsAt) (λ j. StopsAt None (if i == j then Some l else None)) running.state i inside run.ports (port_after_take m l port) running.lists
            (subst (λ (o : Option Letter). StopsAt None o (traffic_at running.state i) (port_after_take m l port)) (sym (here i l))
            (stops-breached (traffic_at running.state i) port (running.lists i port at) m l))
            (λ j t p ne h. subst (λ (o : Option Letter). StopsAt None o t p) (sym (elsewhere i j l ne)) (stops-as_it_was t p h));
        did = just_did running.did;
        breach = λ link breach e.
            let same : i ≡ link = cc in
            let cause : reported ≡ breach = cc in
            let first : first_breach plan run.core.site running.state i l ≡ Some reported = sym (tells plan running.state running.has.keeps running.has.stands) in
            record {
              letter = l;
              handed_back = ap (λ (n : ℕ). Some (record { link = n; letter = l })) same;
              within = subst (λ (n : ℕ). n < length running.state.traffic) same inside;
              first = ap (λ (n : ℕ). first_breach plan run.core.site running.state n l) (sym same) ∙ first ∙ ap (λ (b : Breach). Some b) cause;
            };
        lost = λ link e. absurd (cc);
        lost_bell = λ degree e. absurd (cc);
        take_reported = takes_reported run.ports i port (port_after_take m l port) at (λ j. fault.Breach i reported ≡ fault.Lost j) (quiet_takes running.state run.ports (λ j. fault.Breach i reported ≡ fault.Lost j) running.lists)
            (λ e. absurd (false≢true (sym (running.lists i port at).unrefused.take ∙ e)));
        wait_reported = λ e. absurd (false≢true (sym running.heard ∙ e));
        ring_reported = rings_reported run.ports i port (port_after_take m l port) at (ReportsRing (fault.Breach i reported) (length running.state.traffic) run.journal) (quiet_rings running.state run.ports (ReportsRing (fault.Breach i reported) (length running.state.traffic) run.journal) running.lists)
            (λ e. absurd (false≢true (sym (running.lists i port at).unrefused.ring ∙ e)));
        no_stray = λ e. absurd (true≢false e);
        started = λ e. absurd (cc);
      }

  -- ---- breaking off

  module _ (stray : Option Stray) (cause : SiteFault) (stopped : IsStopped stray cause plan given run) (i : ℕ) (core : SeenCore) (puts : CorePuts i (Break i) run.core core letter.Close)
      (port : SeenPort Identity) (at : slice_get run.ports i ≡ Some port) where
    did : CoreStep plan stopped.state (Break i) run.core core
    did = (puts plan stopped.state stopped.has.keeps stopped.has.stands).1

    room : (i < length stopped.state.traffic) × (has_close (traffic_at stopped.state i).put ≡ false)
    room = opens-break i plan run.core.site stopped.state did.allowed.needs

    -- the letter of a breach has that breach still
    reported : (link : ℕ) (breach : Breach) → cause ≡ fault.Breach link breach → IsBreached plan core.site (with_put i letter.Close stopped.state) stray link breach
    reported link breach e =
        let before = stopped.breach link breach e in
        record {
          letter = before.letter;
          handed_back = before.handed_back;
          within = omega (arith, before.within, grown_place stopped.state i letter.Close);
          first = ap (λ (s : ℕ). first_breach plan s (with_put i letter.Close stopped.state) link before.letter) did.site
              ∙ closing_breach plan run.core.site stopped.state i room.0 link before.letter ∙ before.first;
        }

    -- it put one Close more on its way out
    broke_more : HasDone run.manner plan core.site run.journal (with_put i letter.Close stopped.state)
    broke_more = subst (λ (s : ℕ). HasDone run.manner plan s run.journal (with_put i letter.Close stopped.state)) (sym did.site)
        (record {
          before = stopped.did.before;
          acted = stopped.did.acted;
          places = stopped.did.places ++ i ∷ [];
          broke_off = one_more plan run.core.site stopped.did.places stopped.did.before stopped.state i stopped.did.broke_off did.allowed.needs;
        })

    pub break_live : port.is_live ≡ true
    break_live = (stopped.lists i port at).live room.1

    abbrev StopsHere : SeenPort Identity → Type 0
    StopsHere = StopsAt (refused_at i (Some cause) stray) (breached_at i (Some cause) stray) (record (traffic_at stopped.state i) { put = (traffic_at stopped.state i).put ++ letter.Close ∷ [] })

    -- whatever came of the Close
    breaks : (new : SeenPort Identity) → SameLinks port new → StillRefused port new → StopsHere new → (new.ringer.refused ≡ true → ReportsRing cause (length stopped.state.traffic) run.journal i new) → IsStopped stray cause plan given (record { manner = run.manner; core = core; ports = set run.ports i new; bell = run.bell; journal = run.journal })
    breaks new links keeps stops rings =
        let same : length (with_put i letter.Close stopped.state).traffic ≡ length stopped.state.traffic = grown_place stopped.state i letter.Close in
        record {
          state = with_put i letter.Close stopped.state;
          has = has-port plan given (record { manner = run.manner; core = core; ports = run.ports; bell = run.bell; journal = run.journal }) (with_put i letter.Close stopped.state) i port new
              (has-put plan given i (Break i) letter.Close (opens-break i) run core run.journal stopped.state puts stopped.has) at links.tx links.rx links.bell links.number;
          lists = at-set (λ j. StopsAt (refused_at j (Some cause) stray) (breached_at j (Some cause) stray)) (λ j. StopsAt (refused_at j (Some cause) stray) (breached_at j (Some cause) stray))
              stopped.state (with_put i letter.Close stopped.state) i _ refl room.0 run.ports new stopped.lists stops (λ j t p ne h. h);
          did = broke_more;
          breach = reported;
          lost = λ link e. subst (λ (n : ℕ). IsLost n (links_at (set run.ports i new)) stray link) (sym same) (lost_still run.ports i port new at keeps stray link (stopped.lost link e));
          lost_bell = λ degree e. (let was = stopped.lost_bell degree e in (was.0 ∙ sym same, bell_still run.ports i port new at keeps run.bell was.1));
          take_reported = takes_reported run.ports i port new at (λ j. cause ≡ fault.Lost j) stopped.take_reported (λ e. stopped.take_reported i port at (sym keeps.take ∙ e));
          wait_reported = λ e. stopped.wait_reported e ∙ ap fault.LostBell (sym same);
          ring_reported = λ j p there e. subst (λ (n : ℕ). ReportsRing cause n run.journal j p) (sym same)
              (rings_reported run.ports i port new at (ReportsRing cause (length stopped.state.traffic) run.journal) stopped.ring_reported rings j p there e);
          no_stray = stopped.no_stray;
          started = stopped.started;
        }

    stops_here : StopsAt (refused_at i (Some cause) stray) (breached_at i (Some cause) stray) (traffic_at stopped.state i) port
    stops_here = stopped.lists i port at

    -- a ring refused before that of Close was reported: until Close the end is live
    unclosed_ring : (new : SeenPort Identity) → port.ringer.refused ≡ true → ReportsRing cause (length stopped.state.traffic) run.journal i new
    unclosed_ring new refused = elim (stopped.ring_reported i port at refused) [
      | inl reported ↦ inl reported
      | inr broke_off ↦ absurd (false≢true (sym broke_off.shut ∙ break_live))
    ]

    -- the ring of Close was refused: each letter before it was rung, or a ring refused before is reported
    unheard_ring : (m : ℕ) (was : Bool) → port.ringer.refused ≡ was → ReportsRing cause (length stopped.state.traffic) run.journal i (port_after_unheard_close m port)
    unheard_ring m true was = unclosed_ring (port_after_unheard_close m port) was
    unheard_ring m false was = inr (record { shut = refl; no_event = no_close_event run.manner plan run.core.site i run.journal stopped.state stopped.did room.1; at_most_one = omega (arith, stops_here.rang.each was, length-append port.tx.letters (letter.Close ∷ [])) })

    pub break_sends : (m : ℕ) (new : SeenPort Identity) (result : Closed) → SendsClose m port new result
        → IsStopped stray cause plan given (record { manner = run.manner; core = core; ports = set run.ports i new; bell = run.bell; journal = run.journal })
    break_sends m new Heard is = breaks new (record { tx = ap (λ (p : SeenPort Identity). p.tx.link) is; rx = ap (λ (p : SeenPort Identity). p.rx.link) is; bell = ap (λ (p : SeenPort Identity). p.ringer.bell) is; number = ap (λ (p : SeenPort Identity). p.ringer.number) is })
        (record { put = λ r. ap (λ (p : SeenPort Identity). p.tx.refused) is ∙ r; take = ap (λ (p : SeenPort Identity). p.rx.refused) is; ring = λ r. ap (λ (p : SeenPort Identity). p.ringer.refused) is ∙ r })
        (subst StopsHere (sym is) (stops-closed (refused_at i (Some cause) stray) (breached_at i (Some cause) stray) (traffic_at stopped.state i) port stops_here room.1 m))
        (λ e. unclosed_ring new (ap (λ (p : SeenPort Identity). p.ringer.refused) (sym is) ∙ e))
    break_sends m new Refused is = breaks new (record { tx = ap (λ (p : SeenPort Identity). p.tx.link) is; rx = ap (λ (p : SeenPort Identity). p.rx.link) is; bell = ap (λ (p : SeenPort Identity). p.ringer.bell) is; number = ap (λ (p : SeenPort Identity). p.ringer.number) is })
        (record { put = λ r. ap (λ (p : SeenPort Identity). p.tx.refused) is; take = ap (λ (p : SeenPort Identity). p.rx.refused) is; ring = λ r. ap (λ (p : SeenPort Identity). p.ringer.refused) is ∙ r })
        (subst StopsHere (sym is) (stops-close_refused (refused_at i (Some cause) stray) (breached_at i (Some cause) stray) (traffic_at stopped.state i) port stops_here room.1))
        (λ e. unclosed_ring new (ap (λ (p : SeenPort Identity). p.ringer.refused) (sym is) ∙ e))
    break_sends m new Unheard is = breaks new (record { tx = ap (λ (p : SeenPort Identity). p.tx.link) is; rx = ap (λ (p : SeenPort Identity). p.rx.link) is; bell = ap (λ (p : SeenPort Identity). p.ringer.bell) is; number = ap (λ (p : SeenPort Identity). p.ringer.number) is })
        (record { put = λ r. ap (λ (p : SeenPort Identity). p.tx.refused) is ∙ r; take = ap (λ (p : SeenPort Identity). p.rx.refused) is; ring = λ r. ap (λ (p : SeenPort Identity). p.ringer.refused) is })
        (subst StopsHere (sym is) (stops-close_unheard (refused_at i (Some cause) stray) (breached_at i (Some cause) stray) (traffic_at stopped.state i) port stops_here room.1 m))
        (λ e. subst (ReportsRing cause (length stopped.state.traffic) run.journal i) (sym is) (unheard_ring m port.ringer.refused refl))

    -- what the link has is no more than the core put
    pub break_room : ((plan : SeenPlan) (s : ℕ) (state : LocalState) (j : ℕ) → IsPlan plan → s < site_count plan → KeepsStreams plan s state → j < length state.traffic → length (traffic_at state j).put ≤ 2 * MAX_JOBS + 3)
        → length port.tx.letters < 2 ^ 61
    break_room few =
        let bound = few plan run.core.site stopped.state i stopped.has.is_plan stopped.has.is_site stopped.has.keeps room.0 in
        omega (arith, bound, puts_fit-shorter port.tx.refused (refused_at i (Some cause) stray) (traffic_at stopped.state i).put port.tx.letters (stopped.lists i port at).puts)
