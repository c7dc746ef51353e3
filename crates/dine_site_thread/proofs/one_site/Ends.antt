-- What a site leaves when it ends.
use Rattle.std.proofs.Common.{◌≡◌, ℕ, ◌+◌, ◌<◌, true, List, [], length, Option, Some, None, option_to_list, refl, sym, ◌∙◌, ap, subst, inl, inr, arith, append-nil}
use Rattle.std.proofs.lemmas.List.{get_or-set_same, get_or-set_other}
use Rattle.std.proofs.lemmas.Bool.{and_parts, cases_eq, false≢true}
use Rattle.std.proofs.lemmas.Option.{same_Some}
use Rattle.std.specs.List.{slice_get}
use Rattle.dine_token.specs.Fork.{SeenFork}
use Rattle.dine_graph.specs.Plan.{SeenPlan}
use Rattle.dine_rules.specs.Letters.{has_close}
use Rattle.dine_rules.specs.Local.{LocalState, traffic_at}
use Rattle.dine_site.specs.declared.site.places.Place.{Place}
use Rattle.dine_site.specs.Core.{SeenCore, Refines}
use Rattle.dine_site.specs.Places.{after_close, no_place, place_at}
use Rattle.dine_site.specs.Standing.{AreForksInHand, AreTokensInHand, all_places, has_closed, has_finished}
use Rattle.dine_site_thread.specs.declared.site_end.SiteFault.{SiteFault}
use Rattle.dine_site_thread.specs.declared.site_end.SiteFault.TheVariants as fault
use Rattle.dine_site_thread.specs.declared.site_end.Stray.{Stray}
use Rattle.dine_site_thread.specs.Endings.{OnLinks, breached_at, links_at, on_links, refused_at, traffic_on}
use Rattle.dine_site_thread.specs.Ports.{SeenPort, PutsFit}
use Rattle.dine_site_thread.specs.SiteEnds.{IsSiteEnd}
use Rattle.dine_site_thread.specs.private.Running.{SeenRun, ClosedBelow, HasState, MayEnd}
use Rattle.dine_site_thread.proofs.shared.lists.Lists.{list_all-weaker, list_all-each}
use Rattle.dine_site_thread.proofs.shared.one_site.Letters.{ClosedFrontsAreInOrder, FrontsAreInOrder, fit_in_order, puts_fit-same, rang_same}
use Rattle.dine_site_thread.proofs.shared.lists.Seen.{there_is}
use Rattle.dine_site_thread.proofs.shared.one_site.AtPlaces.{links_there}
use Rattle.dine_site_thread.proofs.one_site.Stops.{just_did}

-- one place more is closed
pub closed_more : (core : SeenCore) (i : ℕ) → i < length core.places → ClosedBelow i core → ClosedBelow (i + 1) (after_close i core)
closed_more core i within below j h = elim (cases_eq j i) [
  | inl same ↦ ap (λ (n : ℕ). (place_at (after_close i core) n).close_put) same
      ∙ ap (λ (place : Place). place.close_put) (get_or-set_same core.places i (record (place_at core i) { close_put = true }) no_place within)
  | inr ne ↦ ap (λ (place : Place). place.close_put) (get_or-set_other core.places i j (record (place_at core i) { close_put = true }) no_place ne) ∙ below j (omega (arith, h, ne))
]

pub closed_already : (core : SeenCore) (i : ℕ) → (place_at core i).close_put ≡ true → ClosedBelow i core → ClosedBelow (i + 1) core
closed_already core i is below j h = elim (cases_eq j i) [
  | inl same ↦ ap (λ (n : ℕ). (place_at core n).close_put) same ∙ is
  | inr ne ↦ below j (omega (arith, h, ne))
]

-- Close was put everywhere: by the core's places, and where the site has done all
pub closed_everywhere : (plan : SeenPlan) (state : LocalState) (core : SeenCore) → Refines plan state core → ClosedBelow (length core.places) core → has_closed state ≡ true
closed_everywhere plan state core stands below =
    list_all-each (λ i. has_close (traffic_at state i).put) 0 (length state.traffic)
    (λ i within. let inside : i < length core.places = omega (arith, within, stands.degree) in
    sym (ap (λ (place : Place). place.close_put) (stands.places i no_place inside)) ∙ below i inside)

pub finished_is_closed : (plan : SeenPlan) (s : ℕ) (state : LocalState) → has_finished plan s state ≡ true → has_closed state ≡ true
finished_is_closed plan s state h =
    list_all-weaker _ (λ i. has_close (traffic_at state i).put) (λ i said. (and_parts _ _ (and_parts _ _ said).0).1) (all_places state) (and_parts _ _ h).1

module _ {Identity : Type 0} (plan : SeenPlan) (given : List (SeenPort Identity)) (run : SeenRun Identity) (forks : List SeenFork) (tokens : List ℕ)
    (are_forks : AreForksInHand run.core forks) (are_tokens : AreTokensInHand run.core tokens) (fronts : FrontsAreInOrder) (closes : ClosedFrontsAreInOrder) where
  -- each place of the state has a port, whose links are these
  port_there : (state : LocalState) → HasState plan given run state → (i : ℕ) → i < length state.traffic → (port : SeenPort Identity) × (slice_get run.ports i ≡ Some port) × (links_at run.ports i ≡ on_links port)
  port_there state has i within =
      let there = there_is run.ports i (omega (arith, within, has.stands.degree, has.places)) in
      (there.0, there.1, links_there run.ports i there.0 there.1)

  pub site_end : (stray : Option Stray) (cause : Option SiteFault) → MayEnd stray cause plan given run
      → IsSiteEnd run.manner plan run.core.site given (record { site = run.core.site; ate = run.core.ate; forks = forks; tokens = tokens; journal = run.journal; ports = run.ports; bell = run.bell; stray = stray; fault = cause })
  site_end stray None h =
      let running = h.0 in
      let finished = h.1 plan running.state running.has.keeps running.has.stands in
      let puts : (i : ℕ) → i < length running.state.traffic → (links_at run.ports i).put ≡ (traffic_at running.state i).put =
      λ i within. (let there = port_there running.state running.has i within in ap (λ (l : OnLinks). l.put) there.2 ∙ (running.lists i there.0 there.1).puts) in
      record {
        left = record {
          state = running.state;
          ended = record {
            keeps = running.has.keeps;
            rests = running.has.rests;
            ate = running.has.stands.ate;
            tokens = are_tokens plan running.state running.has.keeps running.has.stands;
            did = just_did running.did;
            did_all = λ e. running.did;
            puts = λ i within. puts_fit-same (links_at run.ports i).put_refused (traffic_at running.state i).put (links_at run.ports i).put (puts i within);
            takes = λ i within. (let there = port_there running.state running.has i within in
                ap (λ (l : OnLinks). l.taken) there.2 ∙ (running.lists i there.0 there.1).takes ∙ sym (append-nil (traffic_at running.state i).taken));
            in_order = λ i within. (let there = port_there running.state running.has i within in
                fit_in_order fronts closes plan run.core.site i running.state (links_at run.ports i).put_refused (traffic_on (links_at run.ports i)) None [] running.has.keeps within (puts_fit-same (links_at run.ports i).put_refused (traffic_at running.state i).put (links_at run.ports i).put (puts i within))
                (ap (λ (l : OnLinks). l.taken) there.2 ∙ (running.lists i there.0 there.1).takes ∙ sym (append-nil (traffic_at running.state i).taken)));
            whole = λ e. puts;
            unrefused = λ e i within. (let there = port_there running.state running.has i within in let quiet = (running.lists i there.0 there.1).unrefused in
                (ap (λ (l : OnLinks). l.put_refused) there.2 ∙ quiet.put, ap (λ (l : OnLinks). l.take_refused) there.2 ∙ quiet.take));
            finished = λ e. finished;
            closed = λ e. finished_is_closed plan run.core.site running.state finished;
            not_started = λ e. absurd (cc);
            take_reported = λ i within r. (let there = port_there running.state running.has i within in absurd (false≢true (sym (running.lists i there.0 there.1).unrefused.take ∙ ap (λ (l : OnLinks). l.take_refused) (sym there.2) ∙ r)));
            no_stray = λ e. h.2;
            breach = λ link breach e. absurd (cc);
            lost = λ link e. absurd (cc);
            degree = λ degree e. absurd (cc);
          };
          site = refl;
          forks = are_forks plan running.state running.has.keeps running.has.stands;
          count = running.has.count;
          same_links = running.has.same_links;
          rang = λ i port at. rang_same port (running.lists i port at).rang;
          heard = λ e. (running.heard, λ i port at. (running.lists i port at).unrefused.ring);
          lost_bell = λ degree e. absurd (cc);
        };
        started = λ e. absurd (cc);
        wait_reported = λ r. absurd (false≢true (sym running.heard ∙ r));
        ring_reported = λ i port at r. absurd (false≢true (sym (running.lists i port at).unrefused.ring ∙ r));
      }
  site_end stray (Some cause) h =
      let stopped = h.0 in
      record {
        left = record {
          state = stopped.state;
          ended = record {
            keeps = stopped.has.keeps;
            rests = stopped.has.rests;
            ate = stopped.has.stands.ate;
            tokens = are_tokens plan stopped.state stopped.has.keeps stopped.has.stands;
            did = stopped.did;
            did_all = λ e. absurd (cc);
            puts = λ i within. (let there = port_there stopped.state stopped.has i within in
                subst (λ (l : OnLinks). PutsFit l.put_refused (refused_at i (Some cause) stray) (traffic_at stopped.state i).put l.put) (sym there.2) (stopped.lists i there.0 there.1).puts);
            takes = λ i within. (let there = port_there stopped.state stopped.has i within in ap (λ (l : OnLinks). l.taken) there.2 ∙ (stopped.lists i there.0 there.1).takes);
            in_order = λ i within. (let there = port_there stopped.state stopped.has i within in
                fit_in_order fronts closes plan run.core.site i stopped.state (links_at run.ports i).put_refused (traffic_on (links_at run.ports i)) (refused_at i (Some cause) stray) (option_to_list (breached_at i (Some cause) stray)) stopped.has.keeps within
                (subst (λ (l : OnLinks). PutsFit l.put_refused (refused_at i (Some cause) stray) (traffic_at stopped.state i).put l.put) (sym there.2) (stopped.lists i there.0 there.1).puts)
                (ap (λ (l : OnLinks). l.taken) there.2 ∙ (stopped.lists i there.0 there.1).takes));
            whole = λ e. absurd (cc);
            unrefused = λ e. absurd (cc);
            finished = λ e. absurd (cc);
            closed = λ e. closed_everywhere plan stopped.state run.core stopped.has.stands h.1;
            not_started = λ e. absurd (stopped.started (same_Some cause fault.NotStarted e));
            take_reported = λ i within r. (let there = port_there stopped.state stopped.has i within in ap (λ (f : SiteFault). Some f) (stopped.take_reported i there.0 there.1 (ap (λ (l : OnLinks). l.take_refused) (sym there.2) ∙ r)));
            no_stray = stopped.no_stray;
            breach = λ link breach e. stopped.breach link breach (same_Some cause (fault.Breach link breach) e);
            lost = λ link e. stopped.lost link (same_Some cause (fault.Lost link) e);
            degree = λ degree e. (stopped.lost_bell degree (same_Some cause (fault.LostBell degree) e)).0;
          };
          site = refl;
          forks = are_forks plan stopped.state stopped.has.keeps stopped.has.stands;
          count = stopped.has.count;
          same_links = stopped.has.same_links;
          rang = λ i port at. (stopped.lists i port at).rang;
          heard = λ e. absurd (cc);
          lost_bell = λ degree e. (stopped.lost_bell degree (same_Some cause (fault.LostBell degree) e)).1;
        };
        started = λ e. stopped.started (same_Some cause fault.NotStarted e);
        wait_reported = λ r. ap (λ (f : SiteFault). Some f) (stopped.wait_reported r ∙ ap fault.LostBell (sym stopped.has.stands.degree ∙ sym stopped.has.places));
        ring_reported = λ i port at r. elim (stopped.ring_reported i port at r) [
          | inl reported ↦ inl (ap (λ (f : SiteFault). Some f) (reported ∙ ap fault.LostBell (sym stopped.has.stands.degree ∙ sym stopped.has.places)))
          | inr broke_off ↦ inr broke_off
        ];
      }
