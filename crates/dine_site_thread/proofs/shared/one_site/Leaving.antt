-- What a site leaves that was not started.
use Rattle.std.proofs.Common.{◌≡◌, ℕ, zero, suc, ◌<◌, ◌++◌, Bool, length, Some, None, List, [], ◌∷◌, All, map, get_or, refl, sym, ap, ◌∙◌, inl, arith}
use Rattle.std.proofs.lemmas.Bool.{false≢true}
use Rattle.std.proofs.lemmas.List.{append-nil}
use Rattle.std.proofs.lemmas.List.Elements.{All-head, All-tail}
use Rattle.std.proofs.lemmas.Option.{same_Some, none-some}
use Rattle.dine_token.specs.Fork.{SeenFork}
use Rattle.dine_graph.specs.Plan.{SeenPlan, edges_of}
use Rattle.dine_rules.specs.Local.{Traffic, no_traffic, start_of, traffic_at}
use Rattle.dine_rules.specs.declared.events.EventKind.{EventKind}
use Rattle.dine_rules.specs.Streams.{KeepsStreams}
use Rattle.dine_site_thread.proofs.shared.one_site.Letters.{ClosedFrontsAreInOrder, FrontsAreInOrder, fit_in_order, rang_same}
use Rattle.dine_site_thread.proofs.one_site.Stops.{just_did}
use Rattle.dine_site_thread.proofs.one_site.Turns.{acted_nothing}
use Rattle.dine_site.specs.Core.{forks_in_hand, tokens_in_hand}
use Rattle.dine_site.specs.Standing.{all_places}
use Rattle.dine_site_thread.specs.declared.diner.Call.{Call}
use Rattle.dine_site_thread.specs.declared.manner.Manner.{Manner}
use Rattle.dine_site_thread.specs.declared.site_end.SiteFault.TheVariants as fault
use Rattle.dine_site_thread.specs.Diners.{HasEaten}
use Rattle.dine_link.specs.Bells.{SeenBell}
use Rattle.dine_site_thread.specs.Endings.{OnLinks, links_at, nothing_on_links, traffic_on}
use Rattle.dine_site_thread.proofs.shared.lists.Lists.{all_at}
use Rattle.dine_site_thread.specs.Ports.{SeenPort, IsFreshPort, PutsFit}
use Rattle.dine_site_thread.specs.SiteEnds.{IsLeft}

-- at the start nothing was put or taken at any place
no_letters : (edges : List ℕ) (i : ℕ) → get_or (map (λ (edge : ℕ). no_traffic) edges) i no_traffic ≡ no_traffic
no_letters [] zero = refl
no_letters [] (suc i) = refl
no_letters (edge ∷ edges) zero = refl
no_letters (edge ∷ edges) (suc i) = no_letters edges i

-- so it is on the links of ports that are unused
nothing_on : {Identity : Type 0} (ports : List (SeenPort Identity)) (i : ℕ) → All IsFreshPort ports → links_at ports i ≡ nothing_on_links
nothing_on [] zero unused = refl
nothing_on [] (suc i) unused = refl
nothing_on (port ∷ ports) zero unused = let fresh = All-head IsFreshPort port ports unused in simp (fresh.nothing_put, fresh.nothing_taken, fresh.unrefused.put, fresh.unrefused.take)
nothing_on (port ∷ ports) (suc i) unused = nothing_on ports i (All-tail IsFreshPort port ports unused)

-- a site that was not started left its start
pub left_unstarted : {Identity : Type 0} (manner : Manner) (fronts : FrontsAreInOrder) (closes : ClosedFrontsAreInOrder) (plan : SeenPlan) (s : ℕ) (given : List (SeenPort Identity)) (site : ℕ) (forks : List SeenFork) (tokens : List ℕ) (journal : List EventKind) (bell : SeenBell) → journal ≡ [] → site ≡ s → KeepsStreams plan s (start_of plan s)
    → forks ≡ forks_in_hand plan s (start_of plan s) (all_places (start_of plan s)) → tokens ≡ tokens_in_hand plan s (start_of plan s) (all_places (start_of plan s)) → All IsFreshPort given
    → IsLeft manner plan s given (record { site = site; ate = 0; forks = forks; tokens = tokens; journal = journal; ports = given; bell = bell; stray = None; fault = Some fault.NotStarted })
left_unstarted {Identity} manner fronts closes plan s given site forks tokens journal bell nothing is_site keeps hold_forks hold_tokens unused = record {
  state = start_of plan s;
  ended = record {
    keeps = keeps;
    rests = refl;
    ate = refl;
    tokens = hold_tokens;
    did = just_did (acted_nothing manner plan s journal nothing);
    did_all = λ none. acted_nothing manner plan s journal nothing;
    puts = puts;
    takes = takes;
    in_order = λ i within. fit_in_order fronts closes plan s i (start_of plan s) (links_at given i).put_refused (traffic_on (links_at given i)) None [] keeps within (puts i within) (takes i within);
    whole = λ none. absurd (none-some fault.NotStarted (sym none));
    unrefused = λ none. absurd (none-some fault.NotStarted (sym none));
    finished = λ none. absurd (none-some fault.NotStarted (sym none));
    closed = λ other. absurd (other refl);
    not_started = λ reported. refl;
    take_reported = λ i within refused. absurd (false≢true (sym (ap (λ (l : OnLinks). l.take_refused) (nothing_on given i unused)) ∙ refused));
    no_stray = λ none. refl;
    breach = λ link breach reported. absurd cc;
    lost = λ link reported. absurd cc;
    degree = λ degree reported. absurd cc;
  };
  site = is_site;
  forks = hold_forks;
  count = refl;
  same_links = λ i old new at_old at_new. (let same : old ≡ new = same_Some old new (sym at_old ∙ at_new) in record { tx = ap (λ (p : SeenPort Identity). p.tx.link) (sym same); rx = ap (λ (p : SeenPort Identity). p.rx.link) (sym same); bell = ap (λ (p : SeenPort Identity). p.ringer.bell) (sym same); number = ap (λ (p : SeenPort Identity). p.ringer.number) (sym same) });
  rang = λ i port at. (let fresh = all_at IsFreshPort given i port unused at in rang_same port (fresh.nothing_rung ∙ sym (ap length fresh.nothing_put)));
  heard = λ none. absurd (none-some fault.NotStarted (sym none));
  lost_bell = λ degree reported. absurd cc;
} where
  puts : (i : ℕ) → i < length (start_of plan s).traffic → PutsFit (links_at given i).put_refused None (traffic_at (start_of plan s) i).put (links_at given i).put
  puts i within = record {
    front = [];
    closing = [];
    closes = inl refl;
    core = ap (λ (t : Traffic). t.put) (no_letters (edges_of plan s) i);
    link = inl (ap (λ (l : OnLinks). l.put) (nothing_on given i unused));
  }

  takes : (i : ℕ) → i < length (start_of plan s).traffic → (links_at given i).taken ≡ (traffic_at (start_of plan s) i).taken ++ []
  takes i within = ap (λ (l : OnLinks). l.taken) (nothing_on given i unused) ∙ sym (ap (λ (t : Traffic). t.taken ++ []) (no_letters (edges_of plan s) i))

-- a diner that was not called has eaten nothing
pub not_called : {D : Type 0} (calls : D → List Call) (marks : D → List Bool) (fits : List Bool → ℕ → Bool → Bool) (diner : D) → HasEaten calls marks fits 0 0 diner diner
not_called calls marks fits diner = record {
  added = [];
  called = sym (append-nil (calls diner));
  in_order = refl;
  answers = λ k d within. absurd (omega (arith, within));
  failures = refl;
  marked = refl;
}
