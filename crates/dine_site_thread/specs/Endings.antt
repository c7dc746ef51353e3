-- How a site ended: its meals, tokens, journal, fault and links, beside a state of whole lists.
use Rattle.std.specs.Prelude.{◌≡◌, ◌≢◌, ◌==◌, ℕ, ◌<◌, ◌≤◌, ◌++◌, ◌⊎◌, Bool, true, false, List, [], length, map, slice_index_or, Option, Some, None, option_to_list, if◌then◌else◌}
use Rattle.dine_graph.specs.Plan.{SeenPlan}
use Rattle.dine_rules.specs.declared.breach.Breach.{Breach}
use Rattle.dine_rules.specs.declared.events.EventKind.{EventKind}
use Rattle.dine_rules.specs.declared.letters.Letter.{Letter}
use Rattle.dine_rules.specs.Breach.{first_breach}
use Rattle.dine_rules.specs.Local.{LocalState, Traffic, is_eating, start_of, traffic_at}
use Rattle.dine_rules.specs.Streams.{IsPutInOrder, KeepsStreams}
use Rattle.dine_site.specs.Core.{tokens_in_hand}
use Rattle.dine_site.specs.Standing.{all_places, has_closed, has_finished}
use Rattle.dine_link.specs.Closing.{is_close}
use Rattle.dine_site_thread.specs.declared.site_end.SiteFault.{SiteFault}
use Rattle.dine_site_thread.specs.declared.site_end.SiteFault.TheVariants as fault
use Rattle.dine_site_thread.specs.declared.site_end.Stray.{Stray}
use Rattle.dine_site_thread.specs.declared.manner.Manner.{Manner}
use Rattle.dine_site_thread.specs.Doings.{HasActed, HasDone}
use Rattle.dine_site_thread.specs.Ports.{SeenPort, PutsFit}

-- the letter that was handed back at place i, if there is one
abbrev pub letter_at : ℕ → Option Stray → Option Letter
letter_at i None = None
letter_at i (Some stray) = if stray.link == i then Some stray.letter else None

-- the letter that was handed back for a breach at place i, if there is one
abbrev pub breached_at : ℕ → Option SiteFault → Option Stray → Option Letter
breached_at i (Some (fault.Breach link breach)) stray = letter_at i stray
breached_at i _ stray = None

-- the letter that the link of place i refused, if there is one
abbrev pub refused_at : ℕ → Option SiteFault → Option Stray → Option Letter
refused_at i (Some (fault.Lost link)) stray = letter_at i stray
refused_at i _ stray = None

-- a letter is handed back only after a breach, or by a link that refused it
abbrev pub hands_back : Option SiteFault → Bool
hands_back (Some (fault.Breach link breach)) = true
hands_back (Some (fault.Lost link)) = true
hands_back _ = false

-- A letter was handed back at this place, which is one of the site's, and the breach is the first that applies to it.
pub record IsBreached (plan : SeenPlan) (s : ℕ) (state : LocalState) (stray : Option Stray) (link : ℕ) (breach : Breach) : Type 0 where
  pub letter : Letter
  pub handed_back : stray ≡ Some (record { link = link; letter = letter })
  pub within : link < length state.traffic
  pub first : first_breach plan s state link letter ≡ Some breach

-- What the two links of a place have: all letters put on the one, and all letters taken from the other; whether a put
-- or a close was refused; and whether a take was refused.
pub record OnLinks : Type 0 where
  pub put : List Letter
  pub taken : List Letter
  pub put_refused : Bool
  pub take_refused : Bool

-- the letters put and the letters taken, without the refusals
abbrev pub traffic_on : OnLinks → Traffic
traffic_on links = record { put = links.put; taken = links.taken }

-- links with nothing on them, and nothing refused
abbrev pub nothing_on_links : OnLinks
nothing_on_links = record { put = []; taken = []; put_refused = false; take_refused = false }

-- `link` is a place, and its link refused a put, a close or a take. If a letter was handed back, it was to go to this
-- place, and it is not Close.
pub record IsLost (places : ℕ) (links : ℕ → OnLinks) (stray : Option Stray) (link : ℕ) : Type 0 where
  pub within : link < places
  pub refused : ((links link).put_refused ≡ true) ⊎ ((links link).take_refused ≡ true)
  pub to_place : (back : Stray) → stray ≡ Some back → back.link ≡ link
  pub no_close : (back : Stray) → stray ≡ Some back → is_close back.letter ≡ false

-- what the links of a place have, by its port
abbrev pub on_links : {Identity : Type 0} → SeenPort Identity → OnLinks
on_links port = record { put = port.tx.letters; taken = port.rx.letters; put_refused = port.tx.refused; take_refused = port.rx.refused }

-- the same by place, by the ports in order
abbrev pub links_at : {Identity : Type 0} → List (SeenPort Identity) → ℕ → OnLinks
links_at ports i = slice_index_or (map on_links ports) i nothing_on_links

-- What a site reports of its end: its meals, the tokens that it holds, its journal, and if it ended early, why, with
-- the letter that was handed back.
pub record Ending : Type 0 where
  pub ate : ℕ
  pub tokens : List ℕ
  pub journal : List EventKind
  pub stray : Option Stray
  pub fault : Option SiteFault

-- The report of a site matches a state that keeps the streams. In this state the site does not eat, and it has the
-- meals and the tokens of the report. It did the events of its journal, each in its turn, and then only put Close. Its
-- links have the letters of this state, with three exceptions: a letter that was handed back for a breach, a letter
-- that a link refused, and a Close that a link refused. What it put on its links is in order all the same. If the
-- report has no fault, the site did all that it had to do, and did nothing but the events of its journal, its links
-- have exactly what it put, and none of them refused. If the site was not started, the state is its initial state;
-- otherwise it has put Close everywhere. If a link refused a take, the report names it as lost. If the report names a
-- breach, the letter that was handed back has this breach. If it names a link as lost, `IsLost` holds of it. If it
-- names neither, no letter was handed back. If it names a bell as lost, it has the number of the places.
pub record HasEnded (manner : Manner) (plan : SeenPlan) (s : ℕ) (state : LocalState) (links : ℕ → OnLinks) (end : Ending) : Type 0 where
  pub keeps : KeepsStreams plan s state
  pub rests : is_eating state.phase ≡ false
  pub ate : end.ate ≡ state.ate
  pub tokens : end.tokens ≡ tokens_in_hand plan s state (all_places state)
  pub did : HasDone manner plan s end.journal state
  pub did_all : end.fault ≡ None → HasActed manner plan s end.journal state
  pub puts : (i : ℕ) → i < length state.traffic → PutsFit (links i).put_refused (refused_at i end.fault end.stray) (traffic_at state i).put (links i).put
  pub takes : (i : ℕ) → i < length state.traffic → (links i).taken ≡ (traffic_at state i).taken ++ option_to_list (breached_at i end.fault end.stray)
  pub in_order : (i : ℕ) → i < length state.traffic → IsPutInOrder plan s i state.ate (traffic_on (links i))
  pub whole : end.fault ≡ None → (i : ℕ) → i < length state.traffic → (links i).put ≡ (traffic_at state i).put
  pub unrefused : end.fault ≡ None → (i : ℕ) → i < length state.traffic → ((links i).put_refused ≡ false) × ((links i).take_refused ≡ false)
  pub finished : end.fault ≡ None → has_finished plan s state ≡ true
  pub closed : end.fault ≢ Some fault.NotStarted → has_closed state ≡ true
  pub not_started : end.fault ≡ Some fault.NotStarted → state ≡ start_of plan s
  pub take_reported : (i : ℕ) → i < length state.traffic → (links i).take_refused ≡ true → end.fault ≡ Some (fault.Lost i)
  pub no_stray : hands_back end.fault ≡ false → end.stray ≡ None
  pub breach : (link : ℕ) (breach : Breach) → end.fault ≡ Some (fault.Breach link breach) → IsBreached plan s state end.stray link breach
  pub lost : (link : ℕ) → end.fault ≡ Some (fault.Lost link) → IsLost (length state.traffic) links end.stray link
  pub degree : (degree : ℕ) → end.fault ≡ Some (fault.LostBell degree) → degree ≡ length state.traffic
