-- What a site leaves when it ends. The definitions do not say when anything happens, that a letter arrives, or which
-- number a bell reports.
use Rattle.std.specs.Prelude.{◌≡◌, ◌≢◌, ◌⊎◌, ℕ, true, false, List, length, slice_get, Option, Some, None}
use Rattle.dine_token.specs.Fork.{SeenFork}
use Rattle.dine_graph.specs.Plan.{SeenPlan}
use Rattle.dine_rules.specs.declared.events.EventKind.{EventKind}
use Rattle.dine_rules.specs.Local.{LocalState}
use Rattle.dine_site.specs.Core.{forks_in_hand}
use Rattle.dine_site.specs.Standing.{all_places}
use Rattle.dine_link.specs.Bells.{SeenBell}
use Rattle.dine_site_thread.specs.declared.site_end.SiteFault.{SiteFault}
use Rattle.dine_site_thread.specs.declared.site_end.SiteFault.TheVariants as fault
use Rattle.dine_site_thread.specs.declared.site_end.Stray.{Stray}
use Rattle.dine_site_thread.specs.declared.manner.Manner.{Manner}
use Rattle.dine_site_thread.specs.Endings.{Ending, HasEnded, links_at}
use Rattle.dine_site_thread.specs.Ports.{BrokeOffUnheard, HasRung, SeenPort, SameLinks, seen_ports}
use Rattle.dine_site_thread.specs.declared.site_end.SiteEnd.{SiteEnd}
use Rattle.dine_link.specs.declared.lane.Lane.{Ghosts}

-- How a site ended, without its diner: its number, the meals that it began, the forks and tokens in its hands, its
-- journal, its link ends in order, its bell, and why it ended early.
pub record SeenSiteEnd (Identity : Type 0) : Type 0 where
  pub site : ℕ
  pub ate : ℕ
  pub forks : List SeenFork
  pub tokens : List ℕ
  pub journal : List EventKind
  pub ports : List (SeenPort Identity)
  pub bell : SeenBell
  pub stray : Option Stray
  pub fault : Option SiteFault

-- how a site ended, without its diner
abbrev pub seen_site_end : {Lane D Tx Closed Rx : Type 0} (lane : Ghosts Lane Tx Closed Rx) → SiteEnd Lane D Tx Closed Rx → SeenSiteEnd lane.Identity
seen_site_end lane end = record {
  site = end.site;
  ate = end.ate;
  forks = end.forks.items;
  tokens = end.tokens.items;
  journal = end.journal.items;
  ports = seen_ports lane end.ports.items;
  bell = end.bell;
  stray = end.stray;
  fault = end.fault;
}

-- what it reports of its end
abbrev pub report_of : {Identity : Type 0} → SeenSiteEnd Identity → Ending
report_of end = record { ate = end.ate; tokens = end.tokens; journal = end.journal; stray = end.stray; fault = end.fault }

-- a ring or a wait was refused
abbrev pub HasBellRefused : {Identity : Type 0} → List (SeenPort Identity) → SeenBell → Type 0
HasBellRefused {Identity} ports bell = (bell.refused ≡ true) ⊎ ((i : ℕ) × (port : SeenPort Identity) × (slice_get ports i ≡ Some port) × (port.ringer.refused ≡ true))

-- What a site leaves, started or not. It has the number of the site. There is a state that matches its report and its
-- links (`HasEnded`), and it has the forks of this state. Its links and ringers are those that it was given. It rang as
-- `HasRung` says. If it reports no fault, no bell refused; if it reports a bell as lost, a bell refused.
pub record IsLeft {Identity : Type 0} (manner : Manner) (plan : SeenPlan) (s : ℕ) (given : List (SeenPort Identity)) (end : SeenSiteEnd Identity) : Type 0 where
  pub state : LocalState
  pub ended : HasEnded manner plan s state (links_at end.ports) (report_of end)
  pub site : end.site ≡ s
  pub forks : end.forks ≡ forks_in_hand plan s state (all_places state)
  pub count : length end.ports ≡ length given
  pub same_links : (i : ℕ) (old new : SeenPort Identity) → slice_get given i ≡ Some old → slice_get end.ports i ≡ Some new → SameLinks old new
  pub rang : (i : ℕ) (port : SeenPort Identity) → slice_get end.ports i ≡ Some port → HasRung port
  pub heard : end.fault ≡ None → (end.bell.refused ≡ false) × ((i : ℕ) (port : SeenPort Identity) → slice_get end.ports i ≡ Some port → port.ringer.refused ≡ false)
  pub lost_bell : (degree : ℕ) → end.fault ≡ Some (fault.LostBell degree) → HasBellRefused end.ports end.bell

-- What a site leaves that was started. If a wait for its bell was refused, it reports the bell as lost. If a ring of
-- one of its ringers was refused, it does so too, or it broke off at this place, and at most one letter there has no
-- ring (`BrokeOffUnheard`).
pub record IsSiteEnd {Identity : Type 0} (manner : Manner) (plan : SeenPlan) (s : ℕ) (given : List (SeenPort Identity)) (end : SeenSiteEnd Identity) : Type 0 where
  pub left : IsLeft manner plan s given end
  pub started : end.fault ≢ Some fault.NotStarted
  pub wait_reported : end.bell.refused ≡ true → end.fault ≡ Some (fault.LostBell (length end.ports))
  pub ring_reported : (i : ℕ) (port : SeenPort Identity) → slice_get end.ports i ≡ Some port → port.ringer.refused ≡ true → (end.fault ≡ Some (fault.LostBell (length end.ports))) ⊎ BrokeOffUnheard i end.journal port
