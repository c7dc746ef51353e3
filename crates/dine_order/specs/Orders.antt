-- What is returned if there is no order of the journals.
use Rattle.std.specs.Prelude.{◌≡◌, ◌≢◌, ℕ, ◌<◌, List, ◌++◌, codes, length}
use Rattle.std.specs.Fmt.{decimal}
use Rattle.dine_graph.specs.Plan.{SeenPlan, site_count}
use Rattle.dine_rules.specs.declared.events.Event.{Event}
use Rattle.dine_rules.specs.declared.events.EventKind.{EventKind}
use Rattle.dine_rules.specs.World.{WorldState, IsComplete, Reaches}
use Rattle.dine_rules.specs.Journals.{IsLowestFirst, IsOrderOf, IsPlacedToEnd, IsWholeOrder, journal_of, part_of}
use Rattle.dine_order.specs.declared.orders.OrderFault.{OrderFault}
use Rattle.dine_order.specs.declared.orders.OrderFault.TheVariants.{CountDiffers, Stuck, NotClosed, Memory}

-- Events were placed until no site was ready, each that of the lowest ready site. `site` is the lowest site with events
-- left, and `placed` is the number of its events that were placed.
pub record IsStuckAt (plan : SeenPlan) (journals : List (List EventKind)) (site placed : ℕ) : Type 0 where
  pub events : List Event
  pub world : WorldState
  pub to_end : IsPlacedToEnd plan journals events world
  pub lowest_first : IsLowestFirst plan journals events
  pub is_site : site < site_count plan
  pub has_left : length (part_of site events) < length (journal_of journals site)
  pub lower_have_none : (s : ℕ) → s < site → part_of s events ≡ journal_of journals s
  pub count : placed ≡ length (part_of site events)

-- All events were placed, each that of the lowest ready site, and the world is not complete.
pub record IsNotClosed (plan : SeenPlan) (journals : List (List EventKind)) : Type 0 where
  pub events : List Event
  pub world : WorldState
  pub holds_journals : IsOrderOf journals events
  pub accepted : Reaches plan events world
  pub lowest_first : IsLowestFirst plan journals events
  pub not_complete : IsComplete plan world → ⊥

-- no list of events is an order of the journals that the world accepts and that makes it complete
abbrev pub HasNoOrder : SeenPlan → List (List EventKind) → Type 0
HasNoOrder plan journals = (events : List Event) → IsWholeOrder plan journals events → ⊥

-- When each fault is returned. CountDiffers: the number of journals is not the number of sites. Stuck: the search ended
-- before all events were placed, and there is no order. NotClosed: it placed all events, the world is not complete, and
-- there is no order. Memory: an allocation failed, and whether there is an order is not said.
abbrev pub OrderFaultIs : SeenPlan → List (List EventKind) → OrderFault → Type 0
OrderFaultIs plan journals CountDiffers = length journals ≢ site_count plan
OrderFaultIs plan journals (Stuck site placed) = (length journals ≡ site_count plan) × IsStuckAt plan journals site placed × HasNoOrder plan journals
OrderFaultIs plan journals NotClosed = (length journals ≡ site_count plan) × IsNotClosed plan journals × HasNoOrder plan journals
OrderFaultIs plan journals Memory = length journals ≡ site_count plan

-- the text of each fault: its number and its name, and for Stuck the site and the number of its events that were placed
abbrev pub order_fault_words : OrderFault → List ℕ
order_fault_words CountDiffers = codes "1 CountDiffers"
order_fault_words (Stuck site placed) = codes "2 Stuck at site " ++ decimal site ++ codes ", " ++ decimal placed ++ codes " placed"
order_fault_words NotClosed = codes "3 NotClosed"
order_fault_words Memory = codes "4 Memory"
