-- The moments of a site's events, and how they fit its link ends.
use Rattle.std.specs.Prelude.{◌≡◌, ℕ, ◌<◌, List, [], ◌++◌, map, length, slice_get, Some}
use Rattle.dine_rules.specs.declared.events.EventKind.{EventKind}
use Rattle.dine_rules.specs.Timed.{Rise, is_put_at, is_take_at, moments_of}
use Rattle.dine_site_thread.specs.Ports.{SeenPort}

-- each of these moments is later than that at its place in the other list
abbrev pub AreLater : List ℕ → List ℕ → Type 0
AreLater later sooner = (n put taken : ℕ) → slice_get sooner n ≡ Some put → slice_get later n ≡ Some taken → put < taken

-- no letter whose event was done is left to put
abbrev pub none_late : ℕ → List ℕ
none_late i = []

-- The events with moments are those of the journal, and the moments rise. Each letter was put at the moment of its
-- event, except those that are not put yet. There are as many Takes at a place as letters were taken there, and each
-- letter was taken later than it was put.
pub record IsTimed {Identity : Type 0} (late : ℕ → List ℕ) (events : List (EventKind × ℕ)) (journal : List EventKind) (ports : List (SeenPort Identity)) : Type 0 where
  pub shown : map (λ event. event.0) events ≡ journal
  pub rise : Rise 0 events
  pub puts : (i : ℕ) (port : SeenPort Identity) → slice_get ports i ≡ Some port → moments_of (is_put_at i) events ≡ port.tx.moments ++ late i
  pub many : (i : ℕ) (port : SeenPort Identity) → slice_get ports i ≡ Some port → length (moments_of (is_take_at i) events) ≡ length port.rx.moments
  pub takes : (i : ℕ) (port : SeenPort Identity) → slice_get ports i ≡ Some port → AreLater (moments_of (is_take_at i) events) port.rx.moments
