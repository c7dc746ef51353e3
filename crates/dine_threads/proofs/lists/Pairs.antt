-- The links of one edge more.
use Rattle.std.proofs.Common.{◌≡◌, List, [], ◌∷◌, ◌++◌, refl, ap}
use Rattle.dine_link.specs.Lanes.{seen_end}
use Rattle.dine_link.specs.Links.{SeenLink, link_of}
use Rattle.dine_threads.specs.private.Collecting.{links_left}
use Rattle.dine_threads.specs.declared.slots.EdgePair.{EdgePair}
use Rattle.dine_site_thread.specs.declared.port.Port.{Port}
use Rattle.dine_link.specs.declared.lane.Lane.{Ghosts}

module _ {Lane Tx Closed Rx : Type 0} (lane : Ghosts Lane Tx Closed Rx) where
  pub links_left-push : (pairs : List (EdgePair (Port Lane Tx Closed Rx))) (both : EdgePair (Port Lane Tx Closed Rx))
      → links_left lane (pairs ++ both ∷ []) ≡ links_left lane pairs ++ link_of (seen_end lane.seen_tx lane.seen_closed both.low.tx) (lane.seen_rx both.high.rx) ∷ link_of (seen_end lane.seen_tx lane.seen_closed both.high.tx) (lane.seen_rx both.low.rx) ∷ []
  links_left-push [] both = refl
  links_left-push (pair ∷ pairs) both =
      ap (λ (l : List SeenLink). link_of (seen_end lane.seen_tx lane.seen_closed pair.low.tx) (lane.seen_rx pair.high.rx) ∷ link_of (seen_end lane.seen_tx lane.seen_closed pair.high.tx) (lane.seen_rx pair.low.rx) ∷ l) (links_left-push pairs both)
