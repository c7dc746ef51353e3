-- The end that letters were put in, closed or not, of any lane.
use Rattle.dine_link.specs.declared.lane.TxEnd.{TxEnd}
use Rattle.dine_link.specs.declared.lane.TxEnd.TheVariants.{Live, Shut}
use Rattle.dine_link.specs.Links.{SeenEnd}

-- what contracts see of an end that letters are put in, given what they see of a live one and of a shut one
abbrev pub seen_end : {L Tx Closed Rx Identity : Type 0} → (Tx → SeenEnd Identity) → (Closed → SeenEnd Identity) → TxEnd L Tx Closed Rx → SeenEnd Identity
seen_end live shut (Live tx) = live tx
seen_end live shut (Shut tx) = shut tx
