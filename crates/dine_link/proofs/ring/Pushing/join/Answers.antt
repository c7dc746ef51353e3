use Rattle.std.proofs.Common.{◌≡◌, ◌++◌, List, refl, sym, ◌∙◌, ap}
use Rattle.std.proofs.lemmas.List.{map-append}
use Rattle.rtrb.specs.Ring.{sent, received, known_items}
use Rattle.dine_link.specs.declared.stamped.Stamped.{Stamped}
use Rattle.dine_link.specs.Stamps.{letters_in}
use Rattle.dine_link.proofs.Endings.{whole}
use Rattle.dine_link.proofs.Stamping.{letters_count, letters_prefix, moments_prefix}
use Rattle.dine_link.proofs.ring.Pushing.join.Goals as goal

pub returns-clause-whole : goal.returns-clause-whole
returns-clause-whole c = λ closed.
    let items : List Stamped = known_items c.slots_beside.new.self in
    let e : sent c.args.self.producer ≡ received c.args.rx.consumer ++ items = cc (c.slots_beside.ensures.fifo, c.slots_beside.ensures.producer.1, c.slots_beside.ensures.looked.1) in
    let f : letters_in (sent c.args.self.producer) ≡ letters_in (received c.args.rx.consumer) ++ letters_in items = ap letters_in e ∙ map-append (λ (one : Stamped). one.letter) (received c.args.rx.consumer) items in
    rw (c.from_ends.ensures, c.slots_beside.ensures.looked.1, c.slots_beside.ensures.producer.1) (whole (letters_in (sent c.args.self.producer)) (letters_in (received c.args.rx.consumer)) (letters_in items) f closed c.requires.close_last)

pub returns-clause-moments : goal.returns-clause-moments
returns-clause-moments c =
    let items : List Stamped = known_items c.slots_beside.new.self in
    let e : sent c.args.self.producer ≡ received c.args.rx.consumer ++ items = cc (c.slots_beside.ensures.fifo, c.slots_beside.ensures.producer.1, c.slots_beside.ensures.looked.1) in
    rw (c.from_ends.ensures, c.slots_beside.ensures.looked.1, c.slots_beside.ensures.producer.1) (moments_prefix (received c.args.rx.consumer) (sent c.args.self.producer) (items, sym e))

pub returns-clause-prefix : goal.returns-clause-prefix
returns-clause-prefix c =
    let items : List Stamped = known_items c.slots_beside.new.self in
    let e : sent c.args.self.producer ≡ received c.args.rx.consumer ++ items = cc (c.slots_beside.ensures.fifo, c.slots_beside.ensures.producer.1, c.slots_beside.ensures.looked.1) in
    rw (c.from_ends.ensures, c.slots_beside.ensures.looked.1, c.slots_beside.ensures.producer.1) (letters_prefix (received c.args.rx.consumer) (sent c.args.self.producer) (items, sym e))

pub from_ends-requires-clause-put : goal.from_ends-requires-clause-put
from_ends-requires-clause-put c = rw c.slots_beside.ensures.producer.1 (c.args.self.counted ∙ sym (letters_count (sent c.args.self.producer)))

pub from_ends-requires-clause-taken : goal.from_ends-requires-clause-taken
from_ends-requires-clause-taken c = rw c.slots_beside.ensures.looked.1 (c.args.rx.counted ∙ sym (letters_count (received c.args.rx.consumer)))

pub from_ends-requires-clause-shut : goal.from_ends-requires-clause-shut
from_ends-requires-clause-shut c = rw c.slots_beside.ensures.producer.1 c.requires.shut

pub from_ends-requires-clause-prefix : goal.from_ends-requires-clause-prefix
from_ends-requires-clause-prefix c = letters_prefix (received c.slots_beside.new.self) (sent c.slots_beside.new.producer) (known_items c.slots_beside.new.self, c.slots_beside.ensures.fifo)

pub from_ends-requires-clause-close_last : goal.from_ends-requires-clause-close_last
from_ends-requires-clause-close_last c = rw c.slots_beside.ensures.producer.1 c.requires.close_last

pub returns-clause-lists : goal.returns-clause-lists
returns-clause-lists c = rw (c.from_ends.ensures, c.slots_beside.ensures.looked.1, c.slots_beside.ensures.producer.1) refl

pub returns-clause-close_last : goal.returns-clause-close_last
returns-clause-close_last c = rw (c.from_ends.ensures, c.slots_beside.ensures.producer.1) c.requires.close_last
