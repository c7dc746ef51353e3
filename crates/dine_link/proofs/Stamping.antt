-- Letters with their moments, one more, and a front of them.
use Rattle.std.proofs.Common.{◌≡◌, ℕ, Bool, false, List, [], ◌∷◌, ◌++◌, length, sym, ◌∙◌, ap, ap₂}
use mathlib.Core.List.{IsPrefix}
use Rattle.std.proofs.lemmas.List.{length-map, map-append}
use Rattle.dine_rules.specs.declared.letters.Letter.{Letter}
use Rattle.rtrb.specs.Ring.{received, sent, SameConsumer, SameProducer}
use Rattle.dine_link.specs.declared.ring.Pushing.{Pushing}
use Rattle.dine_link.specs.declared.ring.RingRx.{RingRx}
use Rattle.dine_link.specs.declared.stamped.Stamped.{Stamped}
use Rattle.dine_link.specs.Links.{LinkName, SeenEnd, with_letter_at}
use Rattle.dine_link.specs.Rings.{Ring, seen_pushing, seen_rx}
use Rattle.dine_link.specs.Stamps.{letters_in, moments_in}

pub letters_then : (letters : List Stamped) (x : Stamped) → letters_in (letters ++ x ∷ []) ≡ letters_in letters ++ x.letter ∷ []
letters_then letters x = map-append (λ (one : Stamped). one.letter) letters (x ∷ [])

pub moments_then : (letters : List Stamped) (x : Stamped) → moments_in (letters ++ x ∷ []) ≡ moments_in letters ++ x.stamp.at ∷ []
moments_then letters x = map-append (λ (one : Stamped). one.stamp.at) letters (x ∷ [])

pub letters_count : (letters : List Stamped) → length (letters_in letters) ≡ length letters
letters_count letters = length-map letters (λ (one : Stamped). one.letter)

-- an end of these letters
abbrev pub end_with : {Identity : Type 0} → LinkName Identity → Bool → List Stamped → SeenEnd Identity
end_with link refused letters = record { link = link; letters = letters_in letters; moments = moments_in letters; refused = refused }

pub end_then : {Identity : Type 0} (link : LinkName Identity) (refused : Bool) (letters : List Stamped) (x : Stamped) → end_with link refused (letters ++ x ∷ []) ≡ with_letter_at x.letter x.stamp.at (end_with link refused letters)
end_then link refused letters x = ap₂ (λ (a : List Letter) (b : List ℕ). record { link = link; letters = a; moments = b; refused = refused }) (letters_then letters x) (moments_then letters x)

pub letters_prefix : (taken put : List Stamped) → IsPrefix taken put → IsPrefix (letters_in taken) (letters_in put)
letters_prefix taken put w = (letters_in w.0, sym (map-append (λ (one : Stamped). one.letter) taken w.0) ∙ ap letters_in w.1)

pub moments_prefix : (taken put : List Stamped) → IsPrefix taken put → IsPrefix (moments_in taken) (moments_in put)
moments_prefix taken put w = (moments_in w.0, sym (map-append (λ (one : Stamped). one.stamp.at) taken w.0) ∙ ap moments_in w.1)

-- the end of a ring after one further push
pub pushed : (old new : Pushing) (x : Stamped) → SameProducer old.producer new.producer → new.edge ≡ old.edge → new.from ≡ old.from → sent new.producer ≡ sent old.producer ++ x ∷ []
    → seen_pushing new ≡ with_letter_at x.letter x.stamp.at (seen_pushing old)
pushed old new x same edge from is =
    let words = same.0.0 in
    let slots = same.0.1 in
    let names = same.0.2 in
    let heap = same.0.3 in
    let link : (seen_pushing new).link ≡ (seen_pushing old).link = cc in
    ap (end_with (seen_pushing new).link false) is ∙ ap (λ (name : LinkName Ring). end_with name false (sent old.producer ++ x ∷ [])) link
    ∙ end_then (seen_pushing old).link false (sent old.producer) x

-- and after one further pop
pub popped : (old new : RingRx) (x : Stamped) → SameConsumer old.consumer new.consumer → new.edge ≡ old.edge → new.from ≡ old.from → received new.consumer ≡ received old.consumer ++ x ∷ []
    → seen_rx new ≡ with_letter_at x.letter x.stamp.at (seen_rx old)
popped old new x same edge from is =
    let words = same.0.0 in
    let slots = same.0.1 in
    let names = same.0.2 in
    let heap = same.0.3 in
    let link : (seen_rx new).link ≡ (seen_rx old).link = cc in
    ap (end_with (seen_rx new).link false) is ∙ ap (λ (name : LinkName Ring). end_with name false (received old.consumer ++ x ∷ [])) link
    ∙ end_then (seen_rx old).link false (received old.consumer) x
