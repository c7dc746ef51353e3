-- Bytes that are taken by several reads.
use Rattle.std.proofs.Common.{◌≡◌, ◌≤◌, ◌<◌, ◌+◌, ◌++◌, [], ℕ, List, IfSome, None, Option, Some, ap, append-nil, arith, length, length-append, length-take, subst, take}
use Rattle.std.specs.Io.KnownBytes.{Consumes}
use Rattle.std.proofs.KnownBytes.{Consumes-trans}
use Rattle.dine_words.specs.Input.{TakesAtMost}

-- the bytes that were taken before, and then the first bytes of a buffer
pub TakesAtMost-next : (n : ℕ) (a b c : Option (List ℕ)) (taken buf : List ℕ) (count : ℕ) → Consumes a b taken → Consumes b c (take count buf) → length taken + count ≤ n → TakesAtMost n a c
TakesAtMost-next n a b c taken buf count first next within =
    let last = take count buf in
    (taken ++ last, Consumes-trans a b c taken last first next, omega (arith, length-append taken last, length-take count buf))

-- the bytes that were taken before, if the next read gives none
pub Consumes-no_more : (a b c : Option (List ℕ)) (taken buf : List ℕ) (count : ℕ) → Consumes a b taken → Consumes b c (take count buf) → count ≡ 0 → Consumes a c taken
Consumes-no_more a b c taken buf count first next none =
    let last : Consumes b c [] = rw none at next in
    subst (Consumes a c) (append-nil taken) (Consumes-trans a b c taken [] first last)

-- a reader that lost more than n bytes had more
pub longer_before : (n : ℕ) (a b : Option (List ℕ)) (bs : List ℕ) → Consumes a b bs → n < length bs → IfSome a (λ left. n < length left)
longer_before n None b bs lost more = tt
longer_before n (Some xs) None bs lost more = absurd lost
longer_before n (Some xs) (Some ys) bs lost more = omega (arith, ap length lost, length-append bs ys)
