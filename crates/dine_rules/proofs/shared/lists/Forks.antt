-- The Forks among letters, and the log and the value of the last of them.
use Rattle.std.proofs.Common.{◌≡◌, ℕ, zero, suc, ◌+◌, List, [], ◌∷◌, ◌++◌, length, slice_get, Some, refl, ◌∙◌, ap, subst, arith}
use mathlib.Core.List.{IsPrefix}
use Rattle.dine_token.specs.declared.log_entry.Entry.{Entry}
use Rattle.dine_token.specs.Fork.{SeenFork}
use Rattle.dine_rules.specs.declared.letters.Letter.{Letter}
use Rattle.dine_rules.specs.declared.letters.Letter.TheVariants.{Fork, Request, Done, Close}
use Rattle.dine_rules.specs.Letters.{forks_among, forks_in, last_log_or, last_value_or}
use Rattle.dine_rules.specs.Streams.{logs_of}
use Rattle.dine_rules.proofs.shared.lists.Counting.{last_log_or-none, slice_get-before}

pub forks_among-append : (xs ys : List Letter) → forks_among (xs ++ ys) ≡ forks_among xs ++ forks_among ys
forks_among-append [] ys = refl
forks_among-append (Fork fork ∷ xs) ys = ap (λ (forks : List SeenFork). fork ∷ forks) (forks_among-append xs ys)
forks_among-append (Request edge ∷ xs) ys = forks_among-append xs ys
forks_among-append (Done ∷ xs) ys = forks_among-append xs ys
forks_among-append (Close ∷ xs) ys = forks_among-append xs ys

-- as many as are counted
pub length-forks_among : (xs : List Letter) → length (forks_among xs) ≡ forks_in xs
length-forks_among [] = refl
length-forks_among (Fork fork ∷ xs) = ap (λ (n : ℕ). suc n) (length-forks_among xs)
length-forks_among (Request edge ∷ xs) = length-forks_among xs
length-forks_among (Done ∷ xs) = length-forks_among xs
length-forks_among (Close ∷ xs) = length-forks_among xs

-- a letter that is a Fork is among them
pub among : (xs : List Letter) (k : ℕ) (fork : SeenFork) → slice_get xs k ≡ Some (Fork fork) → (j : ℕ) × (slice_get (forks_among xs) j ≡ Some fork)
among [] k fork h = absurd cc
among (Fork first ∷ xs) zero fork h = (0, cc)
among (Request edge ∷ xs) zero fork h = absurd cc
among (Done ∷ xs) zero fork h = absurd cc
among (Close ∷ xs) zero fork h = absurd cc
among (Fork first ∷ xs) (suc k) fork h = let w = among xs k fork h in (suc w.0, w.1)
among (Request edge ∷ xs) (suc k) fork h = among xs k fork h
among (Done ∷ xs) (suc k) fork h = among xs k fork h
among (Close ∷ xs) (suc k) fork h = among xs k fork h

-- the logs are theirs
pub logs_of-at : (xs : List Letter) (k : ℕ) (fork : SeenFork) → slice_get (forks_among xs) k ≡ Some fork → slice_get (logs_of xs) k ≡ Some fork.log
logs_of-at [] k fork h = absurd cc
logs_of-at (Fork first ∷ xs) zero fork h = (let same : first ≡ fork = cc in ap (λ (f : SeenFork). Some f.log) same)
logs_of-at (Fork first ∷ xs) (suc k) fork h = logs_of-at xs k fork h
logs_of-at (Request edge ∷ xs) k fork h = logs_of-at xs k fork h
logs_of-at (Done ∷ xs) k fork h = logs_of-at xs k fork h
logs_of-at (Close ∷ xs) k fork h = logs_of-at xs k fork h

-- a Fork of a front is one of the whole, at the same place
pub forks_among-before : (xs ys : List Letter) (k : ℕ) (fork : SeenFork) → slice_get (forks_among xs) k ≡ Some fork → slice_get (forks_among (xs ++ ys)) k ≡ Some fork
forks_among-before xs ys k fork h = ap (λ (forks : List SeenFork). slice_get forks k) (forks_among-append xs ys) ∙ slice_get-before (forks_among xs) (forks_among ys) fork k h

pub forks_among-prefix : (xs ys : List Letter) → IsPrefix xs ys → (k : ℕ) (fork : SeenFork) → slice_get (forks_among xs) k ≡ Some fork → slice_get (forks_among ys) k ≡ Some fork
forks_among-prefix xs ys front k fork h = subst (λ (l : List Letter). slice_get (forks_among l) k ≡ Some fork) front.1 (forks_among-before xs front.0 k fork h)

pub last_value_or-append : (value : ℕ) (xs ys : List Letter) → last_value_or value (xs ++ ys) ≡ last_value_or (last_value_or value xs) ys
last_value_or-append value [] ys = refl
last_value_or-append value (Fork fork ∷ xs) ys = last_value_or-append fork.value xs ys
last_value_or-append value (Request edge ∷ xs) ys = last_value_or-append value xs ys
last_value_or-append value (Done ∷ xs) ys = last_value_or-append value xs ys
last_value_or-append value (Close ∷ xs) ys = last_value_or-append value xs ys

-- with no Fork there is no last value
pub last_value_or-none : (value : ℕ) (xs : List Letter) → forks_in xs ≡ 0 → last_value_or value xs ≡ value
last_value_or-none value [] h = refl
last_value_or-none value (Fork fork ∷ xs) h = absurd (omega arith)
last_value_or-none value (Request edge ∷ xs) h = last_value_or-none value xs h
last_value_or-none value (Done ∷ xs) h = last_value_or-none value xs h
last_value_or-none value (Close ∷ xs) h = last_value_or-none value xs h

-- the last Fork has the last log and the last value
pub last_fork : (log : List Entry) (value : ℕ) (xs : List Letter) (k : ℕ) (fork : SeenFork) → slice_get (forks_among xs) k ≡ Some fork → k + 1 ≡ forks_in xs
    → (last_log_or log xs ≡ fork.log) × (last_value_or value xs ≡ fork.value)
last_fork log value [] k fork h n = absurd cc
last_fork log value (Fork first ∷ xs) zero fork h n =
    let same : first ≡ fork = cc in
    let none : forks_in xs ≡ 0 = omega arith in
    (last_log_or-none first.log xs none ∙ ap (λ (f : SeenFork). f.log) same, last_value_or-none first.value xs none ∙ ap (λ (f : SeenFork). f.value) same)
last_fork log value (Fork first ∷ xs) (suc k) fork h n = last_fork first.log first.value xs k fork h (omega arith)
last_fork log value (Request edge ∷ xs) k fork h n = last_fork log value xs k fork h n
last_fork log value (Done ∷ xs) k fork h n = last_fork log value xs k fork h n
last_fork log value (Close ∷ xs) k fork h n = last_fork log value xs k fork h n
