-- A word of 64 bits as 64 truth values, and the truth values of a list's elements.
use Rattle.std.specs.Prelude.{◌≡◌, ℕ, zero, suc, ◌+◌, ◌-◌, ◌/◌, ◌%◌, ◌==◌, ◌&&◌, not, Bool, true, false, cond, Option, Some, None, List, [], ◌∷◌, ◌++◌, length, map, replicate, count_by, take, slice_get}
use Rattle.std.specs.Option.{option_map}

-- the k lowest binary digits of n, the lowest first: `true` is 1
abbrev pub low_digits : ℕ → ℕ → List Bool
low_digits zero n = []
low_digits (suc k) n = (n % 2 == 1) ∷ low_digits k (n / 2)

-- which numbers below 64 the word holds, as 64 truth values
unfoldable pub marks_of_word : ℕ → List Bool
marks_of_word word = low_digits 64 word

-- number by number, what both lists mark
abbrev pub both_marks : List Bool → List Bool → List Bool
both_marks [] others = []
both_marks (mark ∷ marks) [] = []
both_marks (mark ∷ marks) (other ∷ others) = (mark && other) ∷ both_marks marks others

-- number by number, what the first list marks and the other does not
abbrev pub marks_without : List Bool → List Bool → List Bool
marks_without [] others = []
marks_without (mark ∷ marks) [] = []
marks_without (mark ∷ marks) (other ∷ others) = (mark && not other) ∷ marks_without marks others

-- which of the elements pass the test, as 64 truth values: `false` from the list's end on; a list of more than 64 has
-- more
unfoldable pub marks_of : {X : Type 0} → (X → Bool) → List X → List Bool
marks_of test xs = map test xs ++ replicate (64 - length xs) false

-- the index of the n-th element, from 0, of those that pass the test
abbrev pub nth_position : {X : Type 0} → (X → Bool) → ℕ → List X → Option ℕ
nth_position test n [] = None
nth_position test zero (x ∷ xs) = cond (test x) (Some 0) (option_map (λ i. i + 1) (nth_position test zero xs))
nth_position test (suc n) (x ∷ xs) = option_map (λ i. i + 1) (nth_position test (cond (test x) n (suc n)) xs)

-- i is the index of the n-th element, from 0, of those that pass: it passes, and n before it do
pub record IsNth {X : Type 0} (test : X → Bool) (n : ℕ) (xs : List X) (i : ℕ) : Type 0 where
  pub passes : option_map test (slice_get xs i) ≡ Some true
  pub before : count_by test (take i xs) ≡ n
