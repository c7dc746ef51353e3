-- A word and the 64 truth values that it holds, through each operation on the word.
use Rattle.std.proofs.Common.{ltb, replicate, ◌≡◌, ◌≢◌, ℕ, zero, suc, ◌+◌, ◌++◌, ◌*◌, ◌/◌, ◌%◌, ◌^◌, ◌<◌, ◌≤◌, ◌==◌, ◌⊎◌, inl, inr, Bool, true, false, cond, Some, None, List, [], ◌∷◌, length, get_or, set, refl, sym, ap, ap₂, ◌∙◌, subst, arith, w64, get_or-set_same, get_or-set_other, slice_get, position, count_by, count_ones, length-set, ◌-◌, ◌&&◌, not, min}
use Rattle.std.specs.Int.{bit_at, bit_not, trailing_zeros}
use Rattle.std.specs.Int.Bits.{bit_and, bit_or}
use Rattle.std.specs.List.{position_or_len}
use Rattle.std.proofs.lemmas.Bool.{cases_order, lt-ltb}
use Rattle.std.proofs.lemmas.Bool.Decides.{eqb_tells}
use Rattle.std.proofs.lemmas.Grind.{common_steps}
use Rattle.std.proofs.lemmas.List.{map-id}
use Rattle.std.proofs.lemmas.List.Sums.{count_by-le-length}
use Rattle.std.proofs.lemmas.Nat.{and_le_l, and_shr, or_lt}
use Rattle.std.proofs.lemmas.Nat.Bits.{shr_and_one, bit_at_and, bit_at_lowest, bit_at_set_same, bit_at_set_other, bit_at_clear_same, bit_at_clear_other, same_from_bits_below, bit_at-trailing_zeros}
use Rattle.std.proofs.lemmas.Option.{slice_get-get_or}
use Rattle.std.proofs.lemmas.Simd.{bit_mask_l, mask_l-lt, ones-mask_l, first_set_mask_l}
use Rattle.std.proofs.Math.Nat.{two-pow-succ}
use Rattle.std.proofs.Math.Pow.{pow-lt}
use lib.Lanes.{mask_l}
use Rattle.dine_set.specs.Marks.{low_digits, marks_of_word, both_marks, marks_without}
use Rattle.dine_set.specs.private.BitsFromMarks.{word_from_marks}

-- ---- a word from its marks and back
length-low_digits : (k n : ℕ) → length (low_digits k n) ≡ k
length-low_digits zero n = refl
length-low_digits (suc k) n = ap suc (length-low_digits k (n / 2))

one_digit : (b : Bool) (n : ℕ) → ((((cond b 1 0 + 2 * n) % 2) == 1) ≡ b) × ((cond b 1 0 + 2 * n) / 2 ≡ n)
one_digit true n = (let e : (1 + 2 * n) % 2 ≡ 1 = omega arith in rw e, omega arith)
one_digit false n = (let e : (0 + 2 * n) % 2 ≡ 0 = omega arith in rw e, omega arith)

digits_from_word : (xs : List Bool) → low_digits (length xs) (mask_l xs) ≡ xs
digits_from_word [] = refl
digits_from_word (x ∷ xs) = rw ((one_digit x (mask_l xs)).0, (one_digit x (mask_l xs)).1, digits_from_word xs)

pub length-marks_of_word : (w : ℕ) → length (marks_of_word w) ≡ 64
unfolding marks_of_word
length-marks_of_word w = length-low_digits 64 w

pub marks_from_word : (xs : List Bool) → length xs ≡ 64 → marks_of_word (mask_l xs) ≡ xs
unfolding marks_of_word
marks_from_word xs h = subst (λ k. low_digits k (mask_l xs) ≡ xs) h (digits_from_word xs)

pub marks-zero : marks_of_word 0 ≡ replicate 64 false
unfolding marks_of_word
marks-zero = refl

pub marks-all : marks_of_word 18446744073709551615 ≡ replicate 64 true
unfolding marks_of_word
marks-all = refl

-- the digits of `2 ^ n - 1`
digits-zero : (k : ℕ) → low_digits k 0 ≡ replicate k false
digits-zero zero = refl
digits-zero (suc k) = ap (λ (l : List Bool). false ∷ l) (digits-zero k)

ones_turn : (p : ℕ) → 1 ≤ p → (((2 * p - 1) % 2 == 1) ≡ true) × ((2 * p - 1) / 2 ≡ p - 1)
ones_turn p some = (let e : (2 * p - 1) % 2 ≡ 1 = omega (arith, some) in rw e refl, omega (arith, some))

two-pow-some : (n : ℕ) → 1 ≤ 2 ^ n
two-pow-some zero = omega arith
two-pow-some (suc n) = omega (arith, two-pow-succ n, two-pow-some n)

digits-below : (n k : ℕ) → low_digits (n + k) (2 ^ n - 1) ≡ replicate n true ++ replicate k false
digits-below zero k =
    ap₂ (λ (size p : ℕ). low_digits size p) (let e : 0 + k ≡ k = omega arith in e) (let e : 2 ^ 0 - 1 ≡ 0 = omega arith in e)
    ∙ digits-zero k
digits-below (suc n) k =
    let turn = ones_turn (2 ^ n) (two-pow-some n) in
    let twice : 2 ^ suc n ≡ 2 * 2 ^ n = omega (arith, two-pow-succ n) in
    ap₂ (λ (size p : ℕ). low_digits size (p - 1)) (let e : suc n + k ≡ suc (n + k) = omega arith in e) twice
    ∙ ap₂ (λ (mark : Bool) (rest : ℕ). mark ∷ low_digits (n + k) rest) turn.0 turn.1
    ∙ ap (λ (l : List Bool). true ∷ l) (digits-below n k)

-- `1 << n` is `2 ^ n`
pub shifted-one : (n : ℕ) → n < 64 → 1 * 2 ^ n % 2 ^ 64 ≡ 2 ^ n
shifted-one n lt = let small : 2 ^ n < 2 ^ 64 = pow-lt lt in omega (arith, small)

pub shifted-some : (n : ℕ) → n < 64 → 1 ≤ 1 * 2 ^ n % 2 ^ 64
shifted-some n lt = omega (arith, shifted-one n lt, two-pow-some n)

pub marks-below : (n : ℕ) → n < 64 → marks_of_word (1 * 2 ^ n % 2 ^ 64 - 1) ≡ replicate n true ++ replicate (64 - n) false
unfolding marks_of_word
marks-below n lt =
    ap (λ (p : ℕ). low_digits 64 (p - 1)) (shifted-one n lt)
    ∙ ap (λ (k : ℕ). low_digits k (2 ^ n - 1)) (let e : 64 ≡ n + (64 - n) = omega (arith, lt) in e)
    ∙ digits-below n (64 - n)

-- ---- one mark
bit_at_word : (w i : ℕ) → w < 2 ^ 64 → bit_at w i ≡ cond (get_or (marks_of_word w) i false) 1 0
bit_at_word w i h = ap (λ n. bit_at n i) (sym (word_from_marks w h)) ∙ bit_mask_l (marks_of_word w) i

as_test : (b : Bool) → (cond b 1 0 == 1) ≡ b
as_test true = refl
as_test false = refl

pub slice_get-marks : (w i : ℕ) → w < 2 ^ 64 → i < 64 → slice_get (marks_of_word w) i ≡ Some (bit_and (w / 2 ^ i) 1 == 1)
slice_get-marks w i h lt =
    slice_get-get_or (marks_of_word w) i false (omega (arith, length-marks_of_word w))
    ∙ ap Some (sym (ap (λ n. n == 1) (shr_and_one w i ∙ bit_at_word w i h) ∙ as_test _))

-- a word n that has the bits of w, but for bit i, which says b
marks-set : (n w i : ℕ) (b : Bool) → n < 2 ^ 64 → w < 2 ^ 64 → i < 64 → bit_at n i ≡ cond b 1 0 → ((j : ℕ) → j < 64 → j ≢ i → bit_at n j ≡ bit_at w j) → marks_of_word n ≡ set (marks_of_word w) i b
marks-set n w i b small h lt here others =
    ap marks_of_word (same_from_bits_below 64 n (mask_l (set (marks_of_word w) i b)) small below each) ∙ marks_from_word (set (marks_of_word w) i b) long
  where
    long : length (set (marks_of_word w) i b) ≡ 64
    long = length-set (marks_of_word w) i b ∙ length-marks_of_word w

    below : mask_l (set (marks_of_word w) i b) < 2 ^ 64
    below = subst (λ k. mask_l (set (marks_of_word w) i b) < 2 ^ k) long (mask_l-lt (set (marks_of_word w) i b))

    mark : (j : ℕ) → j < 64 → (j ≡ i) ⊎ ((j < i) ⊎ (i < j)) → bit_at n j ≡ cond (get_or (set (marks_of_word w) i b) j false) 1 0
    mark j room (inl e) = rw (e, get_or-set_same (marks_of_word w) i b false (omega (arith, length-marks_of_word w))) here
    mark j room (inr o) =
        let ne : j ≢ i = elim o [ inl l ↦ omega arith | inr g ↦ omega arith ] in
        rw (get_or-set_other (marks_of_word w) i j b false ne) (others j room ne ∙ bit_at_word w j h)

    each : (j : ℕ) → j < 64 → bit_at n j ≡ bit_at (mask_l (set (marks_of_word w) i b)) j
    each j room = mark j room (cases_order j i) ∙ sym (bit_mask_l (set (marks_of_word w) i b) j)

-- `w | 1 << i`
pub insert_lt : (w i : ℕ) → w < 2 ^ 64 → bit_or w (1 * 2 ^ i % 2 ^ 64) < 2 ^ 64
insert_lt w i h = or_lt 64 w (1 * 2 ^ i % 2 ^ 64) h (omega arith)

pub marks-insert : (w i : ℕ) → w < 2 ^ 64 → i < 64 → marks_of_word (bit_or w (1 * 2 ^ i % 2 ^ 64)) ≡ set (marks_of_word w) i true
marks-insert w i h lt =
    marks-set _ w i true (insert_lt w i h) h lt (bit_at_set_same w64 w i lt) (λ j room ne. bit_at_set_other w64 w i lt j ne)

-- `w & !(1 << i)`
pub marks-remove : (w i : ℕ) → w < 2 ^ 64 → i < 64 → marks_of_word (bit_and w (bit_not w64 (1 * 2 ^ i % 2 ^ 64))) ≡ set (marks_of_word w) i false
marks-remove w i h lt =
    marks-set _ w i false (omega (arith, and_le_l w (bit_not w64 (1 * 2 ^ i % 2 ^ 64)))) h lt (bit_at_clear_same w64 w i lt) (bit_at_clear_other w64 w i lt)

-- ---- all marks
-- the number of marks before the first that is set: `trailing_zeros`, or 64
first-marks : (w : ℕ) → w < 2 ^ 64 → cond (w == 0) 64 (trailing_zeros w64 w) ≡ position_or_len (λ b. b) (marks_of_word w)
first-marks w h =
    ap (λ n. cond (n == 0) 64 (trailing_zeros w64 n)) (sym (ap mask_l (map-id (marks_of_word w)) ∙ word_from_marks w h))
    ∙ first_set_mask_l (λ b. b) (marks_of_word w) 64 (length-marks_of_word w) (omega arith)

pub trailing_lt : (w : ℕ) → w < 2 ^ 64 → w ≢ 0 → trailing_zeros w64 w < 64
trailing_lt w h some = (bit_at-trailing_zeros w64 w (omega arith) h).0

pub position-marks : (w : ℕ) → w < 2 ^ 64 → position (λ b. b) (marks_of_word w) ≡ cond (w == 0) None (Some (trailing_zeros w64 w))
position-marks w h = rw (← first-marks w h, length-marks_of_word w) (at_zero (eqb_tells w 0))
  where
    at_zero : ((w == 0) ≡ true) × (w ≡ 0) ⊎ ((w == 0) ≡ false) × (w ≢ 0) → cond (ltb (cond (w == 0) 64 (trailing_zeros w64 w)) 64) (Some (cond (w == 0) 64 (trailing_zeros w64 w))) None ≡ cond (w == 0) None (Some (trailing_zeros w64 w))
    at_zero (inl e) = rw e.0
    at_zero (inr e) = rw (e.0, lt-ltb (trailing_zeros w64 w) 64 (trailing_lt w h e.1))

pub count_by-marks : (w : ℕ) → w < 2 ^ 64 → count_ones w ≡ count_by (λ b. b) (marks_of_word w)
count_by-marks w h = ap count_ones (sym (ap mask_l (map-id (marks_of_word w)) ∙ word_from_marks w h)) ∙ ones-mask_l (λ b. b) (marks_of_word w)

pub ones_few : (w : ℕ) → w < 2 ^ 64 → count_ones w ≤ 64
ones_few w h = omega (arith, count_by-marks w h, count_by-le-length (λ b. b) (marks_of_word w), length-marks_of_word w)

-- ---- two words
-- the test of the lower of two digits
both_tests : (a b : ℕ) → a < 2 → b < 2 → (min a b == 1) ≡ ((a == 1) && (b == 1))
both_tests zero b la lb = let e : min zero b ≡ 0 = omega arith in rw e refl
both_tests (suc zero) zero la lb = refl
both_tests (suc zero) (suc zero) la lb = refl
both_tests (suc zero) (suc (suc b)) la lb = absurd (omega arith)
both_tests (suc (suc a)) b la lb = absurd (omega arith)

lowest_of_both : (a b : ℕ) → (bit_and a b % 2 == 1) ≡ ((a % 2 == 1) && (b % 2 == 1))
lowest_of_both a b =
    ap (λ n. n == 1) (sym (bit_at_lowest (bit_and a b)) ∙ bit_at_and a b 0 ∙ ap₂ min (bit_at_lowest a) (bit_at_lowest b))
    ∙ both_tests (a % 2) (b % 2) (omega arith) (omega arith)

digits_of_both : (k a b : ℕ) → low_digits k (bit_and a b) ≡ both_marks (low_digits k a) (low_digits k b)
digits_of_both zero a b = refl
digits_of_both (suc k) a b = ap₂ (λ mark marks. mark ∷ marks) (lowest_of_both a b) (ap (low_digits k) (and_shr a b 1) ∙ digits_of_both k (a / 2) (b / 2))

pub marks-both : (a b : ℕ) → marks_of_word (bit_and a b) ≡ both_marks (marks_of_word a) (marks_of_word b)
unfolding marks_of_word
marks-both a b = digits_of_both 64 a b

-- `!n`, a digit at a time
turned_test : (n m : ℕ) → n < 2 → n + m ≡ 1 → (m == 1) ≡ not (n == 1)
turned_test zero m l is = let e : m ≡ 1 = omega (arith, is) in rw e refl
turned_test (suc zero) zero l is = refl
turned_test (suc zero) (suc m) l is = absurd (omega arith)
turned_test (suc (suc n)) m l is = absurd (omega arith)

digits_without : (k a b : ℕ) → b < 2 ^ k → low_digits k (bit_and a (2 ^ k - 1 - b)) ≡ marks_without (low_digits k a) (low_digits k b)
digits_without zero a b h = refl
digits_without (suc k) a b h =
    let turned : ℕ = 2 ^ suc k - 1 - b in
    let lowest : b % 2 + turned % 2 ≡ 1 = omega (arith, two-pow-succ k) in
    let half : turned / 2 ≡ 2 ^ k - 1 - b / 2 = omega (arith, two-pow-succ k) in
    ap₂ (λ mark marks. mark ∷ marks)
    (lowest_of_both a turned ∙ ap (λ t. (a % 2 == 1) && t) (turned_test (b % 2) (turned % 2) (omega arith) lowest))
    (ap (low_digits k) (and_shr a turned 1 ∙ ap (bit_and (a / 2)) half) ∙ digits_without k (a / 2) (b / 2) (omega (arith, two-pow-succ k)))

pub marks-without : (a b : ℕ) → b < 2 ^ 64 → marks_of_word (bit_and a (bit_not w64 b)) ≡ marks_without (marks_of_word a) (marks_of_word b)
unfolding marks_of_word
marks-without a b h = digits_without 64 a b h

pub both_lt : (a b : ℕ) → a < 2 ^ 64 → bit_and a b < 2 ^ 64
both_lt a b h = omega (arith, and_le_l a b)

pub ruleset word_laws = (common_steps, marks-zero, marks-all, slice_get-marks, insert_lt, marks-insert, marks-remove, trailing_lt, position-marks, count_by-marks, ones_few, marks-both, marks-without, both_lt, shifted-some, marks-below)
