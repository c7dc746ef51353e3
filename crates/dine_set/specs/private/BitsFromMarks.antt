-- The marks of a word give the word back, which lets a `BitSet64` be copied.
use Rattle.std.proofs.Common.{◌≡◌, ℕ, zero, suc, ◌/◌, ◌%◌, ◌^◌, ◌<◌, ◌==◌, inl, inr, cond, sym, arith}
use Rattle.std.proofs.lemmas.Bool.Decides.{eqb_tells}
use Rattle.std.proofs.Math.Nat.{two-pow-succ}
use lib.Lanes.{mask_l}
use Rattle.dine_set.specs.Marks.{low_digits, marks_of_word}

-- the lowest binary digit of a number is what is left when it is halved
lowest : (n : ℕ) → cond (n % 2 == 1) 1 0 ≡ n % 2
lowest n =
    elim (eqb_tells (n % 2) 1) [
      | inl e ↦ rw e.0 (sym e.1)
      | inr e ↦ rw e.0 (omega (arith, e.1))
    ]

-- the k lowest digits of a number below 2^k give it back
word_from_digits : (k n : ℕ) → n < 2 ^ k → mask_l (low_digits k n) ≡ n
word_from_digits zero n h = omega arith
word_from_digits (suc k) n h =
    let half : n / 2 < 2 ^ k = omega (arith, two-pow-succ k) in
    omega (arith, lowest n, word_from_digits k (n / 2) half)

-- the marks of a word give it back: a lemma, which lets a `BitSet64` be copied
pub word_from_marks : (w : ℕ) → w < 2 ^ 64 → mask_l (marks_of_word w) ≡ w
unfolding marks_of_word
word_from_marks w h = word_from_digits 64 w h
