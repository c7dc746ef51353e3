-- Lists of letters with the same bytes: they have their Forks at the same places, and they are the same if their Forks
-- are.
use Rattle.std.proofs.Common.{◌≡◌, ℕ, zero, suc, List, [], ◌∷◌, ◌++◌, get_or, slice_get, Some, refl, sym, ◌∙◌, ap, subst, arith}
use mathlib.Core.List.{IsPrefix}
use Rattle.dine_token.specs.Fork.{SeenFork}
use Rattle.dine_rules.specs.declared.letters.Letter.{Letter}
use Rattle.dine_rules.specs.declared.letters.Letter.TheVariants.{Fork, Request, Done, Close}
use Rattle.dine_rules.specs.Letters.{forks_among}
use Rattle.dine_rules.specs.Streams.{AreRequestsOf}
use Rattle.dine_wire.specs.Carried.{bytes_of_each, letter_bytes}

-- ---- the byte of the kind, behind the number of the run

abbrev kind_byte : Letter → ℕ
kind_byte (Fork fork) = 1
kind_byte (Request edge) = 2
kind_byte Done = 3
kind_byte Close = 4

first_byte : (run edge : ℕ) (l : Letter) → get_or (letter_bytes run edge l) 8 0 ≡ kind_byte l
first_byte run edge (Fork fork) = refl
first_byte run edge (Request e) = refl
first_byte run edge Done = refl
first_byte run edge Close = refl

-- letters with the same bytes are of one kind
same_kind : (run edge : ℕ) (one other : Letter) → letter_bytes run edge one ≡ letter_bytes run edge other → kind_byte one ≡ kind_byte other
same_kind run edge one other same = sym (first_byte run edge one) ∙ ap (λ (bytes : List ℕ). get_or bytes 8 0) same ∙ first_byte run edge other

-- ---- the front of a list

module _ (run edge : ℕ) where
  abbrev b : Letter → List ℕ
  b l = letter_bytes run edge l

  -- the first letters, and the others
  heads : (one other : Letter) (ones others : List Letter) (rest : List (List ℕ)) → bytes_of_each run edge (one ∷ ones) ++ rest ≡ bytes_of_each run edge (other ∷ others) → b one ≡ b other
  heads one other ones others rest is = ap (λ (l : List (List ℕ)). get_or l 0 []) is

  tails : (one other : Letter) (ones others : List Letter) (rest : List (List ℕ)) → bytes_of_each run edge (one ∷ ones) ++ rest ≡ bytes_of_each run edge (other ∷ others) → bytes_of_each run edge ones ++ rest ≡ bytes_of_each run edge others
  tails one other ones others rest is = ap tail is
    where
      tail : List (List ℕ) → List (List ℕ)
      tail [] = []
      tail (x ∷ xs) = xs

  none_behind : (one : Letter) (ones : List Letter) (rest : List (List ℕ)) → bytes_of_each run edge (one ∷ ones) ++ rest ≡ [] → ⊥
  none_behind one ones rest is = cc

  -- ---- the Forks

  -- the k-th Fork of the front is there in the whole, with the same bytes
  abbrev pub HasForkLike : List Letter → ℕ → SeenFork → Type 0
  HasForkLike put k fork = (other : SeenFork) × (slice_get (forks_among put) k ≡ Some other) × (letter_bytes run edge (Fork fork) ≡ letter_bytes run edge (Fork other))

  pub fork_like : (taken put : List Letter) (rest : List (List ℕ)) → bytes_of_each run edge taken ++ rest ≡ bytes_of_each run edge put → (k : ℕ) (fork : SeenFork) → slice_get (forks_among taken) k ≡ Some fork → HasForkLike put k fork
  fork_like [] put rest is k fork h = absurd cc
  fork_like (one ∷ ones) [] rest is k fork h = absurd (none_behind one ones rest is)
  fork_like (Fork one ∷ ones) (Fork other ∷ others) rest is zero fork h =
      let same : one ≡ fork = cc in
      (other, refl, ap (λ (f : SeenFork). letter_bytes run edge (Fork f)) (sym same) ∙ heads (Fork one) (Fork other) ones others rest is)
  fork_like (Fork one ∷ ones) (Fork other ∷ others) rest is (suc k) fork h = fork_like ones others rest (tails (Fork one) (Fork other) ones others rest is) k fork h
  fork_like (Fork one ∷ ones) (Request e ∷ others) rest is k fork h = absurd (omega (arith, same_kind run edge (Fork one) (Request e) (heads (Fork one) (Request e) ones others rest is)))
  fork_like (Fork one ∷ ones) (Done ∷ others) rest is k fork h = absurd (omega (arith, same_kind run edge (Fork one) Done (heads (Fork one) Done ones others rest is)))
  fork_like (Fork one ∷ ones) (Close ∷ others) rest is k fork h = absurd (omega (arith, same_kind run edge (Fork one) Close (heads (Fork one) Close ones others rest is)))
  fork_like (Request d ∷ ones) (Fork other ∷ others) rest is k fork h = absurd (omega (arith, same_kind run edge (Request d) (Fork other) (heads (Request d) (Fork other) ones others rest is)))
  fork_like (Request d ∷ ones) (Request e ∷ others) rest is k fork h = fork_like ones others rest (tails (Request d) (Request e) ones others rest is) k fork h
  fork_like (Request d ∷ ones) (Done ∷ others) rest is k fork h = fork_like ones others rest (tails (Request d) Done ones others rest is) k fork h
  fork_like (Request d ∷ ones) (Close ∷ others) rest is k fork h = fork_like ones others rest (tails (Request d) Close ones others rest is) k fork h
  fork_like (Done ∷ ones) (Fork other ∷ others) rest is k fork h = absurd (omega (arith, same_kind run edge Done (Fork other) (heads Done (Fork other) ones others rest is)))
  fork_like (Done ∷ ones) (Request e ∷ others) rest is k fork h = fork_like ones others rest (tails Done (Request e) ones others rest is) k fork h
  fork_like (Done ∷ ones) (Done ∷ others) rest is k fork h = fork_like ones others rest (tails Done Done ones others rest is) k fork h
  fork_like (Done ∷ ones) (Close ∷ others) rest is k fork h = fork_like ones others rest (tails Done Close ones others rest is) k fork h
  fork_like (Close ∷ ones) (Fork other ∷ others) rest is k fork h = absurd (omega (arith, same_kind run edge Close (Fork other) (heads Close (Fork other) ones others rest is)))
  fork_like (Close ∷ ones) (Request e ∷ others) rest is k fork h = fork_like ones others rest (tails Close (Request e) ones others rest is) k fork h
  fork_like (Close ∷ ones) (Done ∷ others) rest is k fork h = fork_like ones others rest (tails Close Done ones others rest is) k fork h
  fork_like (Close ∷ ones) (Close ∷ others) rest is k fork h = fork_like ones others rest (tails Close Close ones others rest is) k fork h

  -- ---- the letters

  -- the Forks at the same places are the same
  abbrev pub AreSameForks : List Letter → List Letter → Type 0
  AreSameForks taken put = (k : ℕ) (one other : SeenFork) → slice_get (forks_among taken) k ≡ Some one → slice_get (forks_among put) k ≡ Some other → one ≡ other

  -- letters with the same bytes are the same, if they are not different Forks and their Requests name the edge
  same_letter : (one other : Letter) (ones others : List Letter) → AreSameForks (one ∷ ones) (other ∷ others) → AreRequestsOf edge (one ∷ ones) → AreRequestsOf edge (other ∷ others) → b one ≡ b other → one ≡ other
  same_letter (Fork one) (Fork other) ones others forks mine theirs same = ap (λ (f : SeenFork). Fork f) (forks 0 one other refl refl)
  same_letter (Fork one) (Request e) ones others forks mine theirs same = absurd (omega (arith, same_kind run edge (Fork one) (Request e) same))
  same_letter (Fork one) Done ones others forks mine theirs same = absurd (omega (arith, same_kind run edge (Fork one) Done same))
  same_letter (Fork one) Close ones others forks mine theirs same = absurd (omega (arith, same_kind run edge (Fork one) Close same))
  same_letter (Request d) (Fork other) ones others forks mine theirs same = absurd (omega (arith, same_kind run edge (Request d) (Fork other) same))
  same_letter (Request d) (Request e) ones others forks mine theirs same = ap (λ (n : ℕ). Request n) (mine 0 d refl ∙ sym (theirs 0 e refl))
  same_letter (Request d) Done ones others forks mine theirs same = absurd (omega (arith, same_kind run edge (Request d) Done same))
  same_letter (Request d) Close ones others forks mine theirs same = absurd (omega (arith, same_kind run edge (Request d) Close same))
  same_letter Done (Fork other) ones others forks mine theirs same = absurd (omega (arith, same_kind run edge Done (Fork other) same))
  same_letter Done (Request e) ones others forks mine theirs same = absurd (omega (arith, same_kind run edge Done (Request e) same))
  same_letter Done Done ones others forks mine theirs same = refl
  same_letter Done Close ones others forks mine theirs same = absurd (omega (arith, same_kind run edge Done Close same))
  same_letter Close (Fork other) ones others forks mine theirs same = absurd (omega (arith, same_kind run edge Close (Fork other) same))
  same_letter Close (Request e) ones others forks mine theirs same = absurd (omega (arith, same_kind run edge Close (Request e) same))
  same_letter Close Done ones others forks mine theirs same = absurd (omega (arith, same_kind run edge Close Done same))
  same_letter Close Close ones others forks mine theirs same = refl

  -- the Forks behind the first letter
  forks_behind : (l : Letter) (ones others : List Letter) → AreSameForks (l ∷ ones) (l ∷ others) → AreSameForks ones others
  forks_behind (Fork fork) ones others forks = λ k one other here there. forks (suc k) one other here there
  forks_behind (Request e) ones others forks = forks
  forks_behind Done ones others forks = forks
  forks_behind Close ones others forks = forks

  pub same_front : (taken put : List Letter) (rest : List (List ℕ)) → bytes_of_each run edge taken ++ rest ≡ bytes_of_each run edge put → AreSameForks taken put → AreRequestsOf edge taken → AreRequestsOf edge put → IsPrefix taken put
  same_front [] put rest is forks mine theirs = (put, refl)
  same_front (one ∷ ones) [] rest is forks mine theirs = absurd (none_behind one ones rest is)
  same_front (one ∷ ones) (other ∷ others) rest is forks mine theirs =
      let same : one ≡ other = same_letter one other ones others forks mine theirs (heads one other ones others rest is) in
      let forks_too : AreSameForks (other ∷ ones) (other ∷ others) = subst (λ (l : Letter). AreSameForks (l ∷ ones) (other ∷ others)) same forks in
      let w = same_front ones others rest (tails one other ones others rest is) (forks_behind other ones others forks_too) (λ k e h. mine (suc k) e h) (λ k e h. theirs (suc k) e h) in
      (w.0, ap (λ (l : Letter). l ∷ ones ++ w.0) same ∙ ap (λ (l : List Letter). other ∷ l) w.1)
