-- Lists of letters, and what one more letter at the end changes.
use Rattle.std.proofs.Common.{◌≡◌, ◌⊎◌, ℕ, zero, suc, ◌+◌, ◌≤◌, Bool, true, false, cond, not, ◌&&◌, ◌||◌, List, [], ◌∷◌, ◌++◌, length, slice_get, Some, refl, sym, ◌∙◌, ap, inl, inr, arith}
use mathlib.Core.List.{IsPrefix}
use Rattle.std.proofs.lemmas.Bool.{false≢true}
use Rattle.dine_token.specs.declared.log_entry.Entry.{Entry}
use Rattle.dine_token.specs.Fork.{SeenFork}
use Rattle.dine_rules.specs.declared.letters.Letter.{Letter}
use Rattle.dine_rules.specs.declared.letters.Letter.TheVariants.{Fork, Request, Done, Close}
use Rattle.dine_rules.specs.Letters.{forks_in, requests_in, has_done, has_close, last_log_or}
use Rattle.dine_rules.specs.Streams.{is_alternating, is_done_last, is_close_last, logs_of}

pub or_false : (b : Bool) → (b || false) ≡ b
or_false true = refl
or_false false = refl

-- none is not one
pub none_is_not_one : (n : ℕ) → n ≡ 0 → n ≡ 1 → ⊥
none_is_not_one n none one = omega arith

pub or_true : (b : Bool) → (b || true) ≡ true
or_true true = refl
or_true false = refl

-- ---- counts and logs of two lists

pub forks_in-append : (xs ys : List Letter) → forks_in (xs ++ ys) ≡ forks_in xs + forks_in ys
forks_in-append [] ys = omega arith
forks_in-append (Fork fork ∷ xs) ys = omega (arith, forks_in-append xs ys)
forks_in-append (Request edge ∷ xs) ys = forks_in-append xs ys
forks_in-append (Done ∷ xs) ys = forks_in-append xs ys
forks_in-append (Close ∷ xs) ys = forks_in-append xs ys

pub requests_in-append : (xs ys : List Letter) → requests_in (xs ++ ys) ≡ requests_in xs + requests_in ys
requests_in-append [] ys = omega arith
requests_in-append (Fork fork ∷ xs) ys = requests_in-append xs ys
requests_in-append (Request edge ∷ xs) ys = omega (arith, requests_in-append xs ys)
requests_in-append (Done ∷ xs) ys = requests_in-append xs ys
requests_in-append (Close ∷ xs) ys = requests_in-append xs ys

-- a prefix has no more Forks than the whole
pub prefix_forks : (taken put : List Letter) → IsPrefix taken put → forks_in taken ≤ forks_in put
prefix_forks taken put h = omega (arith, forks_in-append taken h.0, ap forks_in h.1)

-- and no more Requests
pub prefix_requests : (taken put : List Letter) → IsPrefix taken put → requests_in taken ≤ requests_in put
prefix_requests taken put h = omega (arith, requests_in-append taken h.0, ap requests_in h.1)

pub has_done-append : (xs ys : List Letter) → has_done (xs ++ ys) ≡ (has_done xs || has_done ys)
has_done-append [] ys = refl
has_done-append (Fork fork ∷ xs) ys = has_done-append xs ys
has_done-append (Request edge ∷ xs) ys = has_done-append xs ys
has_done-append (Done ∷ xs) ys = refl
has_done-append (Close ∷ xs) ys = has_done-append xs ys

pub has_close-append : (xs ys : List Letter) → has_close (xs ++ ys) ≡ (has_close xs || has_close ys)
has_close-append [] ys = refl
has_close-append (Fork fork ∷ xs) ys = has_close-append xs ys
has_close-append (Request edge ∷ xs) ys = has_close-append xs ys
has_close-append (Done ∷ xs) ys = has_close-append xs ys
has_close-append (Close ∷ xs) ys = refl

pub last_log_or-append : (log : List Entry) (xs ys : List Letter) → last_log_or log (xs ++ ys) ≡ last_log_or (last_log_or log xs) ys
last_log_or-append log [] ys = refl
last_log_or-append log (Fork fork ∷ xs) ys = last_log_or-append fork.log xs ys
last_log_or-append log (Request edge ∷ xs) ys = last_log_or-append log xs ys
last_log_or-append log (Done ∷ xs) ys = last_log_or-append log xs ys
last_log_or-append log (Close ∷ xs) ys = last_log_or-append log xs ys

pub logs_of-append : (xs ys : List Letter) → logs_of (xs ++ ys) ≡ logs_of xs ++ logs_of ys
logs_of-append [] ys = refl
logs_of-append (Fork fork ∷ xs) ys = ap (λ (logs : List (List Entry)). fork.log ∷ logs) (logs_of-append xs ys)
logs_of-append (Request edge ∷ xs) ys = logs_of-append xs ys
logs_of-append (Done ∷ xs) ys = logs_of-append xs ys
logs_of-append (Close ∷ xs) ys = logs_of-append xs ys

-- as many logs as Forks
pub length-logs_of : (xs : List Letter) → length (logs_of xs) ≡ forks_in xs
length-logs_of [] = refl
length-logs_of (Fork fork ∷ xs) = ap (λ (n : ℕ). suc n) (length-logs_of xs)
length-logs_of (Request edge ∷ xs) = length-logs_of xs
length-logs_of (Done ∷ xs) = length-logs_of xs
length-logs_of (Close ∷ xs) = length-logs_of xs

-- with no Fork there is no last log
pub last_log_or-none : (log : List Entry) (xs : List Letter) → forks_in xs ≡ 0 → last_log_or log xs ≡ log
last_log_or-none log [] h = refl
last_log_or-none log (Fork fork ∷ xs) h = absurd (omega arith)
last_log_or-none log (Request edge ∷ xs) h = last_log_or-none log xs h
last_log_or-none log (Done ∷ xs) h = last_log_or-none log xs h
last_log_or-none log (Close ∷ xs) h = last_log_or-none log xs h

pub none_or_some : (xs : List Letter) → (forks_in xs ≡ 0) ⊎ (1 ≤ forks_in xs)
none_or_some xs = elim (forks_in xs) as (λ n. (n ≡ 0) ⊎ (1 ≤ n)) [ zero ↦ inl refl | suc n ↦ inr (omega arith) ]

-- the last log is that of a Fork, where there is one
pub last_log_or-some : (log : List Entry) (xs : List Letter) → 1 ≤ forks_in xs → (k : ℕ) × (fork : SeenFork) × (slice_get xs k ≡ Some (Fork fork)) × (last_log_or log xs ≡ fork.log)
last_log_or-some log [] h = absurd (omega arith)
last_log_or-some log (Fork fork ∷ []) h = (0, fork, refl, refl)
last_log_or-some log (Fork fork ∷ Fork next ∷ xs) h = let w = last_log_or-some fork.log (Fork next ∷ xs) (omega arith) in (suc w.0, w.1, w.2, w.3)
last_log_or-some log (Fork fork ∷ Request edge ∷ xs) h = elim (none_or_some xs) [
  | inl none ↦ (0, fork, refl, last_log_or-none fork.log xs none)
  | inr some ↦ let w = last_log_or-some fork.log (Request edge ∷ xs) some in (suc w.0, w.1, w.2, w.3)
]
last_log_or-some log (Fork fork ∷ Done ∷ xs) h = elim (none_or_some xs) [
  | inl none ↦ (0, fork, refl, last_log_or-none fork.log xs none)
  | inr some ↦ let w = last_log_or-some fork.log (Done ∷ xs) some in (suc w.0, w.1, w.2, w.3)
]
last_log_or-some log (Fork fork ∷ Close ∷ xs) h = elim (none_or_some xs) [
  | inl none ↦ (0, fork, refl, last_log_or-none fork.log xs none)
  | inr some ↦ let w = last_log_or-some fork.log (Close ∷ xs) some in (suc w.0, w.1, w.2, w.3)
]
last_log_or-some log (Request edge ∷ xs) h = let w = last_log_or-some log xs h in (suc w.0, w.1, w.2, w.3)
last_log_or-some log (Done ∷ xs) h = let w = last_log_or-some log xs h in (suc w.0, w.1, w.2, w.3)
last_log_or-some log (Close ∷ xs) h = let w = last_log_or-some log xs h in (suc w.0, w.1, w.2, w.3)

-- the last of the logs is the last log
pub last_log_or-at : (log : List Entry) (xs : List Letter) (k : ℕ) (last : List Entry) → slice_get (logs_of xs) k ≡ Some last → k + 1 ≡ forks_in xs → last_log_or log xs ≡ last
last_log_or-at log [] k last h n = absurd (omega arith)
last_log_or-at log (Fork fork ∷ xs) zero last h n = last_log_or-none fork.log xs (omega arith) ∙ cc
last_log_or-at log (Fork fork ∷ xs) (suc k) last h n = last_log_or-at fork.log xs k last h (omega arith)
last_log_or-at log (Request edge ∷ xs) k last h n = last_log_or-at log xs k last h n
last_log_or-at log (Done ∷ xs) k last h n = last_log_or-at log xs k last h n
last_log_or-at log (Close ∷ xs) k last h n = last_log_or-at log xs k last h n

-- an element of a list with one more is the last one, or one of the list
pub slice_get-push : {X : Type 0} (xs : List X) (x y : X) (k : ℕ) → slice_get (xs ++ x ∷ []) k ≡ Some y → (slice_get xs k ≡ Some y) ⊎ ((k ≡ length xs) × (x ≡ y))
slice_get-push [] x y zero h = inr (refl, cc)
slice_get-push [] x y (suc k) h = absurd cc
slice_get-push (z ∷ xs) x y zero h = inl h
slice_get-push (z ∷ xs) x y (suc k) h = elim (slice_get-push xs x y k h) [ inl w ↦ inl w | inr w ↦ inr (omega (arith, w.0), w.1) ]

-- an element of the first of two lists is one of both
pub slice_get-before : {X : Type 0} (xs ys : List X) (y : X) (k : ℕ) → slice_get xs k ≡ Some y → slice_get (xs ++ ys) k ≡ Some y
slice_get-before [] ys y k h = absurd cc
slice_get-before (x ∷ xs) ys y zero h = h
slice_get-before (x ∷ xs) ys y (suc k) h = slice_get-before xs ys y k h

-- ---- turns

pub forks_in_turn : (fork_next : Bool) (xs : List Letter) → is_alternating fork_next xs ≡ true → (forks_in xs ≤ cond fork_next 1 0 + requests_in xs) × (cond fork_next 1 0 + requests_in xs ≤ forks_in xs + 1)
forks_in_turn true [] h = (omega arith, omega arith)
forks_in_turn false [] h = (omega arith, omega arith)
forks_in_turn true (Fork fork ∷ xs) h = let w = forks_in_turn false xs h in (omega (arith, w.0), omega (arith, w.1))
forks_in_turn false (Fork fork ∷ xs) h = absurd (false≢true h)
forks_in_turn true (Request edge ∷ xs) h = absurd (false≢true h)
forks_in_turn false (Request edge ∷ xs) h = let w = forks_in_turn true xs h in (omega (arith, w.0), omega (arith, w.1))
forks_in_turn true (Done ∷ xs) h = forks_in_turn true xs h
forks_in_turn false (Done ∷ xs) h = forks_in_turn false xs h
forks_in_turn true (Close ∷ xs) h = forks_in_turn true xs h
forks_in_turn false (Close ∷ xs) h = forks_in_turn false xs h

pub is_alternating-push_fork : (fork_next : Bool) (xs : List Letter) (last : SeenFork) → is_alternating fork_next xs ≡ true → cond fork_next 1 0 + requests_in xs ≡ forks_in xs + 1 → is_alternating fork_next (xs ++ Fork last ∷ []) ≡ true
is_alternating-push_fork true [] last h n = refl
is_alternating-push_fork false [] last h n = absurd (omega arith)
is_alternating-push_fork true (Fork fork ∷ xs) last h n = is_alternating-push_fork false xs last h (omega arith)
is_alternating-push_fork false (Fork fork ∷ xs) last h n = absurd (false≢true h)
is_alternating-push_fork true (Request edge ∷ xs) last h n = absurd (false≢true h)
is_alternating-push_fork false (Request edge ∷ xs) last h n = is_alternating-push_fork true xs last h (omega arith)
is_alternating-push_fork true (Done ∷ xs) last h n = is_alternating-push_fork true xs last h n
is_alternating-push_fork false (Done ∷ xs) last h n = is_alternating-push_fork false xs last h n
is_alternating-push_fork true (Close ∷ xs) last h n = is_alternating-push_fork true xs last h n
is_alternating-push_fork false (Close ∷ xs) last h n = is_alternating-push_fork false xs last h n

pub is_alternating-push_request : (fork_next : Bool) (xs : List Letter) (edge : ℕ) → is_alternating fork_next xs ≡ true → cond fork_next 1 0 + requests_in xs ≡ forks_in xs → is_alternating fork_next (xs ++ Request edge ∷ []) ≡ true
is_alternating-push_request true [] edge h n = absurd (omega arith)
is_alternating-push_request false [] edge h n = refl
is_alternating-push_request true (Fork fork ∷ xs) edge h n = is_alternating-push_request false xs edge h (omega arith)
is_alternating-push_request false (Fork fork ∷ xs) edge h n = absurd (false≢true h)
is_alternating-push_request true (Request e ∷ xs) edge h n = absurd (false≢true h)
is_alternating-push_request false (Request e ∷ xs) edge h n = is_alternating-push_request true xs edge h (omega arith)
is_alternating-push_request true (Done ∷ xs) edge h n = is_alternating-push_request true xs edge h n
is_alternating-push_request false (Done ∷ xs) edge h n = is_alternating-push_request false xs edge h n
is_alternating-push_request true (Close ∷ xs) edge h n = is_alternating-push_request true xs edge h n
is_alternating-push_request false (Close ∷ xs) edge h n = is_alternating-push_request false xs edge h n

pub is_alternating-push_done : (fork_next : Bool) (xs : List Letter) → is_alternating fork_next (xs ++ Done ∷ []) ≡ is_alternating fork_next xs
is_alternating-push_done fork_next [] = refl
is_alternating-push_done fork_next (Fork fork ∷ xs) = ap (λ (b : Bool). fork_next && b) (is_alternating-push_done false xs)
is_alternating-push_done fork_next (Request e ∷ xs) = ap (λ (b : Bool). not fork_next && b) (is_alternating-push_done true xs)
is_alternating-push_done fork_next (Done ∷ xs) = is_alternating-push_done fork_next xs
is_alternating-push_done fork_next (Close ∷ xs) = is_alternating-push_done fork_next xs

pub is_alternating-push_close : (fork_next : Bool) (xs : List Letter) → is_alternating fork_next (xs ++ Close ∷ []) ≡ is_alternating fork_next xs
is_alternating-push_close fork_next [] = refl
is_alternating-push_close fork_next (Fork fork ∷ xs) = ap (λ (b : Bool). fork_next && b) (is_alternating-push_close false xs)
is_alternating-push_close fork_next (Request e ∷ xs) = ap (λ (b : Bool). not fork_next && b) (is_alternating-push_close true xs)
is_alternating-push_close fork_next (Done ∷ xs) = is_alternating-push_close fork_next xs
is_alternating-push_close fork_next (Close ∷ xs) = is_alternating-push_close fork_next xs

-- ---- Done and Close

has_done-push_fork : (xs : List Letter) (fork : SeenFork) → has_done (xs ++ Fork fork ∷ []) ≡ has_done xs
has_done-push_fork xs fork = has_done-append xs (Fork fork ∷ []) ∙ or_false (has_done xs)

has_done-push_close : (xs : List Letter) → has_done (xs ++ Close ∷ []) ≡ has_done xs
has_done-push_close xs = has_done-append xs (Close ∷ []) ∙ or_false (has_done xs)

requests_in-push_fork : (xs : List Letter) (fork : SeenFork) → requests_in (xs ++ Fork fork ∷ []) ≡ requests_in xs
requests_in-push_fork xs fork = omega (arith, requests_in-append xs (Fork fork ∷ []))

requests_in-push_close : (xs : List Letter) → requests_in (xs ++ Close ∷ []) ≡ requests_in xs
requests_in-push_close xs = omega (arith, requests_in-append xs (Close ∷ []))

-- behind Done a letter may stand that is neither a Request nor Done
pub is_done_last-push_other : (xs : List Letter) (l : Letter) → requests_in (l ∷ []) ≡ 0 → has_done (l ∷ []) ≡ false → is_done_last xs ≡ true → is_done_last (xs ++ l ∷ []) ≡ true
is_done_last-push_other [] (Fork fork) r d h = refl
is_done_last-push_other [] (Request edge) r d h = refl
is_done_last-push_other [] Done r d h = refl
is_done_last-push_other [] Close r d h = refl
is_done_last-push_other (Fork fork ∷ xs) l r d h = is_done_last-push_other xs l r d h
is_done_last-push_other (Request edge ∷ xs) l r d h = is_done_last-push_other xs l r d h
is_done_last-push_other (Done ∷ xs) (Fork fork) r d h = rw (has_done-push_fork xs fork, requests_in-push_fork xs fork) h
is_done_last-push_other (Done ∷ xs) (Request edge) r d h = absurd (omega arith)
is_done_last-push_other (Done ∷ xs) Done r d h = absurd (false≢true (sym d))
is_done_last-push_other (Done ∷ xs) Close r d h = rw (has_done-push_close xs, requests_in-push_close xs) h
is_done_last-push_other (Close ∷ xs) l r d h = is_done_last-push_other xs l r d h

-- any letter may stand behind letters without Done
pub is_done_last-push_first : (xs : List Letter) (l : Letter) → has_done xs ≡ false → is_done_last (xs ++ l ∷ []) ≡ true
is_done_last-push_first [] (Fork fork) h = refl
is_done_last-push_first [] (Request edge) h = refl
is_done_last-push_first [] Done h = refl
is_done_last-push_first [] Close h = refl
is_done_last-push_first (Fork fork ∷ xs) l h = is_done_last-push_first xs l h
is_done_last-push_first (Request edge ∷ xs) l h = is_done_last-push_first xs l h
is_done_last-push_first (Done ∷ xs) l h = absurd (false≢true (sym h))
is_done_last-push_first (Close ∷ xs) l h = is_done_last-push_first xs l h

-- any letter may stand behind letters without Close
pub is_close_last-push : (xs : List Letter) (l : Letter) → has_close xs ≡ false → is_close_last (xs ++ l ∷ []) ≡ true
is_close_last-push [] (Fork fork) h = refl
is_close_last-push [] (Request edge) h = refl
is_close_last-push [] Done h = refl
is_close_last-push [] Close h = refl
is_close_last-push (Fork fork ∷ xs) l h = is_close_last-push xs l h
is_close_last-push (Request edge ∷ xs) l h = is_close_last-push xs l h
is_close_last-push (Done ∷ xs) l h = is_close_last-push xs l h
is_close_last-push (Close ∷ xs) l h = absurd (false≢true (sym h))
