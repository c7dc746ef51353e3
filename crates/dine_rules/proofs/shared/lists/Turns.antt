-- A letter in the middle of a stream: what comes before it.
use Rattle.std.proofs.Common.{◌≡◌, ℕ, ◌+◌, Bool, true, false, cond, not, ◌==◌, List, [], ◌∷◌, ◌++◌, length, slice_get, Some, refl, sym, ◌∙◌, ap, arith}
use Rattle.std.proofs.lemmas.Bool.{false≢true, true≢false, and_parts, not-true, eqb-true}
use Rattle.dine_token.specs.Fork.{SeenFork}
use Rattle.dine_rules.specs.declared.letters.Letter.{Letter}
use Rattle.dine_rules.specs.declared.letters.Letter.TheVariants.{Fork, Request, Done, Close}
use Rattle.dine_rules.specs.Letters.{forks_in, requests_in, has_done, has_close}
use Rattle.dine_rules.specs.Streams.{IsLawfulStream, is_alternating, is_done_last, is_close_last, is_orderly}
use Rattle.dine_rules.proofs.shared.lists.Counting.{requests_in-append, has_done-append, or_true, is_alternating-push_fork, is_alternating-push_request, is_alternating-push_done, is_alternating-push_close, is_done_last-push_other, is_done_last-push_first, is_close_last-push}

-- the letter behind a front is at the front's length
pub slice_get-behind : (xs rest : List Letter) (l : Letter) → slice_get (xs ++ l ∷ rest) (length xs) ≡ Some l
slice_get-behind [] rest l = refl
slice_get-behind (x ∷ xs) rest l = slice_get-behind xs rest l

-- before a Request in turn stand as many Forks as Requests, and one more where the stream starts with a Fork
pub turn_of_request : (fork_next : Bool) (xs rest : List Letter) (edge : ℕ) → is_alternating fork_next (xs ++ Request edge ∷ rest) ≡ true → cond fork_next 1 0 + requests_in xs ≡ forks_in xs
turn_of_request true [] rest edge h = absurd (false≢true h)
turn_of_request false [] rest edge h = refl
turn_of_request true (Fork fork ∷ xs) rest edge h = omega (arith, turn_of_request false xs rest edge h)
turn_of_request false (Fork fork ∷ xs) rest edge h = absurd (false≢true h)
turn_of_request true (Request e ∷ xs) rest edge h = absurd (false≢true h)
turn_of_request false (Request e ∷ xs) rest edge h = omega (arith, turn_of_request true xs rest edge h)
turn_of_request true (Done ∷ xs) rest edge h = turn_of_request true xs rest edge h
turn_of_request false (Done ∷ xs) rest edge h = turn_of_request false xs rest edge h
turn_of_request true (Close ∷ xs) rest edge h = turn_of_request true xs rest edge h
turn_of_request false (Close ∷ xs) rest edge h = turn_of_request false xs rest edge h

-- before a Fork in turn stands one Fork less
pub turn_of_fork : (fork_next : Bool) (xs rest : List Letter) (next : SeenFork) → is_alternating fork_next (xs ++ Fork next ∷ rest) ≡ true → cond fork_next 1 0 + requests_in xs ≡ forks_in xs + 1
turn_of_fork true [] rest next h = refl
turn_of_fork false [] rest next h = absurd (false≢true h)
turn_of_fork true (Fork fork ∷ xs) rest next h = omega (arith, turn_of_fork false xs rest next h)
turn_of_fork false (Fork fork ∷ xs) rest next h = absurd (false≢true h)
turn_of_fork true (Request e ∷ xs) rest next h = absurd (false≢true h)
turn_of_fork false (Request e ∷ xs) rest next h = omega (arith, turn_of_fork true xs rest next h)
turn_of_fork true (Done ∷ xs) rest next h = turn_of_fork true xs rest next h
turn_of_fork false (Done ∷ xs) rest next h = turn_of_fork false xs rest next h
turn_of_fork true (Close ∷ xs) rest next h = turn_of_fork true xs rest next h
turn_of_fork false (Close ∷ xs) rest next h = turn_of_fork false xs rest next h

-- no Close stands before another letter
pub open_before : (xs rest : List Letter) (l : Letter) → is_close_last (xs ++ l ∷ rest) ≡ true → has_close xs ≡ false
open_before [] rest l h = refl
open_before (Fork fork ∷ xs) rest l h = open_before xs rest l h
open_before (Request edge ∷ xs) rest l h = open_before xs rest l h
open_before (Done ∷ xs) rest l h = open_before xs rest l h
open_before (Close ∷ []) rest l h = absurd (false≢true h)
open_before (Close ∷ x ∷ xs) rest l h = absurd (false≢true h)

-- no Done stands before a Request
pub not_done_before_request : (xs rest : List Letter) (edge : ℕ) → is_done_last (xs ++ Request edge ∷ rest) ≡ true → has_done xs ≡ false
not_done_before_request [] rest edge h = refl
not_done_before_request (Fork fork ∷ xs) rest edge h = not_done_before_request xs rest edge h
not_done_before_request (Request e ∷ xs) rest edge h = not_done_before_request xs rest edge h
not_done_before_request (Done ∷ xs) rest edge h =
    let none : requests_in (xs ++ Request edge ∷ rest) ≡ 0 = eqb-true (requests_in (xs ++ Request edge ∷ rest)) 0 (and_parts (not (has_done (xs ++ Request edge ∷ rest))) (requests_in (xs ++ Request edge ∷ rest) == 0) h).1 in
    absurd (omega (arith, requests_in-append xs (Request edge ∷ rest)))
not_done_before_request (Close ∷ xs) rest edge h = not_done_before_request xs rest edge h

-- no Done stands before Done
pub not_done_before_done : (xs rest : List Letter) → is_done_last (xs ++ Done ∷ rest) ≡ true → has_done xs ≡ false
not_done_before_done [] rest h = refl
not_done_before_done (Fork fork ∷ xs) rest h = not_done_before_done xs rest h
not_done_before_done (Request e ∷ xs) rest h = not_done_before_done xs rest h
not_done_before_done (Done ∷ xs) rest h =
    absurd (true≢false (sym (has_done-append xs (Done ∷ rest) ∙ or_true (has_done xs)) ∙ not-true (has_done (xs ++ Done ∷ rest)) (and_parts _ _ h).0))
not_done_before_done (Close ∷ xs) rest h = not_done_before_done xs rest h

-- Done stands before Close where the stream is orderly
pub done_before_close : (xs rest : List Letter) → is_orderly (xs ++ Close ∷ rest) ≡ true → has_done xs ≡ true
done_before_close [] rest h = absurd (false≢true h)
done_before_close (Fork fork ∷ xs) rest h = done_before_close xs rest h
done_before_close (Request e ∷ xs) rest h = done_before_close xs rest h
done_before_close (Done ∷ xs) rest h = refl
done_before_close (Close ∷ xs) rest h = absurd (false≢true h)

-- a stream with a Close, behind which nothing stands, ends in Close
pub ends_in_close : (xs : List Letter) → is_close_last xs ≡ true → has_close xs ≡ true → (before : List Letter) × (xs ≡ before ++ Close ∷ [])
ends_in_close [] last closed = absurd (false≢true closed)
ends_in_close (Close ∷ []) last closed = ([], refl)
ends_in_close (Close ∷ x ∷ xs) last closed = absurd (false≢true last)
ends_in_close (Fork fork ∷ xs) last closed = let w = ends_in_close xs last closed in (Fork fork ∷ w.0, ap (λ (l : List Letter). Fork fork ∷ l) w.1)
ends_in_close (Request edge ∷ xs) last closed = let w = ends_in_close xs last closed in (Request edge ∷ w.0, ap (λ (l : List Letter). Request edge ∷ l) w.1)
ends_in_close (Done ∷ xs) last closed = let w = ends_in_close xs last closed in (Done ∷ w.0, ap (λ (l : List Letter). Done ∷ l) w.1)

-- an orderly stream stays so where any letter but Close follows
pub is_orderly-push_other : (xs : List Letter) (l : Letter) → has_close (l ∷ []) ≡ false → is_orderly xs ≡ true → is_orderly (xs ++ l ∷ []) ≡ true
is_orderly-push_other [] (Fork fork) no_close h = refl
is_orderly-push_other [] (Request edge) no_close h = refl
is_orderly-push_other [] Done no_close h = refl
is_orderly-push_other [] Close no_close h = absurd (true≢false no_close)
is_orderly-push_other (Fork fork ∷ xs) l no_close h = is_orderly-push_other xs l no_close h
is_orderly-push_other (Request edge ∷ xs) l no_close h = is_orderly-push_other xs l no_close h
is_orderly-push_other (Done ∷ xs) l no_close h = refl
is_orderly-push_other (Close ∷ xs) l no_close h = absurd (false≢true h)

-- and where Close follows Done
pub is_orderly-push_close : (xs : List Letter) → has_done xs ≡ true → is_orderly xs ≡ true → is_orderly (xs ++ Close ∷ []) ≡ true
is_orderly-push_close [] done h = absurd (false≢true done)
is_orderly-push_close (Fork fork ∷ xs) done h = is_orderly-push_close xs done h
is_orderly-push_close (Request edge ∷ xs) done h = is_orderly-push_close xs done h
is_orderly-push_close (Done ∷ xs) done h = refl
is_orderly-push_close (Close ∷ xs) done h = absurd (false≢true h)

-- ---- a lawful stream with one letter more

pub stream-push_fork : (fork_next : Bool) (xs : List Letter) (fork : SeenFork) → IsLawfulStream fork_next xs → has_close xs ≡ false → cond fork_next 1 0 + requests_in xs ≡ forks_in xs + 1 → IsLawfulStream fork_next (xs ++ Fork fork ∷ [])
stream-push_fork fork_next xs fork lawful is_open turn = record {
  alternating = is_alternating-push_fork fork_next xs fork lawful.alternating turn;
  done_last = is_done_last-push_other xs (Fork fork) refl refl lawful.done_last;
  close_last = is_close_last-push xs (Fork fork) is_open;
}

pub stream-push_request : (fork_next : Bool) (xs : List Letter) (edge : ℕ) → IsLawfulStream fork_next xs → has_close xs ≡ false → has_done xs ≡ false → cond fork_next 1 0 + requests_in xs ≡ forks_in xs → IsLawfulStream fork_next (xs ++ Request edge ∷ [])
stream-push_request fork_next xs edge lawful is_open no_done turn = record {
  alternating = is_alternating-push_request fork_next xs edge lawful.alternating turn;
  done_last = is_done_last-push_first xs (Request edge) no_done;
  close_last = is_close_last-push xs (Request edge) is_open;
}

pub stream-push_done : (fork_next : Bool) (xs : List Letter) → IsLawfulStream fork_next xs → has_close xs ≡ false → has_done xs ≡ false → IsLawfulStream fork_next (xs ++ Done ∷ [])
stream-push_done fork_next xs lawful is_open no_done = record {
  alternating = is_alternating-push_done fork_next xs ∙ lawful.alternating;
  done_last = is_done_last-push_first xs Done no_done;
  close_last = is_close_last-push xs Done is_open;
}

pub stream-push_close : (fork_next : Bool) (xs : List Letter) → IsLawfulStream fork_next xs → has_close xs ≡ false → IsLawfulStream fork_next (xs ++ Close ∷ [])
stream-push_close fork_next xs lawful is_open = record {
  alternating = is_alternating-push_close fork_next xs ∙ lawful.alternating;
  done_last = is_done_last-push_other xs Close refl refl lawful.done_last;
  close_last = is_close_last-push xs Close is_open;
}
