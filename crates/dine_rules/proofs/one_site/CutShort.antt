-- What a link has of the letters of a site is in order: the first of them, or the first of them and then a Close.
use Rattle.std.proofs.Common.{◌≡◌, ℕ, ◌+◌, ◌<◌, ◌==◌, Bool, true, false, not, ◌||◌, List, [], ◌∷◌, ◌++◌, length, Some, refl, sym, ◌∙◌, ap, inl, inr, arith, append_assoc}
use Rattle.std.specs.List.{slice_get}
use Rattle.std.proofs.lemmas.Bool.{and_parts, eqb-true, false≢true}
use Rattle.std.proofs.lemmas.List.{append-nil}
use Rattle.dine_token.specs.declared.log_entry.Entry.{Entry}
use Rattle.dine_token.specs.Log.{meals_of}
use Rattle.dine_graph.specs.Plan.{SeenPlan, other_of}
use Rattle.dine_rules.specs.declared.letters.Letter.{Letter}
use Rattle.dine_rules.specs.declared.letters.Letter.TheVariants.{Fork, Request, Done, Close}
use Rattle.dine_rules.specs.Holdings.{forks_held}
use Rattle.dine_rules.specs.Letters.{forks_among, forks_in, has_close, has_done, last_log_or, requests_in}
use Rattle.dine_rules.specs.Local.{LocalState, edge_at, traffic_at}
use Rattle.dine_rules.specs.Streams.{CarriesOnTaken, IsPutInOrder, KeepsStreams, is_alternating, is_close_last, is_done_last, is_lower_at, logs_of}
use Rattle.dine_rules.proofs.shared.lists.Counting.{forks_in-append, has_close-append, has_done-append, last_log_or-append, last_log_or-none, logs_of-append, requests_in-append, slice_get-before, slice_get-push}
use Rattle.dine_rules.proofs.shared.lists.Forks.{forks_among-before}
use Rattle.dine_rules.proofs.shared.one_place.Values.{values_along, values-put}
use Rattle.dine_rules.proofs.shared.lists.Turns.{open_before, stream-push_close}

-- ---- a front of a stream

is_alternating-front : (fork_next : Bool) (xs ys : List Letter) → is_alternating fork_next (xs ++ ys) ≡ true → is_alternating fork_next xs ≡ true
is_alternating-front fork_next [] ys h = refl
is_alternating-front true (Fork fork ∷ xs) ys h = is_alternating-front false xs ys h
is_alternating-front false (Fork fork ∷ xs) ys h = absurd (false≢true h)
is_alternating-front true (Request edge ∷ xs) ys h = absurd (false≢true h)
is_alternating-front false (Request edge ∷ xs) ys h = is_alternating-front true xs ys h
is_alternating-front fork_next (Done ∷ xs) ys h = is_alternating-front fork_next xs ys h
is_alternating-front fork_next (Close ∷ xs) ys h = is_alternating-front fork_next xs ys h

neither : (a b : Bool) → not (a || b) ≡ true → a ≡ false
neither false b h = refl
neither true b h = absurd (false≢true h)

is_done_last-front : (xs ys : List Letter) → is_done_last (xs ++ ys) ≡ true → is_done_last xs ≡ true
is_done_last-front [] ys h = refl
is_done_last-front (Done ∷ xs) ys h =
    let parts = and_parts (not (has_done (xs ++ ys))) (requests_in (xs ++ ys) == 0) h in
    let done : has_done xs ≡ false = neither (has_done xs) (has_done ys) (ap not (sym (has_done-append xs ys)) ∙ parts.0) in
    let requests : requests_in xs ≡ 0 = omega (arith, eqb-true (requests_in (xs ++ ys)) 0 parts.1, requests_in-append xs ys) in
    simp (done, requests)
is_done_last-front (Fork fork ∷ xs) ys h = is_done_last-front xs ys h
is_done_last-front (Request edge ∷ xs) ys h = is_done_last-front xs ys h
is_done_last-front (Close ∷ xs) ys h = is_done_last-front xs ys h

is_close_last-front : (xs ys : List Letter) → is_close_last (xs ++ ys) ≡ true → is_close_last xs ≡ true
is_close_last-front [] ys h = refl
is_close_last-front (Close ∷ []) ys h = refl
is_close_last-front (Close ∷ x ∷ xs) ys h = absurd (false≢true h)
is_close_last-front (Fork fork ∷ xs) ys h = is_close_last-front xs ys h
is_close_last-front (Request edge ∷ xs) ys h = is_close_last-front xs ys h
is_close_last-front (Done ∷ xs) ys h = is_close_last-front xs ys h

-- a log of a front is one of the whole, at the same place
log-before : (xs ys : List Letter) (k : ℕ) (log : List Entry) → slice_get (logs_of xs) k ≡ Some log → slice_get (logs_of (xs ++ ys)) k ≡ Some log
log-before xs ys k log is = ap (λ (logs : List (List Entry)). slice_get logs k) (logs_of-append xs ys) ∙ slice_get-before (logs_of xs) (logs_of ys) log k is

-- a log that carries on one of those taken does so where more was taken
carries-more : (s to : ℕ) (taken more : List Letter) (k : ℕ) (log : List Entry) → CarriesOnTaken s to (logs_of taken) k log → CarriesOnTaken s to (logs_of (taken ++ more)) k log
carries-more s to taken more k log carries = record { before = carries.before; is_taken = log-before taken more k carries.before carries.is_taken; carries = carries.carries }

pub front_in_order : (plan : SeenPlan) (s i : ℕ) (state : LocalState) (front rest more : List Letter) → KeepsStreams plan s state → i < length state.traffic → (traffic_at state i).put ≡ front ++ rest
    → IsPutInOrder plan s i state.ate (record { put = front; taken = (traffic_at state i).taken ++ more })
front_in_order plan s i state front rest more keeps within is_front =
    let here = keeps.places i within in
    let taken = (traffic_at state i).taken in
    let edge = edge_at plan s i in
    let whole : front ++ rest ≡ (traffic_at state i).put = sym is_front in
    let logged : (k : ℕ) (log : List Entry) → slice_get (logs_of front) k ≡ Some log → slice_get (logs_of (traffic_at state i).put) k ≡ Some log =
    λ k log is. ap (λ (letters : List Letter). slice_get (logs_of letters) k) (sym whole) ∙ log-before front rest k log is in
    record {
      lawful = record {
        alternating = is_alternating-front (is_lower_at plan s i) front rest (ap (is_alternating (is_lower_at plan s i)) whole ∙ here.put_lawful.alternating);
        done_last = is_done_last-front front rest (ap is_done_last whole ∙ here.put_lawful.done_last);
        close_last = is_close_last-front front rest (ap is_close_last whole ∙ here.put_lawful.close_last);
      };
      chained = record {
        first = λ lower log is. here.put_chained.first lower log (logged 0 log is);
        next = λ lower k log is. carries-more s (other_of plan edge s) taken more k log (here.put_chained.next lower k log (logged (k + 1) log is));
        answers = λ higher k log is. carries-more s (other_of plan edge s) taken more k log (here.put_chained.answers higher k log (logged k log is));
        last = λ gone.
            let forks = ap forks_in (sym whole) ∙ forks_in-append front rest in
            let came = forks_in-append taken more in
            let none : forks_in rest ≡ 0 = omega (arith, gone, forks, came, here.forks_counted) in
            let away : forks_held plan s edge (traffic_at state i) ≡ 0 = omega (arith, gone, forks, came, here.forks_counted) in
            ap (meals_of s) (sym (ap (last_log_or []) (sym whole) ∙ last_log_or-append [] front rest ∙ last_log_or-none (last_log_or [] front) rest none)) ∙ here.put_chained.last away;
      };
      values = values_along plan s edge (traffic_at state i) (record { put = front; taken = taken ++ more }) here.put_values
          (λ k fork is. ap (λ (letters : List Letter). slice_get (forks_among letters) k) (sym whole) ∙ forks_among-before front rest k fork is) (λ k fork is. forks_among-before taken more k fork is);
      forks = λ k fork is. here.put_forks k fork (ap (λ (letters : List Letter). slice_get letters k) (sym whole) ∙ slice_get-before front rest (Fork fork) k is);
      requests = λ k e is. here.put_requests k e (ap (λ (letters : List Letter). slice_get letters k) (sym whole) ∙ slice_get-before front rest (Request e) k is);
    }

-- ---- Close behind it

logs_of-closed : (xs : List Letter) → logs_of (xs ++ Close ∷ []) ≡ logs_of xs
logs_of-closed xs = logs_of-append xs (Close ∷ []) ∙ append-nil (logs_of xs)

push_close_in_order : (plan : SeenPlan) (s i ate : ℕ) (put taken : List Letter) → has_close put ≡ false → IsPutInOrder plan s i ate (record { put = put; taken = taken })
    → IsPutInOrder plan s i ate (record { put = put ++ Close ∷ []; taken = taken })
push_close_in_order plan s i ate put taken still_open order =
    let logged : (k : ℕ) (log : List Entry) → slice_get (logs_of (put ++ Close ∷ [])) k ≡ Some log → slice_get (logs_of put) k ≡ Some log =
    λ k log is. ap (λ (logs : List (List Entry)). slice_get logs k) (sym (logs_of-closed put)) ∙ is in
    record {
      lawful = stream-push_close (is_lower_at plan s i) put order.lawful still_open;
      chained = record {
        first = λ lower log is. order.chained.first lower log (logged 0 log is);
        next = λ lower k log is. order.chained.next lower k log (logged (k + 1) log is);
        answers = λ higher k log is. order.chained.answers higher k log (logged k log is);
        last = λ gone. (let same = forks_in-append put (Close ∷ []) in ap (meals_of s) (last_log_or-append [] put (Close ∷ [])) ∙ order.chained.last (omega (arith, gone, same)));
      };
      values = values-put plan s (edge_at plan s i) (record { put = put; taken = taken }) order.values Close refl;
      forks = λ k fork is. elim (slice_get-push put Close (Fork fork) k is) [ inl before ↦ order.forks k fork before | inr at ↦ absurd (let e = at.1 in cc) ];
      requests = λ k e is. elim (slice_get-push put Close (Request e) k is) [ inl before ↦ order.requests k e before | inr at ↦ absurd (let e = at.1 in cc) ];
    }

pub closed_in_order : (plan : SeenPlan) (s i : ℕ) (state : LocalState) (front rest more : List Letter) → KeepsStreams plan s state → i < length state.traffic → (traffic_at state i).put ≡ front ++ rest ++ Close ∷ []
    → IsPutInOrder plan s i state.ate (record { put = front ++ Close ∷ []; taken = (traffic_at state i).taken ++ more })
closed_in_order plan s i state front rest more keeps within is =
    let open_front : has_close (front ++ rest) ≡ false = open_before (front ++ rest) [] Close (ap is_close_last (sym is) ∙ (keeps.places i within).put_lawful.close_last) in
    push_close_in_order plan s i state.ate front ((traffic_at state i).taken ++ more) (neither (has_close front) (has_close rest) (ap not (sym (has_close-append front rest) ∙ open_front)))
    (front_in_order plan s i state front (rest ++ Close ∷ []) more keeps within (is ∙ append_assoc front rest (Close ∷ [])))
