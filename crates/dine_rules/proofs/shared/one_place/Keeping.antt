-- What a site keeps at one place, and each change of the place.
use Rattle.std.proofs.Common.{◌≡◌, ℕ, ◌+◌, ◌-◌, ◌<◌, Bool, true, false, cond, ◌&&◌, ◌||◌, ◌==◌, List, [], ◌∷◌, ◌++◌, length, slice_get, Some, refl, sym, ◌∙◌, ap, ap₂, subst, inl, inr, arith, append-nil}
use Rattle.std.proofs.lemmas.Bool.{false≢true, and_parts, not-true, cond-true, cond-false, eqb-true, eq-eqb, false_from_ne_true, and_from, or_left, or_right}
use Rattle.std.proofs.lemmas.List.{length_push}
use Rattle.dine_token.specs.declared.log_entry.Entry.{Entry}
use Rattle.dine_token.specs.declared.log_entry.Entry.TheVariants.{Move}
use Rattle.dine_token.specs.Fork.{SeenFork}
use Rattle.dine_token.specs.Log.{is_dirty, location_of, meals_of}
use Rattle.dine_token.specs.Lawful.{IsLawful}
use Rattle.dine_rules.specs.declared.letters.Letter.{Letter}
use Rattle.dine_rules.specs.declared.letters.Letter.TheVariants.{Fork, Request, Done, Close}
use Rattle.dine_rules.specs.declared.phase.Phase.{Phase}
use Rattle.dine_rules.specs.declared.phase.Phase.TheVariants.{Thinking, Hungry, Eating}
use Rattle.dine_rules.specs.Letters.{forks_in, requests_in, has_done, has_close, last_log_or}
use Rattle.dine_rules.specs.Local.{is_thinking, is_hungry}
use Rattle.dine_rules.specs.Holdings.{with_meals_to}
use Rattle.dine_rules.specs.Breach.{was_sent_to}
use Rattle.dine_rules.specs.Streams.{IsLawfulStream, AreRequestsOf, is_orderly, logs_of}
use Rattle.dine_rules.proofs.shared.lists.Counting.{forks_in-append, requests_in-append, has_done-append, has_close-append, last_log_or-append, logs_of-append, slice_get-push, or_false}
use Rattle.dine_rules.proofs.shared.lists.Turns.{is_orderly-push_other, is_orderly-push_close, stream-push_fork, stream-push_request, stream-push_done, stream-push_close}
use Rattle.dine_rules.proofs.one_place.Held.{Spot, IsSpot, Counts, Counts-give, Counts-ask, Counts-take_fork, Counts-take_request, Held, Held-along, Held-give, Held-ask, Held-take_fork, Held-take_request, Held-begin, Held-phase, given_lawful}
use Rattle.dine_rules.proofs.one_place.Chains.{Chained, IsLastTaken, IsLastTaken-push, Chained-give, Chained-take}

-- ---- the numbers and logs of a place

-- with F Forks and R Requests put, f Forks and r Requests taken, the last logs and all logs of both
pub record Balanced (spot : Spot) (phase : Phase) (ate F R f r : ℕ) (last_put last_taken : List Entry) (logs_put logs_taken : List (List Entry)) : Type 0 where
  pub counts : Counts (cond spot.lower 1 0) (cond spot.higher 1 0) F R f r
  pub held : Held spot phase ate (cond spot.lower 1 0 + f - F) (cond spot.higher 1 0 + r - R) R last_put last_taken
  pub chained : Chained spot.site spot.other spot.lower logs_put logs_taken
  pub last_is : IsLastTaken last_taken logs_taken
  pub puts : length logs_put ≡ F
  pub takes : length logs_taken ≡ f

Balanced-along : (spot : Spot) (phase : Phase) (ate F R f r : ℕ) (last_put last_taken : List Entry) (logs_put logs_taken : List (List Entry))
    (F' R' f' r' : ℕ) (last_put' last_taken' : List Entry) (logs_put' logs_taken' : List (List Entry))
    → F ≡ F' → R ≡ R' → f ≡ f' → r ≡ r' → last_put ≡ last_put' → last_taken ≡ last_taken' → logs_put ≡ logs_put' → logs_taken ≡ logs_taken'
    → Balanced spot phase ate F R f r last_put last_taken logs_put logs_taken → Balanced spot phase ate F' R' f' r' last_put' last_taken' logs_put' logs_taken'
Balanced-along spot phase ate F R f r last_put last_taken logs_put logs_taken F' R' f' r' last_put' last_taken' logs_put' logs_taken' e1 e2 e3 e4 e5 e6 e7 e8 h =
    subst (λ (x : ℕ). Balanced spot phase ate x R' f' r' last_put' last_taken' logs_put' logs_taken') e1
    (subst (λ (x : ℕ). Balanced spot phase ate F x f' r' last_put' last_taken' logs_put' logs_taken') e2
    (subst (λ (x : ℕ). Balanced spot phase ate F R x r' last_put' last_taken' logs_put' logs_taken') e3
    (subst (λ (x : ℕ). Balanced spot phase ate F R f x last_put' last_taken' logs_put' logs_taken') e4
    (subst (λ (x : List Entry). Balanced spot phase ate F R f r x last_taken' logs_put' logs_taken') e5
    (subst (λ (x : List Entry). Balanced spot phase ate F R f r last_put x logs_put' logs_taken') e6
    (subst (λ (x : List (List Entry)). Balanced spot phase ate F R f r last_put last_taken x logs_taken') e7
    (subst (λ (x : List (List Entry)). Balanced spot phase ate F R f r last_put last_taken logs_put x) e8 h)))))))

-- the same of letters put and taken
abbrev pub BalancedBy : Spot → Phase → ℕ → List Letter → List Letter → Type 0
BalancedBy spot phase ate put taken = Balanced spot phase ate (forks_in put) (requests_in put) (forks_in taken) (requests_in taken) (last_log_or [] put) (last_log_or [] taken) (logs_of put) (logs_of taken)

-- forks and tokens here
abbrev pub fork_here : Spot → List Letter → List Letter → ℕ
fork_here spot put taken = cond spot.lower 1 0 + forks_in taken - forks_in put

abbrev pub token_here : Spot → List Letter → List Letter → ℕ
token_here spot put taken = cond spot.higher 1 0 + requests_in taken - requests_in put

-- the log in hand
abbrev pub hand_here : Spot → ℕ → List Letter → List Entry
hand_here spot ate taken = with_meals_to spot.site ate (last_log_or [] taken)

module _ (spot : Spot) (phase : Phase) (ate : ℕ) (put taken : List Letter) where
  -- a letter that is neither a Fork nor a Request changes nothing of these
  Balanced-put_mark : (l : Letter) → forks_in (l ∷ []) ≡ 0 → requests_in (l ∷ []) ≡ 0 → ((log : List Entry) → last_log_or log (l ∷ []) ≡ log) → logs_of (l ∷ []) ≡ []
      → BalancedBy spot phase ate put taken → BalancedBy spot phase ate (put ++ l ∷ []) taken
  Balanced-put_mark l no_fork no_request no_log no_logs b = Balanced-along spot phase ate _ _ _ _ _ _ _ _ _ _ _ _ _ _ _ _
      (omega (arith, forks_in-append put (l ∷ []))) (omega (arith, requests_in-append put (l ∷ []))) refl refl
      (sym (last_log_or-append [] put (l ∷ []) ∙ no_log (last_log_or [] put))) refl
      (sym (logs_of-append put (l ∷ []) ∙ ap (λ (x : List (List Entry)). logs_of put ++ x) no_logs ∙ append-nil (logs_of put))) refl b

  Balanced-take_mark : (l : Letter) → forks_in (l ∷ []) ≡ 0 → requests_in (l ∷ []) ≡ 0 → ((log : List Entry) → last_log_or log (l ∷ []) ≡ log) → logs_of (l ∷ []) ≡ []
      → BalancedBy spot phase ate put taken → BalancedBy spot phase ate put (taken ++ l ∷ [])
  Balanced-take_mark l no_fork no_request no_log no_logs b = Balanced-along spot phase ate _ _ _ _ _ _ _ _ _ _ _ _ _ _ _ _
      refl refl (omega (arith, forks_in-append taken (l ∷ []))) (omega (arith, requests_in-append taken (l ∷ [])))
      refl (sym (last_log_or-append [] taken (l ∷ []) ∙ no_log (last_log_or [] taken)))
      refl (sym (logs_of-append taken (l ∷ []) ∙ ap (λ (x : List (List Entry)). logs_of taken ++ x) no_logs ∙ append-nil (logs_of taken))) b

  Balanced-give : IsSpot spot → BalancedBy spot phase ate put taken → fork_here spot put taken ≡ 1 → token_here spot put taken ≡ 1 → is_dirty (hand_here spot ate taken) ≡ true
      → (fork : SeenFork) → fork.log ≡ hand_here spot ate taken ++ Move spot.other ∷ [] → BalancedBy spot phase ate (put ++ Fork fork ∷ []) taken
  Balanced-give is_spot b one_fork one_token dirty fork is_log = Balanced-along spot phase ate (forks_in put + 1) (requests_in put) _ _
      (hand_here spot ate taken ++ Move spot.other ∷ []) _ (logs_of put ++ (hand_here spot ate taken ++ Move spot.other ∷ []) ∷ []) _ _ _ _ _ _ _ _ _
      (omega (arith, forks_in-append put (Fork fork ∷ []))) (omega (arith, requests_in-append put (Fork fork ∷ []))) refl refl
      (sym (last_log_or-append [] put (Fork fork ∷ []) ∙ is_log)) refl
      (sym (logs_of-append put (Fork fork ∷ []) ∙ ap (λ (x : List Entry). logs_of put ++ x ∷ []) is_log)) refl
      (record {
        counts = Counts-give _ _ _ _ _ _ b.counts one_fork one_token;
        held = Held-along spot phase ate 0 1 (requests_in put) _ _ _ _ _ _ _ (omega arith) (sym one_token) refl refl refl
            (Held-give spot phase ate (requests_in put) (last_log_or [] put) (last_log_or [] taken)
            (Held-along spot phase ate _ _ (requests_in put) _ _ _ _ _ _ _ one_fork one_token refl refl refl b.held) dirty);
        chained = Chained-give spot.site spot.other ate spot.lower (logs_of put) (logs_of taken) (last_log_or [] taken) b.chained b.last_is
            (λ low. omega (arith, cond-true {A = ℕ} spot.lower 1 0 low, b.puts, b.takes, b.counts.forks_counted)) (λ high. omega (arith, cond-false {A = ℕ} spot.lower 1 0 high, b.puts, b.takes, b.counts.forks_counted)) dirty;
        last_is = b.last_is;
        puts = omega (arith, length_push (logs_of put) (hand_here spot ate taken ++ Move spot.other ∷ []), b.puts);
        takes = b.takes;
      })

  Balanced-ask : BalancedBy spot phase ate put taken → fork_here spot put taken ≡ 0 → token_here spot put taken ≡ 1 → is_hungry phase ≡ true
      → (edge : ℕ) → BalancedBy spot phase ate (put ++ Request edge ∷ []) taken
  Balanced-ask b no_fork one_token hungry edge = Balanced-along spot phase ate (forks_in put) (requests_in put + 1) _ _
      (last_log_or [] put) _ (logs_of put) _ _ _ _ _ _ _ _ _
      (omega (arith, forks_in-append put (Request edge ∷ []))) (omega (arith, requests_in-append put (Request edge ∷ []))) refl refl
      (sym (last_log_or-append [] put (Request edge ∷ []))) refl
      (sym (logs_of-append put (Request edge ∷ []) ∙ append-nil (logs_of put))) refl
      (record {
        counts = Counts-ask _ _ _ _ _ _ b.counts no_fork one_token;
        held = Held-along spot phase ate 0 0 (requests_in put + 1) _ _ _ _ _ _ _ (sym no_fork) (omega arith) refl refl refl
            (Held-ask spot phase ate (requests_in put) (last_log_or [] put) (last_log_or [] taken)
            (Held-along spot phase ate _ _ (requests_in put) _ _ _ _ _ _ _ no_fork one_token refl refl refl b.held) hungry);
        chained = b.chained;
        last_is = b.last_is;
        puts = b.puts;
        takes = b.takes;
      })

  Balanced-take_fork : BalancedBy spot phase ate put taken → fork_here spot put taken ≡ 0 → token_here spot put taken ≡ 0
      → (fork : SeenFork) → IsLawful spot.ends spot.due fork.log → location_of spot.ends.0 fork.log ≡ spot.site → is_dirty fork.log ≡ false → meals_of spot.site fork.log ≡ ate
      → BalancedBy spot phase ate put (taken ++ Fork fork ∷ [])
  Balanced-take_fork b no_fork no_token fork lawful here clean all = Balanced-along spot phase ate _ _ (forks_in taken + 1) (requests_in taken)
      _ fork.log _ (logs_of taken ++ fork.log ∷ []) _ _ _ _ _ _ _ _
      refl refl (omega (arith, forks_in-append taken (Fork fork ∷ []))) (omega (arith, requests_in-append taken (Fork fork ∷ [])))
      refl (sym (last_log_or-append [] taken (Fork fork ∷ [])))
      refl (sym (logs_of-append taken (Fork fork ∷ [])))
      (record {
        counts = Counts-take_fork _ _ _ _ _ _ b.counts no_fork no_token;
        held = Held-along spot phase ate 1 0 (requests_in put) _ _ _ _ _ _ _ (omega (arith, b.counts.forks_counted)) (sym no_token) refl refl refl
            (Held-take_fork spot phase ate (requests_in put) (last_log_or [] put) (last_log_or [] taken) fork.log
            (Held-along spot phase ate _ _ (requests_in put) _ _ _ _ _ _ _ no_fork no_token refl refl refl b.held) lawful here clean all);
        chained = Chained-take spot.site spot.other spot.lower (logs_of put) (logs_of taken) fork.log b.chained;
        last_is = IsLastTaken-push (logs_of taken) fork.log clean;
        puts = b.puts;
        takes = omega (arith, length_push (logs_of taken) fork.log, b.takes);
      })

  Balanced-take_request : BalancedBy spot phase ate put taken → fork_here spot put taken ≡ 1 → token_here spot put taken ≡ 0 → meals_of spot.other (hand_here spot ate taken) < spot.due_there
      → (edge : ℕ) → BalancedBy spot phase ate put (taken ++ Request edge ∷ [])
  Balanced-take_request b one_fork no_token left edge = Balanced-along spot phase ate _ _ (forks_in taken) (requests_in taken + 1)
      _ (last_log_or [] taken) _ (logs_of taken) _ _ _ _ _ _ _ _
      refl refl (omega (arith, forks_in-append taken (Request edge ∷ []))) (omega (arith, requests_in-append taken (Request edge ∷ [])))
      refl (sym (last_log_or-append [] taken (Request edge ∷ [])))
      refl (sym (logs_of-append taken (Request edge ∷ []) ∙ append-nil (logs_of taken)))
      (record {
        counts = Counts-take_request _ _ _ _ _ _ b.counts one_fork no_token;
        held = Held-along spot phase ate 1 1 (requests_in put) _ _ _ _ _ _ _ (sym one_fork) (omega (arith, b.counts.tokens_counted)) refl refl refl
            (Held-take_request spot phase ate (requests_in put) (last_log_or [] put) (last_log_or [] taken)
            (Held-along spot phase ate _ _ (requests_in put) _ _ _ _ _ _ _ one_fork no_token refl refl refl b.held) left);
        chained = b.chained;
        last_is = b.last_is;
        puts = b.puts;
        takes = b.takes;
      })

  Balanced-begin : IsSpot spot → (new_phase : Phase) → BalancedBy spot phase ate put taken → fork_here spot put taken ≡ 1 → ate < spot.due_here → BalancedBy spot new_phase (ate + 1) put taken
  Balanced-begin is_spot new_phase b one_fork left = record {
    counts = b.counts;
    held = Held-along spot new_phase (ate + 1) 1 _ (requests_in put) _ _ _ _ _ _ _ (sym one_fork) refl refl refl refl
        (Held-begin spot phase new_phase ate _ (requests_in put) (last_log_or [] put) (last_log_or [] taken) is_spot
        (Held-along spot phase ate _ _ (requests_in put) _ _ _ _ _ _ _ one_fork refl refl refl refl b.held) left);
    chained = b.chained;
    last_is = b.last_is;
    puts = b.puts;
    takes = b.takes;
  }

  Balanced-phase : (new_phase : Phase) → BalancedBy spot phase ate put taken → (is_hungry phase ≡ true → is_hungry new_phase ≡ true) → BalancedBy spot new_phase ate put taken
  Balanced-phase new_phase b still = record {
    counts = b.counts;
    held = Held-phase spot phase new_phase ate _ _ (requests_in put) _ _ b.held still;
    chained = b.chained;
    last_is = b.last_is;
    puts = b.puts;
    takes = b.takes;
  }

-- ---- all that is kept at a place

-- the fork is that of the place, and its log is lawful for its own ends and due numbers
abbrev pub is_fork_at : Spot → SeenFork → Bool
is_fork_at spot fork = fork.edge == spot.edge && (fork.ends.0 == spot.ends.0 && fork.ends.1 == spot.ends.1)
    && (fork.due.0 == spot.due.0 && fork.due.1 == spot.due.1)

abbrev pub IsForkAt : Spot → SeenFork → Type 0
IsForkAt spot fork = (is_fork_at spot fork ≡ true) × IsLawful fork.ends fork.due fork.log

-- each Fork among the letters has the property
abbrev pub EachFork : (SeenFork → Type 0) → List Letter → Type 0
EachFork P letters = (k : ℕ) (fork : SeenFork) → slice_get letters k ≡ Some (Fork fork) → P fork

pub EachFork-push : (P : SeenFork → Type 0) (letters : List Letter) (l : Letter) → EachFork P letters → ((fork : SeenFork) → l ≡ Fork fork → P fork) → EachFork P (letters ++ l ∷ [])
EachFork-push P letters l each last k fork h = elim (slice_get-push letters l (Fork fork) k h) [
  | inl w ↦ each k fork w
  | inr w ↦ last fork w.1
]

-- a fork of the place is lawful for the place's ends and due numbers
pub lawful_at : (spot : Spot) (fork : SeenFork) → IsForkAt spot fork → IsLawful spot.ends spot.due fork.log
lawful_at spot fork is_fork =
    let parts = and_parts _ _ is_fork.0 in
    let front = and_parts _ _ parts.0 in
    let ends = and_parts _ _ front.1 in
    let due = and_parts _ _ parts.1 in
    let same_ends : fork.ends ≡ spot.ends = ap₂ (λ (a b : ℕ). (a, b)) (eqb-true _ _ ends.0) (eqb-true _ _ ends.1) in
    let same_due : fork.due ≡ spot.due = ap₂ (λ (a b : ℕ). (a, b)) (eqb-true _ _ due.0) (eqb-true _ _ due.1) in
    subst (λ (d : ℕ × ℕ). IsLawful spot.ends d fork.log) same_due (subst (λ (e : ℕ × ℕ). IsLawful e fork.due fork.log) same_ends is_fork.1)

same_fork : (fork other : SeenFork) → ◌≡◌ {A = Letter} (Fork fork) (Fork other) → fork ≡ other
same_fork fork other is = cc

-- a lawful fork with the place's edge, ends and due numbers is one of the place
fork_is_at : (spot : Spot) (fork : SeenFork) → fork.edge ≡ spot.edge → fork.ends ≡ spot.ends → fork.due ≡ spot.due → IsLawful spot.ends spot.due fork.log → IsForkAt spot fork
fork_is_at spot fork same_edge same_ends same_due lawful = (
  and_from _ _ (and_from _ _ (eq-eqb _ _ same_edge)
      (and_from _ _ (eq-eqb _ _ (ap (λ (e : ℕ × ℕ). e.0) same_ends)) (eq-eqb _ _ (ap (λ (e : ℕ × ℕ). e.1) same_ends))))
      (and_from _ _ (eq-eqb _ _ (ap (λ (e : ℕ × ℕ). e.0) same_due)) (eq-eqb _ _ (ap (λ (e : ℕ × ℕ). e.1) same_due))),
  subst (λ (d : ℕ × ℕ). IsLawful fork.ends d fork.log) (sym same_due) (subst (λ (e : ℕ × ℕ). IsLawful e spot.due fork.log) (sym same_ends) lawful),
)

-- what a site keeps of the letters that it put at a place
pub record Puts (spot : Spot) (phase : Phase) (ate : ℕ) (quit : Bool) (put : List Letter) : Type 0 where
  pub lawful : IsLawfulStream spot.lower put
  pub forks : EachFork (IsForkAt spot) put
  pub requests : AreRequestsOf spot.edge put
  pub done_after_all : has_done put ≡ true → (ate == spot.due_here || quit) ≡ true
  pub done_thinks : has_done put ≡ true → is_thinking phase ≡ true

-- the fork was sent to the site of the place
abbrev pub ComesHere : Spot → SeenFork → Type 0
ComesHere spot fork = was_sent_to spot.ends.0 spot.site fork.log ≡ true

-- what a site keeps of the letters that it took at a place
pub record Takes (spot : Spot) (put taken : List Letter) : Type 0 where
  pub lawful : IsLawfulStream spot.higher taken
  pub orderly : is_orderly taken ≡ true
  pub forks : EachFork (IsForkAt spot) taken
  pub requests : AreRequestsOf spot.edge taken
  pub come_here : EachFork (ComesHere spot) taken
  pub closed_after : has_close taken ≡ true → has_done put ≡ true

pub record Keeps (spot : Spot) (phase : Phase) (ate : ℕ) (quit : Bool) (put taken : List Letter) : Type 0 where
  pub balanced : BalancedBy spot phase ate put taken
  pub puts : Puts spot phase ate quit put
  pub takes : Takes spot put taken

-- one phase at a time
pub hungry_not_thinking : (phase : Phase) → is_hungry phase ≡ true → is_thinking phase ≡ true → ⊥
hungry_not_thinking Thinking h t = false≢true h
hungry_not_thinking Hungry h t = false≢true t
hungry_not_thinking Eating h t = false≢true h

-- Done was put only if it was put before, or is the letter
done_before : (xs : List Letter) (l : Letter) → has_done (l ∷ []) ≡ false → has_done (xs ++ l ∷ []) ≡ true → has_done xs ≡ true
done_before xs l no_done h = sym (has_done-append xs (l ∷ []) ∙ ap (λ (b : Bool). has_done xs || b) no_done ∙ or_false (has_done xs)) ∙ h

-- and so it is of Close
close_before : (xs : List Letter) (l : Letter) → has_close (l ∷ []) ≡ false → has_close (xs ++ l ∷ []) ≡ true → has_close xs ≡ true
close_before xs l no_close h = sym (has_close-append xs (l ∷ []) ∙ ap (λ (b : Bool). has_close xs || b) no_close ∙ or_false (has_close xs)) ∙ h

-- each Request with one more names the edge
requests-push : (edge : ℕ) (xs : List Letter) (l : Letter) → AreRequestsOf edge xs → ((e : ℕ) → l ≡ Request e → e ≡ edge) → AreRequestsOf edge (xs ++ l ∷ [])
requests-push edge xs l each last k e h = elim (slice_get-push xs l (Request e) k h) [
  | inl before ↦ each k e before
  | inr now ↦ last e now.1
]

module _ (spot : Spot) (phase : Phase) (ate : ℕ) (quit : Bool) (put : List Letter) where
  -- a letter that is not Done is put
  puts_other : (l : Letter) → has_done (l ∷ []) ≡ false → ((fork : SeenFork) → l ≡ Fork fork → IsForkAt spot fork) → ((e : ℕ) → l ≡ Request e → e ≡ spot.edge)
      → IsLawfulStream spot.lower (put ++ l ∷ []) → Puts spot phase ate quit put → Puts spot phase ate quit (put ++ l ∷ [])
  puts_other l no_done own named lawful k = record {
    lawful = lawful;
    forks = EachFork-push (IsForkAt spot) put l k.forks own;
    requests = requests-push spot.edge put l k.requests named;
    done_after_all = λ h. k.done_after_all (done_before put l no_done h);
    done_thinks = λ h. k.done_thinks (done_before put l no_done h);
  }

  puts_done : IsLawfulStream spot.lower (put ++ Done ∷ []) → is_thinking phase ≡ true → (ate == spot.due_here || quit) ≡ true → Puts spot phase ate quit put → Puts spot phase ate quit (put ++ Done ∷ [])
  puts_done lawful thinks all k = record {
    lawful = lawful;
    forks = EachFork-push (IsForkAt spot) put Done k.forks (λ other is. absurd cc);
    requests = requests-push spot.edge put Done k.requests (λ e is. absurd cc);
    done_after_all = λ _. all;
    done_thinks = λ _. thinks;
  }

  -- another phase or number of meals, or a site that quits, where Done still says the same
  puts_still : (new_phase : Phase) (meals : ℕ) (new_quit : Bool) → (has_done put ≡ true → ((meals == spot.due_here || new_quit) ≡ true) × (is_thinking new_phase ≡ true)) → Puts spot phase ate quit put → Puts spot new_phase meals new_quit put
  puts_still new_phase meals new_quit still k = record {
    lawful = k.lawful;
    forks = k.forks;
    requests = k.requests;
    done_after_all = λ h. (still h).0;
    done_thinks = λ h. (still h).1;
  }

module _ (spot : Spot) (put taken : List Letter) where
  -- what is put changes nothing of what was taken
  takes_still : (l : Letter) → Takes spot put taken → Takes spot (put ++ l ∷ []) taken
  takes_still l k = record {
    lawful = k.lawful;
    orderly = k.orderly;
    forks = k.forks;
    requests = k.requests;
    come_here = k.come_here;
    closed_after = λ h. has_done-append put (l ∷ []) ∙ or_left (has_done put) (has_done (l ∷ [])) (k.closed_after h);
  }

  -- a letter that is not Close is taken
  takes_other : (l : Letter) → has_close (l ∷ []) ≡ false → ((fork : SeenFork) → l ≡ Fork fork → IsForkAt spot fork × ComesHere spot fork) → ((e : ℕ) → l ≡ Request e → e ≡ spot.edge)
      → IsLawfulStream spot.higher (taken ++ l ∷ []) → Takes spot put taken → Takes spot put (taken ++ l ∷ [])
  takes_other l no_close own named lawful k = record {
    lawful = lawful;
    orderly = is_orderly-push_other taken l no_close k.orderly;
    forks = EachFork-push (IsForkAt spot) taken l k.forks (λ fork is. (own fork is).0);
    requests = requests-push spot.edge taken l k.requests named;
    come_here = EachFork-push (ComesHere spot) taken l k.come_here (λ fork is. (own fork is).1);
    closed_after = λ h. k.closed_after (close_before taken l no_close h);
  }

  takes_close : has_close taken ≡ false → has_done taken ≡ true → has_done put ≡ true → Takes spot put taken → Takes spot put (taken ++ Close ∷ [])
  takes_close is_open done done_put k = record {
    lawful = stream-push_close spot.higher taken k.lawful is_open;
    orderly = is_orderly-push_close taken done k.orderly;
    forks = EachFork-push (IsForkAt spot) taken Close k.forks (λ other is. absurd cc);
    requests = requests-push spot.edge taken Close k.requests (λ e is. absurd cc);
    come_here = EachFork-push (ComesHere spot) taken Close k.come_here (λ other is. absurd cc);
    closed_after = λ _. done_put;
  }

module _ (spot : Spot) (phase : Phase) (ate : ℕ) (quit : Bool) (put taken : List Letter) where
  pub Keeps-give : IsSpot spot → Keeps spot phase ate quit put taken → fork_here spot put taken ≡ 1 → token_here spot put taken ≡ 1 → is_dirty (hand_here spot ate taken) ≡ true → has_close put ≡ false
      → (fork : SeenFork) → fork.edge ≡ spot.edge → fork.ends ≡ spot.ends → fork.due ≡ spot.due → fork.log ≡ hand_here spot ate taken ++ Move spot.other ∷ []
      → Keeps spot phase ate quit (put ++ Fork fork ∷ []) taken
  Keeps-give is_spot k one_fork one_token dirty is_open fork same_edge same_ends same_due is_log =
      let held = Held-along spot phase ate _ _ (requests_in put) _ _ _ _ _ _ _ one_fork one_token refl refl refl k.balanced.held in
      let lawful = given_lawful spot phase ate (requests_in put) (last_log_or [] put) (last_log_or [] taken) is_spot held dirty in
      let own : IsForkAt spot fork = fork_is_at spot fork same_edge same_ends same_due (subst (λ (l : List Entry). IsLawful spot.ends spot.due l) (sym is_log) lawful) in
      record {
        balanced = Balanced-give spot phase ate put taken is_spot k.balanced one_fork one_token dirty fork is_log;
        puts = puts_other spot phase ate quit put (Fork fork) refl (λ other is. subst (IsForkAt spot) (same_fork fork other is) own) (λ e is. absurd cc)
            (stream-push_fork spot.lower put fork k.puts.lawful is_open (omega (arith, k.balanced.counts))) k.puts;
        takes = takes_still spot put taken (Fork fork) k.takes;
      }

  pub Keeps-ask : Keeps spot phase ate quit put taken → fork_here spot put taken ≡ 0 → token_here spot put taken ≡ 1 → is_hungry phase ≡ true → has_close put ≡ false
      → Keeps spot phase ate quit (put ++ Request spot.edge ∷ []) taken
  Keeps-ask k no_fork one_token hungry is_open = record {
    balanced = Balanced-ask spot phase ate put taken k.balanced no_fork one_token hungry spot.edge;
    puts = puts_other spot phase ate quit put (Request spot.edge) refl (λ other is. absurd cc) (λ e is. cc)
        (stream-push_request spot.lower put spot.edge k.puts.lawful is_open (false_from_ne_true (has_done put) (λ h. hungry_not_thinking phase hungry (k.puts.done_thinks h))) (omega (arith, k.balanced.counts))) k.puts;
    takes = takes_still spot put taken (Request spot.edge) k.takes;
  }

  pub Keeps-done : Keeps spot phase ate quit put taken → is_thinking phase ≡ true → (ate == spot.due_here || quit) ≡ true → has_done put ≡ false → has_close put ≡ false
      → Keeps spot phase ate quit (put ++ Done ∷ []) taken
  Keeps-done k thinks all no_done is_open = record {
    balanced = Balanced-put_mark spot phase ate put taken Done refl refl (λ log. refl) refl k.balanced;
    puts = puts_done spot phase ate quit put (stream-push_done spot.lower put k.puts.lawful is_open no_done) thinks all k.puts;
    takes = takes_still spot put taken Done k.takes;
  }

  pub Keeps-close : Keeps spot phase ate quit put taken → has_close put ≡ false → Keeps spot phase ate quit (put ++ Close ∷ []) taken
  Keeps-close k is_open = record {
    balanced = Balanced-put_mark spot phase ate put taken Close refl refl (λ log. refl) refl k.balanced;
    puts = puts_other spot phase ate quit put Close refl (λ other is. absurd cc) (λ e is. absurd cc) (stream-push_close spot.lower put k.puts.lawful is_open) k.puts;
    takes = takes_still spot put taken Close k.takes;
  }

  pub Keeps-take_fork : Keeps spot phase ate quit put taken → fork_here spot put taken ≡ 0 → token_here spot put taken ≡ 0 → has_close taken ≡ false
      → (fork : SeenFork) → IsForkAt spot fork → ComesHere spot fork → meals_of spot.site fork.log ≡ ate
      → Keeps spot phase ate quit put (taken ++ Fork fork ∷ [])
  Keeps-take_fork k no_fork no_token is_open fork is_fork comes_here all =
      let parts = and_parts _ _ comes_here in
      let own : IsForkAt spot fork × ComesHere spot fork = (is_fork, comes_here) in
      record {
        balanced = Balanced-take_fork spot phase ate put taken k.balanced no_fork no_token fork (lawful_at spot fork is_fork) (eqb-true _ _ parts.1) (not-true _ parts.0) all;
        puts = k.puts;
        takes = takes_other spot put taken (Fork fork) refl (λ other is. subst (λ (f : SeenFork). IsForkAt spot f × ComesHere spot f) (same_fork fork other is) own) (λ e is. absurd cc)
            (stream-push_fork spot.higher taken fork k.takes.lawful is_open (omega (arith, k.balanced.counts))) k.takes;
      }

  pub Keeps-take_request : Keeps spot phase ate quit put taken → fork_here spot put taken ≡ 1 → token_here spot put taken ≡ 0 → meals_of spot.other (hand_here spot ate taken) < spot.due_there → has_close taken ≡ false → has_done taken ≡ false
      → (edge : ℕ) → edge ≡ spot.edge → Keeps spot phase ate quit put (taken ++ Request edge ∷ [])
  Keeps-take_request k one_fork no_token left is_open no_done edge names = record {
    balanced = Balanced-take_request spot phase ate put taken k.balanced one_fork no_token left edge;
    puts = k.puts;
    takes = takes_other spot put taken (Request edge) refl (λ other is. absurd cc) (λ e is. cc)
        (stream-push_request spot.higher taken edge k.takes.lawful is_open no_done (omega (arith, k.balanced.counts))) k.takes;
  }

  pub Keeps-take_done : Keeps spot phase ate quit put taken → has_close taken ≡ false → has_done taken ≡ false → Keeps spot phase ate quit put (taken ++ Done ∷ [])
  Keeps-take_done k is_open no_done = record {
    balanced = Balanced-take_mark spot phase ate put taken Done refl refl (λ log. refl) refl k.balanced;
    puts = k.puts;
    takes = takes_other spot put taken Done refl (λ other is. absurd cc) (λ e is. absurd cc) (stream-push_done spot.higher taken k.takes.lawful is_open no_done) k.takes;
  }

  pub Keeps-take_close : Keeps spot phase ate quit put taken → has_close taken ≡ false → has_done taken ≡ true → has_done put ≡ true → Keeps spot phase ate quit put (taken ++ Close ∷ [])
  Keeps-take_close k is_open done done_put = record {
    balanced = Balanced-take_mark spot phase ate put taken Close refl refl (λ log. refl) refl k.balanced;
    puts = k.puts;
    takes = takes_close spot put taken is_open done done_put k.takes;
  }

  pub Keeps-begin : IsSpot spot → (new_phase : Phase) → Keeps spot phase ate quit put taken → is_hungry phase ≡ true → fork_here spot put taken ≡ 1 → ate < spot.due_here → Keeps spot new_phase (ate + 1) quit put taken
  Keeps-begin is_spot new_phase k hungry one_fork left = record {
    balanced = Balanced-begin spot phase ate put taken is_spot new_phase k.balanced one_fork left;
    puts = puts_still spot phase ate quit put new_phase (ate + 1) quit (λ h. absurd (hungry_not_thinking phase hungry (k.puts.done_thinks h))) k.puts;
    takes = k.takes;
  }

  pub Keeps-phase : (new_phase : Phase) → Keeps spot phase ate quit put taken → (is_hungry phase ≡ true → is_hungry new_phase ≡ true) → (has_done put ≡ true → is_thinking phase ≡ true → is_thinking new_phase ≡ true)
      → Keeps spot new_phase ate quit put taken
  Keeps-phase new_phase k still_hungry still_thinks = record {
    balanced = Balanced-phase spot phase ate put taken new_phase k.balanced still_hungry;
    puts = puts_still spot phase ate quit put new_phase ate quit (λ h. (k.puts.done_after_all h, still_thinks h (k.puts.done_thinks h))) k.puts;
    takes = k.takes;
  }

  -- a site that quits keeps its phase and its meals
  pub Keeps-quit : Keeps spot phase ate quit put taken → Keeps spot phase ate true put taken
  Keeps-quit k = record {
    balanced = k.balanced;
    puts = puts_still spot phase ate quit put phase ate true (λ h. (or_right (ate == spot.due_here) true refl, k.puts.done_thinks h)) k.puts;
    takes = k.takes;
  }
