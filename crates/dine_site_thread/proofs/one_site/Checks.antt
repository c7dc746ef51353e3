-- The checks of a bell that found no ring go on as the journal of its site does.
use Rattle.std.proofs.Common.{◌≡◌, ℕ, ◌+◌, Bool, true, false, cond, if◌then◌else◌, List, [], ◌∷◌, ◌++◌, length, refl, sym, ◌∙◌, ap, inl, inr, Some, arith, length-append}
use Rattle.std.proofs.lemmas.List.{append_assoc, append-nil}
use Rattle.dine_link.specs.Bells.{SeenBell, after_empty_check}
use Rattle.dine_rules.specs.declared.events.EventKind.{EventKind}
use Rattle.dine_rules.specs.declared.events.EventKind.TheVariants as event
use Rattle.dine_site_thread.specs.declared.manner.Manner.{Manner}
use Rattle.dine_site_thread.specs.declared.manner.Manner.TheVariants.{Eager, Greedy, Patient, OnCall}
use Rattle.dine_site_thread.specs.Doings.{begins_from, checks_from, empty_checks_of, is_begin, is_checking, tally_after, tally_then}
use Rattle.dine_site.specs.Core.{SeenCore}
use Rattle.dine_site_thread.specs.private.Running.{AreChecks, IsIdle, IsNext, MayTakeNow, checked_by, tally_by}

-- ---- one event more at the end of a journal

no_more : (n : ℕ) (kinds : List EventKind) (kind : EventKind) → is_begin kind ≡ false → begins_from n (kinds ++ kind ∷ []) ≡ begins_from n kinds
no_more n [] kind other = ap (λ (b : Bool). cond b (n ∷ []) []) other
no_more n (first ∷ kinds) kind other = ap (λ (ns : List ℕ). if is_begin first then n ∷ ns else ns) (no_more (n + 1) kinds kind other)

either : (b : Bool) (n : ℕ) (ns more : List ℕ) → (if b then n ∷ (ns ++ more) else ns ++ more) ≡ (if b then n ∷ ns else ns) ++ more
either true n ns more = refl
either false n ns more = refl

one_more : (n : ℕ) (kinds : List EventKind) → begins_from n (kinds ++ event.Begin ∷ []) ≡ begins_from n kinds ++ (n + length kinds) ∷ []
one_more n [] = ap (λ (m : ℕ). m ∷ []) (omega arith)
one_more n (first ∷ kinds) =
    let last : n + 1 + length kinds ≡ n + length (first ∷ kinds) = omega arith in
    ap (λ (ns : List ℕ). if is_begin first then n ∷ ns else ns) (one_more (n + 1) kinds ∙ ap (λ (m : ℕ). begins_from (n + 1) kinds ++ m ∷ []) last)
    ∙ either (is_begin first) n (begins_from (n + 1) kinds) ((n + length (first ∷ kinds)) ∷ [])

-- an event that begins no meal
same_checks : (manner : Manner) (journal : List EventKind) (kind : EventKind) → is_begin kind ≡ false → empty_checks_of manner (journal ++ kind ∷ []) ≡ empty_checks_of manner journal
same_checks manner journal kind other = ap (checks_from manner 0) (no_more 0 journal kind other)

same_tally : (manner : Manner) (journal : List EventKind) (kind : EventKind) → is_begin kind ≡ false → tally_by manner (journal ++ kind ∷ []) ≡ tally_by manner journal
same_tally manner journal kind other = ap (tally_after manner 0) (no_more 0 journal kind other)

-- one position more behind the others, if the site checks there
abbrev kept : Bool → ℕ → List ℕ
kept checks n = if checks then n ∷ [] else []

one_more_in : (manner : Manner) (tally : ℕ) (ns : List ℕ) (n : ℕ) → checks_from manner tally (ns ++ n ∷ []) ≡ checks_from manner tally ns ++ kept (is_checking manner (tally_after manner tally ns)) n
one_more_in manner tally [] n = refl
one_more_in manner tally (m ∷ ns) n =
    let later : ℕ = tally_then manner tally in
    ap (λ (ks : List ℕ). if is_checking manner tally then m ∷ ks else ks) (one_more_in manner later ns n)
    ∙ either (is_checking manner tally) m (checks_from manner later ns) (kept (is_checking manner (tally_after manner later ns)) n)

tally_more : (manner : Manner) (tally : ℕ) (ns : List ℕ) (n : ℕ) → tally_after manner tally (ns ++ n ∷ []) ≡ tally_then manner (tally_after manner tally ns)
tally_more manner tally [] n = refl
tally_more manner tally (m ∷ ns) n = tally_more manner (tally_then manner tally) ns n

-- and it is the position of a meal
positions_more : (journal : List EventKind) → begins_from 0 (journal ++ event.Begin ∷ []) ≡ begins_from 0 journal ++ length journal ∷ []
positions_more journal =
    let none_before : 0 + length journal ≡ length journal = omega arith in
    one_more 0 journal ∙ ap (λ (n : ℕ). begins_from 0 journal ++ n ∷ []) none_before

next_tally : (manner : Manner) (journal : List EventKind) → tally_by manner (journal ++ event.Begin ∷ []) ≡ tally_then manner (tally_by manner journal)
next_tally manner journal = ap (tally_after manner 0) (positions_more journal) ∙ tally_more manner 0 (begins_from 0 journal) (length journal)

pub checks_more : (first : List ℕ) (manner : Manner) (tally : ℕ) (found : List ℕ) (events : List (EventKind × ℕ)) (journal : List EventKind) (kind : EventKind) (m : ℕ) → is_begin kind ≡ false
    → (events_more : List (EventKind × ℕ)) → events_more ≡ events ++ (kind, m) ∷ [] → (journal_more : List EventKind) → journal_more ≡ journal ++ kind ∷ []
    → AreChecks first manner tally found events journal → AreChecks first manner tally found events_more journal_more
checks_more first manner tally found events journal kind m other events_more later journal_more noted are = record {
  checks = are.checks ∙ ap (λ (ns : List ℕ). first ++ ns) (sym (same_checks manner journal kind other)) ∙ ap (λ (kinds : List EventKind). first ++ empty_checks_of manner kinds) (sym noted);
  noted = ap (λ (es : List (EventKind × ℕ)). length es) later ∙ length-append events ((kind, m) ∷ []) ∙ ap (λ (n : ℕ). n + 1) are.noted ∙ sym (length-append journal (kind ∷ [])) ∙ ap (λ (kinds : List EventKind). length kinds) (sym noted);
  left = are.left ∙ sym (same_tally manner journal kind other) ∙ ap (tally_by manner) (sym noted);
}

-- a meal, once a check found no ring left, or no check was due
kept_by : (checks : Bool) (n : ℕ) (bell : SeenBell) (ns : List ℕ) → bell.found_empty ≡ ns → (if checks then after_empty_check n bell else bell).found_empty ≡ ns ++ kept checks n
kept_by true n bell ns was = ap (λ (found : List ℕ). found ++ n ∷ []) was
kept_by false n bell ns was = was ∙ sym (append-nil ns)

met : (manner : Manner) (first : List ℕ) (bell : SeenBell) (journal : List EventKind) → bell.found_empty ≡ first ++ empty_checks_of manner journal
    → (checked_by manner (tally_by manner journal) (length journal) bell).found_empty ≡ first ++ empty_checks_of manner (journal ++ event.Begin ∷ [])
met manner first bell journal was =
    let checks : Bool = is_checking manner (tally_by manner journal) in
    kept_by checks (length journal) bell (first ++ empty_checks_of manner journal) was
    ∙ append_assoc first (empty_checks_of manner journal) (kept checks (length journal))
    ∙ ap (λ (ns : List ℕ). first ++ ns) (sym (one_more_in manner 0 (begins_from 0 journal) (length journal)) ∙ ap (checks_from manner 0) (sym (positions_more journal)))

pub checks_meal : (first : List ℕ) (manner : Manner) (tally tally_new : ℕ) (bell new : SeenBell) (events events_more : List (EventKind × ℕ)) (journal journal_more : List EventKind)
    → new ≡ checked_by manner tally (length events) bell → tally_new ≡ tally_then manner tally → journal_more ≡ journal ++ event.Begin ∷ event.End ∷ [] → length events_more ≡ length events + 2
    → AreChecks first manner tally bell.found_empty events journal → AreChecks first manner tally_new new.found_empty events_more journal_more
checks_meal first manner tally tally_new bell new events events_more journal journal_more checked counted noted later are =
    let whole : (journal ++ event.Begin ∷ []) ++ event.End ∷ [] ≡ journal ++ event.Begin ∷ event.End ∷ [] = append_assoc journal (event.Begin ∷ []) (event.End ∷ []) in
    let long : length journal_more ≡ length journal + 2 = ap (λ (kinds : List EventKind). length kinds) noted ∙ length-append journal (event.Begin ∷ event.End ∷ []) in
    record {
      checks = ap (λ (b : SeenBell). b.found_empty) checked ∙ ap (λ (n : ℕ). (checked_by manner tally n bell).found_empty) are.noted ∙ ap (λ (n : ℕ). (checked_by manner n (length journal) bell).found_empty) are.left ∙ met manner first bell journal are.checks
          ∙ ap (λ (ns : List ℕ). first ++ ns) (sym (same_checks manner (journal ++ event.Begin ∷ []) event.End refl)) ∙ ap (λ (kinds : List EventKind). first ++ empty_checks_of manner kinds) (whole ∙ sym noted);
      noted = later ∙ ap (λ (n : ℕ). n + 2) are.noted ∙ sym long;
      left = counted ∙ ap (tally_then manner) are.left ∙ sym (next_tally manner journal) ∙ sym (same_tally manner (journal ++ event.Begin ∷ []) event.End refl) ∙ ap (tally_by manner) (whole ∙ sym noted);
    }

-- none yet
pub checks_start : (first : List ℕ) (manner : Manner) (found : List ℕ) (events : List (EventKind × ℕ)) (journal : List EventKind) → found ≡ first → events ≡ [] → journal ≡ [] → AreChecks first manner 0 found events journal
checks_start first manner found events journal is none none_yet = record {
  checks = is ∙ sym (append-nil first) ∙ ap (λ (ns : List ℕ). first ++ ns) (ap (empty_checks_of manner) (sym none_yet));
  noted = ap (λ (es : List (EventKind × ℕ)). length es) none ∙ ap (λ (kinds : List EventKind). length kinds) (sym none_yet);
  left = ap (tally_by manner) (sym none_yet);
}

-- a bell that found no ring left just when another did
pub checks_as : (first : List ℕ) (manner : Manner) (tally same_tally : ℕ) (found same : List ℕ) (events : List (EventKind × ℕ)) (journal : List EventKind) → same_tally ≡ tally → same ≡ found → AreChecks first manner tally found events journal → AreChecks first manner same_tally same events journal
checks_as first manner tally same_tally found same events journal counted is are = record { checks = is ∙ are.checks; noted = are.noted; left = counted ∙ are.left }

-- ---- when a letter may be taken

-- before a meal, if the site checks its bell before it
pub may_take_before_meal : (manner : Manner) (tally : ℕ) (core : SeenCore) → is_checking manner tally ≡ true → IsNext (Some event.Begin) core → MayTakeNow manner core
may_take_before_meal Eager tally core checks next = absurd (let e : false ≡ true = checks in cc)
may_take_before_meal Greedy tally core checks next = λ plan state keeps stands. inr (next plan state keeps stands)
may_take_before_meal (Patient k) tally core checks next = λ plan state keeps stands. inr (next plan state keeps stands)
may_take_before_meal (OnCall k) tally core checks next = λ plan state keeps stands. inr (inl (next plan state keeps stands))

-- if the site can do nothing without a letter, or thinks on
pub may_take_idle : (manner : Manner) (core : SeenCore) → IsIdle manner core → MayTakeNow manner core
may_take_idle Eager core idle = λ plan state keeps stands. elim (idle plan state keeps stands) [
  | inl none ↦ none
  | inr thinks ↦ absurd (let e : false ≡ true = thinks.0 in cc)
]
may_take_idle Greedy core idle = λ plan state keeps stands. elim (idle plan state keeps stands) [
  | inl none ↦ inl none
  | inr thinks ↦ absurd (let e : false ≡ true = thinks.0 in cc)
]
may_take_idle (Patient k) core idle = λ plan state keeps stands. elim (idle plan state keeps stands) [
  | inl none ↦ inl none
  | inr thinks ↦ absurd (let e : false ≡ true = thinks.0 in cc)
]
may_take_idle (OnCall k) core idle = λ plan state keeps stands. elim (idle plan state keeps stands) [
  | inl none ↦ inl none
  | inr thinks ↦ inr (inr thinks.1)
]

-- a check changes neither the bell's identity nor its degree, nor that it was refused
by_check : {X : Type 0} (what : SeenBell → X) (b : Bool) (events : ℕ) (bell : SeenBell) → what (after_empty_check events bell) ≡ what bell → what (if b then after_empty_check events bell else bell) ≡ what bell
by_check what true events bell same = same
by_check what false events bell same = refl

pub same_degree : (manner : Manner) (tally events : ℕ) (bell : SeenBell) → (checked_by manner tally events bell).degree ≡ bell.degree
same_degree manner tally events bell = by_check (λ (b : SeenBell). b.degree) (is_checking manner tally) events bell refl

pub same_identity : (manner : Manner) (tally events : ℕ) (bell : SeenBell) → (checked_by manner tally events bell).identity ≡ bell.identity
same_identity manner tally events bell = by_check (λ (b : SeenBell). b.identity) (is_checking manner tally) events bell refl

pub same_refused : (manner : Manner) (tally events : ℕ) (bell : SeenBell) → (checked_by manner tally events bell).refused ≡ bell.refused
same_refused manner tally events bell = by_check (λ (b : SeenBell). b.refused) (is_checking manner tally) events bell refl
