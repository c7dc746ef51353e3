-- One event more, and its letter.
use Rattle.std.proofs.Common.{◌≡◌, ◌≢◌, ℕ, zero, suc, ◌<◌, ◌==◌, Bool, true, false, cond, List, [], ◌∷◌, ◌++◌, length, map, set, slice_get, Some, Result, Ok, Err, refl, sym, ◌∙◌, ap, subst, inl, inr, ◌⊎◌, arith, length-append, append-nil}
use Rattle.std.specs.Prelude.{OnOk}
use Rattle.std.proofs.lemmas.Bool.{cases_eq, cond-false, cond-true, eq-eqb, ne_eqb}
use Rattle.std.proofs.lemmas.List.{map-append}
use Rattle.std.proofs.lemmas.Option.{same_Some}
use Rattle.dine_rules.specs.Moments.{last_moment}
use Rattle.dine_rules.specs.declared.events.EventKind.{EventKind}
use Rattle.dine_rules.specs.declared.letters.Letter.{Letter}
use Rattle.dine_rules.specs.declared.events.Shape.{Shape}
use Rattle.dine_rules.specs.declared.events.Shape.TheVariants.{Takes, Puts, Alone}
use Rattle.dine_rules.specs.Steps.{shape_of}
use Rattle.dine_site_thread.specs.Ports.{IsFreshPort, SeenPort}
use Rattle.dine_site_thread.specs.private.PortSteps.{port_after_take}
use Rattle.dine_rules.specs.Timed.{Rise, is_put_at, is_take_at, moments_of}
use Rattle.dine_site_thread.specs.Times.{AreLater, IsTimed, none_late}
use Rattle.dine_site_thread.specs.private.Running.{late_at}

pub on_ok : {A E P Q : Type 0} (r : Result A E) → (P → Q) → OnOk r P → OnOk r Q
on_ok (Ok a) f h = f h
on_ok (Err e) f h = tt

pub last_then : (es : List (EventKind × ℕ)) (kind : EventKind) (m : ℕ) → last_moment (es ++ (kind, m) ∷ []) ≡ m
last_then [] kind m = refl
last_then (e ∷ []) kind m = refl
last_then (e ∷ f ∷ es) kind m = last_then (f ∷ es) kind m

rise_then : (after : ℕ) (es : List (EventKind × ℕ)) (kind : EventKind) (m : ℕ) → Rise after es → last_moment es < m → after < m → Rise after (es ++ (kind, m) ∷ [])
rise_then after [] kind m h last over = (over, tt)
rise_then after (e ∷ []) kind m h last over = (h.0, (last, tt))
rise_then after (e ∷ f ∷ es) kind m h last over = (h.0, rise_then e.1 (f ∷ es) kind m h.1 last (over_first f es h.1 last)) where
  over_first : (f : EventKind × ℕ) (es : List (EventKind × ℕ)) → Rise e.1 (f ∷ es) → last_moment (f ∷ es) < m → e.1 < m
  over_first f [] h last = omega (arith, h.0)
  over_first f (g ∷ es) h last = over_first g es (omega (arith, h.0, h.1.0), h.1.1) last

moments_then : (test : Shape → Bool) (es : List (EventKind × ℕ)) (kind : EventKind) (m : ℕ) → moments_of test (es ++ (kind, m) ∷ []) ≡ moments_of test es ++ cond (test (shape_of kind)) (m ∷ []) []
moments_then test [] kind m = refl
moments_then test (e ∷ es) kind m = by_case (moments_then test es kind m) (test (shape_of e.0)) where
  by_case : moments_of test (es ++ (kind, m) ∷ []) ≡ moments_of test es ++ cond (test (shape_of kind)) (m ∷ []) [] → (b : Bool)
      → cond b (e.1 ∷ moments_of test (es ++ (kind, m) ∷ [])) (moments_of test (es ++ (kind, m) ∷ [])) ≡ cond b (e.1 ∷ moments_of test es) (moments_of test es) ++ cond (test (shape_of kind)) (m ∷ []) []
  by_case rest true = ap (λ (z : List ℕ). e.1 ∷ z) rest
  by_case rest false = rest

-- no event of this shape passes the test, or each does
moments_not : (test : Shape → Bool) (es : List (EventKind × ℕ)) (kind : EventKind) (m : ℕ) (shape : Shape) → shape_of kind ≡ shape → test shape ≡ false → moments_of test (es ++ (kind, m) ∷ []) ≡ moments_of test es
moments_not test es kind m shape is none = moments_then test es kind m ∙ ap (λ (z : List ℕ). moments_of test es ++ z) (cond-false (test (shape_of kind)) (m ∷ []) [] (ap test is ∙ none)) ∙ append-nil (moments_of test es)

moments_more : (test : Shape → Bool) (es : List (EventKind × ℕ)) (kind : EventKind) (m : ℕ) (shape : Shape) → shape_of kind ≡ shape → test shape ≡ true → moments_of test (es ++ (kind, m) ∷ []) ≡ moments_of test es ++ m ∷ []
moments_more test es kind m shape is each = moments_then test es kind m ∙ ap (λ (z : List ℕ). moments_of test es ++ z) (cond-true (test (shape_of kind)) (m ∷ []) [] (ap test is ∙ each))

later_then : (later sooner : List ℕ) (m q : ℕ) → length later ≡ length sooner → q < m → AreLater later sooner → AreLater (later ++ m ∷ []) (sooner ++ q ∷ [])
later_then [] [] m q many l h zero put taken p t = omega (arith, same_Some q put p, same_Some m taken t)
later_then [] [] m q many l h (suc n) put taken p t = absurd cc
later_then [] (y ∷ sooner) m q many l h n put taken p t = absurd (omega arith)
later_then (x ∷ later) [] m q many l h n put taken p t = absurd (omega arith)
later_then (x ∷ later) (y ∷ sooner) m q many l h zero put taken p t = h zero put taken p t
later_then (x ∷ later) (y ∷ sooner) m q many l h (suc n) put taken p t = later_then later sooner m q (omega arith) l (λ k. h (suc k)) n put taken p t

-- an element of a changed list
at_set : {A : Type 0} (xs : List A) (k i : ℕ) (new x : A) → slice_get (set xs k new) i ≡ Some x → ((i ≡ k) × (new ≡ x)) ⊎ ((i ≢ k) × (slice_get xs i ≡ Some x))
at_set [] k i new x h = absurd cc
at_set (y ∷ ys) zero zero new x h = inl (refl, same_Some new x h)
at_set (y ∷ ys) zero (suc i) new x h = inr ((λ is. omega arith), h)
at_set (y ∷ ys) (suc k) zero new x h = inr ((λ is. omega arith), h)
at_set (y ∷ ys) (suc k) (suc i) new x h = elim (at_set ys k i new x h) [
  | inl w ↦ inl (ap suc w.0, w.1)
  | inr w ↦ inr ((λ is. w.0 (omega arith)), w.1)
]

module _ {Identity : Type 0} (events : List (EventKind × ℕ)) (journal : List EventKind) (ports : List (SeenPort Identity)) where
  pub starts : events ≡ [] → journal ≡ [] → ((i : ℕ) (port : SeenPort Identity) → slice_get ports i ≡ Some port → IsFreshPort port) → IsTimed none_late events journal ports
  starts none nothing fresh = record {
    shown = ap (map (λ event. event.0)) none ∙ sym nothing;
    rise = subst (Rise 0) (sym none) tt;
    puts = λ i port at. ap (moments_of (is_put_at i)) none ∙ sym (append-nil port.tx.moments ∙ (fresh i port at).untimed_put);
    many = λ i port at. ap (λ (z : List (EventKind × ℕ)). length (moments_of (is_take_at i) z)) none ∙ sym (ap length (fresh i port at).untimed_taken);
    takes = λ i port at n put taken p t. absurd (let e : slice_get {X = ℕ} [] n ≡ Some put = ap (λ (z : List ℕ). slice_get z n) (sym (fresh i port at).untimed_taken) ∙ p in cc);
  }

  module _ (kind : EventKind) (m : ℕ) (last : last_moment events < m) (h : IsTimed none_late events journal ports) (noted : List EventKind) (is_noted : noted ≡ journal ++ kind ∷ []) (next : List (EventKind × ℕ)) (is_next : next ≡ events ++ (kind, m) ∷ []) where
    shown_more : map (λ event. event.0) next ≡ noted
    shown_more = ap (map (λ event. event.0)) is_next ∙ map-append (λ (e : EventKind × ℕ). e.0) events ((kind, m) ∷ []) ∙ ap (λ (z : List EventKind). z ++ kind ∷ []) h.shown ∙ sym is_noted

    rise_more : Rise 0 next
    rise_more = subst (Rise 0) (sym is_next) (rise_then 0 events kind m h.rise last (omega (arith, last)))

    same_not : (test : Shape → Bool) (shape : Shape) → shape_of kind ≡ shape → test shape ≡ false → moments_of test next ≡ moments_of test events
    same_not test shape is none = ap (moments_of test) is_next ∙ moments_not test events kind m shape is none

    pub alone : shape_of kind ≡ Alone → IsTimed none_late next noted ports
    alone is = record {
      shown = shown_more;
      rise = rise_more;
      puts = λ i port at. same_not (is_put_at i) Alone is refl ∙ h.puts i port at;
      many = λ i port at. ap length (same_not (is_take_at i) Alone is refl) ∙ h.many i port at;
      takes = λ i port at. subst (λ (z : List ℕ). AreLater z port.rx.moments) (sym (same_not (is_take_at i) Alone is refl)) (h.takes i port at);
    }

    pub begins_put : (k : ℕ) → shape_of kind ≡ Puts k → IsTimed (late_at k (last_moment next)) next noted ports
    begins_put k is = record {
      shown = shown_more;
      rise = rise_more;
      puts = λ i port at. elim (cases_eq i k) [
        | inl here ↦ ap (moments_of (is_put_at i)) is_next ∙ moments_more (is_put_at i) events kind m (Puts k) is (eq-eqb i k here) ∙ ap (λ (z : List ℕ). z ++ m ∷ []) (h.puts i port at ∙ append-nil port.tx.moments)
            ∙ ap (λ (z : ℕ). port.tx.moments ++ z ∷ []) (sym (ap last_moment is_next ∙ last_then events kind m)) ∙ ap (λ (z : List ℕ). port.tx.moments ++ z) (sym (cond-true (i == k) (last_moment next ∷ []) [] (eq-eqb i k here)))
        | inr other ↦ same_not (is_put_at i) (Puts k) is (ne_eqb i k other) ∙ h.puts i port at ∙ ap (λ (z : List ℕ). port.tx.moments ++ z) (sym (cond-false (i == k) (last_moment next ∷ []) [] (ne_eqb i k other)))
      ];
      many = λ i port at. ap length (same_not (is_take_at i) (Puts k) is refl) ∙ h.many i port at;
      takes = λ i port at. subst (λ (z : List ℕ). AreLater z port.rx.moments) (sym (same_not (is_take_at i) (Puts k) is refl)) (h.takes i port at);
    }

    pub takes_one : (k q : ℕ) (l : Letter) (port : SeenPort Identity) → shape_of kind ≡ Takes k → q < m → slice_get ports k ≡ Some port → IsTimed none_late next noted (set ports k (port_after_take q l port))
    takes_one k q l old is later there = record {
      shown = shown_more;
      rise = rise_more;
      puts = λ i port at. same_not (is_put_at i) (Takes k) is refl ∙ elim (at_set ports k i (port_after_take q l old) port at) [
        | inl w ↦ h.puts i old (ap (slice_get ports) w.0 ∙ there) ∙ ap (λ (x : SeenPort Identity). x.tx.moments ++ []) w.1
        | inr w ↦ h.puts i port w.1
      ];
      many = λ i port at. elim (at_set ports k i (port_after_take q l old) port at) [
        | inl w ↦
            let more = ap length (ap (moments_of (is_take_at i)) is_next ∙ moments_more (is_take_at i) events kind m (Takes k) is (eq-eqb i k w.0)) in
            let before = h.many i old (ap (slice_get ports) w.0 ∙ there) in
            let now = ap (λ (x : SeenPort Identity). length x.rx.moments) w.1 in
            omega (arith, more, before, now, length-append (moments_of (is_take_at i) events) (m ∷ []), length-append old.rx.moments (q ∷ []))
        | inr w ↦ ap length (same_not (is_take_at i) (Takes k) is (ne_eqb i k w.0)) ∙ h.many i port w.1
      ];
      takes = λ i port at. elim (at_set ports k i (port_after_take q l old) port at) [
        | inl w ↦ subst (λ (x : SeenPort Identity). AreLater (moments_of (is_take_at i) next) x.rx.moments) w.1
            (subst (λ (z : List ℕ). AreLater z (old.rx.moments ++ q ∷ [])) (sym (ap (moments_of (is_take_at i)) is_next ∙ moments_more (is_take_at i) events kind m (Takes k) is (eq-eqb i k w.0)))
            (later_then (moments_of (is_take_at i) events) old.rx.moments m q (h.many i old (ap (slice_get ports) w.0 ∙ there)) later (h.takes i old (ap (slice_get ports) w.0 ∙ there))))
        | inr w ↦ subst (λ (z : List ℕ). AreLater z port.rx.moments) (sym (same_not (is_take_at i) (Takes k) is (ne_eqb i k w.0))) (h.takes i port w.1)
      ];
    }

  -- the letter is out
  pub ends_put : (k m : ℕ) (old new : SeenPort Identity) → IsTimed (late_at k m) events journal ports → slice_get ports k ≡ Some old → new.tx.moments ≡ old.tx.moments ++ m ∷ [] → new.rx.moments ≡ old.rx.moments
      → IsTimed none_late events journal (set ports k new)
  ends_put k m old new h there put took = record {
    shown = h.shown;
    rise = h.rise;
    puts = λ i port at. elim (at_set ports k i new port at) [
      | inl w ↦ h.puts i old (ap (slice_get ports) w.0 ∙ there) ∙ ap (λ (z : List ℕ). old.tx.moments ++ z) (cond-true (i == k) (m ∷ []) [] (eq-eqb i k w.0)) ∙ sym put ∙ ap (λ (x : SeenPort Identity). x.tx.moments) w.1 ∙ sym (append-nil port.tx.moments)
      | inr w ↦ h.puts i port w.1 ∙ ap (λ (z : List ℕ). port.tx.moments ++ z) (cond-false (i == k) (m ∷ []) [] (ne_eqb i k w.0))
    ];
    many = λ i port at. elim (at_set ports k i new port at) [
      | inl w ↦ h.many i old (ap (slice_get ports) w.0 ∙ there) ∙ ap length (sym took) ∙ ap (λ (x : SeenPort Identity). length x.rx.moments) w.1
      | inr w ↦ h.many i port w.1
    ];
    takes = λ i port at. elim (at_set ports k i new port at) [
      | inl w ↦ subst (λ (z : List ℕ). AreLater (moments_of (is_take_at i) events) z) (sym took ∙ ap (λ (x : SeenPort Identity). x.rx.moments) w.1) (h.takes i old (ap (slice_get ports) w.0 ∙ there))
      | inr w ↦ h.takes i port w.1
    ];
  }
