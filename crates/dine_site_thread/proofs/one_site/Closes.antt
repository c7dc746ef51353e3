-- Close stays put. So where the site has not put Close, none of its events is Close there.
use Rattle.std.proofs.Common.{◌≡◌, ℕ, ◌<◌, ◌||◌, Bool, true, false, List, [], ◌∷◌, ◌++◌, length, map, Some, refl, sym, ◌∙◌, ap, ap₂, inl, inr}
use Rattle.std.specs.List.{list_any}
use Rattle.std.proofs.lemmas.Bool.{and_parts, cases_eq, false_from_ne_true, ltb-true, ne_eqb, or_left, or_right, true≢false}
use Rattle.std.proofs.lemmas.List.{get_or-set_other, get_or-set_same}
use Rattle.std.proofs.lemmas.Option.{none-some, same_Some}
use Rattle.dine_graph.specs.Plan.{SeenPlan}
use Rattle.dine_rules.specs.declared.events.EventKind.{EventKind}
use Rattle.dine_rules.specs.declared.events.EventKind.TheVariants as event
use Rattle.dine_rules.specs.declared.letters.Letter.{Letter}
use Rattle.dine_rules.specs.declared.letters.Letter.TheVariants as letter
use Rattle.dine_rules.specs.Letters.{has_close}
use Rattle.dine_rules.specs.Local.{LocalState, Traffic, no_traffic, start_of, traffic_at}
use Rattle.dine_rules.specs.StepLists.{LeadTo}
use Rattle.dine_rules.specs.Steps.{Step, Give, Ask, Hungry, Begin, End, Quit, Done, Close, Break, Take, after, may, with_put, with_taken}
use Rattle.dine_rules.proofs.shared.lists.Counting.{has_close-append}
use Rattle.dine_site_thread.specs.declared.manner.Manner.{Manner}
use Rattle.dine_site_thread.specs.Doings.{HasDone, event_of, is_close_at}
use Rattle.dine_site_thread.proofs.shared.one_site.AtPlaces.{opens-ask, opens-break, opens-close, opens-done, opens-give}

-- a letter that is put or taken at a place leaves each Close where it was put
module _ (state : LocalState) (i : ℕ) (j : ℕ) (l : Letter) (within : j < length state.traffic) where
  put_there : has_close ((traffic_at state j).put ++ l ∷ []) ≡ true → i ≡ j → has_close (traffic_at (with_put j l state) i).put ≡ true
  put_there has same = ap (λ (n : ℕ). has_close (traffic_at (with_put j l state) n).put) same
      ∙ ap (λ (t : Traffic). has_close t.put) (get_or-set_same state.traffic j (record (traffic_at state j) { put = (traffic_at state j).put ++ l ∷ [] }) no_traffic within) ∙ has

  stays_with_put : has_close (traffic_at state i).put ≡ true → has_close (traffic_at (with_put j l state) i).put ≡ true
  stays_with_put closed = elim (cases_eq i j) [
    | inl same ↦ put_there (has_close-append (traffic_at state j).put (l ∷ []) ∙ or_left _ _ (ap (λ (n : ℕ). has_close (traffic_at state n).put) (sym same) ∙ closed)) same
    | inr ne ↦ ap (λ (t : Traffic). has_close t.put) (get_or-set_other state.traffic j i (record (traffic_at state j) { put = (traffic_at state j).put ++ l ∷ [] }) no_traffic ne) ∙ closed
  ]

  stays_with_taken : has_close (traffic_at state i).put ≡ true → has_close (traffic_at (with_taken j l state) i).put ≡ true
  stays_with_taken closed =
      let new : Traffic = record (traffic_at state j) { taken = (traffic_at state j).taken ++ l ∷ [] } in
      elim (cases_eq i j) [
        | inl same ↦ ap (λ (n : ℕ). has_close (traffic_at (with_taken j l state) n).put) same
            ∙ ap (λ (t : Traffic). has_close t.put) (get_or-set_same state.traffic j new no_traffic within)
            ∙ ap (λ (n : ℕ). has_close (traffic_at state n).put) (sym same) ∙ closed
        | inr ne ↦ ap (λ (t : Traffic). has_close t.put) (get_or-set_other state.traffic j i new no_traffic ne) ∙ closed
      ]

module _ (plan : SeenPlan) (s : ℕ) (i : ℕ) where
  stays_after : (state : LocalState) (step : Step) → may plan s state step ≡ true → has_close (traffic_at state i).put ≡ true → has_close (traffic_at (after plan s state step) i).put ≡ true
  stays_after state (Give j) needs closed = stays_with_put state i j _ (opens-give j plan s state needs).0 closed
  stays_after state (Ask j) needs closed = stays_with_put state i j _ (opens-ask j plan s state needs).0 closed
  stays_after state Hungry needs closed = closed
  stays_after state Begin needs closed = closed
  stays_after state (End failed) needs closed = closed
  stays_after state Quit needs closed = closed
  stays_after state (Done j) needs closed = stays_with_put state i j _ (opens-done j plan s state needs).0 closed
  stays_after state (Close j) needs closed = stays_with_put state i j _ (opens-close j plan s state needs).0 closed
  stays_after state (Break j) needs closed = stays_with_put state i j _ (opens-break j plan s state needs).0 closed
  stays_after state (Take j l) needs closed = stays_with_taken state i j l (ltb-true j (length state.traffic) (and_parts _ _ needs).0) closed

  -- a place that is open at the end was open before
  was_open : (steps : List Step) (state new : LocalState) → LeadTo plan s state steps new → has_close (traffic_at new i).put ≡ false → has_close (traffic_at state i).put ≡ false
  was_open [] state new led unclosed = ap (λ (it : LocalState). has_close (traffic_at it i).put) led ∙ unclosed
  was_open (step ∷ steps) state new led unclosed = false_from_ne_true _ (λ closed.
      true≢false (sym (stays_after state step led.0 closed) ∙ was_open steps (after plan s state step) new led.1 unclosed))

  -- a step after which the place is open is no Close there
  no_close : (state : LocalState) (step : Step) (kind : EventKind) → event_of step ≡ Some kind → may plan s state step ≡ true → has_close (traffic_at (after plan s state step) i).put ≡ false → is_close_at i kind ≡ false
  no_close state (Give j) kind is needs unclosed = ap (is_close_at i) (same_Some kind (event.Give j) (sym is))
  no_close state (Ask j) kind is needs unclosed = ap (is_close_at i) (same_Some kind (event.Ask j) (sym is))
  no_close state Hungry kind is needs unclosed = ap (is_close_at i) (same_Some kind event.Hungry (sym is))
  no_close state Begin kind is needs unclosed = ap (is_close_at i) (same_Some kind event.Begin (sym is))
  no_close state (End failed) kind is needs unclosed = ap (is_close_at i) (same_Some kind event.End (sym is))
  no_close state Quit kind is needs unclosed = ap (is_close_at i) (same_Some kind event.Quit (sym is))
  no_close state (Done j) kind is needs unclosed = ap (is_close_at i) (same_Some kind (event.Done j) (sym is))
  no_close state (Close j) kind is needs unclosed = ap (is_close_at i) (same_Some kind (event.Close j) (sym is)) ∙ elim (cases_eq j i) [
    | inl same ↦
        let has : has_close ((traffic_at state j).put ++ letter.Close ∷ []) ≡ true = has_close-append (traffic_at state j).put (letter.Close ∷ []) ∙ or_right (has_close (traffic_at state j).put) true refl in
        absurd (true≢false (sym (put_there state i j letter.Close (opens-close j plan s state needs).0 has (sym same)) ∙ unclosed))
    | inr ne ↦ ne_eqb j i ne
  ]
  no_close state (Break j) kind is needs unclosed = absurd (none-some kind is)
  no_close state (Take j l) kind is needs unclosed = ap (is_close_at i) (same_Some kind (event.Take j) (sym is))

  no_close_among : (steps : List Step) (journal : List EventKind) (state new : LocalState) → map event_of steps ≡ map Some journal → LeadTo plan s state steps new → has_close (traffic_at new i).put ≡ false → list_any (is_close_at i) journal ≡ false
  no_close_among [] [] state new same led unclosed = refl
  no_close_among [] (kind ∷ journal) state new same led unclosed = absurd (cc)
  no_close_among (step ∷ steps) [] state new same led unclosed = absurd (cc)
  no_close_among (step ∷ steps) (kind ∷ journal) state new same led unclosed =
      let is : event_of step ≡ Some kind = cc in
      let rest : map event_of steps ≡ map Some journal = cc in
      let first = no_close state step kind is led.0 (was_open steps (after plan s state step) new led.1 unclosed) in
      ap₂ (λ (a b : Bool). a || b) first (no_close_among steps journal (after plan s state step) new rest led.1 unclosed)

-- what the site did before it broke off has no Close at a place that is open still
pub no_close_event : (manner : Manner) (plan : SeenPlan) (s i : ℕ) (journal : List EventKind) (state : LocalState) → HasDone manner plan s journal state → has_close (traffic_at state i).put ≡ false → list_any (is_close_at i) journal ≡ false
no_close_event manner plan s i journal state did unclosed =
    no_close_among plan s i did.acted.steps journal (start_of plan s) did.before did.acted.events did.acted.led (was_open plan s i (map Break did.places) did.before state did.broke_off unclosed)
