-- Lists of letters, and what the link of one place has of them: while the site runs, and once it has stopped.
use Rattle.std.proofs.Common.{◌≡◌, ℕ, suc, ◌+◌, ◌<◌, Bool, ◌≤◌, ◌⊎◌, true, false, not, List, [], ◌∷◌, ◌++◌, option_to_list, Option, Some, None, refl, sym, ◌∙◌, ap, subst, inl, inr, arith, append_assoc, length, length-append, append-nil}
use Rattle.std.proofs.lemmas.Bool.{false≢true}
use Rattle.dine_rules.specs.declared.letters.Letter.{Letter}
use Rattle.dine_rules.specs.declared.letters.Letter.TheVariants.{Fork, Request, Done, Close}
use Rattle.dine_rules.specs.Letters.{has_close, has_done, forks_in, requests_in}
use Rattle.dine_rules.specs.Local.{LocalState, Traffic, traffic_at}
use Rattle.dine_rules.specs.Streams.{IsPutInOrder, KeepsStreams}
use Rattle.dine_graph.specs.Plan.{SeenPlan}
use Rattle.dine_link.specs.Closing.{is_close}
use Rattle.dine_site_thread.specs.Ports.{HasRung, IsUnrefused, SeenPort, PutsFit}
use Rattle.dine_site_thread.specs.private.PortSteps.{port_after_close, port_after_unheard_close, port_after_put, port_after_unheard_put, port_after_refusal, port_after_take, port_after_refused_take}
use Rattle.dine_site_thread.specs.private.Running.{RunsAt, StopsAt}

-- ---- one letter more

pub has_close-push : (xs : List Letter) (l : Letter) → has_close xs ≡ false → has_close (xs ++ l ∷ []) ≡ is_close l
has_close-push [] (Fork fork) h = refl
has_close-push [] (Request edge) h = refl
has_close-push [] Done h = refl
has_close-push [] Close h = refl
has_close-push (Fork fork ∷ xs) l h = has_close-push xs l h
has_close-push (Request edge ∷ xs) l h = has_close-push xs l h
has_close-push (Done ∷ xs) l h = has_close-push xs l h
has_close-push (Close ∷ xs) l h = absurd (false≢true (sym h))

pub has_close-closed : (xs : List Letter) → has_close (xs ++ Close ∷ []) ≡ true
has_close-closed [] = refl
has_close-closed (Fork fork ∷ xs) = has_close-closed xs
has_close-closed (Request edge ∷ xs) = has_close-closed xs
has_close-closed (Done ∷ xs) = has_close-closed xs
has_close-closed (Close ∷ xs) = refl

-- Close counts as no other letter
pub forks_in-closed : (xs : List Letter) → forks_in (xs ++ Close ∷ []) ≡ forks_in xs
forks_in-closed [] = refl
forks_in-closed (Fork fork ∷ xs) = ap (λ n. suc n) (forks_in-closed xs)
forks_in-closed (Request edge ∷ xs) = forks_in-closed xs
forks_in-closed (Done ∷ xs) = forks_in-closed xs
forks_in-closed (Close ∷ xs) = forks_in-closed xs

pub requests_in-closed : (xs : List Letter) → requests_in (xs ++ Close ∷ []) ≡ requests_in xs
requests_in-closed [] = refl
requests_in-closed (Fork fork ∷ xs) = requests_in-closed xs
requests_in-closed (Request edge ∷ xs) = ap (λ n. suc n) (requests_in-closed xs)
requests_in-closed (Done ∷ xs) = requests_in-closed xs
requests_in-closed (Close ∷ xs) = requests_in-closed xs

pub has_done-closed : (xs : List Letter) → has_done (xs ++ Close ∷ []) ≡ has_done xs
has_done-closed [] = refl
has_done-closed (Fork fork ∷ xs) = has_done-closed xs
has_done-closed (Request edge ∷ xs) = has_done-closed xs
has_done-closed (Done ∷ xs) = refl
has_done-closed (Close ∷ xs) = has_done-closed xs

-- ---- what was put, as the link has it

pub puts_fit-same : (met : Bool) (xs ys : List Letter) → ys ≡ xs → PutsFit met None xs ys
puts_fit-same met xs ys e = record {
  front = xs;
  closing = [];
  closes = inl refl;
  core = sym (append-nil (xs ++ []) ∙ append-nil xs);
  link = inl (e ∙ sym (append-nil xs));
}

-- a letter that the link refused, and a Close that it refused
pub puts_fit-refused : (met : Bool) (xs ys : List Letter) (l : Letter) → ys ≡ xs → PutsFit met (Some l) (xs ++ l ∷ []) ys
puts_fit-refused met xs ys l e = record {
  front = xs;
  closing = [];
  closes = inl refl;
  core = sym (append-nil (xs ++ l ∷ []));
  link = inl (e ∙ sym (append-nil xs));
}

pub puts_fit-unclosed : (xs ys : List Letter) → ys ≡ xs → PutsFit true None (xs ++ Close ∷ []) ys
puts_fit-unclosed xs ys e = record {
  front = xs;
  closing = Close ∷ [];
  closes = inr refl;
  core = ap (λ (l : List Letter). l ++ Close ∷ []) (sym (append-nil xs));
  link = inr (e, refl);
}

-- where Close was not put before, what was put is without it
nothing_closing : (front : List Letter) (refused : Option Letter) (closing xs : List Letter) → (closing ≡ []) ⊎ (closing ≡ Close ∷ [])
    → xs ≡ front ++ option_to_list refused ++ closing → has_close xs ≡ false → closing ≡ []
nothing_closing front refused closing xs (inl e) is h = e
nothing_closing front refused closing xs (inr e) is h =
    absurd (false≢true (sym h ∙ ap has_close (is ∙ ap (λ (l : List Letter). front ++ option_to_list refused ++ l) e) ∙ has_close-closed (front ++ option_to_list refused)))

front_only : (met : Bool) (front closing ys : List Letter) → closing ≡ [] → (ys ≡ front ++ closing) ⊎ ((ys ≡ front) × (met ≡ true)) → ys ≡ front
front_only met front closing ys none (inl e) = e ∙ ap (λ (l : List Letter). front ++ l) none ∙ append-nil front
front_only met front closing ys none (inr e) = e.0

-- Close is put on the core's side; the link takes it, or refuses it
pub puts_fit-closing : (met after : Bool) (refused : Option Letter) (xs ys zs : List Letter) → has_close xs ≡ false → PutsFit met refused xs ys → (zs ≡ ys ++ Close ∷ []) ⊎ ((zs ≡ ys) × (after ≡ true))
    → PutsFit after refused (xs ++ Close ∷ []) zs
puts_fit-closing met after refused xs ys zs h fit out =
    let none = nothing_closing fit.front refused fit.closing xs fit.closes fit.core h in
    let same : ys ≡ fit.front = front_only met fit.front fit.closing ys none fit.link in
    let bare : xs ≡ fit.front ++ option_to_list refused = fit.core ∙ ap (λ (l : List Letter). fit.front ++ option_to_list refused ++ l) none ∙ append-nil (fit.front ++ option_to_list refused) in
    record {
      front = fit.front;
      closing = Close ∷ [];
      closes = inr refl;
      core = ap (λ (l : List Letter). l ++ Close ∷ []) bare;
      link = elim out [ inl e ↦ inl (e ∙ ap (λ (l : List Letter). l ++ Close ∷ []) same) | inr e ↦ inr (e.0 ∙ same, e.1) ];
    }

-- the link has no more than was put
pub puts_fit-shorter : (met : Bool) (refused : Option Letter) (xs ys : List Letter) → PutsFit met refused xs ys → length ys ≤ length xs
puts_fit-shorter met refused xs ys fit =
    let n = ap (λ (l : List Letter). length l) fit.core in
    let a = length-append (fit.front ++ option_to_list refused) fit.closing in
    let b = length-append fit.front (option_to_list refused) in
    elim fit.link [
      | inl e ↦ omega (arith, n, a, b, ap (λ (l : List Letter). length l) e, length-append fit.front fit.closing)
      | inr e ↦ omega (arith, n, a, b, ap (λ (l : List Letter). length l) e.0)
    ]

pub same_traffic : (t u : Traffic) → t.put ≡ u.put → t.taken ≡ u.taken → t ≡ u
same_traffic t u puts takes = ap (λ p. record { put = p; taken = t.taken }) puts ∙ ap (λ k. record { put = u.put; taken = k }) takes

-- what a law says: a front of what a site put is in order, and so is a front with Close behind it
abbrev pub FrontsAreInOrder : Type 0
FrontsAreInOrder = (plan : SeenPlan) (s i : ℕ) (state : LocalState) (front rest more : List Letter) → KeepsStreams plan s state → i < length state.traffic → (traffic_at state i).put ≡ front ++ rest
    → IsPutInOrder plan s i state.ate (record { put = front; taken = (traffic_at state i).taken ++ more })

abbrev pub ClosedFrontsAreInOrder : Type 0
ClosedFrontsAreInOrder = (plan : SeenPlan) (s i : ℕ) (state : LocalState) (front rest more : List Letter) → KeepsStreams plan s state → i < length state.traffic → (traffic_at state i).put ≡ front ++ rest ++ Close ∷ []
    → IsPutInOrder plan s i state.ate (record { put = front ++ Close ∷ []; taken = (traffic_at state i).taken ++ more })

-- so what a link has is in order
pub fit_in_order : FrontsAreInOrder → ClosedFrontsAreInOrder → (plan : SeenPlan) (s i : ℕ) (state : LocalState) (met : Bool) (links : Traffic) (refused : Option Letter) (more : List Letter) → KeepsStreams plan s state → i < length state.traffic
    → PutsFit met refused (traffic_at state i).put links.put → links.taken ≡ (traffic_at state i).taken ++ more → IsPutInOrder plan s i state.ate links
fit_in_order fronts closes plan s i state met links refused more keeps within fit took =
    let taken = (traffic_at state i).taken ++ more in
    let by_front : links.put ≡ fit.front → IsPutInOrder plan s i state.ate links = λ is.
    subst (IsPutInOrder plan s i state.ate) (sym (same_traffic links (record { put = fit.front; taken = taken }) is took))
    (fronts plan s i state fit.front (option_to_list refused ++ fit.closing) more keeps within (fit.core ∙ append_assoc fit.front (option_to_list refused) fit.closing)) in
    elim fit.link [
      | inl whole ↦ elim fit.closes [
        | inl none ↦ by_front (whole ∙ ap (λ (l : List Letter). fit.front ++ l) none ∙ append-nil fit.front)
        | inr close ↦
            subst (IsPutInOrder plan s i state.ate) (sym (same_traffic links (record { put = fit.front ++ Close ∷ []; taken = taken }) (whole ∙ ap (λ (l : List Letter). fit.front ++ l) close) took))
            (closes plan s i state fit.front (option_to_list refused) more keeps within (fit.core ∙ ap (λ (l : List Letter). fit.front ++ option_to_list refused ++ l) close))
      ]
      | inr cut ↦ by_front cut.0
    ]

-- ---- rings

-- as many rings as letters, and one fewer
pub rang_same : {Identity : Type 0} (port : SeenPort Identity) → port.ringer.rings ≡ length port.tx.letters → HasRung port
rang_same port all = record { no_more = omega (arith, all); each = λ quiet. all; all_but_two = omega (arith, all) }

rang_but_one : {Identity : Type 0} (port : SeenPort Identity) → port.ringer.refused ≡ true → length port.tx.letters ≡ port.ringer.rings + 1 → HasRung port
rang_but_one port refused more = record { no_more = omega (arith, more); each = λ quiet. absurd (false≢true (sym quiet ∙ refused)); all_but_two = omega (arith, more) }

-- ---- one place, while the site runs

module _ {Identity : Type 0} (traffic : Traffic) (port : SeenPort Identity) (runs : RunsAt traffic port) where
  -- an open place has a live end
  pub live_where_open : has_close traffic.put ≡ false → port.is_live ≡ true
  live_where_open h = runs.live ∙ ap not h

  longer : (l : Letter) → port.ringer.rings + 1 ≡ length (port.tx.letters ++ l ∷ [])
  longer l = ap (λ n. n + 1) runs.rang ∙ sym (length-append port.tx.letters (l ∷ []))

  still : IsUnrefused port
  still = record { put = runs.unrefused.put; take = runs.unrefused.take; ring = runs.unrefused.ring }

  pub runs-put : (m : ℕ) (l : Letter) → has_close traffic.put ≡ false → is_close l ≡ false → RunsAt (record traffic { put = traffic.put ++ l ∷ [] }) (port_after_put m l port)
  runs-put m l h other = record {
    puts = ap (λ (xs : List Letter). xs ++ l ∷ []) runs.puts;
    takes = runs.takes;
    live = live_where_open h ∙ sym (ap not (has_close-push traffic.put l h ∙ other));
    rang = longer l;
    unrefused = record { put = still.put; take = still.take; ring = still.ring };
  }

  pub runs-closed : (m : ℕ) → RunsAt (record traffic { put = traffic.put ++ Close ∷ [] }) (port_after_close m port)
  runs-closed m = record {
    puts = ap (λ (xs : List Letter). xs ++ Close ∷ []) runs.puts;
    takes = runs.takes;
    live = sym (ap not (has_close-closed traffic.put));
    rang = longer Close;
    unrefused = record { put = still.put; take = still.take; ring = still.ring };
  }

  pub runs-taken : (m : ℕ) (l : Letter) → RunsAt (record traffic { taken = traffic.taken ++ l ∷ [] }) (port_after_take m l port)
  runs-taken m l = record {
    puts = runs.puts;
    takes = ap (λ (xs : List Letter). xs ++ l ∷ []) runs.takes;
    live = runs.live;
    rang = runs.rang;
    unrefused = record { put = still.put; take = still.take; ring = still.ring };
  }

  -- ---- the same place once the site has stopped

  pub stops-as_it_was : StopsAt None None traffic port
  stops-as_it_was = record {
    puts = puts_fit-same port.tx.refused traffic.put port.tx.letters runs.puts;
    takes = runs.takes ∙ sym (append-nil traffic.taken);
    live = live_where_open;
    rang = rang_same _ runs.rang;
    rang_open = λ open_still. omega (arith, runs.rang);
  }

  pub stops-refused : (l : Letter) → has_close traffic.put ≡ false → StopsAt (Some l) None (record traffic { put = traffic.put ++ l ∷ [] }) (port_after_refusal port)
  stops-refused l h = record {
    puts = puts_fit-refused true traffic.put port.tx.letters l runs.puts;
    takes = runs.takes ∙ sym (append-nil traffic.taken);
    live = λ open_still. live_where_open h;
    rang = rang_same _ runs.rang;
    rang_open = λ open_still. omega (arith, runs.rang);
  }

  pub stops-unheard : (m : ℕ) (l : Letter) → has_close traffic.put ≡ false → StopsAt None None (record traffic { put = traffic.put ++ l ∷ [] }) (port_after_unheard_put m l port)
  stops-unheard m l h = record {
    puts = puts_fit-same port.tx.refused (traffic.put ++ l ∷ []) (port.tx.letters ++ l ∷ []) (ap (λ (xs : List Letter). xs ++ l ∷ []) runs.puts);
    takes = runs.takes ∙ sym (append-nil traffic.taken);
    live = λ open_still. live_where_open h;
    rang = rang_but_one _ refl (sym (longer l));
    rang_open = λ open_still. omega (arith, longer l);
  }

  pub stops-unclosed : has_close traffic.put ≡ false → StopsAt None None (record traffic { put = traffic.put ++ Close ∷ [] }) (port_after_refusal port)
  stops-unclosed h = record {
    puts = puts_fit-unclosed traffic.put port.tx.letters runs.puts;
    takes = runs.takes ∙ sym (append-nil traffic.taken);
    live = λ open_still. live_where_open h;
    rang = rang_same _ runs.rang;
    rang_open = λ open_still. omega (arith, runs.rang);
  }

  pub stops-closed_unheard : (m : ℕ) → StopsAt None None (record traffic { put = traffic.put ++ Close ∷ [] }) (port_after_unheard_close m port)
  stops-closed_unheard m = record {
    puts = puts_fit-same port.tx.refused (traffic.put ++ Close ∷ []) (port.tx.letters ++ Close ∷ []) (ap (λ (xs : List Letter). xs ++ Close ∷ []) runs.puts);
    takes = runs.takes ∙ sym (append-nil traffic.taken);
    live = λ open_still. absurd (false≢true (sym open_still ∙ has_close-closed traffic.put));
    rang = rang_but_one _ refl (sym (longer Close));
    rang_open = λ open_still. omega (arith, longer Close);
  }

  pub stops-untaken : StopsAt None None traffic (port_after_refused_take port)
  stops-untaken = record {
    puts = puts_fit-same port.tx.refused traffic.put port.tx.letters runs.puts;
    takes = runs.takes ∙ sym (append-nil traffic.taken);
    live = live_where_open;
    rang = rang_same _ runs.rang;
    rang_open = λ open_still. omega (arith, runs.rang);
  }

  pub stops-breached : (m : ℕ) (l : Letter) → StopsAt None (Some l) traffic (port_after_take m l port)
  stops-breached m l = record {
    puts = puts_fit-same port.tx.refused traffic.put port.tx.letters runs.puts;
    takes = ap (λ (xs : List Letter). xs ++ l ∷ []) runs.takes;
    live = live_where_open;
    rang = rang_same _ runs.rang;
    rang_open = λ open_still. omega (arith, runs.rang);
  }

-- ---- Close is put after the stop

module _ {Identity : Type 0} (refused breached : Option Letter) (traffic : Traffic) (port : SeenPort Identity) (stops : StopsAt refused breached traffic port) (h : has_close traffic.put ≡ false) where
  pub stops-closed : (m : ℕ) → StopsAt refused breached (record traffic { put = traffic.put ++ Close ∷ [] }) (port_after_close m port)
  stops-closed m = record {
    puts = puts_fit-closing port.tx.refused port.tx.refused refused traffic.put port.tx.letters (port.tx.letters ++ Close ∷ []) h stops.puts (inl refl);
    takes = stops.takes;
    live = λ open_still. absurd (false≢true (sym open_still ∙ has_close-closed traffic.put));
    rang = record {
      no_more = omega (arith, stops.rang.no_more, length-append port.tx.letters (Close ∷ []));
      each = λ quiet. ap (λ n. n + 1) (stops.rang.each quiet) ∙ sym (length-append port.tx.letters (Close ∷ []));
      all_but_two = omega (arith, stops.rang_open h, length-append port.tx.letters (Close ∷ []));
    };
    rang_open = λ open_still. absurd (false≢true (sym open_still ∙ has_close-closed traffic.put));
  }

  pub stops-close_refused : StopsAt refused breached (record traffic { put = traffic.put ++ Close ∷ [] }) (port_after_refusal port)
  stops-close_refused = record {
    puts = puts_fit-closing port.tx.refused true refused traffic.put port.tx.letters port.tx.letters h stops.puts (inr (refl, refl));
    takes = stops.takes;
    live = λ open_still. stops.live h;
    rang = record { no_more = stops.rang.no_more; each = stops.rang.each; all_but_two = stops.rang.all_but_two };
    rang_open = λ open_still. absurd (false≢true (sym open_still ∙ has_close-closed traffic.put));
  }

  pub stops-close_unheard : (m : ℕ) → StopsAt refused breached (record traffic { put = traffic.put ++ Close ∷ [] }) (port_after_unheard_close m port)
  stops-close_unheard m = record {
    puts = puts_fit-closing port.tx.refused port.tx.refused refused traffic.put port.tx.letters (port.tx.letters ++ Close ∷ []) h stops.puts (inl refl);
    takes = stops.takes;
    live = λ open_still. absurd (false≢true (sym open_still ∙ has_close-closed traffic.put));
    rang = record {
      no_more = omega (arith, stops.rang.no_more, length-append port.tx.letters (Close ∷ []));
      each = λ quiet. absurd (false≢true (sym quiet));
      all_but_two = omega (arith, stops.rang_open h, length-append port.tx.letters (Close ∷ []));
    };
    rang_open = λ open_still. absurd (false≢true (sym open_still ∙ has_close-closed traffic.put));
  }
