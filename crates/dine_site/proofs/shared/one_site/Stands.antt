-- A core that represents a state represents the next one when one place follows.
use Rattle.std.proofs.Common.{◌≡◌, ℕ, ◌<◌, ◌==◌, Bool, true, false, length, get_or, set, Option, Some, None, refl, sym, ◌∙◌, ap, subst, inl, inr, arith, if◌then◌else◌}
use Rattle.std.proofs.lemmas.Bool.{cases_eq, eqb-true, false≢true}
use Rattle.std.proofs.lemmas.List.{get_or-set_same, get_or-set_other, length-set}
use Rattle.dine_token.specs.Fork.{SeenFork}
use Rattle.dine_token.specs.Log.{meals_of}
use Rattle.dine_graph.specs.Plan.{SeenPlan}
use Rattle.dine_rules.specs.declared.letters.Letter.TheVariants.{Fork, Request, Done, Close}
use Rattle.dine_rules.specs.declared.phase.Phase.{Phase}
use Rattle.dine_rules.specs.declared.phase.Phase.TheVariants.{Thinking, Hungry, Eating}
use Rattle.dine_site.specs.declared.site.places.Place.{Place}
use Rattle.dine_site.specs.declared.site.places.ForkSlot.TheVariants.{Away, Here, InMeal}
use Rattle.dine_rules.specs.Local.{LocalState, Traffic, no_traffic, traffic_at, edge_at, neighbour_at, is_eating, is_thinking}
use Rattle.dine_rules.specs.Holdings.{fork_at, token_at, hand_at}
use Rattle.dine_rules.specs.Steps.{hand_fork_at, with_put}
use Rattle.dine_site.specs.Core.{SeenCore, Refines, kept_of, kept_at}
use Rattle.dine_site.specs.Places.{place_at, with_place, no_place, OnHere, after_ask, after_give, after_hungry, after_quit, after_done, after_close}
use Rattle.dine_site.proofs.shared.one_site.PlacesAfter.{kept-put_request, kept-put_fork, kept-put_done, kept-put_close}

-- other traffic at place i
abbrev pub with_traffic : ℕ → Traffic → LocalState → LocalState
with_traffic i t state = record state { traffic = set state.traffic i t }

some_if : (b : Bool) (x y : ℕ) → ◌≡◌ {A = Option ℕ} (if b then Some x else None) (Some y) → (b ≡ true) × (y ≡ x)
some_if true x y h = (refl, cc)
some_if false x y h = absurd (cc)

on_here_if : (P : SeenFork → Type 0) (b e : Bool) (n : ℕ) (f : SeenFork) → OnHere P (if b then (if e then InMeal n else Here f) else Away)
    → (b ≡ true) × (e ≡ false) × P f
on_here_if P true true n f h = absurd h
on_here_if P true false n f h = (refl, refl, h)
on_here_if P false e n f h = absurd h

module _ (plan : SeenPlan) (state : LocalState) (core : SeenCore) (stands : Refines plan state core) (i : ℕ) (within : i < length core.places) where
  -- what is kept at the place
  pub place_is : place_at core i ≡ kept_of plan core.site state.phase state.ate (edge_at plan core.site i) (traffic_at state i)
  place_is = stands.places i no_place within

  pub stands_at : (t : Traffic) (place : Place) → place ≡ kept_of plan core.site state.phase state.ate (edge_at plan core.site i) t
      → Refines plan (with_traffic i t state) (with_place i place core)
  stands_at t place is = record {
    is_plan = stands.is_plan;
    is_site = stands.is_site;
    due = stands.due;
    acts = stands.acts;
    resigns = stands.resigns;
    phase = stands.phase;
    ate = stands.ate;
    must_quit = stands.must_quit;
    has_quit = stands.has_quit;
    degree = length-set core.places i place ∙ stands.degree ∙ sym (length-set state.traffic i t);
    places = λ j past h. at j past (omega (arith, length-set core.places i place));
  }
    where
      in_state : i < length state.traffic
      in_state = omega (arith, stands.degree)

      at : (j : ℕ) (past : Place) → j < length core.places
          → get_or (set core.places i place) j past ≡ kept_of plan core.site state.phase state.ate (edge_at plan core.site j) (get_or (set state.traffic i t) j no_traffic)
      at j past h = elim (cases_eq j i) [
        | inl same ↦
            let P : ℕ → Type 0 = λ k. get_or (set core.places i place) k past ≡ kept_of plan core.site state.phase state.ate (edge_at plan core.site k) (get_or (set state.traffic i t) k no_traffic) in
            subst P (sym same) (get_or-set_same core.places i place past within ∙ is
            ∙ ap (λ (u : Traffic). kept_of plan core.site state.phase state.ate (edge_at plan core.site i) u) (sym (get_or-set_same state.traffic i t no_traffic in_state)))
        | inr other ↦ get_or-set_other core.places i j place past other ∙ stands.places j past h
            ∙ ap (λ (u : Traffic). kept_of plan core.site state.phase state.ate (edge_at plan core.site j) u) (sym (get_or-set_other state.traffic i j t no_traffic other))
      ]

  pub stands-after_done : Refines plan (with_put i Done state) (after_done i core)
  stands-after_done = stands_at _ _ (ap (λ (p : Place). record p { done_put = true }) place_is ∙ kept-put_done plan core.site state.phase state.ate (edge_at plan core.site i) (traffic_at state i))

  pub stands-after_close : Refines plan (with_put i Close state) (after_close i core)
  stands-after_close = stands_at _ _ (ap (λ (p : Place). record p { close_put = true }) place_is ∙ kept-put_close plan core.site state.phase state.ate (edge_at plan core.site i) (traffic_at state i))

  pub stands-after_ask : token_at plan core.site state i ≡ 1 → Refines plan (with_put i (Request (edge_at plan core.site i)) state) (after_ask i core)
  stands-after_ask one = stands_at _ _ (ap (λ (p : Place). record p { token = None }) place_is ∙ kept-put_request plan core.site state.phase state.ate (edge_at plan core.site i) (traffic_at state i) one)

  pub stands-after_give : (fork : SeenFork) → fork_at plan core.site state i ≡ 1 → Refines plan (with_put i (Fork fork) state) (after_give i core)
  stands-after_give fork one = stands_at _ _ (ap (λ (p : Place). record p { fork = Away }) place_is ∙ kept-put_fork plan core.site state.phase state.ate (edge_at plan core.site i) (traffic_at state i) fork one)

  -- a token at the place is that of the edge, and the whole lists say that it is held
  pub token_held : (edge : ℕ) → (place_at core i).token ≡ Some edge → (token_at plan core.site state i ≡ 1) × (edge ≡ edge_at plan core.site i)
  token_held edge h =
      let w = some_if (token_at plan core.site state i == 1) (edge_at plan core.site i) edge (sym (ap (λ (p : Place). p.token) place_is) ∙ h) in
      (eqb-true (token_at plan core.site state i) 1 w.0, w.1)

  -- what is so of a fork in hand at the place, is so of the fork with the log in hand
  pub fork_held : (P : Place → SeenFork → Type 0) → OnHere (P (place_at core i)) (place_at core i).fork
      → (fork_at plan core.site state i ≡ 1) × (is_eating state.phase ≡ false) × P (kept_at plan core.site state i) (hand_fork_at plan core.site state i)
  fork_held P h =
      let Q : Place → Type 0 = λ p. OnHere (P p) p.fork in
      let w = on_here_if (P (kept_at plan core.site state i)) (fork_at plan core.site state i == 1) (is_eating state.phase) (meals_of (neighbour_at plan core.site i) (hand_at core.site state i))
      (hand_fork_at plan core.site state i) (subst Q place_is h) in
      (eqb-true (fork_at plan core.site state i) 1 w.0, w.1, w.2)

thinking_is : (phase : Phase) → is_thinking phase ≡ true → phase ≡ Thinking
thinking_is Thinking h = refl
thinking_is Hungry h = absurd (false≢true h)
thinking_is Eating h = absurd (false≢true h)

-- who thought and is hungry keeps the same at each place
pub stands-after_hungry : (plan : SeenPlan) (state : LocalState) (core : SeenCore) → Refines plan state core → is_thinking core.phase ≡ true → Refines plan (record state { phase = Hungry }) (after_hungry core)
stands-after_hungry plan state core stands thinking = record {
  is_plan = stands.is_plan;
  is_site = stands.is_site;
  due = stands.due;
  acts = stands.acts;
  resigns = stands.resigns;
  phase = refl;
  ate = stands.ate;
  must_quit = stands.must_quit;
  has_quit = stands.has_quit;
  degree = stands.degree;
  places = λ i past h. stands.places i past h ∙ ap (λ (phase : Phase). kept_of plan core.site phase state.ate (edge_at plan core.site i) (traffic_at state i)) (sym stands.phase ∙ thinking_is core.phase thinking);
}

-- who has quit keeps the same at each place
pub stands-after_quit : (plan : SeenPlan) (state : LocalState) (core : SeenCore) → Refines plan state core → Refines plan (record state { must_quit = false; has_quit = true }) (after_quit core)
stands-after_quit plan state core stands = record {
  is_plan = stands.is_plan;
  is_site = stands.is_site;
  due = stands.due;
  acts = stands.acts;
  resigns = stands.resigns;
  phase = stands.phase;
  ate = stands.ate;
  must_quit = refl;
  has_quit = refl;
  degree = stands.degree;
  places = stands.places;
}
