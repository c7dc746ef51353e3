-- What the readers of a world return, as facts of the state.
use Rattle.std.proofs.Common.{◌≡◌, ℕ, ◌<◌, ◌≤◌, ◌==◌, ◌&&◌, ◌||◌, not, nat_lt, cond, Bool, true, false, Option, Some, None, MatchOption, is_some, option_map, option_and_then, get_or, length, slice_get, slice_set, refl, sym, ◌∙◌, ap, subst, inl, inr, arith}
use Rattle.std.specs.Option.{unwrap_or}
use Rattle.std.proofs.lemmas.Bool.{and_parts, cond-true, eqb-false, eqb-true, false≢true, lt-ltb, ne_eqb}
use Rattle.std.proofs.lemmas.Option.{none-some, same_Some, unwrap_or-slice_get, slice_get-get_or}
use Rattle.dine_token.specs.Log.{is_dirty}
use Rattle.dine_graph.specs.Plan.{SeenPlan, edge_count, edges_of, hi_of, job_count, lo_of, site_count}
use Rattle.dine_rules.specs.declared.events.EventKind.{EventKind}
use Rattle.dine_rules.specs.declared.phase.Phase.{Phase}
use Rattle.dine_rules.specs.declared.phase.Phase.TheVariants as phase
use Rattle.dine_rules.specs.Holdings.{fork_at, hand_at, token_at}
use Rattle.dine_rules.specs.Letters.{forks_in}
use Rattle.dine_rules.specs.Links.{forks_of_edge, queue_to, tokens_of_edge}
use Rattle.dine_rules.specs.Local.{LocalState, is_eating, is_hungry, is_thinking}
use Rattle.dine_rules.specs.Steps.{Step, Hungry, Quit, after, may}
use Rattle.dine_rules.specs.Streams.{KeepsStreams, KeepsStreamsAt}
use Rattle.dine_rules.specs.World.{WorldState, is_enabled, local_after, no_state, place_of, state_of, step_of}
use Rattle.dine_world.specs.declared.world.whereabouts.Whereabouts.{Whereabouts}
use Rattle.dine_world.specs.declared.world.whereabouts.Whereabouts.TheVariants.{At, To}
use Rattle.dine_world.specs.Whereabouts.{IsEndOf, IsThere, ReportsWhere, at_place, forks_at, holds_dirty, is_fork_dirty, is_place}
use Rattle.dine_world.specs.Worlds.{IsReached}
use Rattle.dine_rules.proofs.shared.links.EdgeSums.{one_fork_of_edge, one_token_of_edge}
use Rattle.dine_rules.proofs.shared.links.WorldStreams.{WorldKeeps, reached_kept}
use Rattle.dine_states.specs.Ends.{IsEnd, is_at, is_going_to}
use Rattle.dine_states.specs.declared.ends.End.{End}
use Rattle.dine_states.proofs.Orders.{same}

-- ---- sites

-- a reader's option, with the value of the state that stands for no site
pub site_read : {A : Type 0} (part : LocalState → A) (world : WorldState) (s : ℕ) (found : Option A) → found ≡ option_map part (slice_get world s) → unwrap_or found (part no_state) ≡ part (state_of world s)
site_read {A} part world s found is = ap (λ (o : Option A). unwrap_or o (part no_state)) is ∙ inside (slice_get world s) ∙ ap part (unwrap_or-slice_get world s no_state) where
  inside : (o : Option LocalState) → unwrap_or (option_map part o) (part no_state) ≡ part (unwrap_or o no_state)
  inside None = refl
  inside (Some x) = refl

-- a site of the plan is read
pub site_there : {A : Type 0} (part : LocalState → A) (plan : SeenPlan) (world : WorldState) (s : ℕ) → length world ≡ site_count plan → s < site_count plan → None ≡ option_map part (slice_get world s) → ⊥
site_there part plan world s count within is = none-some (part (get_or world s no_state)) (is ∙ ap (option_map part) (slice_get-get_or world s no_state (omega (arith, count, within))))

some_if : {A B : Type 0} (f : A → B) (b : Bool) (x : A) → is_some (option_map f (cond b (Some x) None)) ≡ b
some_if f true x = refl
some_if f false x = refl

-- an event of a site of the plan is enabled if the site may do its step
pub enabled_is : (plan : SeenPlan) (world : WorldState) (s : ℕ) (kind : EventKind) (step : Step) → s < site_count plan → step_of plan world s kind ≡ Some step
    → is_enabled plan world (record { site = s; kind = kind }) ≡ may plan s (state_of world s) step
enabled_is plan world s kind step within known =
    let st = state_of world s in
    ap (λ (o : Option WorldState). is_some o) (cond-true (nat_lt s (site_count plan)) _ None (lt-ltb s (site_count plan) within))
    ∙ ap (λ (o : Option Step). is_some (option_map (slice_set world s) (option_and_then (local_after plan s st) o))) known
    ∙ some_if (slice_set world s) (may plan s st step) (after plan s st step)

-- ---- worlds that events reach

kept : (plan : SeenPlan) (world : WorldState) → IsReached plan world → WorldKeeps plan world
kept plan world reached = reached_kept plan reached.events world reached.is_plan reached.reaches

pub sites_kept : (plan : SeenPlan) (world : WorldState) → IsReached plan world → length world ≡ site_count plan
sites_kept plan world reached = (kept plan world reached).sites

pub kept_at : (plan : SeenPlan) (world : WorldState) (s : ℕ) → IsReached plan world → s < site_count plan → KeepsStreams plan s (state_of world s)
kept_at plan world s reached within = (kept plan world reached).keeps s within

pub one_fork : (plan : SeenPlan) (world : WorldState) (edge : ℕ) → IsReached plan world → edge < edge_count plan → forks_of_edge plan world edge ≡ 1
one_fork plan world edge reached within = one_fork_of_edge plan reached.is_plan world (kept plan world reached) edge within

pub one_token : (plan : SeenPlan) (world : WorldState) (edge : ℕ) → IsReached plan world → edge < edge_count plan → tokens_of_edge plan world edge ≡ 1
one_token plan world edge reached within = one_token_of_edge plan reached.is_plan world (kept plan world reached) edge within

-- ---- places

pub and_both : (a b : Bool) → a ≡ true → b ≡ true → (a && b) ≡ true
and_both a b ha hb = ap (λ (x : Bool). x && b) ha ∙ hb

-- what is read at a place of the plan is there
pub place_read : {A : Type 0} (plan : SeenPlan) (end : End) (value : A) → IsEnd plan end → at_place plan end.site end.place value ≡ Some value
place_read plan end value is =
    cond-true (is_place plan end.site end.place) (Some value) None
    (and_both (nat_lt end.site (site_count plan)) (nat_lt end.place (length (edges_of plan end.site))) (lt-ltb end.site (site_count plan) is.site) (lt-ltb end.place (length (edges_of plan end.site)) is.place))

at_is : (x y : ℕ) → ◌≡◌ {A = Whereabouts} (At x) (At y) → x ≡ y
at_is x y h = ap site h where
  site : Whereabouts → ℕ
  site (At z) = z
  site (To z) = z

to_is : (x y : ℕ) → ◌≡◌ {A = Whereabouts} (To x) (At y) → ⊥
to_is x y h = false≢true (ap here h) where
  here : Whereabouts → Bool
  here (At z) = true
  here (To z) = false

-- a site holds it if it is read there
pub at_read : (plan : SeenPlan) (edge : ℕ) (held coming : ℕ → ℕ) (result : Option Whereabouts) (s : ℕ) → ReportsWhere plan edge (IsThere plan edge held coming) result → IsEndOf plan edge s → is_at result s ≡ (held s == 1)
at_read plan edge held coming result s reports end = by_case result refl where
  nowhere : (is_at result s ≡ false) → (result ≡ Some (At s) → ⊥) → is_at result s ≡ (held s == 1)
  nowhere here elsewhere = here ∙ sym (ne_eqb (held s) 1 (λ one. elsewhere (reports.only (At s) (end, one))))

  by_case : (r : Option Whereabouts) → result ≡ r → is_at result s ≡ (held s == 1)
  by_case None is = nowhere (ap (λ r. is_at r s) is) (λ there. none-some (At s) (sym is ∙ there))
  by_case (Some (To x)) is = nowhere (ap (λ r. is_at r s) is) (λ there. to_is x s (same_Some (To x) (At s) (sym is ∙ there)))
  by_case (Some (At x)) is = by_site (x == s) refl where
    by_site : (b : Bool) → (x == s) ≡ b → is_at result s ≡ (held s == 1)
    by_site true same_site =
        let at : x ≡ s = eqb-true x s same_site in
        let there = subst (λ (r : Option Whereabouts). MatchOption r (edge_count plan ≤ edge) (IsThere plan edge held coming)) is reports.there in
        ap (λ r. is_at r s) is ∙ same_site ∙ sym (ap (λ (n : ℕ). n == 1) (subst (λ (y : ℕ). held y ≡ 1) at there.1))
    by_site false other = nowhere (ap (λ r. is_at r s) is ∙ other) (λ there. false≢true (sym other ∙ ap (λ (y : ℕ). y == s) (at_is x s (same_Some (At x) (At s) (sym is ∙ there))) ∙ same s))

going_is : (x y : ℕ) → ◌≡◌ {A = Whereabouts} (To x) (To y) → x ≡ y
going_is x y h = ap site h where
  site : Whereabouts → ℕ
  site (At z) = z
  site (To z) = z

at_going : (x y : ℕ) → ◌≡◌ {A = Whereabouts} (At x) (To y) → ⊥
at_going x y h = false≢true (ap there h) where
  there : Whereabouts → Bool
  there (At z) = false
  there (To z) = true

-- it is on its way to a site if it is read so
pub going_read : (plan : SeenPlan) (edge : ℕ) (held coming : ℕ → ℕ) (result : Option Whereabouts) (s : ℕ) → ReportsWhere plan edge (IsThere plan edge held coming) result → IsEndOf plan edge s → is_going_to result s ≡ (coming s == 1)
going_read plan edge held coming result s reports end = by_case result refl where
  nowhere : (is_going_to result s ≡ false) → (result ≡ Some (To s) → ⊥) → is_going_to result s ≡ (coming s == 1)
  nowhere here elsewhere = here ∙ sym (ne_eqb (coming s) 1 (λ one. elsewhere (reports.only (To s) (end, one))))

  by_case : (r : Option Whereabouts) → result ≡ r → is_going_to result s ≡ (coming s == 1)
  by_case None is = nowhere (ap (λ r. is_going_to r s) is) (λ there. none-some (To s) (sym is ∙ there))
  by_case (Some (At x)) is = nowhere (ap (λ r. is_going_to r s) is) (λ there. at_going x s (same_Some (At x) (To s) (sym is ∙ there)))
  by_case (Some (To x)) is = by_site (x == s) refl where
    by_site : (b : Bool) → (x == s) ≡ b → is_going_to result s ≡ (coming s == 1)
    by_site true same_site =
        let at : x ≡ s = eqb-true x s same_site in
        let there = subst (λ (r : Option Whereabouts). MatchOption r (edge_count plan ≤ edge) (IsThere plan edge held coming)) is reports.there in
        ap (λ r. is_going_to r s) is ∙ same_site ∙ sym (ap (λ (n : ℕ). n == 1) (subst (λ (y : ℕ). coming y ≡ 1) at there.1))
    by_site false other = nowhere (ap (λ r. is_going_to r s) is ∙ other) (λ there. false≢true (sym other ∙ ap (λ (y : ℕ). y == s) (going_is x s (same_Some (To x) (To s) (sym is ∙ there))) ∙ same s))

pub end_of : (plan : SeenPlan) (end : End) → IsEnd plan end → IsEndOf plan end.edge end.site
end_of plan end is = (is.edge, is.at_end)

-- ---- a dirty fork

or_false : (b : Bool) → (b || false) ≡ b
or_false true = refl
or_false false = refl

dirty_there : (plan : SeenPlan) (world : WorldState) (edge s : ℕ) → forks_at plan world edge s ≡ 1 → holds_dirty plan world edge s ≡ is_dirty (hand_at s (state_of world s) (place_of plan s edge))
dirty_there plan world edge s one = ap (λ (n : ℕ). (n == 1) && is_dirty (hand_at s (state_of world s) (place_of plan s edge))) one

not_there : (plan : SeenPlan) (world : WorldState) (edge s : ℕ) → forks_at plan world edge s ≡ 0 → holds_dirty plan world edge s ≡ false
not_there plan world edge s none = ap (λ (n : ℕ). (n == 1) && is_dirty (hand_at s (state_of world s) (place_of plan s edge))) none

-- the fork that an end holds is dirty if the fork of the edge is
pub dirty_read : (plan : SeenPlan) (world : WorldState) (end : End) → IsEnd plan end → forks_of_edge plan world end.edge ≡ 1 → fork_at plan end.site (state_of world end.site) end.place ≡ 1
    → is_fork_dirty plan world end.edge ≡ is_dirty (hand_at end.site (state_of world end.site) end.place)
dirty_read plan world end is one here = elim is.at_end [
  | inl low ↦
      let there = subst (λ (s : ℕ). forks_at plan world end.edge s ≡ 1) low at in
      ap (λ (b : Bool). b || holds_dirty plan world end.edge (hi_of plan end.edge)) (dirty_there plan world end.edge (lo_of plan end.edge) there)
      ∙ ap (λ (b : Bool). is_dirty (hand_at (lo_of plan end.edge) (state_of world (lo_of plan end.edge)) (place_of plan (lo_of plan end.edge) end.edge)) || b) (not_there plan world end.edge (hi_of plan end.edge) (omega (arith, there, one)))
      ∙ or_false _ ∙ sym (ap (λ (s : ℕ). is_dirty (hand_at s (state_of world s) (place_of plan s end.edge))) low) ∙ place
  | inr high ↦
      let there = subst (λ (s : ℕ). forks_at plan world end.edge s ≡ 1) high at in
      ap (λ (b : Bool). b || holds_dirty plan world end.edge (hi_of plan end.edge)) (not_there plan world end.edge (lo_of plan end.edge) (omega (arith, there, one)))
      ∙ dirty_there plan world end.edge (hi_of plan end.edge) there ∙ sym (ap (λ (s : ℕ). is_dirty (hand_at s (state_of world s) (place_of plan s end.edge))) high) ∙ place
] where
  at : forks_at plan world end.edge end.site ≡ 1
  at = ap (fork_at plan end.site (state_of world end.site)) is.only_at ∙ here

  place : is_dirty (hand_at end.site (state_of world end.site) (place_of plan end.site end.edge)) ≡ is_dirty (hand_at end.site (state_of world end.site) end.place)
  place = ap (λ (i : ℕ). is_dirty (hand_at end.site (state_of world end.site) i)) is.only_at

-- ---- quitting

and_false : (b : Bool) → (b && false) ≡ false
and_false true = refl
and_false false = refl

module _ (plan : SeenPlan) (s : ℕ) (state : LocalState) (keeps : KeepsStreams plan s state) where
  -- a site that has to quit thinks
  pub quit_read : may plan s state Quit ≡ state.must_quit
  quit_read = by_case state.must_quit refl where
    by_case : (b : Bool) → state.must_quit ≡ b → (is_thinking state.phase && state.must_quit) ≡ state.must_quit
    by_case true is = ap (λ (b : Bool). b && state.must_quit) (keeps.must_drop is).1
    by_case false is = ap (λ (b : Bool). is_thinking state.phase && b) is ∙ and_false (is_thinking state.phase) ∙ sym is

  not_quit : (state.has_quit ≡ true → ⊥) → false ≡ state.has_quit
  not_quit h = by_case state.has_quit refl where
    by_case : (b : Bool) → state.has_quit ≡ b → false ≡ state.has_quit
    by_case true is = absurd (h is)
    by_case false is = sym is

  pub hungry_has_not : is_hungry state.phase ≡ true → false ≡ state.has_quit
  hungry_has_not hungry = not_quit (λ quit. apart state.phase hungry (keeps.has_dropped quit).1) where
    apart : (p : Phase) → is_hungry p ≡ true → is_thinking p ≡ true → ⊥
    apart phase.Thinking h t = false≢true h
    apart phase.Hungry h t = false≢true t
    apart phase.Eating h t = false≢true h

  pub eater_has_not : is_eating state.phase ≡ true → false ≡ state.has_quit
  eater_has_not eats = not_quit (λ quit. apart state.phase eats (keeps.has_dropped quit).1) where
    apart : (p : Phase) → is_eating p ≡ true → is_thinking p ≡ true → ⊥
    apart phase.Thinking h t = false≢true h
    apart phase.Hungry h t = false≢true h
    apart phase.Eating h t = false≢true t

  pub full_has_not : (state.ate == job_count plan s) ≡ true → false ≡ state.has_quit
  full_has_not all = not_quit (λ quit. omega (arith, eqb-true state.ate (job_count plan s) all, (keeps.has_dropped quit).2))

  pub hungerer_has_not : may plan s state Hungry ≡ true → false ≡ state.has_quit
  hungerer_has_not may_hunger = not_quit (λ quit. false≢true (sym (ap not quit) ∙ (and_parts (not state.must_quit) (not state.has_quit) (and_parts (is_thinking state.phase && nat_lt state.ate (job_count plan s)) (not state.must_quit && not state.has_quit) may_hunger).1).1))

  -- a site that thinks, has a job left, and may not grow hungry has quit, or has to
  pub idle_has : is_hungry state.phase ≡ false → is_eating state.phase ≡ false → (state.ate == job_count plan s) ≡ false → may plan s state Hungry ≡ false → not state.must_quit ≡ state.has_quit
  idle_has fed awake some still = by_case state.must_quit state.has_quit refl refl where
    thinks : (p : Phase) → is_hungry p ≡ false → is_eating p ≡ false → is_thinking p ≡ true
    thinks phase.Thinking h e = refl
    thinks phase.Hungry h e = absurd (false≢true (sym h))
    thinks phase.Eating h e = absurd (false≢true (sym e))

    fewer : nat_lt state.ate (job_count plan s) ≡ true
    fewer = lt-ltb state.ate (job_count plan s) (omega (arith, eqb-false state.ate (job_count plan s) some, keeps.ate_within))

    by_case : (m q : Bool) → state.must_quit ≡ m → state.has_quit ≡ q → not state.must_quit ≡ state.has_quit
    by_case true true must quit = absurd (false≢true (sym (keeps.quits_once must) ∙ quit))
    by_case true false must quit = ap not must ∙ sym quit
    by_case false true must quit = ap not must ∙ sym quit
    by_case false false must quit = absurd (false≢true (sym still ∙ and_both (is_thinking state.phase && nat_lt state.ate (job_count plan s)) (not state.must_quit && not state.has_quit)
        (and_both (is_thinking state.phase) (nat_lt state.ate (job_count plan s)) (thinks state.phase fed awake) fewer) (and_both (not state.must_quit) (not state.has_quit) (ap not must) (ap not quit))))

-- ---- few forks and tokens

module _ (plan : SeenPlan) (world : WorldState) (end : End) (reached : IsReached plan world) (is : IsEnd plan end) where
  at_end : KeepsStreamsAt plan end.site (state_of world end.site) end.place
  at_end = let keeps = kept_at plan world end.site reached is.site in keeps.places end.place (subst (λ (n : ℕ). end.place < n) (sym keeps.every_place) is.place)

  pub few_forks : fork_at plan end.site (state_of world end.site) end.place ≤ 1
  few_forks = at_end.one_fork

  pub few_tokens : token_at plan end.site (state_of world end.site) end.place ≤ 1
  few_tokens = at_end.one_token

  pub few_coming : forks_in (queue_to plan world end.site end.place) ≤ 1
  few_coming = subst (λ (i : ℕ). forks_in (queue_to plan world end.site i) ≤ 1) is.only_at (elim is.at_end [
    | inl low ↦ subst (λ (s : ℕ). forks_in (queue_to plan world s (place_of plan s end.edge)) ≤ 1) (sym low) (omega (arith, one_fork plan world end.edge reached is.edge))
    | inr high ↦ subst (λ (s : ℕ). forks_in (queue_to plan world s (place_of plan s end.edge)) ≤ 1) (sym high) (omega (arith, one_fork plan world end.edge reached is.edge))
  ])
