-- A site that can do a step can do one in its manner.
use Rattle.std.proofs.Common.{◌≡◌, ◌⊎◌, ℕ, ◌<◌, ◌||◌, Bool, true, false, List, [], ◌∷◌, slice_set, Option, Some, None, refl, sym, ◌∙◌, ap, inl, inr}
use Rattle.std.proofs.lemmas.Bool.{false≢true}
use Rattle.dine_graph.specs.Plan.{SeenPlan, IsPlan, site_count}
use Rattle.dine_rules.specs.declared.events.EventKind.{EventKind}
use Rattle.dine_rules.specs.declared.events.EventKind.TheVariants as event
use Rattle.dine_rules.specs.Local.{LocalState}
use Rattle.dine_rules.specs.Steps as step
use Rattle.dine_rules.specs.World.{state_of}
use Rattle.dine_site.specs.NextEvent.{may_by_itself, next_event, own_kinds}
use Rattle.dine_site.specs.Standing.{all_places}
use Rattle.dine_waking.specs.Manners.{IsInManner, MannerStep, finds_no_ring, has_checked}
use Rattle.dine_waking.specs.Runs.{Acts, ByActing, ByDoorbell, ByHearing, ByRinging, BySleeping, ByTaking, ByWaking, Doing, GoesOn, RunHasEnded, HearsRing, Run, HasToTake, ThreadStep, doing_after, may_think_on, takes_letters, thread_of}
use Rattle.dine_waking.proofs.Queues.{event_happens}
use Rattle.dine_waking.proofs.Bells.{RunKeeps}
use Rattle.dine_rules.proofs.shared.lists.Finds.{found_passes}
use Rattle.dine_waking.proofs.Progress.{step_or_end}

begin_or_not : (kind : EventKind) → (kind ≡ event.Begin) ⊎ (kind ≡ event.Begin → ⊥)
begin_or_not event.Begin = inl refl
begin_or_not kind = inr (λ is. cc)

or_true : (b : Bool) → (b || true) ≡ true
or_true true = refl
or_true false = refl

-- who hears a ring in a run that is not open takes letters
takes_if_shut : (is_open : Bool) (next : Option EventKind) → is_open ≡ false → (takes_letters next || may_think_on is_open next) ≡ true → takes_letters next ≡ true
takes_if_shut is_open None shut turn = refl
takes_if_shut is_open (Some event.Begin) shut turn = refl
takes_if_shut is_open (Some event.Hungry) shut turn = absurd (false≢true (sym shut ∙ turn))
takes_if_shut is_open (Some kind) shut turn = absurd (false≢true turn)

module _ (plan : SeenPlan) (checked : ℕ → Bool) (run : Run) (shut : run.is_open ≡ false) (s : ℕ) (is_site : s < site_count plan) where
  -- the thread of the site can do a step in this manner
  abbrev CanStep : Bool → Type 0
  CanStep polite = (new : Run) × (one : ThreadStep plan s run new) × IsInManner plan s checked run new one polite

  -- a thread that goes on and has no ring checks now
  checks : (thread_of run s).doing ≡ GoesOn → (thread_of run s).bell ≡ [] → has_checked plan run checked s ≡ true
  checks goes_on silent = ap (λ (doing : Doing). checked s || finds_no_ring plan s (state_of run.world s) doing (thread_of run s).bell) goes_on ∙ ap (λ (bell : List ℕ). checked s || finds_no_ring plan s (state_of run.world s) GoesOn bell) silent ∙ or_true (checked s)

  -- before a meal a polite site hears the next ring, if there is one
  by_bell : (new : Run) (a : Acts plan s run new) → a.kind ≡ event.Begin → (bell : List ℕ) → (thread_of run s).bell ≡ bell → CanStep true
  by_bell new a begins [] silent = (new, ByActing a, λ is. checks a.goes_on silent)
  by_bell new a begins (i ∷ rest) ringing = (
    record run { threads = slice_set run.threads s (record { doing = HasToTake i; bell = rest }) },
    ByHearing (record {
      goes_on = a.goes_on;
      turn = ap (λ (o : Option EventKind). takes_letters o || may_think_on run.is_open o) a.next ∙ ap (λ (kind : EventKind). takes_letters (Some kind) || may_think_on run.is_open (Some kind)) begins;
      i = i;
      front = [];
      rest = rest;
      bell = ringing;
      first = refl;
      world = refl;
      as_open = refl;
      threads = refl;
    }),
    tt,
  )

  -- an eager site begins the meal
  by_next : (new : Run) (h : HearsRing plan s run new) (next : Option EventKind) → next_event plan s (state_of run.world s) ≡ next → CanStep false
  by_next new h None is = (new, ByHearing h, is)
  by_next new h (Some event.Begin) is =
      let state : LocalState = state_of run.world s in (
        record { world = _; is_open = run.is_open; threads = slice_set run.threads s (record { doing = doing_after event.Begin; bell = (thread_of run s).bell }) },
        ByActing (record {
          goes_on = h.goes_on;
          kind = event.Begin;
          next = is;
          world = event_happens plan run.world s event.Begin step.Begin is_site refl (found_passes (may_by_itself plan s state) (own_kinds (all_places state)) event.Begin is);
          as_open = refl;
          threads = refl;
        }),
        tt,
      )
  by_next new h (Some kind) is = absurd (false≢true (sym (ap takes_letters is) ∙ takes_if_shut run.is_open (next_event plan s (state_of run.world s)) shut h.turn))

  in_manner : (polite : Bool) (new : Run) → ThreadStep plan s run new → CanStep polite
  in_manner true new (ByActing a) = elim (begin_or_not a.kind) [
    | inl begins ↦ by_bell new a begins (thread_of run s).bell refl
    | inr other ↦ (new, ByActing a, λ is. absurd (other is))
  ]
  in_manner false new (ByActing a) = (new, ByActing a, tt)
  in_manner true new (ByHearing h) = (new, ByHearing h, tt)
  in_manner false new (ByHearing h) = by_next new h (next_event plan s (state_of run.world s)) refl
  in_manner polite new (ByRinging r) = (new, ByRinging r, tt)
  in_manner polite new (ByWaking h) = (new, ByWaking h, tt)
  in_manner polite new (ByTaking t) = (new, ByTaking t, tt)
  in_manner polite new (BySleeping f) = (new, BySleeping f, tt)
  in_manner polite new (ByDoorbell d) = (new, ByDoorbell d, tt)

pub manner_or_end : (plan : SeenPlan) (is_plan : IsPlan plan) (is_polite checked : ℕ → Bool) (run : Run) → RunKeeps plan run → run.is_open ≡ false → ((new : Run) × MannerStep plan is_polite checked run new) ⊎ RunHasEnded plan run
manner_or_end plan is_plan is_polite checked run keeps shut = elim (step_or_end plan is_plan run keeps shut) [
  | inl w ↦
      let v = in_manner plan checked run shut w.1.site w.1.is_site (is_polite w.1.site) w.0 w.1.step in
      inl (v.0, record { step = record { site = w.1.site; is_site = w.1.is_site; step = v.1 }; in_manner = v.2 })
  | inr ended ↦ inr ended
]
