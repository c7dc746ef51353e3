-- What a run keeps of waking: a thread that has to wake another finds it woken from there, and no thread is woken for
-- ever.
use Rattle.std.proofs.Common.{◌≡◌, ◌≢◌, ◌⊎◌, ℕ, ◌<◌, ◌||◌, Bool, true, false, List, [], ◌++◌, length, slice_set, refl, sym, ◌∙◌, ap, ap₂, subst, inl, inr, arith}
use Rattle.std.proofs.lemmas.Bool.{cases_Bool, cases_eq, cond-true, cond-false, false≢true}
use Rattle.std.proofs.lemmas.List.{length-set}
use Rattle.dine_graph.specs.Plan.{SeenPlan, IsPlan, site_count, edges_of}
use Rattle.dine_rules.specs.declared.letters.LetterKind.{LetterKind}
use Rattle.dine_rules.specs.Links.{queue_to}
use Rattle.dine_rules.specs.Local.{edge_at, neighbour_at}
use Rattle.dine_rules.specs.Wants.{SeenWants, is_wanted, still_wanted}
use Rattle.dine_rules.specs.World.{Reaches, WorldState, place_of, state_of}
use Rattle.dine_rules.proofs.shared.links.Across.{IsAcross, across, place_of-edge_at}
use Rattle.dine_rules.proofs.shared.links.WorldStreams.{neighbour_differs}
use Rattle.dine_rules.proofs.shared.one_place.Placed.{placed}
use Rattle.dine_waking.specs.Sleeping.{Coming}
use Rattle.dine_waking.specs.Runs.{Doing, GoesOn, HasToRing, RingsBell, Run, Sleeps, HasToTake, Thread, HasToWake, WakesThread, IsToBeWoken, after_ringing, doing_rung, is_woken_by, places_heard, rings_left, thread_after_ring, thread_of}
use Rattle.dine_waking.proofs.Bells.{AreWaking, Fits, InLink, IsPlain, IsUnrung, IsWaking, KeepsBell, KeepsUnrung, RunKeeps, link_stays, site_stays, thread_elsewhere, thread_here, two_here, two_many, two_other, two_there, waking_stays}
use Rattle.dine_waking.proofs.Ringing.{sites_rung}

-- ---- the two ends of an edge

module _ (plan : SeenPlan) (is_plan : IsPlan plan) (s i : ℕ) (within : i < length (edges_of plan s)) where
  abbrev pub there : ℕ
  there = neighbour_at plan s i

  abbrev pub number : ℕ
  number = place_of plan (neighbour_at plan s i) (edge_at plan s i)

  over : IsAcross plan s i there number
  over = across plan s i is_plan within

  -- the other end leads back
  pub leads_back : place_of plan (neighbour_at plan there number) (edge_at plan there number) ≡ i
  leads_back = ap (λ (x : ℕ). place_of plan x (edge_at plan there number)) over.back ∙ ap (place_of plan s) over.same_edge ∙ place_of-edge_at plan s i within

  -- what leads here is the other end
  module _ (t j : ℕ) (of_t : j < length (edges_of plan t)) (from : neighbour_at plan t j ≡ s) (at : place_of plan (neighbour_at plan t j) (edge_at plan t j) ≡ i) where
    far_end : IsAcross plan t j (neighbour_at plan t j) (place_of plan (neighbour_at plan t j) (edge_at plan t j))
    far_end = across plan t j is_plan of_t

    pub is_there : t ≡ there
    is_there = sym far_end.back ∙ ap (λ (x : ℕ). neighbour_at plan x (place_of plan (neighbour_at plan t j) (edge_at plan t j))) from ∙ ap (neighbour_at plan s) at

    same_edge : edge_at plan s i ≡ edge_at plan t j
    same_edge = ap (edge_at plan s) (sym at) ∙ ap (λ (x : ℕ). edge_at plan x (place_of plan (neighbour_at plan t j) (edge_at plan t j))) (sym from) ∙ far_end.same_edge

    pub is_number : j ≡ number
    is_number = sym (place_of-edge_at plan t j of_t) ∙ ap (place_of plan t) (sym same_edge) ∙ ap (λ (x : ℕ). place_of plan x (edge_at plan s i)) is_there

-- ---- two threads change

-- what the two are at before and afterwards: the second is woken by the first alone
pub record TwoWake (i number : ℕ) (here here_now there there_now : Doing) : Type 0 where
  pub wakes_there : (p : ℕ) → here_now ≡ HasToWake p → (p ≡ i) × (there_now ≡ IsToBeWoken number)
  pub there_wakes_none : (p : ℕ) → there_now ≡ HasToWake p → ⊥
  pub here_was_not_woken : (j : ℕ) → here ≡ IsToBeWoken j → ⊥
  pub there_was_woken_here : (j : ℕ) → there ≡ IsToBeWoken j → j ≡ number
  pub here_is_not_woken : (j : ℕ) → here_now ≡ IsToBeWoken j → ⊥
  pub there_is_woken_here : (j : ℕ) → there_now ≡ IsToBeWoken j → (j ≡ number) × (here_now ≡ HasToWake i)
  pub here_woke_there : (p : ℕ) → here ≡ HasToWake p → p ≡ i
  pub there_woke_none : (p : ℕ) → there ≡ HasToWake p → ⊥

module _ (plan : SeenPlan) (is_plan : IsPlan plan) (old new : Run) (s i : ℕ) (within : i < length (edges_of plan s)) (here_now there_now : Thread)
    (is : new.threads ≡ slice_set (slice_set old.threads s here_now) (neighbour_at plan s i) there_now) (has_here : s < length old.threads) (has_there : neighbour_at plan s i < length old.threads)
    (two : TwoWake i (place_of plan (neighbour_at plan s i) (edge_at plan s i)) (thread_of old s).doing here_now.doing (thread_of old (neighbour_at plan s i)).doing there_now.doing) (waking : AreWaking plan old) where
  abbrev before : ℕ → Doing
  before t = (thread_of old t).doing

  abbrev now : ℕ → Doing
  now t = (thread_of new t).doing

  abbrev end : ℕ
  end = neighbour_at plan s i

  differs : end ≢ s
  differs = neighbour_differs plan s i (placed plan s i is_plan within)

  here_is : now s ≡ here_now.doing
  here_is = ap (λ (x : Thread). x.doing) (two_here old new s end here_now there_now is differs has_here)

  there_is : now end ≡ there_now.doing
  there_is = ap (λ (x : Thread). x.doing) (two_there old new s end here_now there_now is differs has_there)

  other_is : (t : ℕ) → t ≢ s → t ≢ end → now t ≡ before t
  other_is t not_s not_there = ap (λ (x : Thread). x.doing) (two_other old new s end here_now there_now is differs t not_s not_there)

  module _ (t j : ℕ) (is_t : t < site_count plan) (of_t : j < length (edges_of plan t)) where
    abbrev x : ℕ
    x = neighbour_at plan t j

    abbrev p : ℕ
    p = place_of plan (neighbour_at plan t j) (edge_at plan t j)

    finds_woken : now x ≡ HasToWake p → now t ≡ IsToBeWoken j
    finds_woken wakes = elim (cases_eq x s) [
      | inl from ↦
          let w = two.wakes_there p (sym here_is ∙ ap now (sym from) ∙ wakes) in
          ap now (is_there plan is_plan s i within t j of_t from w.0) ∙ there_is ∙ w.1 ∙ ap IsToBeWoken (sym (is_number plan is_plan s i within t j of_t from w.0))
      | inr not_s ↦ elim (cases_eq x end) [
        | inl same ↦ absurd (two.there_wakes_none p (sym there_is ∙ ap now (sym same) ∙ wakes))
        | inr not_there ↦
            let was : before t ≡ IsToBeWoken j = (waking t j is_t of_t).finds (sym (other_is x not_s not_there) ∙ wakes) in
            elim (cases_eq t s) [
              | inl same ↦ absurd (two.here_was_not_woken j (ap before (sym same) ∙ was))
              | inr t_not_s ↦ elim (cases_eq t end) [
                | inl same ↦
                    let number_is : j ≡ number plan is_plan s i within = two.there_was_woken_here j (ap before (sym same) ∙ was) in
                    absurd (not_s (ap₂ (neighbour_at plan) same number_is ∙ (over plan is_plan s i within).back))
                | inr t_not_there ↦ other_is t t_not_s t_not_there ∙ was
              ]
            ]
      ]
    ]

    comes_from_waker : now t ≡ IsToBeWoken j → now x ≡ HasToWake p
    comes_from_waker woken = elim (cases_eq t s) [
      | inl same ↦ absurd (two.here_is_not_woken j (sym here_is ∙ ap now (sym same) ∙ woken))
      | inr t_not_s ↦ elim (cases_eq t end) [
        | inl same ↦
            let w = two.there_is_woken_here j (sym there_is ∙ ap now (sym same) ∙ woken) in
            let x_is : x ≡ s = ap₂ (neighbour_at plan) same w.0 ∙ (over plan is_plan s i within).back in
            let p_is : p ≡ i = ap₂ (λ (a b : ℕ). place_of plan (neighbour_at plan a b) (edge_at plan a b)) same w.0 ∙ leads_back plan is_plan s i within in
            ap now x_is ∙ here_is ∙ w.1 ∙ ap HasToWake (sym p_is)
        | inr t_not_there ↦
            let was : before x ≡ HasToWake p = (waking t j is_t of_t).comes (sym (other_is t t_not_s t_not_there) ∙ woken) in
            elim (cases_eq x s) [
              | inl from ↦ absurd (t_not_there (is_there plan is_plan s i within t j of_t from (two.here_woke_there p (ap before (sym from) ∙ was))))
              | inr not_s ↦ elim (cases_eq x end) [
                | inl same ↦ absurd (two.there_woke_none p (ap before (sym same) ∙ was))
                | inr not_there ↦ other_is x not_s not_there ∙ was
              ]
            ]
      ]
    ]

  pub two_waking : AreWaking plan new
  two_waking t j is_t of_t = record { finds = finds_woken t j is_t of_t; comes = comes_from_waker t j is_t of_t }

-- what the threads are at is all that matters
doings_stay : (plan : SeenPlan) (old new : Run) → ((t : ℕ) → (thread_of new t).doing ≡ (thread_of old t).doing) → AreWaking plan old → AreWaking plan new
doings_stay plan old new same waking t j is_t of_t =
    subst (λ (d : Doing). IsWaking d (thread_of new (neighbour_at plan t j)).doing j (place_of plan (neighbour_at plan t j) (edge_at plan t j))) (sym (same t))
    (subst (λ (d : Doing). IsWaking (thread_of old t).doing d j (place_of plan (neighbour_at plan t j) (edge_at plan t j))) (sym (same (neighbour_at plan t j))) (waking t j is_t of_t))

-- ---- a ring

-- a ring that has to wake finds a sleeper
wakes_sleeper : (anyway : Bool) (i : ℕ) (kind : LetterKind) (doing : Doing) → is_woken_by anyway i kind doing ≡ true → (wants : SeenWants) × (doing ≡ Sleeps wants) × (doing_rung anyway i kind doing ≡ IsToBeWoken i)
wakes_sleeper anyway i kind GoesOn h = absurd (false≢true h)
wakes_sleeper anyway i kind (HasToRing j k) h = absurd (false≢true h)
wakes_sleeper anyway i kind (HasToWake j) h = absurd (false≢true h)
wakes_sleeper anyway i kind (HasToTake j) h = absurd (false≢true h)
wakes_sleeper anyway i kind (IsToBeWoken j) h = absurd (false≢true h)
wakes_sleeper anyway i kind (Sleeps wants) h = (wants, refl, cond-true (is_wanted wants i kind || anyway) (IsToBeWoken i) (Sleeps (still_wanted wants kind)) h)

-- another ring leaves the thread at what it was, or asleep
sleeps_on : (anyway : Bool) (i : ℕ) (kind : LetterKind) (doing : Doing) → is_woken_by anyway i kind doing ≡ false → (doing_rung anyway i kind doing ≡ doing) ⊎ (IsPlain doing × IsPlain (doing_rung anyway i kind doing))
sleeps_on anyway i kind GoesOn h = inl refl
sleeps_on anyway i kind (HasToRing j k) h = inl refl
sleeps_on anyway i kind (HasToWake j) h = inl refl
sleeps_on anyway i kind (HasToTake j) h = inl refl
sleeps_on anyway i kind (IsToBeWoken j) h = inl refl
sleeps_on anyway i kind (Sleeps wants) h = inr (tt, subst IsPlain (sym (cond-false (is_wanted wants i kind || anyway) (IsToBeWoken i) (Sleeps (still_wanted wants kind)) h)) tt)

ring_wakes : (i number : ℕ) (kind : LetterKind) (wants : SeenWants) → TwoWake i number (HasToRing i kind) (HasToWake i) (Sleeps wants) (IsToBeWoken number)
ring_wakes i number kind wants = record {
  wakes_there = λ p e. (let same : i ≡ p = cc in sym same, refl);
  there_wakes_none = λ p e. cc;
  here_was_not_woken = λ j e. cc;
  there_was_woken_here = λ j e. absurd (cc);
  here_is_not_woken = λ j e. cc;
  there_is_woken_here = λ j e. (let same : number ≡ j = cc in sym same, refl);
  here_woke_there = λ p e. absurd (cc);
  there_woke_none = λ p e. cc;
}

waking_done : (i number : ℕ) → TwoWake i number (HasToWake i) GoesOn (IsToBeWoken number) GoesOn
waking_done i number = record {
  wakes_there = λ p e. absurd (cc);
  there_wakes_none = λ p e. cc;
  here_was_not_woken = λ j e. cc;
  there_was_woken_here = λ j e. (let same : number ≡ j = cc in sym same);
  here_is_not_woken = λ j e. cc;
  there_is_woken_here = λ j e. absurd (cc);
  here_woke_there = λ p e. (let same : i ≡ p = cc in sym same);
  there_woke_none = λ p e. cc;
}

two_along : (i number : ℕ) (a b c d here here_now there there_now : Doing) → here ≡ a → here_now ≡ b → there ≡ c → there_now ≡ d → TwoWake i number a b c d → TwoWake i number here here_now there there_now
two_along i number a b c d here here_now there there_now e f g h two =
    subst (λ (x : Doing). TwoWake i number x here_now there there_now) (sym e)
    (subst (λ (x : Doing). TwoWake i number a x there there_now) (sym f)
    (subst (λ (x : Doing). TwoWake i number a b x there_now) (sym g) (subst (λ (x : Doing). TwoWake i number a b c x) (sym h) two)))

module _ (plan : SeenPlan) (is_plan : IsPlan plan) (old new : Run) (keeps : RunKeeps plan old) (s : ℕ) (is_site : s < site_count plan) where
  keeps_here : KeepsBell plan old s
  keeps_here = keeps.sites s is_site

  has_here : s < length old.threads
  has_here = omega (arith, keeps.threads)

  module _ (r : RingsBell plan s old new) where
    within : r.i < length (edges_of plan s)
    within = subst (λ (d : Doing). Fits plan old.is_open s (state_of old.world s) keeps_here.rung_for d) r.rings keeps_here.fits

    abbrev rung_end : ℕ
    rung_end = neighbour_at plan s r.i

    abbrev end_number : ℕ
    end_number = place_of plan (neighbour_at plan s r.i) (edge_at plan s r.i)

    has_end : rung_end < length old.threads
    has_end = omega (arith, keeps.threads, (across plan s r.i is_plan within).is_site)

    rung_differs : rung_end ≢ s
    rung_differs = neighbour_differs plan s r.i (placed plan s r.i is_plan within)

    abbrev woke : Bool
    woke = is_woken_by r.anyway end_number r.kind (thread_of old rung_end).doing

    abbrev ringer : Thread
    ringer = record { doing = after_ringing woke r.i; bell = (thread_of old s).bell }

    abbrev sleeper : Thread
    sleeper = thread_after_ring r.anyway end_number r.kind (thread_of old rung_end)

    rings_and_wakes : woke ≡ true → AreWaking plan new
    rings_and_wakes h =
        let w = wakes_sleeper r.anyway end_number r.kind (thread_of old rung_end).doing h in
        two_waking plan is_plan old new s r.i within ringer sleeper r.threads has_here has_end
        (two_along r.i end_number (HasToRing r.i r.kind) (HasToWake r.i) (Sleeps w.0) (IsToBeWoken end_number) (thread_of old s).doing ringer.doing (thread_of old rung_end).doing sleeper.doing
        r.rings (ap (λ (b : Bool). after_ringing b r.i) h) w.1 w.2 (ring_wakes r.i end_number r.kind w.0)) keeps.waking

    abbrev between : Run
    between = record old { threads = slice_set old.threads s ringer }

    -- the neighbour is as it was while the ringer has gone on
    end_between : thread_of between rung_end ≡ thread_of old rung_end
    end_between = thread_elsewhere old between s ringer refl rung_end rung_differs

    has_end_between : rung_end < length between.threads
    has_end_between = omega (arith, has_end, length-set old.threads s ringer)

    rings_alone : woke ≡ false → AreWaking plan new
    rings_alone h =
        let gone_on : AreWaking plan between = waking_stays old between s ringer refl plan (HasToRing r.i r.kind) r.rings tt (subst (λ (b : Bool). IsPlain (after_ringing b r.i)) (sym h) tt) has_here keeps.waking in
        elim (sleeps_on r.anyway end_number r.kind (thread_of old rung_end).doing h) [
          | inl same ↦ doings_stay plan between new (λ t. elim (cases_eq t rung_end) [
            | inl here ↦ ap (λ (x : ℕ). (thread_of new x).doing) here ∙ ap (λ (x : Thread). x.doing) (thread_here between new rung_end sleeper r.threads has_end_between) ∙ same
                ∙ ap (λ (x : Thread). x.doing) (sym end_between) ∙ ap (λ (x : ℕ). (thread_of between x).doing) (sym here)
            | inr other ↦ ap (λ (x : Thread). x.doing) (thread_elsewhere between new rung_end sleeper r.threads t other)
          ]) gone_on
          | inr plain ↦ waking_stays between new rung_end sleeper r.threads plan (thread_of old rung_end).doing (ap (λ (x : Thread). x.doing) end_between) plain.0 plain.1 has_end_between gone_on
        ]

    pub keeps_rung : RunKeeps plan new
    keeps_rung = record {
      events = keeps.events;
      reached = subst (Reaches plan keeps.events) (sym r.world) keeps.reached;
      threads = two_many old new s rung_end ringer sleeper r.threads rung_differs ∙ keeps.threads;
      sites = sites_rung plan is_plan old new keeps s is_site r;
      waking = elim (cases_Bool woke) [ inl h ↦ rings_and_wakes h | inr h ↦ rings_alone h ];
    }

  -- ---- a thread is woken

  module _ (h : WakesThread plan s old new) where
    wakes_within : h.i < length (edges_of plan s)
    wakes_within = subst (λ (d : Doing). Fits plan old.is_open s (state_of old.world s) keeps_here.rung_for d) h.wakes keeps_here.fits

    abbrev sleeping : ℕ
    sleeping = neighbour_at plan s h.i

    sleeping_site : sleeping < site_count plan
    sleeping_site = (across plan s h.i is_plan wakes_within).is_site

    has_sleeping : sleeping < length old.threads
    has_sleeping = omega (arith, keeps.threads, sleeping_site)

    apart : sleeping ≢ s
    apart = neighbour_differs plan s h.i (placed plan s h.i is_plan wakes_within)

    abbrev waker : Thread
    waker = record { doing = GoesOn; bell = (thread_of old s).bell }

    abbrev awake : Thread
    awake = record { doing = GoesOn; bell = (thread_of old sleeping).bell }

    waker_is : thread_of new s ≡ waker
    waker_is = two_here old new s sleeping waker awake h.threads apart has_here

    awake_is : thread_of new sleeping ≡ awake
    awake_is = two_there old new s sleeping waker awake h.threads apart has_sleeping

    wakes_unrung : KeepsUnrung old new
    wakes_unrung x place letters unrung = elim (cases_eq x s) [
      | inl same ↦ subst (λ (y : ℕ). IsUnrung (thread_of new y).doing place letters) (sym same) (subst (λ (t : Thread). IsUnrung t.doing place letters) (sym waker_is)
          (let none : letters ≡ [] = subst (λ (d : Doing). IsUnrung d place letters) h.wakes (subst (λ (y : ℕ). IsUnrung (thread_of old y).doing place letters) same unrung) in none))
      | inr not_s ↦ elim (cases_eq x sleeping) [
        | inl same ↦ subst (λ (y : ℕ). IsUnrung (thread_of new y).doing place letters) (sym same) (subst (λ (t : Thread). IsUnrung t.doing place letters) (sym awake_is)
            (let none : letters ≡ [] = subst (λ (d : Doing). IsUnrung d place letters) h.woken (subst (λ (y : ℕ). IsUnrung (thread_of old y).doing place letters) same unrung) in none))
        | inr not_there ↦ subst (λ (t : Thread). IsUnrung t.doing place letters) (sym (two_other old new s sleeping waker awake h.threads apart x not_s not_there)) unrung
      ]
    ]

    wakes_link : (t i : ℕ) (rung_for : List Coming) → i < length (edges_of plan t) → InLink plan old t i rung_for → InLink plan new t i rung_for
    wakes_link t i rung_for of_t = link_stays plan old new t i rung_for (ap (λ (world : WorldState). queue_to plan world t i) h.world)
        (wakes_unrung (neighbour_at plan t i) (place_of plan (neighbour_at plan t i) (edge_at plan t i)))

    -- one of the two, which heard nothing and goes on
    goes_on_now : (t : ℕ) → KeepsBell plan old t → places_heard (thread_of old t).doing ≡ [] → thread_of new t ≡ record { doing = GoesOn; bell = (thread_of old t).bell } → KeepsBell plan new t
    goes_on_now t was silent is = record {
      rung_for = was.rung_for;
      places = was.places;
      numbers = was.numbers ∙ ap (λ (numbers : List ℕ). numbers ++ (thread_of old t).bell) silent ∙ ap rings_left (sym is);
      links = λ i of_t. wakes_link t i was.rung_for of_t (was.links i of_t);
      fits = subst (λ (thread : Thread). Fits plan new.is_open t (state_of new.world t) was.rung_for thread.doing) (sym is) tt;
    }

    pub keeps_woken : RunKeeps plan new
    keeps_woken = record {
      events = keeps.events;
      reached = subst (Reaches plan keeps.events) (sym h.world) keeps.reached;
      threads = two_many old new s sleeping waker awake h.threads apart ∙ keeps.threads;
      sites = λ t is_t. elim (cases_eq t s) [
        | inl same ↦ subst (KeepsBell plan new) (sym same) (goes_on_now s keeps_here (ap places_heard h.wakes) waker_is)
        | inr not_s ↦ elim (cases_eq t sleeping) [
          | inl same ↦ subst (KeepsBell plan new) (sym same) (goes_on_now sleeping (keeps.sites sleeping sleeping_site) (ap places_heard h.woken) awake_is)
          | inr not_there ↦ site_stays plan old new t (two_other old new s sleeping waker awake h.threads apart t not_s not_there) (ap (λ (world : WorldState). state_of world t) h.world) h.as_open (wakes_link t) (keeps.sites t is_t)
        ]
      ];
      waking = two_waking plan is_plan old new s h.i wakes_within waker awake h.threads has_here has_sleeping
          (two_along h.i (place_of plan (neighbour_at plan s h.i) (edge_at plan s h.i)) (HasToWake h.i) GoesOn (IsToBeWoken (place_of plan (neighbour_at plan s h.i) (edge_at plan s h.i))) GoesOn
          (thread_of old s).doing GoesOn (thread_of old sleeping).doing GoesOn h.wakes refl h.woken refl (waking_done h.i (place_of plan (neighbour_at plan s h.i) (edge_at plan s h.i)))) keeps.waking;
    }
