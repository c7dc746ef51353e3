-- A world that events reach, and in which each site has finished or sleeps well, is complete.
use Rattle.std.proofs.Common.{◌≡◌, ◌≢◌, ◌⊎◌, ℕ, zero, suc, ◌+◌, ◌<◌, ◌≤◌, true, List, [], ◌∷◌, ◌++◌, length, Option, Some, None, refl, sym, ◌∙◌, ap, subst, inl, inr, arith, length-append}
use Rattle.std.proofs.lemmas.Bool.{cases_eq, true≢false}
use Rattle.dine_graph.specs.Plan.{SeenPlan, IsPlan, site_count, edges_of}
use Rattle.dine_rules.specs.declared.events.Event.{Event}
use Rattle.dine_rules.specs.declared.letters.Letter.{Letter}
use Rattle.dine_rules.specs.declared.letters.Letter.TheVariants as letter
use Rattle.dine_rules.specs.Bound.{bound_of}
use Rattle.dine_rules.specs.Breach.{is_allowed}
use Rattle.dine_rules.specs.Letters.{kind_of}
use Rattle.dine_rules.specs.Links.{queue_to}
use Rattle.dine_rules.specs.Local.{LocalState, edge_at, neighbour_at, traffic_at}
use Rattle.dine_rules.specs.Streams.{KeepsStreams}
use Rattle.dine_rules.specs.Wants.{SeenWants, is_wanted}
use Rattle.dine_rules.specs.World.{IsComplete, Reaches, WorldState, place_of, put_to, start, state_of, world_after}
use Rattle.dine_rules.proofs.shared.counting.EffectBounds.{events_bounded}
use Rattle.dine_rules.proofs.shared.counting.Enabled.{IsStill}
use Rattle.dine_rules.proofs.shared.ends_of_runs.Stuck.{still_is_complete}
use Rattle.dine_rules.proofs.shared.links.Across.{across}
use Rattle.dine_rules.proofs.shared.links.NextLetters.{in_order, reached_allowed}
use Rattle.dine_rules.proofs.shared.links.WorldStreams.{WorldKeeps, events_then, reached_kept}
use Rattle.dine_rules.proofs.shared.one_site.BreachLaw.{no_breach}
use Rattle.dine_rules.proofs.shared.precedence.Acyclic.{precedence_acyclic}
use Rattle.dine_site.specs.CoreWants.{wants_by_lists}
use Rattle.dine_site.specs.NextEvent.{next_event}
use Rattle.dine_site.specs.Standing.{has_finished}
use Rattle.dine_waking.specs.Sleeping.{AllSleepWell, ArePlacesBelow, ComeUnwanted, Coming, SleepsWell, letters_coming_at}
use Rattle.dine_waking.proofs.Letters.{first_at, first_elsewhere}
use Rattle.dine_waking.proofs.Quiet.{first_is_next, is_idle, still_finished, still_quiet}
use Rattle.dine_waking.proofs.Queues.{IsTaken, take_at, take_happens, taken_here, takes_first}
use Rattle.dine_waking.proofs.Unwanted.{StaysQuiet, stays_quiet}

-- ---- lists

-- lists with a last letter each have the same one if they are the same
abbrev last_of : List Letter → Option Letter
last_of [] = None
last_of (x ∷ []) = Some x
last_of (x ∷ y ∷ xs) = last_of (y ∷ xs)

last_is : (xs : List Letter) (l : Letter) → last_of (xs ++ l ∷ []) ≡ Some l
last_is [] l = refl
last_is (x ∷ []) l = refl
last_is (x ∷ y ∷ xs) l = last_is (y ∷ xs) l

same_last : (xs ys : List Letter) (x y : Letter) → xs ++ x ∷ [] ≡ ys ++ y ∷ [] → x ≡ y
same_last xs ys x y same = let e : Some x ≡ Some y = sym (last_is xs x) ∙ ap last_of same ∙ last_is ys y in cc

-- ---- one letter is taken

module _ (plan : SeenPlan) (world : WorldState) (s : ℕ) (first : Coming) (coming : List Coming) (last : SeenWants) where
  -- the site sleeps well, and a letter comes
  pub record SleepsOn : Type 0 where
    pub idle : next_event plan s (state_of world s) ≡ None
    pub places : ArePlacesBelow (length (edges_of plan s)) (first ∷ coming)
    pub in_links : (i : ℕ) → i < length (edges_of plan s) → letters_coming_at i (first ∷ coming) ≡ queue_to plan world s i
    pub unwanted : ComeUnwanted (wants_by_lists plan s (state_of world s)) (first ∷ coming) last

module _ (plan : SeenPlan) (is_plan : IsPlan plan) (events : List Event) (world : WorldState) (reached : Reaches plan events world) (s : ℕ) (is_site : s < site_count plan) (first : Coming) (coming : List Coming) (last : SeenWants) (sleeps : SleepsOn plan world s first coming last) where
  abbrev i : ℕ
  i = first.place

  abbrev l : Letter
  l = first.letter

  kept : WorldKeeps plan world
  kept = reached_kept plan events world is_plan reached

  within : i < length (edges_of plan s)
  within = sleeps.places.0

  in_link : queue_to plan world s i ≡ l ∷ letters_coming_at i coming
  in_link = sym (sleeps.in_links i within) ∙ first_at first coming

  allowed : is_allowed plan s (state_of world s) i l ≡ true
  allowed = reached_allowed plan events world s i is_plan reached is_site within l
      (first_is_next (put_to plan world s i) (length (traffic_at (state_of world s) i).taken) l (letters_coming_at i coming) in_link).0

  -- the site may take it
  pub happens : (new : WorldState) × (world_after plan world (take_at s i) ≡ Some new)
  happens = (_, take_happens plan is_plan world kept s i is_site within l (letters_coming_at i coming) in_link allowed)

  module _ (new : WorldState) (h : world_after plan world (take_at s i) ≡ Some new) where
    pub reached_next : Reaches plan (events ++ take_at s i ∷ []) new
    reached_next = events_then plan (start plan) world new events (take_at s i) reached h

    kept_next : WorldKeeps plan new
    kept_next = reached_kept plan (events ++ take_at s i ∷ []) new is_plan reached_next

    taken : IsTaken plan world new s i l (letters_coming_at i coming)
    taken = takes_first plan is_plan world kept s i is_site within l (letters_coming_at i coming) in_link new h

    quiet : StaysQuiet plan s i (state_of world s) l
    quiet =
        let keeps : KeepsStreams plan s (state_of world s) = kept.keeps s is_site in
        stays_quiet plan s (state_of world s) is_plan is_site keeps (is_idle plan s (state_of world s) sleeps.idle).ends i (omega (arith, within, keeps.every_place)) l
        (subst (KeepsStreams plan s) taken.state (kept_next.keeps s is_site)) (no_breach plan s (state_of world s) i l allowed) sleeps.unwanted.0

    -- and sleeps well afterwards
    sleeps_next : SleepsWell plan new s
    sleeps_next = record {
      idle = ap (next_event plan s) taken.state ∙ quiet.next ∙ sleeps.idle;
      coming = coming;
      last = last;
      places = sleeps.places.1;
      in_links = λ j of_site. elim (cases_eq j i) [
        | inl same ↦ subst (λ (k : ℕ). letters_coming_at k coming ≡ queue_to plan new s k) (sym same) (sym taken.queue)
        | inr other ↦ sym (first_elsewhere j first coming other) ∙ sleeps.in_links j of_site ∙ sym (taken.queues j of_site other)
      ];
      unwanted = subst (λ (wants : SeenWants). ComeUnwanted wants coming last) (sym (ap (wants_by_lists plan s) taken.state ∙ quiet.wants)) sleeps.unwanted.1;
    }

    -- another site has finished, or sleeps well, as before
    other_sleeps : (t : ℕ) → t ≢ s → (has_finished plan t (state_of world t) ≡ true) ⊎ SleepsWell plan world t → (has_finished plan t (state_of new t) ≡ true) ⊎ SleepsWell plan new t
    other_sleeps t other (inl finished) = inl (ap (has_finished plan t) (taken.others t other) ∙ finished)
    other_sleeps t other (inr well) = inr (record {
      idle = ap (next_event plan t) (taken.others t other) ∙ well.idle;
      coming = well.coming;
      last = well.last;
      places = well.places;
      in_links = λ j of_site. well.in_links j of_site ∙ sym (taken.queues_away t j other);
      unwanted = subst (λ (state : LocalState). ComeUnwanted (wants_by_lists plan t state) well.coming well.last) (sym (taken.others t other)) well.unwanted;
    })

    pub all_sleep_next : AllSleepWell plan world → AllSleepWell plan new
    all_sleep_next all t is_t = elim (cases_eq t s) [
      | inl same ↦ subst (λ (x : ℕ). (has_finished plan x (state_of new x) ≡ true) ⊎ SleepsWell plan new x) (sym same) (inr sleeps_next)
      | inr other ↦ other_sleeps t other (all t is_t)
    ]

    -- the world then is not complete, since the last letter taken would be a Close
    pub not_complete : IsComplete plan new → ⊥
    not_complete complete =
        let over = across plan s i is_plan within in
        let closed = complete.all_closed (neighbour_at plan s i) (place_of plan (neighbour_at plan s i) (edge_at plan s i)) over.is_site over.within in
        let keeps : KeepsStreams plan s (state_of world s) = kept.keeps s is_site in
        let is : (traffic_at (state_of world s) i).taken ++ l ∷ [] ≡ closed.before_close ++ letter.Close ∷ [] =
        sym (taken_here (state_of world s) i l (omega (arith, within, keeps.every_place))) ∙ ap (λ (state : LocalState). (traffic_at state i).taken) (sym taken.state) ∙ complete.all_taken s i is_site within ∙ closed.ends_in_close in
        let wanted : is_wanted (wants_by_lists plan s (state_of world s)) i (kind_of l) ≡ true = ap (λ (x : Letter). is_wanted (wants_by_lists plan s (state_of world s)) i (kind_of x)) (same_last (traffic_at (state_of world s) i).taken closed.before_close l letter.Close is) in
        true≢false (sym wanted ∙ sleeps.unwanted.0)

-- ---- the search for a letter

-- each of n numbers is of one sort, or some number is of the other
pub all_or_one : {P Q : ℕ → Type 0} (n : ℕ) → ((s : ℕ) → s < n → P s ⊎ Q s) → ((s : ℕ) → s < n → P s) ⊎ ((s : ℕ) × (s < n) × Q s)
all_or_one zero each = inl (λ s h. absurd (omega arith))
all_or_one {P = P} {Q = Q} (suc n) each = elim (each n (omega arith)) [
  | inr one ↦ inr (n, omega arith, one)
  | inl here ↦ elim (all_or_one {P = P} {Q = Q} n (λ s h. each s (omega arith))) [
    | inr w ↦ inr (w.0, omega (arith, w.1), w.2)
    | inl all ↦ inl (λ s h. elim (cases_eq s n) [
      | inl same ↦ subst P (sym same) here
      | inr other ↦ all s (omega arith)
    ])
  ]
]

-- a site that sleeps well while a letter comes to it
pub record HasLetter (plan : SeenPlan) (world : WorldState) (s : ℕ) : Type 0 where
  pub first : Coming
  pub coming : List Coming
  pub last : SeenWants
  pub sleeps : SleepsOn plan world s first coming last

still_or_letter : (plan : SeenPlan) (world : WorldState) (s : ℕ) → KeepsStreams plan s (state_of world s) → next_event plan s (state_of world s) ≡ None → (coming : List Coming) (last : SeenWants)
    → ArePlacesBelow (length (edges_of plan s)) coming → ((i : ℕ) → i < length (edges_of plan s) → letters_coming_at i coming ≡ queue_to plan world s i)
    → ComeUnwanted (wants_by_lists plan s (state_of world s)) coming last → IsStill plan world s ⊎ HasLetter plan world s
still_or_letter plan world s keeps idle [] last places in_links unwanted = inl (still_quiet plan world s keeps idle (λ i within. sym (in_links i within)))
still_or_letter plan world s keeps idle (first ∷ coming) last places in_links unwanted = inr (record {
  first = first;
  coming = coming;
  last = last;
  sleeps = record { idle = idle; places = places; in_links = in_links; unwanted = unwanted };
})

status : (plan : SeenPlan) (world : WorldState) (s : ℕ) → KeepsStreams plan s (state_of world s) → (has_finished plan s (state_of world s) ≡ true) ⊎ SleepsWell plan world s → IsStill plan world s ⊎ HasLetter plan world s
status plan world s keeps (inl finished) = inl (still_finished plan world s keeps finished)
status plan world s keeps (inr well) = still_or_letter plan world s keeps well.idle well.coming well.last well.places well.in_links well.unwanted

-- ---- the world is complete

-- the world goes on by a Take, to a world in which each site has finished or sleeps well, and which is not complete
record GoesOn (plan : SeenPlan) (events : List Event) (world : WorldState) : Type 0 where
  event : Event
  new : WorldState
  reaches : Reaches plan (events ++ event ∷ []) new
  all : AllSleepWell plan new
  not_done : IsComplete plan new → ⊥

module _ (plan : SeenPlan) (is_plan : IsPlan plan) where
  complete_or_on : (events : List Event) (world : WorldState) → Reaches plan events world → AllSleepWell plan world → IsComplete plan world ⊎ GoesOn plan events world
  complete_or_on events world reached all =
      let kept : WorldKeeps plan world = reached_kept plan events world is_plan reached in
      elim (all_or_one {P = IsStill plan world} {Q = HasLetter plan world} (site_count plan) (λ s is_site. status plan world s (kept.keeps s is_site) (all s is_site))) [
        | inl still ↦ inl (still_is_complete plan is_plan world kept (in_order plan events world is_plan reached) still (precedence_acyclic plan events world is_plan reached))
        | inr w ↦
            let has : HasLetter plan world w.0 = w.2 in
            let new = happens plan is_plan events world reached w.0 w.1 has.first has.coming has.last has.sleeps in
            inr (record {
              event = take_at w.0 has.first.place;
              new = new.0;
              reaches = reached_next plan is_plan events world reached w.0 w.1 has.first has.coming has.last has.sleeps new.0 new.1;
              all = all_sleep_next plan is_plan events world reached w.0 w.1 has.first has.coming has.last has.sleeps new.0 new.1 all;
              not_done = not_complete plan is_plan events world reached w.0 w.1 has.first has.coming has.last has.sleeps new.0 new.1;
            })
      ]

  -- where no more than n letters can come
  complete_within : (n : ℕ) (events : List Event) (world : WorldState) → Reaches plan events world → AllSleepWell plan world → bound_of plan ≤ length events + n → IsComplete plan world
  complete_within zero events world reached all enough = elim (complete_or_on events world reached all) [
    | inl complete ↦ complete
    | inr on ↦ absurd (omega (arith, events_bounded plan (events ++ on.event ∷ []) on.new is_plan on.reaches, length-append events (on.event ∷ [])))
  ]
  complete_within (suc n) events world reached all enough = elim (complete_or_on events world reached all) [
    | inl complete ↦ complete
    | inr on ↦ absurd (on.not_done (complete_within n (events ++ on.event ∷ []) on.new on.reaches on.all (omega (arith, length-append events (on.event ∷ [])))))
  ]

pub all_asleep_is_complete : (plan : SeenPlan) (events : List Event) (world : WorldState) → IsPlan plan → Reaches plan events world → AllSleepWell plan world → IsComplete plan world
all_asleep_is_complete plan events world is_plan reached all = complete_within plan is_plan (bound_of plan) events world reached all (omega arith)
