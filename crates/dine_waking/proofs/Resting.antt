-- A world that events reach, and in which each site has finished or rests well, has no site that is hungry or eats.
use Rattle.std.proofs.Common.{◌≡◌, ◌≢◌, ◌⊎◌, ℕ, zero, suc, ◌+◌, ◌<◌, ◌≤◌, Bool, true, false, not, ◌&&◌, nat_lt, cond, List, [], ◌∷◌, ◌++◌, length, map, Option, Some, None, refl, sym, ◌∙◌, ap, subst, inl, inr, arith, length-append, add-zero}
use Rattle.std.specs.List.{find, list_all, range_with_len}
use Rattle.std.specs.Option.{option_or}
use Rattle.std.proofs.lemmas.Bool.{and_parts, cases_Bool, cases_eq, false_from_ne_true, true≢false, false≢true}
use Rattle.std.proofs.lemmas.List.Folds.{find-append}
use Rattle.dine_graph.specs.Plan.{SeenPlan, IsPlan, site_count, edges_of, job_count}
use Rattle.dine_rules.specs.declared.events.Event.{Event}
use Rattle.dine_rules.specs.declared.events.EventKind.{EventKind}
use Rattle.dine_rules.specs.declared.events.EventKind.TheVariants as event
use Rattle.dine_rules.specs.declared.letters.Letter.{Letter}
use Rattle.dine_rules.specs.declared.phase.Phase.{Phase}
use Rattle.dine_rules.specs.declared.phase.Phase.TheVariants as phase
use Rattle.dine_rules.specs.Bound.{bound_of}
use Rattle.dine_rules.specs.Breach.{is_allowed}
use Rattle.dine_rules.specs.Links.{queue_to}
use Rattle.dine_rules.specs.Local.{LocalState, is_eating, is_hungry, is_thinking, traffic_at}
use Rattle.dine_rules.specs.Steps.{may, is_ready, with_taken}
use Rattle.dine_rules.specs.Steps as step
use Rattle.dine_rules.specs.Streams.{KeepsStreams}
use Rattle.dine_rules.specs.Wants.{SeenWants}
use Rattle.dine_rules.specs.World.{Reaches, WorldState, placeless_kinds, put_to, start, state_of, world_after}
use Rattle.dine_rules.proofs.shared.counting.EffectBounds.{events_bounded}
use Rattle.dine_rules.proofs.shared.counting.Enabled.{IsStill}
use Rattle.dine_rules.proofs.shared.links.NextLetters.{in_order, reached_allowed}
use Rattle.dine_rules.proofs.shared.links.WorldStreams.{WorldKeeps, events_then, reached_kept}
use Rattle.dine_rules.proofs.shared.one_site.BreachLaw.{no_breach}
use Rattle.dine_rules.proofs.shared.precedence.Acyclic.{precedence_acyclic}
use Rattle.dine_site.specs.CoreWants.{wants_by_lists}
use Rattle.dine_site.specs.NextEvent.{may_by_itself, next_event, own_kinds}
use Rattle.dine_site.specs.Standing.{all_places, has_finished}
use Rattle.dine_waking.specs.Resting.{AllRestWell, RestsWell}
use Rattle.dine_waking.specs.Sleeping.{ArePlacesBelow, ComeUnwanted, Coming, letters_coming_at}
use Rattle.dine_waking.proofs.Asleep.{all_or_one}
use Rattle.dine_waking.proofs.Calm.{IsCalm, thinks}
use Rattle.dine_waking.proofs.Letters.{first_at, first_elsewhere}
use Rattle.dine_waking.proofs.Quiet.{first_is_next, is_idle, next_is_first, still_finished}
use Rattle.dine_waking.proofs.Queues.{IsTaken, take_at, take_happens, takes_first}
use Rattle.dine_waking.proofs.Unwanted.{StaysQuiet, stays_quiet}

-- ---- a site whose first event is to grow hungry, or that has none

-- the event is none, or to grow hungry
abbrev pub IsResting : Option EventKind → Type 0
IsResting next = (next ≡ None) ⊎ (next ≡ Some event.Hungry)

-- no fork is given first
abbrev GivesNot : Option EventKind → Type 0
GivesNot next = (i : ℕ) → next ≡ Some (event.Give i) → ⊥

gives_not : (next : Option EventKind) → IsResting next → GivesNot next
gives_not next (inl none) i gives = let e : None ≡ Some (event.Give i) = sym none ∙ gives in cc
gives_not next (inr hungry) i gives = let e : Some event.Hungry ≡ Some (event.Give i) = sym hungry ∙ gives in cc

gives_not_front : (test : EventKind → Bool) (xs ys : List EventKind) → GivesNot (find test (xs ++ ys)) → GivesNot (find test xs)
gives_not_front test xs ys none i gives = none i (find-append test xs ys ∙ ap (λ (o : Option EventKind). option_or o (find test ys)) gives)

gives_none : (test : EventKind → Bool) (a n i : ℕ) → GivesNot (find test (map event.Give (range_with_len a n))) → i < n → test (event.Give (a + i)) ≡ false
gives_none test a zero i none within = absurd (omega (arith, within))
gives_none test a (suc n) zero none within = ap (λ (k : ℕ). test (event.Give k)) (add-zero a) ∙ false_from_ne_true (test (event.Give a)) (λ may. none a (ap (λ (b : Bool). cond b (Some (event.Give a)) (find test (map event.Give (range_with_len (a + 1) n)))) may))
gives_none test a (suc n) (suc i) none within =
    let same : a + suc i ≡ a + 1 + i = omega arith in
    let first : test (event.Give a) ≡ false = false_from_ne_true (test (event.Give a)) (λ may. none a (ap (λ (b : Bool). cond b (Some (event.Give a)) (find test (map event.Give (range_with_len (a + 1) n)))) may)) in
    ap (λ (k : ℕ). test (event.Give k)) same
    ∙ gives_none test (a + 1) n i (λ j gives. none j (ap (λ (b : Bool). cond b (Some (event.Give a)) (find test (map event.Give (range_with_len (a + 1) n)))) first ∙ gives)) (omega (arith, within))

-- what is found passes
passes_found : (test : EventKind → Bool) (xs : List EventKind) (kind : EventKind) → find test xs ≡ Some kind → test kind ≡ true
passes_found test [] kind found = absurd (let e : None ≡ Some kind = found in cc)
passes_found test (x ∷ xs) kind found = elim (cases_Bool (test x)) [
  | inl passes ↦
      let is : Some x ≡ Some kind = sym (ap (λ (b : Bool). cond b (Some x) (find test xs)) passes) ∙ found in
      let same : x ≡ kind = cc in
      ap test (sym same) ∙ passes
  | inr fails ↦ passes_found test xs kind (sym (ap (λ (b : Bool). cond b (Some x) (find test xs)) fails) ∙ found)
]

thinks_alone : (p : Phase) → is_thinking p ≡ true → (is_eating p ≡ false) × (is_hungry p ≡ false)
thinks_alone phase.Thinking h = (refl, refl)
thinks_alone phase.Hungry h = absurd (false≢true h)
thinks_alone phase.Eating h = absurd (false≢true h)

-- the site may do none of these steps
record IsRested (plan : SeenPlan) (s : ℕ) (state : LocalState) : Type 0 where
  give : (i : ℕ) → i < length state.traffic → may plan s state (step.Give i) ≡ false
  ends : is_eating state.phase ≡ false
  begins : may plan s state step.Begin ≡ false
  ask : (i : ℕ) → i < length state.traffic → may plan s state (step.Ask i) ≡ false

module _ (plan : SeenPlan) (s : ℕ) (state : LocalState) where
  abbrev test : EventKind → Bool
  test = may_by_itself plan s state

  abbrev places : List ℕ
  places = all_places state

  give_none : GivesNot (next_event plan s state) → (i : ℕ) → i < length state.traffic → may plan s state (step.Give i) ≡ false
  give_none none i within =
      let gives = map event.Give places in
      let asks = map event.Ask places in
      let dones = map event.Done places in
      let a = gives_not_front test (gives ++ placeless_kinds ++ asks ++ dones) (map event.Close places) none in
      let b = gives_not_front test (gives ++ placeless_kinds ++ asks) dones a in
      let c = gives_not_front test (gives ++ placeless_kinds) asks b in
      let d = gives_not_front test gives placeless_kinds c in
      let here : i ≡ 0 + i = omega arith in
      ap (λ (k : ℕ). test (event.Give k)) here ∙ gives_none test 0 (length state.traffic) i d within

  is_rested : IsResting (next_event plan s state) → IsRested plan s state
  is_rested (inl none) =
      let idle = is_idle plan s state none in
      record { give = idle.give; ends = idle.ends; begins = idle.begins; ask = idle.ask }
  is_rested (inr hungry) =
      let may_hunger : may plan s state step.Hungry ≡ true = passes_found test (own_kinds (all_places state)) event.Hungry hungry in
      let thinking = (and_parts (is_thinking state.phase) (nat_lt state.ate (job_count plan s)) (and_parts (is_thinking state.phase && nat_lt state.ate (job_count plan s)) (not state.must_quit && not state.has_quit) may_hunger).0).0 in
      let alone = thinks_alone state.phase thinking in
      record {
        give = give_none (gives_not (next_event plan s state) (inr hungry));
        ends = alone.0;
        begins = false_from_ne_true (may plan s state step.Begin) (λ h. true≢false (sym (and_parts (is_hungry state.phase) (list_all (is_ready plan s state) (range_with_len 0 (length state.traffic))) h).0 ∙ alone.1));
        ask = λ i within. false_from_ne_true (may plan s state (step.Ask i)) (λ h.
            true≢false (sym (and_parts (is_hungry state.phase) _ (and_parts _ _ (and_parts (nat_lt i (length state.traffic)) _ h).1).0).0 ∙ alone.1));
      }

-- ---- the site in its world

module _ (plan : SeenPlan) (world : WorldState) (s : ℕ) where
  calm_if_still : IsStill plan world s → IsCalm plan world s
  calm_if_still still = record { take = still.take; give = still.give; ends = still.ends; begins = still.begins; ask = still.ask }

  calm_resting : KeepsStreams plan s (state_of world s) → IsResting (next_event plan s (state_of world s)) → ((i : ℕ) → i < length (edges_of plan s) → queue_to plan world s i ≡ []) → IsCalm plan world s
  calm_resting keeps resting empty =
      let rested = is_rested plan s (state_of world s) resting in
      record {
        take = λ i l within next.
            let w = next_is_first (put_to plan world s i) (length (traffic_at (state_of world s) i).taken) l next in
            absurd (let e : l ∷ w.0 ≡ [] = sym w.1 ∙ empty i within in cc);
        give = λ i within. rested.give i (omega (arith, within, keeps.every_place));
        ends = rested.ends;
        begins = rested.begins;
        ask = λ i within. rested.ask i (omega (arith, within, keeps.every_place));
      }

-- ---- one letter is taken

module _ (plan : SeenPlan) (world : WorldState) (s : ℕ) (first : Coming) (coming : List Coming) (last : SeenWants) where
  -- the site rests well, and a letter comes
  record RestsOn : Type 0 where
    idle : IsResting (next_event plan s (state_of world s))
    places : ArePlacesBelow (length (edges_of plan s)) (first ∷ coming)
    in_links : (i : ℕ) → i < length (edges_of plan s) → letters_coming_at i (first ∷ coming) ≡ queue_to plan world s i
    unwanted : ComeUnwanted (wants_by_lists plan s (state_of world s)) (first ∷ coming) last

module _ (plan : SeenPlan) (is_plan : IsPlan plan) (events : List Event) (world : WorldState) (reached : Reaches plan events world) (s : ℕ) (is_site : s < site_count plan) (first : Coming) (coming : List Coming) (last : SeenWants) (rests : RestsOn plan world s first coming last) where
  abbrev i : ℕ
  i = first.place

  abbrev l : Letter
  l = first.letter

  kept : WorldKeeps plan world
  kept = reached_kept plan events world is_plan reached

  within : i < length (edges_of plan s)
  within = rests.places.0

  in_link : queue_to plan world s i ≡ l ∷ letters_coming_at i coming
  in_link = sym (rests.in_links i within) ∙ first_at first coming

  allowed : is_allowed plan s (state_of world s) i l ≡ true
  allowed = reached_allowed plan events world s i is_plan reached is_site within l
      (first_is_next (put_to plan world s i) (length (traffic_at (state_of world s) i).taken) l (letters_coming_at i coming) in_link).0

  -- the site may take it
  happens : (new : WorldState) × (world_after plan world (take_at s i) ≡ Some new)
  happens = (_, take_happens plan is_plan world kept s i is_site within l (letters_coming_at i coming) in_link allowed)

  module _ (new : WorldState) (h : world_after plan world (take_at s i) ≡ Some new) where
    reached_next : Reaches plan (events ++ take_at s i ∷ []) new
    reached_next = events_then plan (start plan) world new events (take_at s i) reached h

    kept_next : WorldKeeps plan new
    kept_next = reached_kept plan (events ++ take_at s i ∷ []) new is_plan reached_next

    taken : IsTaken plan world new s i l (letters_coming_at i coming)
    taken = takes_first plan is_plan world kept s i is_site within l (letters_coming_at i coming) in_link new h

    quiet : StaysQuiet plan s i (state_of world s) l
    quiet =
        let keeps : KeepsStreams plan s (state_of world s) = kept.keeps s is_site in
        stays_quiet plan s (state_of world s) is_plan is_site keeps (is_rested plan s (state_of world s) rests.idle).ends i (omega (arith, within, keeps.every_place)) l
        (subst (KeepsStreams plan s) taken.state (kept_next.keeps s is_site)) (no_breach plan s (state_of world s) i l allowed) rests.unwanted.0

    -- and rests well afterwards
    rests_next : RestsWell plan new s
    rests_next = record {
      idle = subst IsResting (sym (ap (next_event plan s) taken.state ∙ quiet.next)) rests.idle;
      coming = coming;
      last = last;
      places = rests.places.1;
      in_links = λ j of_site. elim (cases_eq j i) [
        | inl same ↦ subst (λ (k : ℕ). letters_coming_at k coming ≡ queue_to plan new s k) (sym same) (sym taken.queue)
        | inr other ↦ sym (first_elsewhere j first coming other) ∙ rests.in_links j of_site ∙ sym (taken.queues j of_site other)
      ];
      unwanted = subst (λ (wants : SeenWants). ComeUnwanted wants coming last) (sym (ap (wants_by_lists plan s) taken.state ∙ quiet.wants)) rests.unwanted.1;
    }

    -- another site has finished, or rests well, as before
    other_rests : (t : ℕ) → t ≢ s → (has_finished plan t (state_of world t) ≡ true) ⊎ RestsWell plan world t → (has_finished plan t (state_of new t) ≡ true) ⊎ RestsWell plan new t
    other_rests t other (inl finished) = inl (ap (has_finished plan t) (taken.others t other) ∙ finished)
    other_rests t other (inr well) = inr (record {
      idle = subst (λ (state : LocalState). IsResting (next_event plan t state)) (sym (taken.others t other)) well.idle;
      coming = well.coming;
      last = well.last;
      places = well.places;
      in_links = λ j of_site. well.in_links j of_site ∙ sym (taken.queues_away t j other);
      unwanted = subst (λ (state : LocalState). ComeUnwanted (wants_by_lists plan t state) well.coming well.last) (sym (taken.others t other)) well.unwanted;
    })

    all_rest_next : AllRestWell plan world → AllRestWell plan new
    all_rest_next all t is_t = elim (cases_eq t s) [
      | inl same ↦ subst (λ (x : ℕ). (has_finished plan x (state_of new x) ≡ true) ⊎ RestsWell plan new x) (sym same) (inr rests_next)
      | inr other ↦ other_rests t other (all t is_t)
    ]

    -- a Take changes no phase
    same_phase : (t : ℕ) → (state_of new t).phase ≡ (state_of world t).phase
    same_phase t = elim (cases_eq t s) [
      | inl same ↦ ap (λ (x : ℕ). (state_of new x).phase) same ∙ ap (λ (state : LocalState). state.phase) taken.state ∙ sym (ap (λ (x : ℕ). (state_of world x).phase) same)
      | inr other ↦ ap (λ (state : LocalState). state.phase) (taken.others t other)
    ]

-- ---- the search for a letter

-- a site that rests well while a letter comes to it
record HasLetter (plan : SeenPlan) (world : WorldState) (s : ℕ) : Type 0 where
  first : Coming
  coming : List Coming
  last : SeenWants
  rests : RestsOn plan world s first coming last

calm_or_letter : (plan : SeenPlan) (world : WorldState) (s : ℕ) → KeepsStreams plan s (state_of world s) → IsResting (next_event plan s (state_of world s)) → (coming : List Coming) (last : SeenWants)
    → ArePlacesBelow (length (edges_of plan s)) coming → ((i : ℕ) → i < length (edges_of plan s) → letters_coming_at i coming ≡ queue_to plan world s i)
    → ComeUnwanted (wants_by_lists plan s (state_of world s)) coming last → IsCalm plan world s ⊎ HasLetter plan world s
calm_or_letter plan world s keeps idle [] last places in_links unwanted = inl (calm_resting plan world s keeps idle (λ i within. sym (in_links i within)))
calm_or_letter plan world s keeps idle (first ∷ coming) last places in_links unwanted = inr (record {
  first = first;
  coming = coming;
  last = last;
  rests = record { idle = idle; places = places; in_links = in_links; unwanted = unwanted };
})

status : (plan : SeenPlan) (world : WorldState) (s : ℕ) → KeepsStreams plan s (state_of world s) → (has_finished plan s (state_of world s) ≡ true) ⊎ RestsWell plan world s → IsCalm plan world s ⊎ HasLetter plan world s
status plan world s keeps (inl finished) = inl (calm_if_still plan world s (still_finished plan world s keeps finished))
status plan world s keeps (inr well) = calm_or_letter plan world s keeps well.idle well.coming well.last well.places well.in_links well.unwanted

-- ---- everybody thinks

-- everybody thinks
abbrev AllThink : SeenPlan → WorldState → Type 0
AllThink plan world = (s : ℕ) → s < site_count plan → is_thinking (state_of world s).phase ≡ true

-- the world goes on by a Take, to a world in which each site has finished or rests well
record GoesOn (plan : SeenPlan) (events : List Event) (world : WorldState) : Type 0 where
  event : Event
  new : WorldState
  reaches : Reaches plan (events ++ event ∷ []) new
  all : AllRestWell plan new
  same : (t : ℕ) → (state_of new t).phase ≡ (state_of world t).phase

module _ (plan : SeenPlan) (is_plan : IsPlan plan) where
  think_or_on : (events : List Event) (world : WorldState) → Reaches plan events world → AllRestWell plan world → AllThink plan world ⊎ GoesOn plan events world
  think_or_on events world reached all =
      let kept : WorldKeeps plan world = reached_kept plan events world is_plan reached in
      elim (all_or_one {P = IsCalm plan world} {Q = HasLetter plan world} (site_count plan) (λ s is_site. status plan world s (kept.keeps s is_site) (all s is_site))) [
        | inl calm ↦ inl (thinks plan is_plan world kept (in_order plan events world is_plan reached) calm (precedence_acyclic plan events world is_plan reached))
        | inr w ↦
            let has : HasLetter plan world w.0 = w.2 in
            let new = happens plan is_plan events world reached w.0 w.1 has.first has.coming has.last has.rests in
            inr (record {
              event = take_at w.0 has.first.place;
              new = new.0;
              reaches = reached_next plan is_plan events world reached w.0 w.1 has.first has.coming has.last has.rests new.0 new.1;
              all = all_rest_next plan is_plan events world reached w.0 w.1 has.first has.coming has.last has.rests new.0 new.1 all;
              same = same_phase plan is_plan events world reached w.0 w.1 has.first has.coming has.last has.rests new.0 new.1;
            })
      ]

  think_before : (old new : WorldState) → ((t : ℕ) → (state_of new t).phase ≡ (state_of old t).phase) → AllThink plan new → AllThink plan old
  think_before old new same think s is_site = ap is_thinking (sym (same s)) ∙ think s is_site

  -- where no more than n letters can come
  think_within : (n : ℕ) (events : List Event) (world : WorldState) → Reaches plan events world → AllRestWell plan world → bound_of plan ≤ length events + n → AllThink plan world
  think_within zero events world reached all enough = elim (think_or_on events world reached all) [
    | inl think ↦ think
    | inr on ↦ absurd (omega (arith, enough, events_bounded plan (events ++ on.event ∷ []) on.new is_plan on.reaches, length-append events (on.event ∷ [])))
  ]
  think_within (suc n) events world reached all enough = elim (think_or_on events world reached all) [
    | inl think ↦ think
    | inr on ↦ think_before world on.new on.same (think_within n (events ++ on.event ∷ []) on.new on.reaches on.all (omega (arith, enough, length-append events (on.event ∷ []))))
  ]

pub all_at_rest_think : (plan : SeenPlan) (events : List Event) (world : WorldState) → IsPlan plan → Reaches plan events world → AllRestWell plan world → AllThink plan world
all_at_rest_think plan events world is_plan reached all = think_within plan is_plan (bound_of plan) events world reached all (omega arith)
