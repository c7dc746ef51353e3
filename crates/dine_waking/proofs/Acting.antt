-- What a run keeps when a site does an event of its own.
use Rattle.std.proofs.Common.{◌≡◌, ◌≢◌, ℕ, ◌<◌, ◌≤◌, Bool, true, List, [], ◌∷◌, ◌++◌, length, drop, get_or, slice_set, Option, Some, refl, sym, ◌∙◌, ap, subst, inl, inr, arith, append-nil}
use Rattle.std.proofs.lemmas.Bool.{cases_eq, false≢true}
use Rattle.std.proofs.lemmas.List.{drop-append-le}
use Rattle.std.proofs.lemmas.Option.{same_Some}
use Rattle.dine_graph.specs.Plan.{SeenPlan, IsPlan, site_count, edges_of}
use Rattle.dine_rules.specs.declared.events.Event.{Event}
use Rattle.dine_rules.specs.declared.events.EventKind.{EventKind}
use Rattle.dine_rules.specs.declared.events.EventKind.TheVariants as event
use Rattle.dine_rules.specs.declared.letters.LetterKind.{LetterKind}
use Rattle.dine_rules.specs.declared.letters.LetterKind.TheVariants as kind
use Rattle.dine_rules.specs.declared.letters.Letter.{Letter}
use Rattle.dine_rules.specs.declared.letters.Letter.TheVariants as letter
use Rattle.dine_rules.specs.Letters.{kind_of}
use Rattle.dine_rules.specs.Local.{LocalState, Traffic, edge_at, meal_fails, neighbour_at, no_traffic, traffic_at}
use Rattle.dine_rules.specs.Steps.{Step, after, given_fork, may, step_by, with_put}
use Rattle.dine_rules.specs.Steps as step
use Rattle.dine_rules.specs.World.{next_letter, place_of, put_to, start, state_of}
use Rattle.dine_rules.proofs.shared.links.WorldStreams.{IsStepOf, WorldKeeps, event_is_step, events_then, neighbour_differs, prefix_short, reached_kept}
use Rattle.dine_rules.proofs.shared.one_place.Placed.{placed}
use Rattle.dine_rules.proofs.shared.one_site.Shapes.{may_within}
use Rattle.dine_site.specs.NextEvent.{may_by_itself, own_kinds}
use Rattle.dine_site.specs.Standing.{all_places}
use Rattle.dine_rules.proofs.shared.lists.Finds.{found_passes}
use Rattle.dine_waking.specs.Sleeping.{Coming, letters_coming_at}
use Rattle.dine_waking.specs.Runs.{Acts, Doing, GoesOn, HasToRing, Run, Sleeps, HasToTake, Thread, HasToWake, IsToBeWoken, doing_after, places_heard, rings_left, thread_of}
use Rattle.dine_waking.proofs.Queues.{put_elsewhere, put_here, put_keeps_taken, queue_away, queue_from, queue_here, queue_stays, state_elsewhere}
use Rattle.dine_waking.proofs.Bells.{Fits, InLink, IsPlain, IsUnrung, KeepsBell, RunKeeps, as_many, each_site, link_stays, quiet_change, site_stays, thread_elsewhere, thread_here, waking_stays}

-- ---- the event

-- it has to wake nobody yet
plain_after : (kind : EventKind) → IsPlain (doing_after kind)
plain_after (event.Take i) = tt
plain_after (event.Give i) = tt
plain_after event.End = tt
plain_after event.Begin = tt
plain_after event.Quit = tt
plain_after event.Hungry = tt
plain_after (event.Ask i) = tt
plain_after (event.Done i) = tt
plain_after (event.Close i) = tt

-- by what its thread is at then, a site put a letter at that place or none
abbrev pub PutsAs : Doing → LocalState → LocalState → Type 0
PutsAs (HasToRing i kind) old new = (l : Letter) × (kind_of l ≡ kind) × (i < length old.traffic) × (new ≡ with_put i l old)
PutsAs GoesOn old new = new.traffic ≡ old.traffic
PutsAs doing old new = ⊥

module _ (plan : SeenPlan) (s : ℕ) (state : LocalState) (failed : Bool) (next : ℕ → Option Letter) where
  -- an event that a site may do by itself
  pub puts_as : (kind : EventKind) (one : Step) → may_by_itself plan s state kind ≡ true → step_by failed next kind ≡ Some one → may plan s state one ≡ true → PutsAs (doing_after kind) state (after plan s state one)
  puts_as (event.Take i) one own is needs = absurd (false≢true own)
  puts_as (event.Give i) one own is needs = subst (λ (x : Step). PutsAs (HasToRing i kind.Fork) state (after plan s state x)) (same_Some (step.Give i) one is)
      (letter.Fork (given_fork plan s state i), refl, may_within plan s state (step.Give i) own, refl)
  puts_as event.End one own is needs = subst (λ (x : Step). (after plan s state x).traffic ≡ state.traffic) (same_Some (step.End failed) one is) refl
  puts_as event.Begin one own is needs = subst (λ (x : Step). (after plan s state x).traffic ≡ state.traffic) (same_Some step.Begin one is) refl
  puts_as event.Quit one own is needs = subst (λ (x : Step). (after plan s state x).traffic ≡ state.traffic) (same_Some step.Quit one is) refl
  puts_as event.Hungry one own is needs = subst (λ (x : Step). (after plan s state x).traffic ≡ state.traffic) (same_Some step.Hungry one is) refl
  puts_as (event.Ask i) one own is needs = subst (λ (x : Step). PutsAs (HasToRing i kind.Request) state (after plan s state x)) (same_Some (step.Ask i) one is)
      (letter.Request (edge_at plan s i), refl, may_within plan s state (step.Ask i) own, refl)
  puts_as (event.Done i) one own is needs = subst (λ (x : Step). PutsAs (HasToRing i kind.Done) state (after plan s state x)) (same_Some (step.Done i) one is)
      (letter.Done, refl, may_within plan s state (step.Done i) own, refl)
  puts_as (event.Close i) one own is needs = subst (λ (x : Step). PutsAs (HasToRing i kind.Close) state (after plan s state x)) (same_Some (step.Close i) one is)
      (letter.Close, refl, may_within plan s state (step.Close i) own, refl)

-- ---- the run

module _ (plan : SeenPlan) (is_plan : IsPlan plan) (old new : Run) (keeps : RunKeeps plan old) (s : ℕ) (is_site : s < site_count plan) (goes_on : (thread_of old s).doing ≡ GoesOn) (doing : Doing)
    (threads : new.threads ≡ slice_set old.threads s (record { doing = doing; bell = (thread_of old s).bell })) (state : LocalState) (is : new.world ≡ slice_set old.world s state) (as_open : new.is_open ≡ old.is_open) where
  abbrev actor : Thread
  actor = record { doing = doing; bell = (thread_of old s).bell }

  has_thread : s < length old.threads
  has_thread = omega (arith, keeps.threads)

  kept : WorldKeeps plan old.world
  kept = reached_kept plan keeps.events old.world is_plan keeps.reached

  has_state : s < length old.world
  has_state = omega (arith, kept.sites)

  keeps_here : KeepsBell plan old s
  keeps_here = keeps.sites s is_site

  -- no other site's thread changes
  neighbour_stays : (i place : ℕ) (letters : List Letter) → i < length (edges_of plan s) → IsUnrung (thread_of old (neighbour_at plan s i)).doing place letters → IsUnrung (thread_of new (neighbour_at plan s i)).doing place letters
  neighbour_stays i place letters within = subst (λ (x : Thread). IsUnrung x.doing place letters)
      (sym (thread_elsewhere old new s actor threads (neighbour_at plan s i) (neighbour_differs plan s i (placed plan s i is_plan within))))

  -- the site itself, which took nothing
  module _ (same_taken : (j : ℕ) → (traffic_at state j).taken ≡ (traffic_at (state_of old.world s) j).taken) (silent : places_heard doing ≡ []) (fits : (rung_for : List Coming) → Fits plan new.is_open s (state_of new.world s) rung_for doing) where
    link_here : (i : ℕ) (rung_for : List Coming) → i < length (edges_of plan s) → InLink plan old s i rung_for → InLink plan new s i rung_for
    link_here i rung_for within = link_stays plan old new s i rung_for
        (queue_here plan is_plan old.world new.world s state is has_state i within ∙ ap (λ (letters : List Letter). drop (length letters) (put_to plan old.world s i)) (same_taken i))
        (λ letters. neighbour_stays i (place_of plan (neighbour_at plan s i) (edge_at plan s i)) letters within)

    pub actor_keeps : KeepsBell plan new s
    actor_keeps = record {
      rung_for = keeps_here.rung_for;
      places = keeps_here.places;
      numbers = keeps_here.numbers ∙ ap (λ (d : Doing). places_heard d ++ (thread_of old s).bell) goes_on ∙ ap (λ (numbers : List ℕ). numbers ++ (thread_of old s).bell) (sym silent)
          ∙ ap rings_left (sym (thread_here old new s actor threads has_thread));
      links = λ i within. link_here i keeps_here.rung_for within (keeps_here.links i within);
      fits = subst (λ (thread : Thread). Fits plan new.is_open s (state_of new.world s) keeps_here.rung_for thread.doing) (sym (thread_here old new s actor threads has_thread)) (fits keeps_here.rung_for);
    }

  -- another site, whose links stay or get the letter
  pub onlooker_keeps : (t : ℕ) → t < site_count plan → t ≢ s → ((i : ℕ) (rung_for : List Coming) → i < length (edges_of plan t) → InLink plan old t i rung_for → InLink plan new t i rung_for) → KeepsBell plan new t
  onlooker_keeps t is_t other links = site_stays plan old new t (thread_elsewhere old new s actor threads t other) (state_elsewhere plan is_plan old.world new.world s state is has_state t other) as_open links (keeps.sites t is_t)

  -- the site put no letter
  pub keeps_alone : state.traffic ≡ (state_of old.world s).traffic → doing ≡ GoesOn → (t : ℕ) → t < site_count plan → KeepsBell plan new t
  keeps_alone same on = each_site plan new s
      (actor_keeps (λ j. ap (λ (traffic : List Traffic). (get_or traffic j no_traffic).taken) same) (ap places_heard on) (λ rung_for. subst (Fits plan new.is_open s (state_of new.world s) rung_for) (sym on) tt))
      (λ t is_t other. onlooker_keeps t is_t other (λ i rung_for within. link_stays plan old new t i rung_for
      (queue_stays plan is_plan old.world new.world s state is has_state t i other (λ from. ap (λ (traffic : List Traffic). (get_or traffic (place_of plan s (edge_at plan t i)) no_traffic).put) same))
      (quiet_change old new s actor threads GoesOn goes_on has_thread (λ place letters none. subst (λ (d : Doing). IsUnrung d place letters) (sym on) none) (neighbour_at plan t i) (place_of plan (neighbour_at plan t i) (edge_at plan t i)))))

  -- the site put a letter at place i
  module _ (i : ℕ) (kind : LetterKind) (l : Letter) (is_kind : kind_of l ≡ kind) (within : i < length (state_of old.world s).traffic) (puts : state ≡ with_put i l (state_of old.world s)) (rings : doing ≡ HasToRing i kind) where
    place_within : i < length (edges_of plan s)
    place_within = omega (arith, within, (kept.keeps s is_site).every_place)

    rings_now : (place : ℕ) (letters : List Letter) → IsUnrung (HasToRing i kind) place letters → IsUnrung (thread_of new s).doing place letters
    rings_now place letters unrung = subst (λ (x : Thread). IsUnrung x.doing place letters) (sym (thread_here old new s actor threads has_thread)) (subst (λ (d : Doing). IsUnrung d place letters) (sym rings) unrung)

    -- a link from the site
    module _ (t j : ℕ) (is_t : t < site_count plan) (of_t : j < length (edges_of plan t)) (other : t ≢ s) (from : neighbour_at plan t j ≡ s) (rung_for : List Coming) (link : InLink plan old t j rung_for) where
      abbrev place : ℕ
      place = place_of plan (neighbour_at plan t j) (edge_at plan t j)

      same_place : place ≡ place_of plan s (edge_at plan t j)
      same_place = ap (λ (x : ℕ). place_of plan x (edge_at plan t j)) from

      abbrev taken_before : ℕ
      taken_before = length (traffic_at (state_of old.world t) j).taken

      none_left : link.left ≡ []
      none_left = subst (λ (d : Doing). IsUnrung d place link.left) goes_on (subst (λ (x : ℕ). IsUnrung (thread_of old x).doing place link.left) from link.unrung)

      rings_there : (letters : List Letter) → IsUnrung (HasToRing i kind) place letters → IsUnrung (thread_of new (neighbour_at plan t j)).doing place letters
      rings_there letters unrung = subst (λ (x : ℕ). IsUnrung (thread_of new x).doing place letters) (sym from) (rings_now place letters unrung)

      link_of_letter : InLink plan new t j rung_for
      link_of_letter = elim (cases_eq i place) [
        | inl here ↦
            let at : place_of plan s (edge_at plan t j) ≡ i = sym (here ∙ same_place) in
            let before : put_to plan old.world t j ≡ (traffic_at (state_of old.world s) i).put =
            ap (λ (x : ℕ). (traffic_at (state_of old.world x) (place_of plan x (edge_at plan t j))).put) from ∙ ap (λ (x : ℕ). (traffic_at (state_of old.world s) x).put) at in
            let short : taken_before ≤ length (traffic_at (state_of old.world s) i).put =
            subst (λ (letters : List Letter). taken_before ≤ length letters) before (prefix_short (traffic_at (state_of old.world t) j).taken (put_to plan old.world t j) (kept.links t j is_t of_t)) in
            record {
              left = l ∷ [];
              queue = queue_from plan is_plan old.world new.world s state is has_state t j other from
                  ∙ ap (λ (x : ℕ). drop taken_before (traffic_at state x).put) at
                  ∙ ap (λ (x : LocalState). drop taken_before (traffic_at x i).put) puts
                  ∙ ap (drop taken_before) (put_here (state_of old.world s) i l within)
                  ∙ drop-append-le taken_before (traffic_at (state_of old.world s) i).put (l ∷ []) short
                  ∙ ap (λ (letters : List Letter). drop taken_before letters ++ l ∷ []) (sym before)
                  ∙ ap (λ (letters : List Letter). letters ++ l ∷ []) (link.queue ∙ ap (λ (letters : List Letter). letters_coming_at j rung_for ++ letters) none_left ∙ append-nil (letters_coming_at j rung_for));
              unrung = rings_there (l ∷ []) (inl (here, l, refl, is_kind));
            }
        | inr apart ↦ record {
          left = link.left;
          queue = queue_stays plan is_plan old.world new.world s state is has_state t j other (λ _. ap (λ (x : LocalState). (traffic_at x (place_of plan s (edge_at plan t j))).put) puts
              ∙ put_elsewhere (state_of old.world s) i (place_of plan s (edge_at plan t j)) l (λ same. apart (sym (same_place ∙ same)))) ∙ link.queue;
          unrung = rings_there link.left (inr (apart, none_left));
        }
      ]

    link_on : (t j : ℕ) → t < site_count plan → t ≢ s → (rung_for : List Coming) → j < length (edges_of plan t) → InLink plan old t j rung_for → InLink plan new t j rung_for
    link_on t j is_t other rung_for of_t link = elim (cases_eq (neighbour_at plan t j) s) [
      | inl from ↦ link_of_letter t j is_t of_t other from rung_for link
      | inr apart ↦ link_stays plan old new t j rung_for (queue_away plan is_plan old.world new.world s state is has_state t j other apart)
          (λ letters. subst (λ (x : Thread). IsUnrung x.doing (place_of plan (neighbour_at plan t j) (edge_at plan t j)) letters) (sym (thread_elsewhere old new s actor threads (neighbour_at plan t j) apart))) link
    ]

    pub keeps_letter : (t : ℕ) → t < site_count plan → KeepsBell plan new t
    keeps_letter = each_site plan new s
        (actor_keeps (λ j. ap (λ (x : LocalState). (traffic_at x j).taken) puts ∙ put_keeps_taken (state_of old.world s) i j l) (ap places_heard rings) (λ rung_for. subst (Fits plan new.is_open s (state_of new.world s) rung_for) (sym rings) place_within))
        (λ t is_t other. onlooker_keeps t is_t other (λ j rung_for of_t. link_on t j is_t other rung_for of_t))

-- by what the thread is at afterwards
keeps_as : (plan : SeenPlan) (is_plan : IsPlan plan) (old new : Run) (keeps : RunKeeps plan old) (s : ℕ) → s < site_count plan → (thread_of old s).doing ≡ GoesOn → (doing : Doing)
    → new.threads ≡ slice_set old.threads s (record { doing = doing; bell = (thread_of old s).bell }) → (state : LocalState) → new.world ≡ slice_set old.world s state → new.is_open ≡ old.is_open → PutsAs doing (state_of old.world s) state
    → (t : ℕ) → t < site_count plan → KeepsBell plan new t
keeps_as plan is_plan old new keeps s is_site goes_on GoesOn threads state is as_open puts = keeps_alone plan is_plan old new keeps s is_site goes_on GoesOn threads state is as_open puts refl
keeps_as plan is_plan old new keeps s is_site goes_on (HasToRing i kind) threads state is as_open puts = keeps_letter plan is_plan old new keeps s is_site goes_on (HasToRing i kind) threads state is as_open i kind puts.0 puts.1 puts.2 puts.3 refl
keeps_as plan is_plan old new keeps s is_site goes_on (HasToWake i) threads state is as_open puts = absurd puts
keeps_as plan is_plan old new keeps s is_site goes_on (IsToBeWoken i) threads state is as_open puts = absurd puts
keeps_as plan is_plan old new keeps s is_site goes_on (HasToTake i) threads state is as_open puts = absurd puts
keeps_as plan is_plan old new keeps s is_site goes_on (Sleeps wants) threads state is as_open puts = absurd puts

pub keeps_acted : (plan : SeenPlan) (is_plan : IsPlan plan) (old new : Run) (keeps : RunKeeps plan old) (s : ℕ) → s < site_count plan → Acts plan s old new → RunKeeps plan new
keeps_acted plan is_plan old new keeps s is_site a =
    let e : Event = record { site = s; kind = a.kind } in
    let w : IsStepOf plan old.world e new.world = event_is_step plan old.world e new.world a.world in
    let state : LocalState = state_of old.world s in
    let own : may_by_itself plan s state a.kind ≡ true = found_passes (may_by_itself plan s state) (own_kinds (all_places state)) a.kind a.next in
    record {
      events = keeps.events ++ e ∷ [];
      reached = events_then plan (start plan) old.world new.world keeps.events e keeps.reached a.world;
      threads = as_many old new s (record { doing = doing_after a.kind; bell = (thread_of old s).bell }) a.threads ∙ keeps.threads;
      waking = waking_stays old new s (record { doing = doing_after a.kind; bell = (thread_of old s).bell }) a.threads plan GoesOn a.goes_on tt (plain_after a.kind) (omega (arith, keeps.threads)) keeps.waking;
      sites = keeps_as plan is_plan old new keeps s is_site a.goes_on (doing_after a.kind) a.threads (after plan s state w.step) w.changes a.as_open
          (puts_as plan s state (meal_fails plan s state) (next_letter plan old.world s) a.kind w.step own w.step_is w.needs);
    }
