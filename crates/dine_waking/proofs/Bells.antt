-- What every run keeps: each letter in a link was rung for, or its sender has yet to ring; and a site that sleeps waits
-- for no letter that was rung for.
use Rattle.std.proofs.Common.{◌≡◌, ◌≢◌, ◌⊎◌, ℕ, zero, suc, ◌<◌, Bool, true, false, List, [], ◌∷◌, ◌++◌, length, map, drop, replicate, get_or, slice_set, refl, sym, ◌∙◌, ap, subst, inl, inr, arith}
use Rattle.std.proofs.lemmas.Bool.{cases_eq}
use Rattle.std.proofs.lemmas.List.{append_assoc, get_or-set_same, get_or-set_other, length-replicate, length-set}
use Rattle.dine_graph.specs.Plan.{SeenPlan, IsPlan, site_count, edges_of}
use Rattle.dine_rules.specs.declared.events.Event.{Event}
use Rattle.dine_rules.specs.declared.letters.Letter.{Letter}
use Rattle.dine_rules.specs.Breach.{is_allowed}
use Rattle.dine_rules.specs.Letters.{kind_of}
use Rattle.dine_rules.specs.Links.{queue_to}
use Rattle.dine_rules.specs.Local.{LocalState, Traffic, edge_at, neighbour_at, no_traffic, traffic_at}
use Rattle.dine_rules.specs.World.{Reaches, WorldState, place_of, put_to, start, state_of}
use Rattle.dine_rules.specs.Streams.{KeepsStreams}
use Rattle.dine_rules.proofs.shared.links.Across.{across}
use Rattle.dine_rules.proofs.shared.links.NextLetters.{reached_allowed}
use Rattle.dine_rules.proofs.shared.links.WorldStreams.{WorldKeeps, events_then, reached_kept, start_state}
use Rattle.dine_rules.proofs.shared.one_site.Site.{no_traffic_yet}
use Rattle.dine_site.specs.CoreWants.{can_put_off_by_lists, wants_by_lists}
use Rattle.dine_site.specs.NextEvent.{next_event}
use Rattle.dine_site.specs.Standing.{has_finished}
use Rattle.dine_waking.specs.Sleeping.{ArePlacesBelow, ComeUnwanted, Coming, letters_coming_at}
use Rattle.dine_waking.specs.Runs.{Doing, FallsAsleep, GoesOn, HearsRing, HasToRing, IsCalled, MaySleepBefore, Run, Sleeps, HasToTake, TakesLetter, Thread, HasToWake, IsToBeWoken, first_moment, fresh_thread, places_heard, rings_for, rings_left, thread_of}
use Rattle.dine_waking.proofs.Letters.{first_at, first_elsewhere}
use Rattle.dine_waking.proofs.PutOff.{AreUnwantedRequests, IsCut, cut_at, letters_moved, numbers_moved, only_one_first, only_requests, place_below, places_moved, places_of, request_unwanted, requests_come}
use Rattle.dine_waking.proofs.Queues.{IsTaken, take_at, takes_first}
use Rattle.dine_waking.proofs.Quiet.{first_is_next}

-- ---- what is kept

-- the letters of a link behind those that were rung for: one if the sender has yet to ring there, else none
abbrev pub IsUnrung : Doing → ℕ → List Letter → Type 0
IsUnrung (HasToRing i kind) place letters = ((i ≡ place) × (l : Letter) × (letters ≡ l ∷ []) × (kind_of l ≡ kind)) ⊎ ((i ≢ place) × (letters ≡ []))
IsUnrung doing place letters = letters ≡ []

-- the letters in the link to a site are those that were rung for, and then those that were not
pub record InLink (plan : SeenPlan) (run : Run) (s i : ℕ) (rung_for : List Coming) : Type 0 where
  pub left : List Letter
  pub queue : queue_to plan run.world s i ≡ letters_coming_at i rung_for ++ left
  pub unrung : IsUnrung (thread_of run (neighbour_at plan s i)).doing (place_of plan (neighbour_at plan s i) (edge_at plan s i)) left

-- what a thread is at fits its site: it rings at one of its places; and while it sleeps, the letters came unwanted
abbrev pub Fits : SeenPlan → Bool → ℕ → LocalState → List Coming → Doing → Type 0
Fits plan is_open s state rung_for (HasToRing i kind) = i < length (edges_of plan s)
Fits plan is_open s state rung_for (HasToWake i) = i < length (edges_of plan s)
Fits plan is_open s state rung_for (IsToBeWoken i) = i < length (edges_of plan s)
Fits plan is_open s state rung_for (Sleeps wants) = MaySleepBefore is_open (next_event plan s state) × (has_finished plan s state ≡ false) × ComeUnwanted (wants_by_lists plan s state) rung_for wants
Fits plan is_open s state rung_for doing = Unit {0}

-- the letters that were rung for and not taken, in the order of the rings
pub record KeepsBell (plan : SeenPlan) (run : Run) (s : ℕ) : Type 0 where
  pub rung_for : List Coming
  pub places : ArePlacesBelow (length (edges_of plan s)) rung_for
  pub numbers : map (λ (one : Coming). one.place) rung_for ≡ rings_left (thread_of run s)
  pub links : (i : ℕ) → i < length (edges_of plan s) → InLink plan run s i rung_for
  pub fits : Fits plan run.is_open s (state_of run.world s) rung_for (thread_of run s).doing

-- One end of an edge, at this place, has yet to wake the other end, exactly if the other end is woken from its place.
pub record IsWaking (mine other : Doing) (place other_place : ℕ) : Type 0 where
  pub finds : other ≡ HasToWake other_place → mine ≡ IsToBeWoken place
  pub comes : mine ≡ IsToBeWoken place → other ≡ HasToWake other_place

-- so it is at each place of each site
abbrev pub AreWaking : SeenPlan → Run → Type 0
AreWaking plan run = (s i : ℕ) → s < site_count plan → i < length (edges_of plan s)
    → IsWaking (thread_of run s).doing (thread_of run (neighbour_at plan s i)).doing i (place_of plan (neighbour_at plan s i) (edge_at plan s i))

pub record RunKeeps (plan : SeenPlan) (run : Run) : Type 0 where
  pub events : List Event
  pub reached : Reaches plan events run.world
  pub threads : length run.threads ≡ site_count plan
  pub sites : (s : ℕ) → s < site_count plan → KeepsBell plan run s
  pub waking : AreWaking plan run

-- ---- waking

-- the thread has nobody to wake, and nobody has to wake it
abbrev pub IsPlain : Doing → Type 0
IsPlain (HasToWake i) = ⊥
IsPlain (IsToBeWoken i) = ⊥
IsPlain doing = Unit {0}

pub plain_wakes : (doing : Doing) (i : ℕ) → IsPlain doing → doing ≡ HasToWake i → ⊥
plain_wakes doing i plain is = subst IsPlain is plain

pub plain_woken : (doing : Doing) (i : ℕ) → IsPlain doing → doing ≡ IsToBeWoken i → ⊥
plain_woken doing i plain is = subst IsPlain is plain

-- both ends are plain
pub plain_waking : (mine other : Doing) (place other_place : ℕ) → IsPlain mine → IsPlain other → IsWaking mine other place other_place
plain_waking mine other place other_place plain plain_other = record {
  finds = λ is. absurd (plain_wakes other other_place plain_other is);
  comes = λ is. absurd (plain_woken mine place plain is);
}

-- one end stays plain
pub mine_plain : (mine new other : Doing) (place other_place : ℕ) → IsPlain mine → IsPlain new → IsWaking mine other place other_place → IsWaking new other place other_place
mine_plain mine new other place other_place plain plain_new was = record {
  finds = λ is. absurd (plain_woken mine place plain (was.finds is));
  comes = λ is. absurd (plain_woken new place plain_new is);
}

pub other_plain : (mine other new : Doing) (place other_place : ℕ) → IsPlain other → IsPlain new → IsWaking mine other place other_place → IsWaking mine new place other_place
other_plain mine other new place other_place plain plain_new was = record {
  finds = λ is. absurd (plain_wakes new other_place plain_new is);
  comes = λ is. absurd (plain_wakes other other_place plain (was.comes is));
}

-- ---- the start

fresh_all : (n s : ℕ) → get_or (replicate n fresh_thread) s fresh_thread ≡ fresh_thread
fresh_all zero s = refl
fresh_all (suc n) zero = refl
fresh_all (suc n) (suc s) = fresh_all n s

module _ (plan : SeenPlan) (is_plan : IsPlan plan) (is_open : Bool) where
  pub start_fresh : (s : ℕ) → thread_of (first_moment is_open plan) s ≡ fresh_thread
  start_fresh s = fresh_all (site_count plan) s

  start_traffic : (s i : ℕ) → s < site_count plan → traffic_at (state_of (start plan) s) i ≡ no_traffic
  start_traffic s i is_site = ap (λ (state : LocalState). traffic_at state i) (start_state plan s is_site) ∙ no_traffic_yet (edges_of plan s) i

  start_link : (s i : ℕ) → s < site_count plan → i < length (edges_of plan s) → queue_to plan (start plan) s i ≡ []
  start_link s i is_site within =
      let there : ℕ = neighbour_at plan s i in
      let place : ℕ = place_of plan (neighbour_at plan s i) (edge_at plan s i) in
      ap (λ (traffic : Traffic). drop (length traffic.taken) (put_to plan (start plan) s i)) (start_traffic s i is_site)
      ∙ ap (λ (traffic : Traffic). drop 0 traffic.put) (start_traffic there place (across plan s i is_plan within).is_site)

  start_bell : (s : ℕ) → s < site_count plan → KeepsBell plan (first_moment is_open plan) s
  start_bell s is_site = record {
    rung_for = [];
    places = tt;
    numbers = ap rings_left (sym (start_fresh s));
    links = λ i within. record {
      left = [];
      queue = start_link s i is_site within;
      unrung = subst (λ (thread : Thread). IsUnrung thread.doing (place_of plan (neighbour_at plan s i) (edge_at plan s i)) []) (sym (start_fresh (neighbour_at plan s i))) refl;
    };
    fits = subst (λ (thread : Thread). Fits plan is_open s (state_of (start plan) s) [] thread.doing) (sym (start_fresh s)) tt;
  }

  pub start_keeps : RunKeeps plan (first_moment is_open plan)
  start_keeps = record {
    events = [];
    reached = refl;
    threads = length-replicate (site_count plan) fresh_thread;
    sites = start_bell;
    waking = λ s i is_site within.
        plain_waking (thread_of (first_moment is_open plan) s).doing (thread_of (first_moment is_open plan) (neighbour_at plan s i)).doing i (place_of plan (neighbour_at plan s i) (edge_at plan s i))
        (subst (λ (thread : Thread). IsPlain thread.doing) (sym (start_fresh s)) tt) (subst (λ (thread : Thread). IsPlain thread.doing) (sym (start_fresh (neighbour_at plan s i))) tt);
  }

-- ---- a site for which nothing changes

-- no sender that had rung has yet to ring
abbrev pub KeepsUnrung : Run → Run → Type 0
KeepsUnrung old new = (s place : ℕ) (letters : List Letter) → IsUnrung (thread_of old s).doing place letters → IsUnrung (thread_of new s).doing place letters

pub link_stays : (plan : SeenPlan) (old new : Run) (s i : ℕ) (rung_for : List Coming) → queue_to plan new.world s i ≡ queue_to plan old.world s i
    → ((letters : List Letter) → IsUnrung (thread_of old (neighbour_at plan s i)).doing (place_of plan (neighbour_at plan s i) (edge_at plan s i)) letters
    → IsUnrung (thread_of new (neighbour_at plan s i)).doing (place_of plan (neighbour_at plan s i) (edge_at plan s i)) letters)
    → InLink plan old s i rung_for → InLink plan new s i rung_for
link_stays plan old new s i rung_for queue unrung link = record { left = link.left; queue = queue ∙ link.queue; unrung = unrung link.left link.unrung }

pub site_stays : (plan : SeenPlan) (old new : Run) (s : ℕ) → thread_of new s ≡ thread_of old s → state_of new.world s ≡ state_of old.world s
    → new.is_open ≡ old.is_open → ((i : ℕ) (rung_for : List Coming) → i < length (edges_of plan s) → InLink plan old s i rung_for → InLink plan new s i rung_for) → KeepsBell plan old s → KeepsBell plan new s
site_stays plan old new s thread state as_open links keeps = record {
  rung_for = keeps.rung_for;
  places = keeps.places;
  numbers = keeps.numbers ∙ ap rings_left (sym thread);
  links = λ i within. links i keeps.rung_for within (keeps.links i within);
  fits = subst (λ (t : Thread). Fits plan new.is_open s (state_of new.world s) keeps.rung_for t.doing) (sym thread)
      (subst (λ (b : Bool). Fits plan b s (state_of new.world s) keeps.rung_for (thread_of old s).doing) (sym as_open) (subst (λ (x : LocalState). Fits plan old.is_open s x keeps.rung_for (thread_of old s).doing) (sym state) keeps.fits));
}

-- one thread changes
module _ (old new : Run) (s : ℕ) (thread : Thread) (is : new.threads ≡ slice_set old.threads s thread) where
  pub thread_here : s < length old.threads → thread_of new s ≡ thread
  thread_here within = ap (λ (threads : List Thread). get_or threads s fresh_thread) is ∙ get_or-set_same old.threads s thread fresh_thread within

  pub thread_elsewhere : (t : ℕ) → t ≢ s → thread_of new t ≡ thread_of old t
  thread_elsewhere t other = ap (λ (threads : List Thread). get_or threads t fresh_thread) is ∙ get_or-set_other old.threads s t thread fresh_thread other

  pub as_many : length new.threads ≡ length old.threads
  as_many = ap (λ (threads : List Thread). length threads) is ∙ length-set old.threads s thread

  -- and it had not to ring, nor has to
  pub quiet_change : (before : Doing) → (thread_of old s).doing ≡ before → s < length old.threads → ((place : ℕ) (letters : List Letter) → IsUnrung before place letters → IsUnrung thread.doing place letters) → KeepsUnrung old new
  quiet_change before was within quiet t place letters unrung = elim (cases_eq t s) [
    | inl same ↦
        let here : IsUnrung (thread_of old s).doing place letters = subst (λ (x : ℕ). IsUnrung (thread_of old x).doing place letters) same unrung in
        subst (λ (x : ℕ). IsUnrung (thread_of new x).doing place letters) (sym same)
        (subst (λ (x : Thread). IsUnrung x.doing place letters) (sym (thread_here within)) (quiet place letters (subst (λ (d : Doing). IsUnrung d place letters) was here)))
    | inr other ↦ subst (λ (x : Thread). IsUnrung x.doing place letters) (sym (thread_elsewhere t other)) unrung
  ]

  -- a thread that was plain and is plain leaves all waking as it was
  pub waking_stays : (plan : SeenPlan) → (before : Doing) → (thread_of old s).doing ≡ before → IsPlain before → IsPlain thread.doing → s < length old.threads → AreWaking plan old → AreWaking plan new
  waking_stays plan before was plain plain_new within waking t i is_t of_t =
      let there : ℕ = neighbour_at plan t i in
      let place : ℕ = place_of plan (neighbour_at plan t i) (edge_at plan t i) in
      let plain_old : IsPlain (thread_of old s).doing = subst IsPlain (sym was) plain in
      let plain_here : IsPlain (thread_of new s).doing = subst (λ (x : Thread). IsPlain x.doing) (sym (thread_here within)) plain_new in
      let mine : IsWaking (thread_of new t).doing (thread_of old there).doing i place = elim (cases_eq t s) [
        | inl same ↦ mine_plain (thread_of old t).doing (thread_of new t).doing (thread_of old there).doing i place
            (subst (λ (x : ℕ). IsPlain (thread_of old x).doing) (sym same) plain_old) (subst (λ (x : ℕ). IsPlain (thread_of new x).doing) (sym same) plain_here) (waking t i is_t of_t)
        | inr other ↦ subst (λ (x : Thread). IsWaking x.doing (thread_of old there).doing i place) (sym (thread_elsewhere t other)) (waking t i is_t of_t)
      ] in
      elim (cases_eq there s) [
        | inl same ↦ other_plain (thread_of new t).doing (thread_of old there).doing (thread_of new there).doing i place
            (subst (λ (x : ℕ). IsPlain (thread_of old x).doing) (sym same) plain_old) (subst (λ (x : ℕ). IsPlain (thread_of new x).doing) (sym same) plain_here) mine
        | inr other ↦ subst (λ (x : Thread). IsWaking (thread_of new t).doing x.doing i place) (sym (thread_elsewhere there other)) mine
      ]

-- two threads change
module _ (old new : Run) (s there : ℕ) (here_now there_now : Thread) (is : new.threads ≡ slice_set (slice_set old.threads s here_now) there there_now) (differs : there ≢ s) where
  pub two_many : length new.threads ≡ length old.threads
  two_many = ap (λ (threads : List Thread). length threads) is ∙ length-set (slice_set old.threads s here_now) there there_now ∙ length-set old.threads s here_now

  pub two_there : there < length old.threads → thread_of new there ≡ there_now
  two_there within = ap (λ (threads : List Thread). get_or threads there fresh_thread) is ∙ get_or-set_same (slice_set old.threads s here_now) there there_now fresh_thread (omega (arith, within, length-set old.threads s here_now))

  pub two_here : s < length old.threads → thread_of new s ≡ here_now
  two_here within = ap (λ (threads : List Thread). get_or threads s fresh_thread) is ∙ get_or-set_other (slice_set old.threads s here_now) there s there_now fresh_thread (λ same. differs (sym same)) ∙ get_or-set_same old.threads s here_now fresh_thread within

  pub two_other : (t : ℕ) → t ≢ s → t ≢ there → thread_of new t ≡ thread_of old t
  two_other t not_s not_there = ap (λ (threads : List Thread). get_or threads t fresh_thread) is ∙ get_or-set_other (slice_set old.threads s here_now) there t there_now fresh_thread not_there ∙ get_or-set_other old.threads s t here_now fresh_thread not_s

-- all sites, where one is told apart
pub each_site : (plan : SeenPlan) (run : Run) (s : ℕ) → KeepsBell plan run s → ((t : ℕ) → t < site_count plan → t ≢ s → KeepsBell plan run t) → (t : ℕ) → t < site_count plan → KeepsBell plan run t
each_site plan run s here others t is_site = elim (cases_eq t s) [
  | inl same ↦ subst (KeepsBell plan run) (sym same) here
  | inr other ↦ others t is_site other
]

module _ (plan : SeenPlan) (is_plan : IsPlan plan) (old new : Run) (keeps : RunKeeps plan old) (s : ℕ) (is_site : s < site_count plan) where
  has_thread : s < length old.threads
  has_thread = omega (arith, keeps.threads)

  keeps_here : KeepsBell plan old s
  keeps_here = keeps.sites s is_site

  kept : WorldKeeps plan old.world
  kept = reached_kept plan keeps.events old.world is_plan keeps.reached

  has_state : s < length old.world
  has_state = omega (arith, kept.sites)

  -- ---- a ring is heard

  module _ (h : HearsRing plan s old new) where
    abbrev hearer : Thread
    hearer = record { doing = HasToTake h.i; bell = h.front ++ h.rest }

    heard_quiet : KeepsUnrung old new
    heard_quiet = quiet_change old new s hearer h.threads GoesOn h.goes_on has_thread (λ place letters none. none)

    heard_link : (t i : ℕ) (rung_for : List Coming) → i < length (edges_of plan t) → InLink plan old t i rung_for → InLink plan new t i rung_for
    heard_link t i rung_for within = link_stays plan old new t i rung_for (ap (λ (world : WorldState). queue_to plan world t i) h.world)
        (heard_quiet (neighbour_at plan t i) (place_of plan (neighbour_at plan t i) (edge_at plan t i)))

    -- the letter for which it was rung comes first now
    cut : IsCut keeps_here.rung_for h.front h.i h.rest
    cut = cut_at keeps_here.rung_for h.front h.i h.rest (keeps_here.numbers ∙ ap (λ (d : Doing). places_heard d ++ (thread_of old s).bell) h.goes_on ∙ h.bell)

    abbrev moved : List Coming
    moved = cut.one ∷ (cut.before ++ cut.behind)

    none_before_it : rings_for cut.one.place (places_of cut.before) ≡ 0
    none_before_it = ap (λ (numbers : List ℕ). rings_for cut.one.place numbers) cut.front_is ∙ ap (λ (k : ℕ). rings_for k h.front) cut.here ∙ h.first

    moved_letters : (i : ℕ) → letters_coming_at i keeps_here.rung_for ≡ letters_coming_at i moved
    moved_letters i = ap (letters_coming_at i) cut.is ∙ letters_moved i cut.before cut.one cut.behind none_before_it

    moved_link : (i : ℕ) → InLink plan new s i keeps_here.rung_for → InLink plan new s i moved
    moved_link i link = record { left = link.left; queue = link.queue ∙ ap (λ (letters : List Letter). letters ++ link.left) (moved_letters i); unrung = link.unrung }

    pub keeps_heard : RunKeeps plan new
    keeps_heard = record {
      events = keeps.events;
      reached = subst (Reaches plan keeps.events) (sym h.world) keeps.reached;
      threads = as_many old new s hearer h.threads ∙ keeps.threads;
      waking = waking_stays old new s hearer h.threads plan GoesOn h.goes_on tt tt has_thread keeps.waking;
      sites = each_site plan new s (record {
        rung_for = moved;
        places = places_moved (length (edges_of plan s)) cut.one cut.behind cut.before (subst (ArePlacesBelow (length (edges_of plan s))) cut.is keeps_here.places);
        numbers = numbers_moved h.front h.rest h.i cut.before cut.one cut.behind cut.front_is cut.here cut.rest_is ∙ ap rings_left (sym (thread_here old new s hearer h.threads has_thread));
        links = λ i within. moved_link i (heard_link s i keeps_here.rung_for within (keeps_here.links i within));
        fits = subst (λ (thread : Thread). Fits plan new.is_open s (state_of new.world s) moved thread.doing) (sym (thread_here old new s hearer h.threads has_thread)) tt;
      }) (λ t is_t other. site_stays plan old new t (thread_elsewhere old new s hearer h.threads t other) (ap (λ (world : WorldState). state_of world t) h.world) h.as_open (heard_link t) (keeps.sites t is_t));
    }

  -- ---- a site falls asleep

  module _ (h : FallsAsleep plan s old new) where
    abbrev sleeper : Thread
    sleeper = record { doing = Sleeps (wants_by_lists plan s (state_of old.world s)); bell = (thread_of old s).bell }

    asleep_quiet : KeepsUnrung old new
    asleep_quiet = quiet_change old new s sleeper h.threads GoesOn h.goes_on has_thread (λ place letters none. none)

    asleep_link : (t i : ℕ) (rung_for : List Coming) → i < length (edges_of plan t) → InLink plan old t i rung_for → InLink plan new t i rung_for
    asleep_link t i rung_for within = link_stays plan old new t i rung_for (ap (λ (world : WorldState). queue_to plan world t i) h.world)
        (asleep_quiet (neighbour_at plan t i) (place_of plan (neighbour_at plan t i) (edge_at plan t i)))

    same_rings : rings_left (thread_of old s) ≡ rings_left sleeper
    same_rings = ap (λ (d : Doing). places_heard d ++ (thread_of old s).bell) h.goes_on

    -- the rings that are left are for these letters
    left_are : places_of keeps_here.rung_for ≡ (thread_of old s).bell
    left_are = keeps_here.numbers ∙ same_rings

    -- each of them is a Request for which the site does not wait
    each_left : (front coming : List Coming) → keeps_here.rung_for ≡ front ++ coming → AreUnwantedRequests (wants_by_lists plan s (state_of old.world s)) coming
    each_left front [] is = tt
    each_left front (one ∷ coming) is =
        let state : LocalState = state_of old.world s in
        let within : one.place < length (edges_of plan s) = place_below (length (edges_of plan s)) one coming front (subst (ArePlacesBelow (length (edges_of plan s))) is keeps_here.places) in
        let counted : rings_for one.place (places_of (front ++ one ∷ coming)) ≡ rings_for one.place (thread_of old s).bell = ap (λ (c : List Coming). rings_for one.place (places_of c)) (sym is) ∙ ap (rings_for one.place) left_are in
        let w = only_one_first front one coming (omega (arith, counted, h.once one.place)) in
        let link : InLink plan old s one.place keeps_here.rung_for = keeps_here.links one.place within in
        let queue : queue_to plan old.world s one.place ≡ one.letter ∷ (letters_coming_at one.place coming ++ link.left) =
        link.queue ∙ ap (λ (c : List Coming). letters_coming_at one.place c ++ link.left) is ∙ ap (λ (letters : List Letter). letters ++ link.left) w.0 in
        let allowed : is_allowed plan s state one.place one.letter ≡ true = reached_allowed plan keeps.events old.world s one.place is_plan keeps.reached is_site within one.letter
        (first_is_next (put_to plan old.world s one.place) (length (traffic_at state one.place).taken) one.letter (letters_coming_at one.place coming ++ link.left) queue).0 in
        let can : can_put_off_by_lists plan s state one.place ≡ true = h.put_off one.place (omega (arith, counted, w.1)) in
        let keeps_state : KeepsStreams plan s state = kept.keeps s is_site in (
          (only_requests plan s state one.place can one.letter allowed, request_unwanted plan s state one.place can (omega (arith, within, keeps_state.every_place))),
          each_left (front ++ one ∷ []) coming (is ∙ sym (append_assoc front (one ∷ []) coming)),
        )

    asleep_fits : Fits plan new.is_open s (state_of new.world s) keeps_here.rung_for sleeper.doing
    asleep_fits = (
      subst (λ (b : Bool). MaySleepBefore b (next_event plan s (state_of new.world s))) (sym h.as_open) (subst (λ (world : WorldState). MaySleepBefore old.is_open (next_event plan s (state_of world s))) (sym h.world) h.idle),
      ap (λ (world : WorldState). has_finished plan s (state_of world s)) h.world ∙ h.unfinished,
      subst (λ (world : WorldState). ComeUnwanted (wants_by_lists plan s (state_of world s)) keeps_here.rung_for (wants_by_lists plan s (state_of old.world s))) (sym h.world)
          (requests_come (wants_by_lists plan s (state_of old.world s)) keeps_here.rung_for (each_left [] keeps_here.rung_for refl)),
    )

    pub keeps_asleep : RunKeeps plan new
    keeps_asleep = record {
      events = keeps.events;
      reached = subst (Reaches plan keeps.events) (sym h.world) keeps.reached;
      threads = as_many old new s sleeper h.threads ∙ keeps.threads;
      waking = waking_stays old new s sleeper h.threads plan GoesOn h.goes_on tt tt has_thread keeps.waking;
      sites = each_site plan new s (record {
        rung_for = keeps_here.rung_for;
        places = keeps_here.places;
        numbers = left_are ∙ ap rings_left (sym (thread_here old new s sleeper h.threads has_thread));
        links = λ i within. asleep_link s i keeps_here.rung_for within (keeps_here.links i within);
        fits = subst (λ (thread : Thread). Fits plan new.is_open s (state_of new.world s) keeps_here.rung_for thread.doing) (sym (thread_here old new s sleeper h.threads has_thread)) asleep_fits;
      }) (λ t is_t other. site_stays plan old new t (thread_elsewhere old new s sleeper h.threads t other) (ap (λ (world : WorldState). state_of world t) h.world) h.as_open (asleep_link t) (keeps.sites t is_t));
    }

  -- ---- a site that sleeps is called

  module _ (h : IsCalled plan s old new) where
    abbrev awake : Thread
    awake = record { doing = GoesOn; bell = (thread_of old s).bell }

    called_quiet : KeepsUnrung old new
    called_quiet = quiet_change old new s awake h.threads (Sleeps h.wants) h.sleeps has_thread (λ place letters none. none)

    called_link : (t i : ℕ) (rung_for : List Coming) → i < length (edges_of plan t) → InLink plan old t i rung_for → InLink plan new t i rung_for
    called_link t i rung_for within = link_stays plan old new t i rung_for (ap (λ (world : WorldState). queue_to plan world t i) h.world)
        (called_quiet (neighbour_at plan t i) (place_of plan (neighbour_at plan t i) (edge_at plan t i)))

    pub keeps_called : RunKeeps plan new
    keeps_called = record {
      events = keeps.events;
      reached = subst (Reaches plan keeps.events) (sym h.world) keeps.reached;
      threads = as_many old new s awake h.threads ∙ keeps.threads;
      waking = waking_stays old new s awake h.threads plan (Sleeps h.wants) h.sleeps tt tt has_thread keeps.waking;
      sites = each_site plan new s (record {
        rung_for = keeps_here.rung_for;
        places = keeps_here.places;
        numbers = keeps_here.numbers ∙ ap (λ (d : Doing). places_heard d ++ (thread_of old s).bell) h.sleeps ∙ ap rings_left (sym (thread_here old new s awake h.threads has_thread));
        links = λ i within. called_link s i keeps_here.rung_for within (keeps_here.links i within);
        fits = subst (λ (thread : Thread). Fits plan new.is_open s (state_of new.world s) keeps_here.rung_for thread.doing) (sym (thread_here old new s awake h.threads has_thread)) tt;
      }) (λ t is_t other. site_stays plan old new t (thread_elsewhere old new s awake h.threads t other) (ap (λ (world : WorldState). state_of world t) h.world) h.as_open (called_link t) (keeps.sites t is_t));
    }

  -- ---- a letter is taken

  module _ (h : TakesLetter plan s old new) where
    abbrev taker : Thread
    taker = record { doing = GoesOn; bell = (thread_of old s).bell }

    taken_quiet : KeepsUnrung old new
    taken_quiet = quiet_change old new s taker h.threads (HasToTake h.i) h.takes has_thread (λ place letters none. none)

    -- the first ring is for the letter
    first_ring : map (λ (one : Coming). one.place) keeps_here.rung_for ≡ h.i ∷ (thread_of old s).bell
    first_ring = keeps_here.numbers ∙ ap (λ (d : Doing). places_heard d ++ (thread_of old s).bell) h.takes

    module _ (first : Coming) (coming : List Coming) (is : keeps_here.rung_for ≡ first ∷ coming) where
      here : first.place ≡ h.i
      here = let e : first.place ∷ map (λ (one : Coming). one.place) coming ≡ h.i ∷ (thread_of old s).bell = sym (ap (map (λ (one : Coming). one.place)) is) ∙ first_ring in cc

      others : map (λ (one : Coming). one.place) coming ≡ (thread_of old s).bell
      others = let e : first.place ∷ map (λ (one : Coming). one.place) coming ≡ h.i ∷ (thread_of old s).bell = sym (ap (map (λ (one : Coming). one.place)) is) ∙ first_ring in cc

      places_are : ArePlacesBelow (length (edges_of plan s)) (first ∷ coming)
      places_are = subst (ArePlacesBelow (length (edges_of plan s))) is keeps_here.places

      within_here : h.i < length (edges_of plan s)
      within_here = subst (λ (k : ℕ). k < length (edges_of plan s)) here places_are.0

      abbrev link : InLink plan old s h.i keeps_here.rung_for
      link = keeps_here.links h.i within_here

      in_link : queue_to plan old.world s h.i ≡ first.letter ∷ (letters_coming_at h.i coming ++ link.left)
      in_link = link.queue ∙ ap (λ (c : List Coming). letters_coming_at h.i c ++ link.left) is
          ∙ ap (λ (letters : List Letter). letters ++ link.left) (subst (λ (k : ℕ). letters_coming_at k (first ∷ coming) ≡ first.letter ∷ letters_coming_at k coming) here (first_at first coming))

      taken : IsTaken plan old.world new.world s h.i first.letter (letters_coming_at h.i coming ++ link.left)
      taken = takes_first plan is_plan old.world kept s h.i is_site within_here first.letter (letters_coming_at h.i coming ++ link.left) in_link new.world h.world

      links_here : (j : ℕ) → j < length (edges_of plan s) → InLink plan new s j coming
      links_here j within = elim (cases_eq j h.i) [
        | inl same ↦ subst (λ (k : ℕ). InLink plan new s k coming) (sym same) (record {
          left = link.left;
          queue = taken.queue;
          unrung = taken_quiet (neighbour_at plan s h.i) (place_of plan (neighbour_at plan s h.i) (edge_at plan s h.i)) link.left link.unrung;
        })
        | inr other ↦
            let old_link : InLink plan old s j keeps_here.rung_for = keeps_here.links j within in
            record {
              left = old_link.left;
              queue = taken.queues j within other ∙ old_link.queue ∙ ap (λ (c : List Coming). letters_coming_at j c ++ old_link.left) is
                  ∙ ap (λ (letters : List Letter). letters ++ old_link.left) (first_elsewhere j first coming (λ same. other (same ∙ here)));
              unrung = taken_quiet (neighbour_at plan s j) (place_of plan (neighbour_at plan s j) (edge_at plan s j)) old_link.left old_link.unrung;
            }
      ]

      keeps_after : RunKeeps plan new
      keeps_after = record {
        events = keeps.events ++ take_at s h.i ∷ [];
        reached = events_then plan (start plan) old.world new.world keeps.events (take_at s h.i) keeps.reached h.world;
        threads = as_many old new s taker h.threads ∙ keeps.threads;
        waking = waking_stays old new s taker h.threads plan (HasToTake h.i) h.takes tt tt has_thread keeps.waking;
        sites = each_site plan new s (record {
          rung_for = coming;
          places = places_are.1;
          numbers = others ∙ ap rings_left (sym (thread_here old new s taker h.threads has_thread));
          links = links_here;
          fits = subst (λ (thread : Thread). Fits plan new.is_open s (state_of new.world s) coming thread.doing) (sym (thread_here old new s taker h.threads has_thread)) tt;
        }) (λ t is_t other. site_stays plan old new t (thread_elsewhere old new s taker h.threads t other) (taken.others t other) h.as_open
            (λ i rung_for within. link_stays plan old new t i rung_for (taken.queues_away t i other) (taken_quiet (neighbour_at plan t i) (place_of plan (neighbour_at plan t i) (edge_at plan t i)))) (keeps.sites t is_t));
      }

    keeps_with : (coming : List Coming) → keeps_here.rung_for ≡ coming → RunKeeps plan new
    keeps_with [] is = absurd (let e : [] ≡ h.i ∷ (thread_of old s).bell = sym (ap (map (λ (one : Coming). one.place)) is) ∙ first_ring in cc)
    keeps_with (first ∷ coming) is = keeps_after first coming is

    pub keeps_taken : RunKeeps plan new
    keeps_taken = keeps_with keeps_here.rung_for refl
