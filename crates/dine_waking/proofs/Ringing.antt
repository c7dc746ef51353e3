-- What a run keeps when a site rings its neighbour's bell.
use Rattle.std.proofs.Common.{◌≡◌, ◌≢◌, ℕ, ◌<◌, ◌||◌, Bool, true, false, List, [], ◌∷◌, ◌++◌, length, get_or, slice_set, refl, sym, ◌∙◌, ap, subst, inl, inr, arith, append-nil, append_assoc, if◌then◌else◌}
use Rattle.std.proofs.lemmas.Bool.{cases_eq}
use Rattle.std.proofs.lemmas.List.{get_or-set_same, get_or-set_other, length-set}
use Rattle.dine_graph.specs.Plan.{SeenPlan, IsPlan, site_count, edges_of}
use Rattle.dine_rules.specs.declared.letters.LetterKind.{LetterKind}
use Rattle.dine_rules.specs.declared.letters.Letter.{Letter}
use Rattle.dine_rules.specs.Letters.{kind_of}
use Rattle.dine_rules.specs.Links.{queue_to}
use Rattle.dine_rules.specs.Local.{LocalState, edge_at, neighbour_at}
use Rattle.dine_rules.specs.Wants.{SeenWants, is_wanted, still_wanted}
use Rattle.dine_rules.specs.World.{WorldState, place_of, state_of}
use Rattle.dine_rules.proofs.shared.links.Across.{IsAcross, across, place_of-edge_at}
use Rattle.dine_rules.proofs.shared.links.WorldStreams.{neighbour_differs}
use Rattle.dine_rules.proofs.shared.one_place.Placed.{placed}
use Rattle.dine_site.specs.CoreWants.{wants_by_lists}
use Rattle.dine_waking.specs.Sleeping.{Coming, letters_coming_at}
use Rattle.dine_waking.specs.Runs.{Doing, GoesOn, HasToRing, RingsBell, Run, Sleeps, HasToTake, Thread, HasToWake, IsToBeWoken, after_ringing, doing_rung, fresh_thread, is_woken_by, places_heard, rings_left, thread_after_ring, thread_of}
use Rattle.dine_waking.proofs.Letters.{come_more, letter_elsewhere, letter_here, numbers_more, places_more}
use Rattle.dine_waking.proofs.Bells.{Fits, InLink, IsUnrung, KeepsBell, RunKeeps, link_stays, site_stays}

-- ---- the thread that is rung

-- whether it wakes or sleeps on, it has heard what it had, and has to ring no more than before
heard_woken : (b : Bool) (i : ℕ) (wants : SeenWants) → places_heard (if b then IsToBeWoken i else Sleeps wants) ≡ []
heard_woken true i wants = refl
heard_woken false i wants = refl

pub heard_rung : (anyway : Bool) (i : ℕ) (kind : LetterKind) (doing : Doing) → places_heard (doing_rung anyway i kind doing) ≡ places_heard doing
heard_rung anyway i kind GoesOn = refl
heard_rung anyway i kind (HasToRing j k) = refl
heard_rung anyway i kind (HasToWake j) = refl
heard_rung anyway i kind (HasToTake j) = refl
heard_rung anyway i kind (IsToBeWoken j) = refl
heard_rung anyway i kind (Sleeps wants) = heard_woken (is_wanted wants i kind || anyway) i (still_wanted wants kind)

unrung_woken : (b : Bool) (i : ℕ) (wants : SeenWants) (place : ℕ) (letters : List Letter) → letters ≡ [] → IsUnrung (if b then IsToBeWoken i else Sleeps wants) place letters
unrung_woken true i wants place letters none = none
unrung_woken false i wants place letters none = none

unrung_rung : (anyway : Bool) (i : ℕ) (kind : LetterKind) (doing : Doing) (place : ℕ) (letters : List Letter) → IsUnrung doing place letters → IsUnrung (doing_rung anyway i kind doing) place letters
unrung_rung anyway i kind GoesOn place letters unrung = unrung
unrung_rung anyway i kind (HasToRing j k) place letters unrung = unrung
unrung_rung anyway i kind (HasToWake j) place letters unrung = unrung
unrung_rung anyway i kind (HasToTake j) place letters unrung = unrung
unrung_rung anyway i kind (IsToBeWoken j) place letters unrung = unrung
unrung_rung anyway i kind (Sleeps wants) place letters unrung = unrung_woken (is_wanted wants i kind || anyway) i (still_wanted wants kind) place letters unrung

-- if it sleeps on, the letter was unwanted too
module _ (plan : SeenPlan) (is_open : Bool) (s : ℕ) (state : LocalState) (rung_for : List Coming) (one : Coming) (within : one.place < length (edges_of plan s)) where
  fits_woken : (wanted anyway : Bool) (last : SeenWants) → Fits plan is_open s state rung_for (Sleeps last) → is_wanted last one.place (kind_of one.letter) ≡ wanted
      → Fits plan is_open s state (rung_for ++ one ∷ []) (if wanted || anyway then IsToBeWoken one.place else Sleeps (still_wanted last (kind_of one.letter)))
  fits_woken true anyway last fits is = within
  fits_woken false true last fits is = within
  fits_woken false false last fits is = (fits.0, fits.1, come_more one (wants_by_lists plan s state) rung_for last fits.2 is)

  fits_rung : (anyway : Bool) (doing : Doing) → Fits plan is_open s state rung_for doing → Fits plan is_open s state (rung_for ++ one ∷ []) (doing_rung anyway one.place (kind_of one.letter) doing)
  fits_rung anyway GoesOn fits = tt
  fits_rung anyway (HasToRing j k) fits = fits
  fits_rung anyway (HasToWake j) fits = fits
  fits_rung anyway (HasToTake j) fits = tt
  fits_rung anyway (IsToBeWoken j) fits = fits
  fits_rung anyway (Sleeps last) fits = fits_woken (is_wanted last one.place (kind_of one.letter)) anyway last fits refl

-- ---- the thread that rings

pub heard_ringer : (b : Bool) (i : ℕ) → places_heard (after_ringing b i) ≡ []
heard_ringer true i = refl
heard_ringer false i = refl

unrung_ringer : (b : Bool) (i place : ℕ) (letters : List Letter) → letters ≡ [] → IsUnrung (after_ringing b i) place letters
unrung_ringer true i place letters none = none
unrung_ringer false i place letters none = none

fits_ringer : (plan : SeenPlan) (is_open : Bool) (s : ℕ) (state : LocalState) (rung_for : List Coming) (b : Bool) (i : ℕ) → i < length (edges_of plan s) → Fits plan is_open s state rung_for (after_ringing b i)
fits_ringer plan is_open s state rung_for true i within = within
fits_ringer plan is_open s state rung_for false i within = tt

module _ (plan : SeenPlan) (is_plan : IsPlan plan) (old new : Run) (keeps : RunKeeps plan old) (s : ℕ) (is_site : s < site_count plan) (r : RingsBell plan s old new) where
  keeps_here : KeepsBell plan old s
  keeps_here = keeps.sites s is_site

  within : r.i < length (edges_of plan s)
  within = subst (λ (d : Doing). Fits plan old.is_open s (state_of old.world s) keeps_here.rung_for d) r.rings keeps_here.fits

  abbrev there : ℕ
  there = neighbour_at plan s r.i

  abbrev number : ℕ
  number = place_of plan (neighbour_at plan s r.i) (edge_at plan s r.i)

  over : IsAcross plan s r.i there number
  over = across plan s r.i is_plan within

  differs : there ≢ s
  differs = neighbour_differs plan s r.i (placed plan s r.i is_plan within)

  -- whether it has to wake the neighbour
  abbrev woke : Bool
  woke = is_woken_by r.anyway number r.kind (thread_of old there).doing

  abbrev ringer : Thread
  ringer = record { doing = after_ringing woke r.i; bell = (thread_of old s).bell }

  abbrev sleeper : Thread
  sleeper = thread_after_ring r.anyway number r.kind (thread_of old there)

  abbrev between : List Thread
  between = slice_set old.threads s ringer

  has_ringer : s < length old.threads
  has_ringer = omega (arith, keeps.threads)

  has_sleeper : there < length between
  has_sleeper = omega (arith, keeps.threads, over.is_site, length-set old.threads s ringer)

  -- ---- the threads

  thread_there : thread_of new there ≡ sleeper
  thread_there = ap (λ (threads : List Thread). get_or threads there fresh_thread) r.threads ∙ get_or-set_same between there sleeper fresh_thread has_sleeper

  thread_other : (t : ℕ) → t ≢ s → t ≢ there → thread_of new t ≡ thread_of old t
  thread_other t not_s not_there = ap (λ (threads : List Thread). get_or threads t fresh_thread) r.threads ∙ get_or-set_other between there t sleeper fresh_thread not_there ∙ get_or-set_other old.threads s t ringer fresh_thread not_s

  thread_ringer : thread_of new s ≡ ringer
  thread_ringer = ap (λ (threads : List Thread). get_or threads s fresh_thread) r.threads ∙ get_or-set_other between there s sleeper fresh_thread (λ same. differs (sym same)) ∙ get_or-set_same old.threads s ringer fresh_thread has_ringer

  -- ---- what is left to ring for: as before, but for the letter that was rung for

  unrung_kept : (x place : ℕ) (letters : List Letter) → (x ≡ s → r.i ≡ place → ⊥) → IsUnrung (thread_of old x).doing place letters → IsUnrung (thread_of new x).doing place letters
  unrung_kept x place letters other unrung = elim (cases_eq x s) [
    | inl same ↦
        let rings : IsUnrung (HasToRing r.i r.kind) place letters = subst (λ (d : Doing). IsUnrung d place letters) r.rings (subst (λ (y : ℕ). IsUnrung (thread_of old y).doing place letters) same unrung) in
        let none : letters ≡ [] = elim rings [ inl w ↦ absurd (other same w.0) | inr w ↦ w.1 ] in
        subst (λ (y : ℕ). IsUnrung (thread_of new y).doing place letters) (sym same) (subst (λ (thread : Thread). IsUnrung thread.doing place letters) (sym thread_ringer) (unrung_ringer woke r.i place letters none))
    | inr not_s ↦ elim (cases_eq x there) [
      | inl same ↦ subst (λ (y : ℕ). IsUnrung (thread_of new y).doing place letters) (sym same) (subst (λ (thread : Thread). IsUnrung thread.doing place letters) (sym thread_there)
          (unrung_rung r.anyway number r.kind (thread_of old there).doing place letters (subst (λ (y : ℕ). IsUnrung (thread_of old y).doing place letters) same unrung)))
      | inr not_there ↦ subst (λ (thread : Thread). IsUnrung thread.doing place letters) (sym (thread_other x not_s not_there)) unrung
    ]
  ]

  link_kept : (t j : ℕ) (rung_for : List Coming) → (neighbour_at plan t j ≡ s → r.i ≡ place_of plan (neighbour_at plan t j) (edge_at plan t j) → ⊥) → InLink plan old t j rung_for → InLink plan new t j rung_for
  link_kept t j rung_for other = link_stays plan old new t j rung_for (ap (λ (world : WorldState). queue_to plan world t j) r.world)
      (λ letters. unrung_kept (neighbour_at plan t j) (place_of plan (neighbour_at plan t j) (edge_at plan t j)) letters other)

  -- ---- the site that rings

  ringer_keeps : KeepsBell plan new s
  ringer_keeps = record {
    rung_for = keeps_here.rung_for;
    places = keeps_here.places;
    numbers = keeps_here.numbers ∙ ap (λ (d : Doing). places_heard d ++ (thread_of old s).bell) r.rings ∙ ap (λ (numbers : List ℕ). numbers ++ (thread_of old s).bell) (sym (heard_ringer woke r.i)) ∙ ap rings_left (sym thread_ringer);
    links = λ j of_s. link_kept s j keeps_here.rung_for (λ same at. neighbour_differs plan s j (placed plan s j is_plan of_s) same) (keeps_here.links j of_s);
    fits = subst (λ (thread : Thread). Fits plan new.is_open s (state_of new.world s) keeps_here.rung_for thread.doing) (sym thread_ringer) (fits_ringer plan new.is_open s (state_of new.world s) keeps_here.rung_for woke r.i within);
  }

  -- ---- a third site

  third_keeps : (t : ℕ) → t < site_count plan → t ≢ s → t ≢ there → KeepsBell plan new t
  third_keeps t is_t not_s not_there = site_stays plan old new t (thread_other t not_s not_there) (ap (λ (world : WorldState). state_of world t) r.world) r.as_open
      (λ j rung_for of_t. link_kept t j rung_for (λ from at. not_there (
      sym (across plan t j is_plan of_t).back ∙ ap (λ (x : ℕ). neighbour_at plan x (place_of plan (neighbour_at plan t j) (edge_at plan t j))) from ∙ ap (neighbour_at plan s) (sym at))))
      (keeps.sites t is_t)

  -- ---- the site that is rung

  keeps_there : KeepsBell plan old there
  keeps_there = keeps.sites there over.is_site

  -- its link from the ringer has one letter more than was rung for
  link_there : InLink plan old there number keeps_there.rung_for
  link_there = keeps_there.links number over.within

  place_here : place_of plan (neighbour_at plan there number) (edge_at plan there number) ≡ r.i
  place_here = ap (λ (x : ℕ). place_of plan x (edge_at plan there number)) over.back ∙ ap (place_of plan s) over.same_edge ∙ place_of-edge_at plan s r.i within

  one_left : (l : Letter) × (link_there.left ≡ l ∷ []) × (kind_of l ≡ r.kind)
  one_left = elim (subst (λ (p : ℕ). IsUnrung (HasToRing r.i r.kind) p link_there.left) place_here
      (subst (λ (d : Doing). IsUnrung d (place_of plan (neighbour_at plan there number) (edge_at plan there number)) link_there.left) r.rings
      (subst (λ (x : ℕ). IsUnrung (thread_of old x).doing (place_of plan (neighbour_at plan there number) (edge_at plan there number)) link_there.left) over.back link_there.unrung))) [
        | inl w ↦ (w.1, w.2, w.3)
        | inr w ↦ absurd (w.0 refl)
      ]

  -- the letter that it rang for is the last one in the link, and it is not at ringing any more
  pub rang_for_last : (front : List Letter) × (l : Letter) × (queue_to plan new.world there number ≡ front ++ l ∷ []) × (kind_of l ≡ r.kind)
  rang_for_last = (
    letters_coming_at number keeps_there.rung_for,
    one_left.0,
    ap (λ (world : WorldState). queue_to plan world there number) r.world ∙ link_there.queue ∙ ap (λ (letters : List Letter). letters_coming_at number keeps_there.rung_for ++ letters) one_left.1,
    one_left.2,
  )

  pub rang : (thread_of new (neighbour_at plan there number)).doing ≡ after_ringing woke r.i
  rang = ap (λ (x : ℕ). (thread_of new x).doing) over.back ∙ ap (λ (thread : Thread). thread.doing) thread_ringer

  abbrev one : Coming
  one = record { place = number; letter = one_left.0 }

  links_there : (j : ℕ) → j < length (edges_of plan there) → InLink plan new there j (keeps_there.rung_for ++ one ∷ [])
  links_there j of_there = elim (cases_eq number j) [
    | inl same ↦ subst (λ (k : ℕ). InLink plan new there k (keeps_there.rung_for ++ one ∷ [])) same (record {
      left = [];
      queue = ap (λ (world : WorldState). queue_to plan world there number) r.world ∙ link_there.queue ∙ ap (λ (letters : List Letter). letters_coming_at number keeps_there.rung_for ++ letters) one_left.1
          ∙ sym (letter_here one number keeps_there.rung_for refl) ∙ sym (append-nil (letters_coming_at number (keeps_there.rung_for ++ one ∷ [])));
      unrung = subst (λ (x : ℕ). IsUnrung (thread_of new x).doing (place_of plan (neighbour_at plan there number) (edge_at plan there number)) []) (sym over.back)
          (subst (λ (thread : Thread). IsUnrung thread.doing (place_of plan (neighbour_at plan there number) (edge_at plan there number)) []) (sym thread_ringer)
          (unrung_ringer woke r.i (place_of plan (neighbour_at plan there number) (edge_at plan there number)) [] refl));
    })
    | inr other ↦
        let was : InLink plan old there j keeps_there.rung_for = keeps_there.links j of_there in
        let is : InLink plan new there j keeps_there.rung_for = link_kept there j keeps_there.rung_for (λ from at.
        let same_edge : edge_at plan s r.i ≡ edge_at plan there j = ap (edge_at plan s) at ∙ ap (λ (x : ℕ). edge_at plan x (place_of plan (neighbour_at plan there j) (edge_at plan there j))) (sym from) ∙ (across plan there j is_plan of_there).same_edge in
        other (ap (place_of plan there) same_edge ∙ place_of-edge_at plan there j of_there)) was in
        record {
          left = is.left;
          queue = is.queue ∙ ap (λ (letters : List Letter). letters ++ is.left) (sym (append-nil (letters_coming_at j keeps_there.rung_for)) ∙ sym (letter_elsewhere one j keeps_there.rung_for other));
          unrung = is.unrung;
        }
  ]

  rings_there : rings_left (thread_of old there) ++ number ∷ [] ≡ rings_left sleeper
  rings_there = append_assoc (places_heard (thread_of old there).doing) (thread_of old there).bell (number ∷ [])
      ∙ ap (λ (numbers : List ℕ). numbers ++ ((thread_of old there).bell ++ number ∷ [])) (sym (heard_rung r.anyway number r.kind (thread_of old there).doing))

  fits_there : Fits plan new.is_open there (state_of new.world there) (keeps_there.rung_for ++ one ∷ []) sleeper.doing
  fits_there = subst (λ (b : Bool). Fits plan b there (state_of new.world there) (keeps_there.rung_for ++ one ∷ []) sleeper.doing) (sym r.as_open)
      (subst (λ (world : WorldState). Fits plan old.is_open there (state_of world there) (keeps_there.rung_for ++ one ∷ []) sleeper.doing) (sym r.world)
      (subst (λ (kind : LetterKind). Fits plan old.is_open there (state_of old.world there) (keeps_there.rung_for ++ one ∷ []) (doing_rung r.anyway number kind (thread_of old there).doing)) one_left.2
      (fits_rung plan old.is_open there (state_of old.world there) keeps_there.rung_for one over.within r.anyway (thread_of old there).doing keeps_there.fits)))

  sleeper_keeps : KeepsBell plan new there
  sleeper_keeps = record {
    rung_for = keeps_there.rung_for ++ one ∷ [];
    places = places_more one (length (edges_of plan there)) keeps_there.rung_for over.within keeps_there.places;
    numbers = numbers_more one keeps_there.rung_for ∙ ap (λ (numbers : List ℕ). numbers ++ number ∷ []) keeps_there.numbers ∙ rings_there ∙ ap rings_left (sym thread_there);
    links = links_there;
    fits = subst (λ (thread : Thread). Fits plan new.is_open there (state_of new.world there) (keeps_there.rung_for ++ one ∷ []) thread.doing) (sym thread_there) fits_there;
  }

  pub sites_rung : (t : ℕ) → t < site_count plan → KeepsBell plan new t
  sites_rung t is_t = elim (cases_eq t s) [
    | inl same ↦ subst (KeepsBell plan new) (sym same) ringer_keeps
    | inr not_s ↦ elim (cases_eq t there) [
      | inl same ↦ subst (KeepsBell plan new) (sym same) sleeper_keeps
      | inr not_there ↦ third_keeps t is_t not_s not_there
    ]
  ]
