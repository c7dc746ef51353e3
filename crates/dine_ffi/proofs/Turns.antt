-- A turn of a site does the first event that the site may do by itself, so it refuses only if it has no memory for the
-- letter.
use Rattle.std.proofs.Common.{◌≡◌, ◌≢◌, ℕ, ℤ, ◌<◌, Bool, true, false, List, Option, Some, None, cond, length, nat_le, nat_lt, negsuc, pos, refl, sym, ◌∙◌, ap, subst}
use Rattle.std.proofs.lemmas.Bool.{false≢true, ltb-true, true≢false}
use Rattle.std.proofs.lemmas.Option.{same_Some}
use Rattle.dine_rules.specs.declared.events.EventKind.{EventKind}
use Rattle.dine_rules.specs.declared.events.EventKind.TheVariants as kind
use Rattle.dine_rules.specs.Local.{LocalState, is_eating}
use Rattle.dine_rules.specs.Steps as step
use Rattle.dine_rules.specs.Steps.{Step, may}
use Rattle.dine_site.specs.NextEvent.{may_by_itself, next_event, next_of, own_kinds}
use Rattle.dine_site.specs.Standing.{ForEachState, all_places}
use Rattle.dine_rules.proofs.shared.lists.Finds.{found_passes}
use Rattle.dine_ffi.specs.Answers.{IsDoneOr, IsRefused, no_such, not_now, eating, small}
use Rattle.dine_ffi.specs.Events.{kind_numbered, seen_event}
use Rattle.dine_ffi.specs.OwnSites.{ActsAs, ActsOrRefuses, PutRefuses, SeenOwnSite, StandsFor, TurnsOrRefuses, idle_status}
use Rattle.dine_ffi.specs.declared.event.DineEvent.{DineEvent}

-- the number of the kind of an event names the kind
pub numbered : (s : ℕ) (k : EventKind) → kind_numbered (seen_event s k).kind (seen_event s k).place ≡ Some k
numbered s (kind.Take i) = refl
numbered s (kind.Give i) = refl
numbered s kind.End = refl
numbered s kind.Begin = refl
numbered s kind.Quit = refl
numbered s kind.Hungry = refl
numbered s (kind.Ask i) = refl
numbered s (kind.Done i) = refl
numbered s (kind.Close i) = refl

pub of_site : (s : ℕ) (k : EventKind) → (seen_event s k).site ≡ s
of_site s (kind.Take i) = refl
of_site s (kind.Give i) = refl
of_site s kind.End = refl
of_site s kind.Begin = refl
of_site s kind.Quit = refl
of_site s kind.Hungry = refl
of_site s (kind.Ask i) = refl
of_site s (kind.Done i) = refl
of_site s (kind.Close i) = refl

-- a call for an event of the site is as one for its kind
pub acted_as : (k : EventKind) (event : DineEvent) (s : ℕ) (out out_new : List ℕ) (r : ℤ) (old new : SeenOwnSite) → event ≡ seen_event s k → s ≡ old.core.site
    → ActsOrRefuses event out out_new r old new → ActsAs (Some k) out out_new r old new
acted_as k event s out out_new r old new is same acts =
    let own : event.site ≡ old.core.site = ap (λ (e : DineEvent). e.site) is ∙ of_site s k ∙ same in
    subst (λ (o : Option EventKind). ActsAs o out out_new r old new) (numbered s k)
    (subst (λ (e : DineEvent). ActsAs (kind_numbered e.kind e.place) out out_new r old new) is (acts.0 own))

-- a call to put a letter that the rules allow refuses only for want of memory for it
put_small : (i : ℕ) (step : Step) (out : List ℕ) (r : ℤ) (own : SeenOwnSite) (state : LocalState) → StandsFor state own
    → may own.plan own.core.site state step ≡ true → PutRefuses i step out r own → (r ≡ small) × (length out < 29)
put_small i step out r own state stands allowed is = by (is_eating own.core.phase) (nat_lt (length out) 29) (nat_le (length own.core.places) i) refl (is.status state stands)
  where
    never : r ≢ small → ⊥
    never other = false≢true (sym (is.may_not other state stands) ∙ allowed)

    by : (eats few over : Bool) → nat_lt (length out) 29 ≡ few → r ≡ cond eats eating (cond few small (cond over no_such not_now)) → (r ≡ small) × (length out < 29)
    by true few over few_is status = absurd (never (λ is_small. let e : negsuc 6 ≡ negsuc 5 = sym status ∙ is_small in cc))
    by false true over few_is status = (status, ltb-true (length out) 29 few_is)
    by false false true few_is status = absurd (never (λ is_small. let e : negsuc 3 ≡ negsuc 5 = sym status ∙ is_small in cc))
    by false false false few_is status = absurd (never (λ is_small. let e : negsuc 2 ≡ negsuc 5 = sym status ∙ is_small in cc))

-- the same of a call for an event that the site may do by itself
refused_small : (k : EventKind) (out out_new : List ℕ) (n : ℕ) (old new : SeenOwnSite) (state : LocalState) → StandsFor state old
    → may_by_itself old.plan old.core.site state k ≡ true → ActsAs (Some k) out out_new (negsuc n) old new → (negsuc n ≡ small) × (length out < 29)
refused_small (kind.Take i) out out_new n old new state stands allowed is = absurd (false≢true allowed)
refused_small (kind.Give i) out out_new n old new state stands allowed is = put_small i (step.Give i) out (negsuc n) old state stands allowed is.2
refused_small kind.End out out_new n old new state stands allowed is = absurd (false≢true (sym (is.0.1 state stands) ∙ allowed))
refused_small kind.Begin out out_new n old new state stands allowed is = absurd (false≢true (sym (is.0.1 state stands) ∙ allowed))
refused_small kind.Quit out out_new n old new state stands allowed is = absurd (false≢true (sym (is.0.1 state stands) ∙ allowed))
refused_small kind.Hungry out out_new n old new state stands allowed is = absurd (false≢true (sym (is.0.1 state stands) ∙ allowed))
refused_small (kind.Ask i) out out_new n old new state stands allowed is = put_small i (step.Ask i) out (negsuc n) old state stands allowed is.2
refused_small (kind.Done i) out out_new n old new state stands allowed is = put_small i (step.Done i) out (negsuc n) old state stands allowed is.2
refused_small (kind.Close i) out out_new n old new state stands allowed is = put_small i (step.Close i) out (negsuc n) old state stands allowed is.2

-- a turn that finds an event
pub turned : (k : EventKind) (event event_new : DineEvent) (out out_new : List ℕ) (r : ℤ) (old new : SeenOwnSite) → is_eating old.core.phase ≡ false → next_of old.core ≡ Some k
    → ForEachState old.core (λ plan state. Some k ≡ next_event plan old.core.site state) → ActsAs (Some k) out out_new r old new
    → IsDoneOr r (event_new ≡ seen_event old.core.site k) (event_new ≡ event) → TurnsOrRefuses event event_new out out_new r old new
turned k event event_new out out_new r old new awake found by_lists acts written = record {
  eats = λ eats. absurd (true≢false (sym eats ∙ awake));
  idle = λ _ none. absurd (let e : None ≡ Some k = sym none ∙ found in cc);
  acts = λ _ next is. subst (λ (x : EventKind). ActsAs (Some x) out out_new r old new × IsDoneOr r (event_new ≡ seen_event old.core.site x) (event_new ≡ event))
      (same_Some k next (sym found ∙ is)) (acts, written);
  few_bytes = λ _ next is refused state stands. few r refused acts state stands;
}
  where
    few : (r : ℤ) → IsRefused r → ActsAs (Some k) out out_new r old new → (state : LocalState) → StandsFor state old → (r ≡ small) × (length out < 29)
    few (pos n) refused is state stands = absurd refused
    few (negsuc n) refused is state stands = refused_small k out out_new n old new state stands
        (found_passes (may_by_itself old.plan old.core.site state) (own_kinds (all_places state)) k (sym (by_lists old.plan state stands.keeps stands.core))) is

-- a turn that finds no event
pub idle_turn : (event : DineEvent) (out : List ℕ) (r : ℤ) (own : SeenOwnSite) → is_eating own.core.phase ≡ false → None ≡ next_of own.core → r ≡ idle_status own.core
    → TurnsOrRefuses event event out out r own own
idle_turn event out r own awake none status = record {
  eats = λ eats. absurd (true≢false (sym eats ∙ awake));
  idle = λ _ is. (status, record { site_stays = refl; event_stays = refl; bytes_stay = refl });
  acts = λ _ next is. absurd (let e : None ≡ Some next = none ∙ is in cc);
  few_bytes = λ _ next is. absurd (let e : None ≡ Some next = none ∙ is in cc);
}

-- a call that refuses leaves both
pub both_stay : (X A B : Type 0) (r : ℤ) → IsDoneOr r X A → IsDoneOr r (Unit {0}) B → IsDoneOr r (Unit {0}) (A × B)
both_stay X A B (pos n) a b = tt
both_stay X A B (negsuc n) a b = (a, b)
