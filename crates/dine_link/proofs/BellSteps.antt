-- Each step of a bell keeps its rule.
use Rattle.std.specs.Prelude.{Option, Some, None, Result, Ok, Err, IfSome, MatchOption, MatchResult, is_some}
use Rattle.std.specs.Result.{result_ok, is_err}
use Rattle.std.proofs.Common.{◌≡◌, ◌≢◌, ◌<◌, ◌+◌, ℕ, Bool, zero, suc, List, [], ◌∷◌, ◌++◌, map, set, true, false, true≢false, sym, refl, ap, ◌∙◌, subst, ⊎_elim, arith}
use mathlib.Core.Option.{some, some-ne-none, some-injective}
use lib.ListN.{get_elem?}
use Rattle.std.specs.List.{All, range_with_len}
use Rattle.std.proofs.lemmas.List.FromFn.{map-range_with_len_more}
use Rattle.std.proofs.lemmas.List.Elements.{All-append, All-cons, All-nil, All-head, All-tail}
use Rattle.crossbeam_channel.specs.Fifo.{Pushes, Pops, Forks}
use Rattle.atomic_table.proofs.Lists.{at_snoc}
use Rattle.dine_link.specs.declared.bell_rule.Part.{Part}
use Rattle.dine_link.specs.declared.bell_rule.Part.TheVariants.{Waits, Rings}
use Rattle.crossbeam_channel.specs.Claims.{view}
use Rattle.crossbeam_channel.specs.Ends.{receives_on}
use Rattle.dine_link.specs.declared.bell.Bell.TheInside.{Inside as InBell}
use Rattle.dine_link.specs.private.BellRule.{IsOfBell, IsOfRinger, Fits, AreOfRingers, no_ringers, with_next_ringer, next_ringer, IsKnown, after_sound, after_hearing, reported_by, rings_of}
use Rattle.dine_link.specs.Bells.{BellId, SeenBell, SeenRinger, new_ringer, after_ring, after_report}
use Rattle.dine_link.proofs.Passes.{Each, each_set}

-- a new channel
begins_at : (pass : ℕ) (view : Part) → get_elem? (no_ringers ∷ []) pass ≡ some view → Fits 0 0 pass view
begins_at zero view e = subst (λ (u : Part). Fits 0 0 0 u) (some-injective no_ringers view e) (refl, refl)
begins_at (suc pass) view e = absurd (some-ne-none view (sym e))

pub begins : AreOfRingers [] (no_ringers ∷ [])
begins = record { ringers = 0; bell = 0; below = All-nil (λ (number : ℕ). number < 0); fits = begins_at }

-- a pass fits after a step as before it, and the numbers that it knows are below the number of ringers
fits_sound : (ringers bell pass : ℕ) (v : Part) → Fits ringers bell pass v → Fits ringers bell pass (after_sound v)
fits_sound ringers bell pass (Waits count reported) fits = fits
fits_sound ringers bell pass (Rings own rings) fits = fits

fits_hearing : (ringers bell pass number : ℕ) (v : Part) → Fits ringers bell pass v → Fits ringers bell pass (after_hearing v number)
fits_hearing ringers bell pass number (Waits count reported) fits = fits
fits_hearing ringers bell pass number (Rings own rings) fits = fits

ringer_below : (ringers bell pass number : ℕ) (v : Part) → Fits ringers bell pass v → IsOfRinger number v → number < ringers
ringer_below ringers bell pass number (Waits count reported) fits is = absurd is
ringer_below ringers bell pass number (Rings own rings) fits is = omega (arith, fits, is)

known_below : (ringers bell pass number : ℕ) (v : Part) → Fits ringers bell pass v → number < ringers → IsKnown number v
known_below ringers bell pass number (Waits count reported) fits below = omega (arith, fits.1, below)
known_below ringers bell pass number (Rings own rings) fits below = tt

-- a ring
pub rings : (n pass : ℕ) (v : Part) (number : ℕ) → IsOfRinger number v → Pushes AreOfRingers n pass v number (λ w. IsOfRinger number v × (w ≡ after_sound v))
rings n pass v number is queue views _ h at = let P : ℕ → Type 0 = λ y. y < h.ringers in let mine = h.fits pass v at in let below = ringer_below h.ringers h.bell pass number v mine is in (
  after_sound v,
  record {
    ringers = h.ringers;
    bell = h.bell;
    below = All-append P queue (number ∷ []) h.below (All-cons P number [] below (All-nil P));
    fits = each_set (Fits h.ringers h.bell) views pass (after_sound v) (fits_sound h.ringers h.bell pass v mine) (λ j u other e. h.fits j u e);
  },
  (is, refl),
)

-- a wait
pub hears : (pass : ℕ) (v : Part) → Pops AreOfRingers pass v (λ number w. IsKnown number v × (w ≡ after_hearing v number))
hears pass v number queue views h at = let P : ℕ → Type 0 = λ y. y < h.ringers in let mine = h.fits pass v at in let below = All-head P number queue h.below in (
  after_hearing v number,
  record {
    ringers = h.ringers;
    bell = h.bell;
    below = All-tail P number queue h.below;
    fits = each_set (Fits h.ringers h.bell) views pass (after_hearing v number) (fits_hearing h.ringers h.bell pass number v mine) (λ j u other e. h.fits j u e);
  },
  (known_below h.ringers h.bell pass number v mine below, refl),
)

-- a pass other than the bell's fits one ringer more
fits_more : (ringers bell pass other : ℕ) (u : Part) → pass ≡ bell → other ≢ pass → Fits ringers bell other u → Fits (ringers + 1) bell other u
fits_more ringers bell pass other (Waits count reported) is apart fits = absurd (apart (fits.0 ∙ sym is))
fits_more ringers bell pass other (Rings own rings) is apart fits = omega (arith, fits)

all_more : (ringers : ℕ) (queue : List ℕ) → All (λ y. y < ringers) queue → All (λ y. y < ringers + 1) queue
all_more ringers queue h = λ k d lt. let below = h k d lt in omega (arith, below)

-- a ringer more
waits_forks : (pass count : ℕ) → Forks AreOfRingers pass (Waits count []) (Waits (count + 1) []) (Rings count 0)
waits_forks pass count queue views h at =
    let mine = h.fits pass (Waits count []) at in
    let more : Part = Waits (count + 1) [] in
    let vs : List Part = set views pass more in
    let New : ℕ → Part → Type 0 = Fits (h.ringers + 1) h.bell in
    let same : count ≡ h.ringers = mine.1 in
    let old : Each New vs = each_set New views pass more (mine.0, omega (arith, same)) (λ j u apart e. fits_more h.ringers h.bell pass j u mine.0 apart (h.fits j u e)) in record {
      ringers = h.ringers + 1;
      bell = h.bell;
      below = all_more h.ringers queue h.below;
      fits = λ j u e. ⊎_elim (λ x. old j u x) (λ (is : Rings count 0 ≡ u). subst (λ (y : Part). New j y) is (omega (arith, same))) (at_snoc vs (Rings count 0) u j e);
    }

pub forks : (pass : ℕ) (v : Part) (count : ℕ) → v ≡ Waits count [] → Forks AreOfRingers pass v (with_next_ringer v) (next_ringer v)
forks pass v count is = subst (λ (u : Part). Forks AreOfRingers pass u (with_next_ringer u) (next_ringer u)) (sym is) (waits_forks pass count)

-- the ringers so far and a new one
pub ringer_more : (bell own_bell : BellId) (number : ℕ) (before after : List SeenRinger) (own : Part) → before ≡ map (new_ringer bell) (range_with_len 0 number) → own_bell ≡ bell → own ≡ Rings number 0
    → after ≡ before ++ record { bell = own_bell; number = number; rings = rings_of own; refused = false } ∷ [] → after ≡ map (new_ringer bell) (range_with_len 0 (number + 1))
ringer_more bell own_bell number before after own so_far same is added = let one : BellId → Part → SeenRinger = λ b p. record { bell = b; number = number; rings = rings_of p; refused = false } in
    added ∙ ap (λ (l : List SeenRinger). l ++ one own_bell own ∷ []) so_far ∙ ap (λ (b : BellId). map (new_ringer bell) (range_with_len 0 number) ++ one b own ∷ []) same ∙ ap (λ (p : Part). map (new_ringer bell) (range_with_len 0 number) ++ one bell p ∷ []) is ∙ sym (map-range_with_len_more (new_ringer bell) 0 number number (omega arith))

-- what a receive does to the bell's pass
abbrev pub Heard : {E : Type 0} → Type 0 → Result ℕ E → Part → Part → Type 0
Heard held result old new = MatchResult result (λ number. IsKnown number old × (new ≡ after_hearing old number)) (λ _. (new ≡ old) × held)

own_after : (degree number : ℕ) (v : Part) → IsOfBell degree v → IsOfBell degree (after_hearing v number)
own_after degree number (Waits count reported) own = own
own_after degree number (Rings own_number count) own = own

pub still_own : {E : Type 0} (held : Type 0) (result : Result ℕ E) (degree : ℕ) (old new : Part) → Heard held result old new → IsOfBell degree old → IsOfBell degree new
still_own held (Ok number) degree old new h own = subst (IsOfBell degree) (sym h.1) (own_after degree number old own)
still_own held (Err e) degree old new h own = subst (IsOfBell degree) (sym h.0) own

-- a number that the bell's pass knows is below the degree
pub below_degree : (degree number : ℕ) (v : Part) → IsOfBell degree v → IsKnown number v → number < degree
below_degree degree number (Waits count reported) own known = omega (arith, own, known)
below_degree degree number (Rings own_number count) own known = absurd own

pub heard_below : {E : Type 0} (held : Type 0) (result : Result ℕ E) (degree : ℕ) (old new : Part) → Heard held result old new → IsOfBell degree old → IfSome (result_ok result) (λ number. number < degree)
heard_below held (Ok number) degree old new h own = below_degree degree number old own h.0
heard_below held (Err e) degree old new h own = tt

-- the bell whose pass knows this
abbrev pub bell_knows : InBell → Part → SeenBell
bell_knows bell v = record { identity = receives_on bell.receiver; degree = bell.degree; reported = reported_by v; found_empty = bell.empty_checks.at; refused = bell.refused }

reported_after : (degree number : ℕ) (v : Part) → IsOfBell degree v → reported_by (after_hearing v number) ≡ reported_by v ++ number ∷ []
reported_after degree number (Waits count reported) own = refl
reported_after degree number (Rings own_number count) own = absurd own

pub reports : (bell : InBell) (number : ℕ) (new : Part) (now : SeenBell) → bell_knows bell (view bell.pass) ≡ now → IsOfBell bell.degree (view bell.pass) → new ≡ after_hearing (view bell.pass) number → bell_knows bell new ≡ after_report number now
reports bell number new now is own heard =
    let one : List ℕ → SeenBell = λ reported. record { identity = receives_on bell.receiver; degree = bell.degree; reported = reported; found_empty = bell.empty_checks.at; refused = bell.refused } in
    ap (bell_knows bell) heard ∙ ap one (reported_after bell.degree number (view bell.pass) own) ∙ ap (after_report number) is

pub heard_seen : {E : Type 0} (held : Type 0) (result : Result ℕ E) (bell : InBell) (new : Part) (now : SeenBell) → Heard held result (view bell.pass) new → bell_knows bell (view bell.pass) ≡ now → IsOfBell bell.degree (view bell.pass)
    → MatchOption (result_ok result) (bell_knows bell new ≡ now) (λ number. bell_knows bell new ≡ after_report number now)
heard_seen held (Ok number) bell new now h is own = reports bell number new now is own h.1
heard_seen held (Err e) bell new now h is own = ap (bell_knows bell) h.0 ∙ is

-- a ringer's pass after a ring
own_rung : (number : ℕ) (v : Part) → IsOfRinger number v → IsOfRinger number (after_sound v)
own_rung number (Waits count reported) is = is
own_rung number (Rings own count) is = is

pub still_ringer : (number : ℕ) (old new : Part) → new ≡ after_sound old → IsOfRinger number old → IsOfRinger number new
still_ringer number old new rung is = subst (IsOfRinger number) (sym rung) (own_rung number old is)

-- what a send does to a ringer's pass
abbrev pub Rang : {E : Type 0} → (E → Type 0) → Result Unit E → ℕ → Part → Part → Type 0
Rang held result number old new = MatchResult result (λ _. IsOfRinger number old × (new ≡ after_sound old)) (λ e. held e × (new ≡ old))

pub rang : {E : Type 0} (held : E → Type 0) (result : Result Unit E) (number : ℕ) (old new : Part) → Rang held result number old new → false ≡ is_err result → new ≡ after_sound old
rang held (Ok done) number old new h is = h.1
rang held (Err e) number old new h is = absurd (true≢false (sym is))

pub not_rang : {E : Type 0} (held : E → Type 0) (result : Result Unit E) (number : ℕ) (old new : Part) → Rang held result number old new → true ≡ is_err result → new ≡ old
not_rang held (Ok done) number old new h is = absurd (true≢false is)
not_rang held (Err e) number old new h is = h.1

rings_after : (number : ℕ) (v : Part) → IsOfRinger number v → rings_of (after_sound v) ≡ rings_of v + 1
rings_after number (Waits count reported) is = absurd is
rings_after number (Rings own count) is = refl

-- the ringer whose pass knows this
abbrev pub ringer_knows : BellId → ℕ → Bool → Part → SeenRinger
ringer_knows bell number refused v = record { bell = bell; number = number; rings = rings_of v; refused = refused }

pub rung_seen : (bell : BellId) (number : ℕ) (refused : Bool) (old new : Part) (now : SeenRinger) → ringer_knows bell number refused old ≡ now → IsOfRinger number old → new ≡ after_sound old → ringer_knows bell number refused new ≡ after_ring now
rung_seen bell number refused old new now is own rung =
    let one : ℕ → SeenRinger = λ rings. record { bell = bell; number = number; rings = rings; refused = refused } in
    ap (ringer_knows bell number refused) rung ∙ ap one (rings_after number old own) ∙ ap after_ring is

-- a check that found no ring, and one that found a ring
pub none_found : (number : Option ℕ) (P R : Type 0) (Q S : ℕ → Type 0) → is_some number ≡ false → MatchOption number P Q → (P → R) → MatchOption number R S
none_found None P R Q S lacks h follows = follows h
none_found (Some n) P R Q S lacks h follows = absurd (true≢false lacks)

pub some_found : (number : Option ℕ) (P R : Type 0) (Q : ℕ → Type 0) → is_some number ≡ true → MatchOption number P Q → MatchOption number R Q
some_found None P R Q has h = absurd (true≢false (sym has))
some_found (Some n) P R Q has h = h
