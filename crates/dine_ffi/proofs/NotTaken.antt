-- What a call returns that refuses to take bytes: they are those of no letter of the run, or what they report is
-- refused.
use Rattle.std.proofs.Common.{◌≡◌, ℕ, ◌<◌, ◌≤◌, ◌^◌, ℤ, pos, negsuc, false, List, length, Some, refl, sym, ◌∙◌, ap, inl, inr, arith}
use Rattle.std.proofs.lemmas.Bool.{false≢true}
use Rattle.dine_graph.specs.Plan.{edges_of}
use Rattle.dine_rules.specs.declared.breach.Breach.{Breach}
use Rattle.dine_rules.specs.declared.letters.Letter.{Letter}
use Rattle.dine_rules.specs.Local.{LocalState, edge_at}
use Rattle.dine_site.specs.Standing.{ReportsBreach}
use Rattle.dine_wire.specs.Notes.{IsInBytes}
use Rattle.dine_wire.specs.Runs.{IsNoLetter, bytes_in_run, is_of_run}
use Rattle.dine_wire.specs.declared.note.Note.{Note}
use Rattle.dine_wire.specs.declared.wire_fault.WireFault.{WireFault}
use Rattle.dine_wire.specs.declared.wire_fault.WireFault.TheVariants as fault
use Rattle.dine_wire.proofs.shared.LettersOfRuns.{is_of_own}
use Rattle.dine_ffi.specs.Answers.{IsDoneOr, IsRefused, breach_status, other_edge}
use Rattle.dine_ffi.specs.OwnSites.{IsEdgeOfNone, SeenOwnSite, StandsFor, TakeRefuses, ReportRefuses, WordRefuses}

-- ---- results

pub refused_is : (r : ℤ) (D R : Type 0) → IsRefused r → R → IsDoneOr r D R
refused_is (pos n) D R is h = absurd is
refused_is (negsuc n) D R is h = h

-- ---- letters of other runs

-- bytes that are read as a letter of the run are of no other
pub of_own_run : (run : ℕ) (note : Note) (bytes : List ℕ) → run < 2 ^ 64 → bytes ≡ bytes_in_run run note → is_of_run run bytes ≡ false → ⊥
of_own_run run note bytes small read other = false≢true (sym other ∙ ap (is_of_run run) read ∙ is_of_own run note small)

-- bytes of another run are refused for that
pub of_other_run : (run : ℕ) (bytes : List ℕ) (f : WireFault) → IsNoLetter run bytes f → 8 ≤ length bytes → is_of_run run bytes ≡ false → f ≡ fault.OtherRun
of_other_run run bytes fault.Length (inl short) long other = absurd (omega (arith, short, long))
of_other_run run bytes fault.Length (inr own) long other = absurd (false≢true (sym other ∙ own.0))
of_other_run run bytes fault.Kind own long other = absurd (false≢true (sym other ∙ own.0))
of_other_run run bytes fault.OtherRun is long other = refl
of_other_run run bytes fault.Unlawful never long other = absurd never
of_other_run run bytes fault.Memory never long other = absurd never

-- ---- why they are refused

module _ (bytes : List ℕ) (note : Note) (own : SeenOwnSite) (read : bytes ≡ bytes_in_run own.run note) (note_fits : IsInBytes note) (state : LocalState) (is : StandsFor state own) where
  -- no place has the edge
  pub other_edge_refuses : (r : ℤ) → r ≡ other_edge → IsEdgeOfNone note.edge own → TakeRefuses bytes r state own
  other_edge_refuses r status nowhere = inr (note, note_fits, read, inl (status, nowhere))

  module _ (i : ℕ) (place : edge_at own.plan own.core.site i ≡ note.edge) (within : i < length (edges_of own.plan own.core.site)) where
    here : i < length own.core.places
    here = omega (arith, within, is.core.degree, is.keeps.every_place)

    pub place_refuses : (r : ℤ) → (i < length own.core.places → ReportRefuses i note.edge note.report r state own) → TakeRefuses bytes r state own
    place_refuses r why = inr (note, note_fits, read, inr (i, record { within = here; edge = place }, why here))

    -- a letter other than a Fork
    pub word_refuses : (l : Letter) (r : ℤ)
        → (i < length own.core.places → (b : Breach) × ReportsBreach own.core i l (Some b) × (r ≡ breach_status b)) → i < length own.core.places → WordRefuses i l r state own
    word_refuses l r why h = let w = why h in (w.0, w.2, sym (w.1 own.plan state is.keeps is.core))
