-- A letter that was taken arrived with the bytes that were read.
use Rattle.std.proofs.Common.{◌≡◌, ℕ, List, sym, ◌∙◌, ap}
use Rattle.dine_token.specs.Fork.{SeenFork}
use Rattle.dine_rules.specs.declared.letters.Letter.{Letter}
use Rattle.dine_rules.specs.declared.letters.Letter.TheVariants as letter
use Rattle.dine_rules.specs.Local.{edge_at}
use Rattle.dine_rules.specs.Steps as step
use Rattle.dine_wire.specs.Carried.{IsOfKept, letter_bytes}
use Rattle.dine_wire.specs.Notes.{report_of}
use Rattle.dine_wire.specs.Runs.{bytes_in_run}
use Rattle.dine_wire.specs.declared.note.ForkNote.{ForkNote}
use Rattle.dine_wire.specs.declared.note.Note.{Note}
use Rattle.dine_wire.specs.declared.note.Report.{Report}
use Rattle.dine_wire.specs.declared.note.Report.TheVariants as report
use Rattle.dine_ffi.specs.OwnSites.{SeenOwnSite, SiteSteps, SiteTakes, SiteTakesFork}
use Rattle.dine_ffi.specs.Shelves.{kept_at, taken_off}

module _ (bytes : List ℕ) (note : Note) (i : ℕ) (old new : SeenOwnSite) (read : bytes ≡ bytes_in_run old.run note) (place : edge_at old.plan old.core.site i ≡ note.edge) where
  bytes_are : (l : Letter) → note.report ≡ report_of l → bytes ≡ letter_bytes old.run (edge_at old.plan old.core.site i) l
  bytes_are l tells = read ∙ ap (λ (e : ℕ). bytes_in_run old.run (record { edge = e; report = note.report })) (sym place) ∙ ap (λ (t : Report). bytes_in_run old.run (record { edge = edge_at old.plan old.core.site i; report = t })) tells

  pub fork_takes : (fork_note : ForkNote) (fork : SeenFork) → note.report ≡ report.Fork fork_note → SiteTakesFork i fork_note fork old new → SiteTakes bytes i (letter.Fork fork) old new
  fork_takes fork_note fork tells did = record {
    arrives = record { are = bytes_are (letter.Fork fork) (tells ∙ ap (λ (n : ForkNote). report.Fork n) did.note_is); of_kept = did.goes_on };
    core = did.core;
    shelf = did.shelf;
    plan = did.plan;
    run = did.run;
    meal = did.meal;
  }

  pub word_takes : (l : Letter) → note.report ≡ report_of l → IsOfKept old.plan (kept_at i old.shelf) (edge_at old.plan old.core.site i) l → taken_off i l old.shelf ≡ old.shelf → SiteSteps (step.Take i l) old new → SiteTakes bytes i l old new
  word_takes l tells of_kept same did = record {
    arrives = record { are = bytes_are l tells; of_kept = of_kept };
    core = did.core;
    shelf = did.shelf ∙ sym same;
    plan = did.plan;
    run = did.run;
    meal = did.meal;
  }
