use mir.Syntax.{w64}
use mir.Val.{SFits}
use Rattle.std.proofs.Common.{rules, ◌≡◌, ℕ, zero, suc, ◌<◌, ◌≤◌, ◌^◌, ℤ, pos, negsuc, false, List, length, Some, refl, sym, ◌∙◌, ap, inl, subst}
use Rattle.std.proofs.lemmas.Int.{to_z-of_z}
use Rattle.dine_graph.specs.Plan.{edges_of}
use Rattle.dine_rules.specs.declared.breach.Breach.{Breach}
use Rattle.dine_rules.specs.declared.letters.Letter.{Letter}
use Rattle.dine_rules.specs.declared.letters.Letter.TheVariants as letter
use Rattle.dine_rules.specs.Local.{LocalState, edge_at}
use Rattle.dine_rules.specs.Steps as step
use Rattle.dine_site.specs.Standing.{ReportsBreach}
use Rattle.dine_wire.specs.Carried.{IsOfKept}
use Rattle.dine_wire.specs.Notes.{IsInBytes, report_of}
use Rattle.dine_wire.specs.Runs.{IsNoLetter, bytes_in_run, is_of_run}
use Rattle.dine_wire.specs.declared.note.Note.{Note}
use Rattle.dine_wire.specs.declared.note.Report.{Report}
use Rattle.dine_ffi.specs.Answers.{IsRefused, breach_status, done, wire_status}
use Rattle.dine_ffi.specs.OwnSites.{ReportRefuses, SeenOwnSite, SiteSteps, SiteTakes, StandsFor, TakeRefuses, TakesOrRefuses, WordRefuses}
use Rattle.dine_ffi.specs.Shelves.{kept_at, taken_off}
use Rattle.dine_ffi.proofs.NotTaken.{of_other_run, of_own_run, other_edge_refuses, place_refuses, refused_is, word_refuses}
use Rattle.dine_ffi.proofs.Report.{fork_takes, word_takes}
use Rattle.dine_ffi.proofs.own_site.OwnSite.take.Goals as goal

abbrev Refused : ℤ → Type 0
Refused r = r ≡ done → ⊥

-- the call returns the place if taking the letter there returned 0, and else what that returned
took : (bytes : List ℕ) (old new : SeenOwnSite) (i : ℕ) (r q : ℤ) → (r ≡ done → q ≡ pos i) → (Refused r → q ≡ r)
    → (r ≡ done → (l : Letter) × SiteTakes bytes i l old new) → (Refused r → IsRefused r)
    → (Refused r → (state : LocalState) → StandsFor state old → (new ≡ old) × TakeRefuses bytes r state old)
    → (8 ≤ length bytes → is_of_run old.run bytes ≡ false → ⊥) → TakesOrRefuses bytes q old new
took bytes old new i (pos zero) q as_place same did negative why own = subst (λ (x : ℤ). TakesOrRefuses bytes x old new) (sym (as_place refl))
    (record { outcome = let w = did refl in (i, w.0, refl, w.1); other_run = λ long other. absurd (own long other) })
took bytes old new i (pos (suc n)) q as_place same did negative why own = absurd (negative (λ zero. absurd cc))
took bytes old new i (negsuc n) q as_place same did negative why own = subst (λ (x : ℤ). TakesOrRefuses bytes x old new) (sym (same (λ zero. absurd cc)))
    (record { outcome = why (λ zero. absurd cc); other_run = λ long other. absurd (own long other) })

-- what the call does with the note of a letter other than a Fork, by what taking that letter does
word_outcome : (bytes : List ℕ) (old new : SeenOwnSite) (run : ℕ) (note : Note) (i : ℕ) (l : Letter) (r q : ℤ)
    → run ≡ old.run → bytes ≡ bytes_in_run run note → IsInBytes note → run < 2 ^ 64 → (edge_at old.plan old.core.site i ≡ note.edge) × (i < length (edges_of old.plan old.core.site))
    → note.report ≡ report_of l → IsOfKept old.plan (kept_at i old.shelf) (edge_at old.plan old.core.site i) l → taken_off i l old.shelf ≡ old.shelf
    → ((state : LocalState) → WordRefuses i l r state old → ReportRefuses i note.edge (report_of l) r state old)
    → (r ≡ done → SiteSteps (step.Take i l) old new) → (Refused r → new ≡ old) → (Refused r → IsRefused r)
    → (Refused r → i < length old.core.places → (b : Breach) × ReportsBreach old.core i l (Some b) × (r ≡ breach_status b))
    → (r ≡ done → q ≡ pos i) → (Refused r → q ≡ r) → TakesOrRefuses bytes q old new
word_outcome bytes old new run note i l r q same_run in_run in_bytes small at report of_kept same_shelf as_report did stays negative why as_place same =
    let read : bytes ≡ bytes_in_run old.run note = in_run ∙ ap (λ (x : ℕ). bytes_in_run x note) same_run in
    took bytes old new i r q as_place same
    (λ zero. (l, word_takes bytes note i old new read at.0 l report of_kept same_shelf (did zero)))
    negative
    (λ refused state is. (
      stays refused,
      place_refuses bytes note old read in_bytes state is i at.0 at.1 r
          (λ h. subst (λ (t : Report). ReportRefuses i note.edge t r state old) (sym report)
          (as_report state (word_refuses bytes note old read in_bytes state is i at.0 at.1 l r (why refused) h))),
    ))
    (λ long other. of_own_run old.run note bytes (subst (λ (x : ℕ). x < 2 ^ 64) same_run small) read other)

pub returns-in-Err : goal.returns-in-Err
returns-in-Err c =
    let old = c.args.self.now in
    let r = c.wire_status.result in
    let fits : SFits w64 r = search rules in
    let no_letter : IsNoLetter old.run c.args.bytes.now c.in-Err.fault = subst (λ (run : ℕ). IsNoLetter run c.args.bytes.now c.in-Err.fault) c.run.ensures c.in-Err.ensures.fault in
    subst (λ (r : ℤ). TakesOrRefuses c.args.bytes.now r old old) (sym (to_z-of_z w64 r fits))
    (record {
      outcome = refused_is r _ _ c.wire_status.ensures.refused (λ state is. (refl, inl (c.in-Err.fault, c.wire_status.ensures.status, no_letter)));
      other_run = λ long other. (c.wire_status.ensures.status ∙ ap wire_status (of_other_run old.run c.args.bytes.now c.in-Err.fault no_letter long other), refl);
    })

pub returns-in_default : goal.returns-in_default
returns-in_default c =
    let note = c.in-Ok.note in
    let in_bytes : IsInBytes note = search rules in
    let read : c.args.bytes.now ≡ bytes_in_run c.args.self.now.run note = c.in-Ok.ensures.note ∙ ap (λ (run : ℕ). bytes_in_run run note) c.run.ensures in
    let small_there : c.run.result < 2 ^ 64 = search rules in
    let small : c.args.self.now.run < 2 ^ 64 = subst (λ (run : ℕ). run < 2 ^ 64) c.run.ensures small_there in
    record {
      outcome = λ state is. (refl, other_edge_refuses c.args.bytes.now note c.args.self.now read in_bytes state is _ refl c.in_default.ensures);
      other_run = λ long other. absurd (of_own_run c.args.self.now.run note c.args.bytes.now small read other);
    }

pub returns-in-Fork : goal.returns-in-Fork
returns-in-Fork c =
    let old = c.args.self.now in
    let new = c.take_fork.new.self in
    let r = c.take_fork.result in
    let note = c.in-Ok.note in
    let i = c.in-Some.i in
    let place = c.in-Some.ensures.0 in
    let in_bytes : IsInBytes note = search rules in
    let read : c.args.bytes.now ≡ bytes_in_run c.args.self.now.run note = c.in-Ok.ensures.note ∙ ap (λ (run : ℕ). bytes_in_run run note) c.run.ensures in
    let small_there : c.run.result < 2 ^ 64 = search rules in
    let small : c.args.self.now.run < 2 ^ 64 = subst (λ (run : ℕ). run < 2 ^ 64) c.run.ensures small_there in
    let q = c.at_place.result in
    let given : SFits w64 r = search rules in
    let is = to_z-of_z w64 r given in
    let fits : SFits w64 q = search rules in
    subst (λ (r : ℤ). TakesOrRefuses c.args.bytes.now r old new) (sym (to_z-of_z w64 q fits))
    (took c.args.bytes.now old new i r q (λ zero. c.at_place.ensures.done (is ∙ zero)) (λ refused. c.at_place.ensures.refused (λ zero. refused (sym is ∙ zero)) ∙ is)
    (λ zero. let w = c.take_fork.ensures.done zero in (letter.Fork w.0, fork_takes c.args.bytes.now note i old new read place c.in-Fork.fork w.0 c.in-Fork.is w.1))
    c.take_fork.ensures.negative
    (λ refused state stands. (
      c.take_fork.ensures.refused refused state stands,
      place_refuses c.args.bytes.now note old read in_bytes state stands i place c.in-Some.ensures.1 r
          (λ h. subst (λ (t : Report). ReportRefuses i note.edge t r state old) (sym c.in-Fork.is) (c.take_fork.ensures.why refused state stands h)),
    ))
    (λ long other. of_own_run c.args.self.now.run note c.args.bytes.now small read other))

pub returns-in-Request : goal.returns-in-Request
returns-in-Request c =
    let old = c.args.self.now in
    let new = c.take_word.new.self in
    let r = c.take_word.result in
    let i = c.in-Some.i in
    let did = c.take_word.ensures in
    let in_bytes : IsInBytes c.in-Ok.note = search rules in
    let small : c.run.result < 2 ^ 64 = search rules in
    let q = c.at_place-in-Request.result in
    let given : SFits w64 r = search rules in
    let is = to_z-of_z w64 r given in
    let fits : SFits w64 q = search rules in
    subst (λ (r : ℤ). TakesOrRefuses c.args.bytes.now r old new) (sym (to_z-of_z w64 q fits))
    (word_outcome c.args.bytes.now old new c.run.result c.in-Ok.note i (letter.Request c.open.result) r q c.run.ensures c.in-Ok.ensures.note in_bytes small c.in-Some.ensures
    c.in-Request.is (c.open.ensures ∙ sym c.in-Some.ensures.0) refl (λ state w. subst (λ (e : ℕ). WordRefuses i (letter.Request e) r state old) c.open.ensures w)
    did.done did.refused did.negative did.why (λ zero. c.at_place-in-Request.ensures.done (is ∙ zero)) (λ refused. c.at_place-in-Request.ensures.refused (λ zero. refused (sym is ∙ zero)) ∙ is))

pub returns-in-Done : goal.returns-in-Done
returns-in-Done c =
    let old = c.args.self.now in
    let new = c.take_word-in-Done.new.self in
    let r = c.take_word-in-Done.result in
    let did = c.take_word-in-Done.ensures in
    let in_bytes : IsInBytes c.in-Ok.note = search rules in
    let small : c.run.result < 2 ^ 64 = search rules in
    let q = c.at_place-in-Done.result in
    let given : SFits w64 r = search rules in
    let is = to_z-of_z w64 r given in
    let fits : SFits w64 q = search rules in
    subst (λ (r : ℤ). TakesOrRefuses c.args.bytes.now r old new) (sym (to_z-of_z w64 q fits))
    (word_outcome c.args.bytes.now old new c.run.result c.in-Ok.note c.in-Some.i letter.Done r q c.run.ensures c.in-Ok.ensures.note in_bytes small c.in-Some.ensures
    c.in-Done.is tt refl (λ state w. w) did.done did.refused did.negative did.why (λ zero. c.at_place-in-Done.ensures.done (is ∙ zero)) (λ refused. c.at_place-in-Done.ensures.refused (λ zero. refused (sym is ∙ zero)) ∙ is))

pub returns-in-Close : goal.returns-in-Close
returns-in-Close c =
    let old = c.args.self.now in
    let new = c.take_word-in-Close.new.self in
    let r = c.take_word-in-Close.result in
    let did = c.take_word-in-Close.ensures in
    let in_bytes : IsInBytes c.in-Ok.note = search rules in
    let small : c.run.result < 2 ^ 64 = search rules in
    let q = c.at_place-in-Close.result in
    let given : SFits w64 r = search rules in
    let is = to_z-of_z w64 r given in
    let fits : SFits w64 q = search rules in
    subst (λ (r : ℤ). TakesOrRefuses c.args.bytes.now r old new) (sym (to_z-of_z w64 q fits))
    (word_outcome c.args.bytes.now old new c.run.result c.in-Ok.note c.in-Some.i letter.Close r q c.run.ensures c.in-Ok.ensures.note in_bytes small c.in-Some.ensures
    c.in-Close.is tt refl (λ state w. w) did.done did.refused did.negative did.why (λ zero. c.at_place-in-Close.ensures.done (is ∙ zero)) (λ refused. c.at_place-in-Close.ensures.refused (λ zero. refused (sym is ∙ zero)) ∙ is))
