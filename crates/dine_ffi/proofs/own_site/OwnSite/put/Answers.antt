use mir.Syntax.{w64}
use mir.Val.{hbits}
use Rattle.std.proofs.Common.{rules, ◌≡◌, ◌<◌, ◌≤◌, ◌^◌, ◌++◌, ℕ, ℤ, List, drop, false, length, pos, sym, ◌∙◌, ap, subst, arith}
use Rattle.std.proofs.lemmas.Int.{to_z_pos}
use Rattle.dine_rules.specs.Local.{edge_at, is_eating}
use Rattle.dine_site.specs.Core.{SeenCore}
use Rattle.dine_site.specs.Standing.{CorePuts}
use Rattle.dine_wire.specs.Carried.{letter_bytes}
use Rattle.dine_wire.specs.Notes.{report_of}
use Rattle.dine_wire.specs.Runs.{bytes_in_run}
use Rattle.dine_wire.specs.declared.note.Note.{Note}
use Rattle.dine_wire.specs.declared.note.Report.{Report}
use Rattle.dine_wire.specs.declared.note.Report.TheVariants.{Fork, Request, Done, Close}
use Rattle.dine_ffi.specs.Acts.{put_step}
use Rattle.dine_ffi.specs.OwnSites.{PutsOrRefuses, SeenOwnSite, SitePuts}
use Rattle.dine_ffi.specs.Shelves.{put_away}
use Rattle.dine_ffi.specs.Written.{AreWritten}
use Rattle.dine_ffi.proofs.own_site.OwnSite.put.Goals as goal

-- no letter has more than 29 bytes
few_with : (run edge : ℕ) (t : Report) → length (bytes_in_run run (record { edge = edge; report = t })) ≤ 29
few_with run edge (Fork fork) = omega arith
few_with run edge Request = omega arith
few_with run edge Done = omega arith
few_with run edge Close = omega arith

pub returns-in-Some-put-clause-puts : goal.returns-in-Some-put-clause-puts
returns-in-Some-put-clause-puts c =
    let old : SeenOwnSite = c.args.self.now in
    let new : SeenOwnSite = record { plan = c.self.inside.plan; run = c.self.inside.run; core = c.put.new.core; meal = c.self.inside.meal; shelf = c.put_away.new.shelf.items } in
    let i = c.args.i in
    let step = put_step c.args.what i in
    let letter = c.in-Some-put.letter in
    let out = c.args.out.now in
    let written = c.put_letter-len.new.out in
    let edge : ℕ = edge_at old.plan old.core.site i in
    let note : Note = c.note_of.result in
    let named : Note = record { edge = edge; report = report_of letter } in
    let edge_is : note.edge ≡ edge = c.note_of.ensures.edge ∙ c.in-Some.ensures in
    let report_is : note.report ≡ report_of letter = c.note_of.ensures.report in
    let note_is : note ≡ named = (λ i. record { edge = edge_is i; report = report_is i }) in
    let bytes_are : bytes_in_run c.run-run.result note ≡ letter_bytes old.run edge letter =
    ap (λ (r : ℕ). bytes_in_run r note) c.run-run.ensures ∙ ap (λ (x : Note). bytes_in_run old.run x) note_is in
    let n : ℕ = c.put_letter-len.result in
    let n_is : n ≡ length (letter_bytes old.run edge letter) = c.put_letter-len.ensures.len ∙ ap length bytes_are in
    let few : n < 2 ^ hbits w64 = omega (arith, n_is, few_with old.run edge (report_of letter)) in
    let awake : is_eating c.self.inside.core.phase ≡ false = search rules in
    let core = ap (λ (site : SeenOwnSite). site.core) c.self.view_is in
    let puts : SitePuts i step old new letter = record {
      awake = sym (ap (λ (core : SeenCore). is_eating core.phase) core) ∙ awake;
      core = subst (λ (core : SeenCore). CorePuts i step core c.put.new.core letter) core c.in-Some-put.ensures.put;
      shelf = c.put_away.ensures ∙ ap (λ (site : SeenOwnSite). put_away i letter site.shelf) c.self.view_is;
      plan = ap (λ (site : SeenOwnSite). site.plan) c.self.view_is;
      run = ap (λ (site : SeenOwnSite). site.run) c.self.view_is;
      meal = ap (λ (site : SeenOwnSite). site.meal) c.self.view_is;
    } in
    let are : AreWritten old.run letter edge out written (pos n) = record {
      enough = omega (arith, c.if-out-lt-LETTER_MAX.false);
      number = ap (λ (x : ℕ). pos x) n_is;
      bytes = c.put_letter-len.ensures.out ∙ ap (λ (b : List ℕ). b ++ drop (length b) out) bytes_are;
    } in
    subst (λ (r : ℤ). PutsOrRefuses i step out written r old new) (sym (to_z_pos w64 n few)) (letter, puts, are)
