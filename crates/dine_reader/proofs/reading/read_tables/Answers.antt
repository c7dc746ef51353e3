use Rattle.std.proofs.Common.{Result, Ok, Err, OnOk, IfErr, sym, ◌∙◌}
use Rattle.toml.specs.View.{view}
use Rattle.dine_reader.proofs.shared.DocumentLemmas.{first_of_document}
use Rattle.dine_reader.proofs.FormLemmas.{by_flaws, other_version}
use Rattle.dine_reader.proofs.reading.read_tables.Goals as goal

ok_then : {A E : Type 0} {P Q : Type 0} (r : Result A E) → (P → Q) → OnOk r P → OnOk r Q
ok_then (Ok x) f h = f h
ok_then (Err e) f h = tt

err_then : {A E : Type 0} (P Q : E → Type 0) (r : Result A E) → ((e : E) → P e → Q e) → IfErr r P → IfErr r Q
err_then P Q (Ok x) f h = tt
err_then P Q (Err e) f h = f e h

pub returns-then-has_other_version-clause-refused : goal.returns-then-has_other_version-clause-refused
returns-then-has_other_version-clause-refused c _ =
    first_of_document _ ∙ rw (other_version _ (sym c.has_other_version.ensures ∙ c.if-has_other_version.true))

pub returns-in-Some-clause-refused : goal.returns-in-Some-clause-refused
returns-in-Some-clause-refused c _ =
    let outside = c.flaws_outside-outside in
    let form =
    by_flaws (view c.args.document) outside.result c.in_ok-draft.inside (sym c.has_other_version.ensures ∙ c.if-has_other_version.false)
    outside.ensures.other_key outside.ensures.missing_key outside.ensures.wrong_kind c.in_ok-draft.ensures.flaws in
    first_of_document _ ∙ rw (form ∙ sym c.first_flaw.ensures ∙ c.in-Some.is)

pub returns-clause-unrefused : goal.returns-clause-unrefused
returns-clause-unrefused c =
    let outside = c.flaws_outside-outside in
    let form =
    by_flaws (view c.args.document) outside.result c.in_ok-draft.inside (sym c.has_other_version.ensures ∙ c.if-has_other_version.false)
    outside.ensures.other_key outside.ensures.missing_key outside.ensures.wrong_kind c.in_ok-draft.ensures.flaws in
    ok_then c.finish.result
    (λ none. first_of_document _ ∙ rw (form ∙ sym c.first_flaw.ensures ∙ c.in_default.is, ← c.in_ok-draft.ensures.draft) none)
    c.finish.ensures.unrefused

pub returns-clause-refused : goal.returns-clause-refused
returns-clause-refused c =
    let outside = c.flaws_outside-outside in
    let form =
    by_flaws (view c.args.document) outside.result c.in_ok-draft.inside (sym c.has_other_version.ensures ∙ c.if-has_other_version.false)
    outside.ensures.other_key outside.ensures.missing_key outside.ensures.wrong_kind c.in_ok-draft.ensures.flaws in
    err_then _ _ c.finish.result
    (λ fault first other. first_of_document _ ∙ rw (form ∙ sym c.first_flaw.ensures ∙ c.in_default.is, ← c.in_ok-draft.ensures.draft) (first other))
    c.finish.ensures.refused
