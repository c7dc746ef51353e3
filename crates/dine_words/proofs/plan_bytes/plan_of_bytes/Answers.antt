use Rattle.std.proofs.Common.{◌≡◌, ◌∙◌, List, ℕ, Some, Result, Ok, Err, OnOk, IfOk, IfErr, true, cond, sym, subst, ap}
use Rattle.std.specs.Str.{is_utf8}
use Rattle.std.proofs.lemmas.Bool.{cond-true, cond-false, false_from_ne_true}
use Rattle.std.proofs.lemmas.Str.{is_utf8-from_IsUtf8, IsUtf8-from_is_utf8}
use Rattle.dine_reader.specs.PlanOf.{IsPlanOf}
use Rattle.dine_reader.specs.RefusalTests.{first_fault}
use Rattle.dine_draft.specs.declared.plan_fault.PlanFault.TheVariants.{NotToml}
use Rattle.dine_words.proofs.plan_bytes.plan_of_bytes.Goals as goal

-- bytes that are a text are refused as the text is
text_fault : (bytes : List ℕ) → is_utf8 bytes ≡ true → cond (is_utf8 bytes) (first_fault bytes) (Some NotToml) ≡ first_fault bytes
text_fault bytes text = cond-true (is_utf8 bytes) (first_fault bytes) (Some NotToml) text

ok_then : {A E U : Type 0} (P Q : A → Type 0) (r : Result A E) → ((x : A) → U → P x → Q x) → OnOk r U → IfOk r P → IfOk r Q
ok_then P Q (Ok x) f u p = f x u p
ok_then P Q (Err e) f u p = tt

err_then : {A E : Type 0} (P Q : E → Type 0) (r : Result A E) → ((e : E) → P e → Q e) → IfErr r P → IfErr r Q
err_then P Q (Ok x) f p = tt
err_then P Q (Err e) f p = f e p

pub returns-in-Ok-clause-plan : goal.returns-in-Ok-clause-plan
returns-in-Ok-clause-plan c =
    let bytes = c.args.bytes.now in
    let same = c.in-Ok.ensures.cases.0 in
    let text = is_utf8-from_IsUtf8 bytes c.in-Ok.ensures.cases.1 in
    ok_then _ _ c.read_plan.result
    (λ plan none is. let P = λ (b : List ℕ). IsPlanOf b plan in record {
      unrefused = text_fault bytes text ∙ ap first_fault (sym same) ∙ none;
      plan_of_text = subst P same is;
    })
    c.read_plan.ensures.unrefused c.read_plan.ensures.plan

pub returns-in-Ok-clause-refused : goal.returns-in-Ok-clause-refused
returns-in-Ok-clause-refused c =
    let bytes = c.args.bytes.now in
    let text = is_utf8-from_IsUtf8 bytes c.in-Ok.ensures.cases.1 in
    err_then _ _ c.read_plan.result
    (λ fault first other. text_fault bytes text ∙ ap first_fault (sym c.in-Ok.ensures.cases.0) ∙ first other)
    c.read_plan.ensures.refused

pub returns-in-Err-clause-refused : goal.returns-in-Err-clause-refused
returns-in-Err-clause-refused c _ =
    let bytes = c.args.bytes.now in
    cond-false (is_utf8 bytes) (first_fault bytes) (Some NotToml) (false_from_ne_true (is_utf8 bytes) (λ yes. c.in-Err.ensures.cases.0 (IsUtf8-from_is_utf8 bytes yes)))
