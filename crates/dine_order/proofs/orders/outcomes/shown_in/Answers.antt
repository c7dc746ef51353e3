use Rattle.std.proofs.Common.{◌≡◌, ◌+◌, ℕ, List, ◌∷◌, ◌++◌, [], get_or, length, replicate, take, false, vec_items, sym, ◌∙◌, ap, ap₂, arith, rules}
use Rattle.std.proofs.lemmas.List.{take_more}
use Rattle.dine_rules.specs.declared.events.EventKind.{EventKind}
use Rattle.dine_rules.specs.declared.events.EventKind.TheVariants.{End, Quit, Take}
use Rattle.dine_rules.specs.Journals.{outcomes_in}
use Rattle.dine_rules.specs.Shown.{shown_in}
use Rattle.dine_order.specs.private.Searching.{outcomes_after}
use Rattle.dine_order.proofs.shared.Shown.{ended-end, ended-other, ended-quit, shown-end, shown-none, shown-other, shown-quit}
use Rattle.dine_order.proofs.orders.outcomes.shown_in.Goals.{in-End, in-Quit, in_default}
use Rattle.dine_order.proofs.orders.outcomes.shown_in.Goals as goal

pub loop-kind-init : goal.loop-kind-init
loop-kind-init c =
    let items : c.in_ok-fails.fails.items ≡ replicate c.args.jobs false = search rules in
    record { shown = items ∙ shown-none c.args.jobs; ended = search rules; few = search rules }

pub loop-kind-preserved : goal.loop-kind-preserved
loop-kind-preserved c =
    let i = c.loop-kind.kind-index in
    let jobs : ℕ = c.args.jobs in
    let journal : List EventKind = c.args.journal.now in
    let before : List EventKind = take i journal in
    let kept = c.loop-kind.invariant in
    let kind : EventKind = get_or journal i (Take 0) in
    let more : take (i + 1) journal ≡ before ++ kind ∷ [] = take_more journal i (Take 0) c.loop-kind-test.true in
    let many : List EventKind → ℕ = λ kinds. length (outcomes_in false kinds) in
    elim c.match-kind.branch [
      | in-End w ↦
          let next : take (i + 1) journal ≡ before ++ End ∷ [] = more ∙ ap (λ (k : EventKind). before ++ k ∷ []) w.in-End.is in
          record {
            shown = ap vec_items w.fails-is ∙ kept.shown ∙ sym (ap (shown_in jobs) next ∙ shown-end jobs before);
            ended = w.ended-is ∙ ap (λ (n : ℕ). n + 1) kept.ended ∙ sym (ap many next ∙ ended-end before);
            few = omega (arith, w.ended-is, kept.few);
          }
      | in-Quit w ↦
          let next : take (i + 1) journal ≡ before ++ Quit ∷ [] = more ∙ ap (λ (k : EventKind). before ++ k ∷ []) w.in-Quit.is in
          record {
            shown = ap vec_items w.fails-is ∙ w.note.ensures ∙ ap₂ outcomes_after kept.ended kept.shown ∙ sym (ap (shown_in jobs) next ∙ shown-quit jobs before);
            ended = w.ended-is ∙ kept.ended ∙ sym (ap many next ∙ ended-quit before);
            few = omega (arith, w.ended-is, kept.few);
          }
      | in_default w ↦ record {
        shown = ap vec_items w.fails-is ∙ kept.shown ∙ sym (ap (shown_in jobs) more ∙ shown-other jobs before kind w.in_default.not-End w.in_default.not-Quit);
        ended = w.ended-is ∙ kept.ended ∙ sym (ap many more ∙ ended-other before kind w.in_default.not-End w.in_default.not-Quit);
        few = omega (arith, w.ended-is, kept.few);
      }
    ]
