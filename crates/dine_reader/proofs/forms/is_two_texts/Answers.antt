use Rattle.std.proofs.Common.{◌≡◌, eqb, false, ◌&&◌, length, rules, tests, sym, ap, ◌∙◌}
use Rattle.std.specs.List.{list_all}
use Rattle.std.proofs.lemmas.Bool.{ne_eqb}
use Rattle.std.proofs.lemmas.List.{length-map}
use Rattle.toml.specs.View.{view}
use Rattle.dine_reader.specs.Document.{items_in}
use Rattle.dine_reader.specs.RefusalTests.{is_text, is_two_texts}
use Rattle.dine_draft.proofs.shared.Searches.{all_seen}
use Rattle.dine_reader.proofs.forms.is_two_texts.Goals as goal

pub returns-then-items-eq2 : goal.returns-then-items-eq2
unfolding is_two_texts
returns-then-items-eq2 c =
    let items = c.items_in-items.result.now in
    let as_many : length items ≡ length (items_in (view c.args.value.now)) = sym (length-map items view) ∙ ap length c.items_in-items.ensures in
    let two : length (items_in (view c.args.value.now)) ≡ 2 = sym as_many ∙ c.if-items-eq2.true in
    let texts = all_seen view is_text items _ c.all.result c.all.ensures.ran (cc) (λ x b q k. search (rules, tests)) c.items_in-items.ensures in
    rw two texts

pub returns-else-items-eq2 : goal.returns-else-items-eq2
unfolding is_two_texts
returns-else-items-eq2 c =
    let items = c.items_in-items.result.now in
    let d = view c.args.value.now in
    let as_many : length items ≡ length (items_in d) = sym (length-map items view) ∙ ap length c.items_in-items.ensures in
    let other : eqb (length items) 2 ≡ false = ne_eqb (length items) 2 c.if-items-eq2.false in
    other ∙ ap (λ b. b && list_all is_text (items_in d)) (sym other ∙ ap (λ n. eqb n 2) as_many)
