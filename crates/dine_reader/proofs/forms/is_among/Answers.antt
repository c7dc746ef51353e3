use Rattle.std.proofs.Common.{◌≡◌, rules, tests, ◌∙◌, sym}
use Rattle.std.specs.List.{list_any}
use Rattle.std.specs.Str.{bytes_eq}
use Rattle.std.proofs.lemmas.Iterator.{YieldsList-from_slice}
use Rattle.std.proofs.lemmas.Iterator.Search.{any_from_yields_List}
use Rattle.dine_draft.proofs.shared.ListLemmas.{list_any-map}
use Rattle.dine_reader.proofs.forms.is_among.Goals as goal

pub returns : goal.returns
returns c =
    let xs = c.args.known.now in
    let e : c.any.result ≡ list_any (λ k. bytes_eq c.args.key.now k.now) xs = any_from_yields_List (λ k. bytes_eq c.args.key.now k.now) _ _ c.any.result c.any.ensures.ran (YieldsList-from_slice xs cc) (λ x b q k. search (rules, tests)) in
    e ∙ sym (list_any-map (bytes_eq c.args.key.now) (λ k. k.now) xs)
