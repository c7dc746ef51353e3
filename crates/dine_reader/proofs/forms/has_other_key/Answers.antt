use Rattle.std.proofs.Common.{◌≡◌, ℕ, Bool, not, List, map, string_bytes, rules, tests, sym, ap, ◌∙◌}
use Rattle.std.specs.List.{list_any}
use Rattle.std.specs.Map.{keys_of as map_keys}
use Rattle.std.specs.Str.{bytes_eq}
use Rattle.std.proofs.lemmas.Iterator.Consumers.{YieldsList-from_rest}
use Rattle.std.proofs.lemmas.Iterator.Search.{any_from_yields_List}
use Rattle.dine_reader.specs.RefusalTests.{has_other_key}
use Rattle.dine_draft.proofs.shared.ListLemmas.{list_any-map}
use Rattle.dine_reader.proofs.shared.DocumentLemmas.{keys_of-view}
use Rattle.dine_reader.proofs.forms.has_other_key.Goals as goal

pub returns-in-Some : goal.returns-in-Some
unfolding has_other_key
returns-in-Some c =
    let entries = c.in-Some.members.now.entries in
    let known = map (λ k. k.now) c.args.known.now in
    let other : List ℕ → Bool = λ key. not (list_any (bytes_eq key) known) in
    let answer : c.any.result ≡ list_any (λ k. other (string_bytes k)) (map_keys entries) = any_from_yields_List (λ k. other (string_bytes k)) _ _ c.any.result c.any.ensures.ran (YieldsList-from_rest (map_keys entries) c.keys.ensures.rest) (λ x b q k. search (rules, tests)) in
    rw (← rw c.in-Some.is at c.as_table.ensures) (answer ∙ sym (list_any-map other string_bytes (map_keys entries)) ∙ ap (list_any other) (keys_of-view entries))

pub returns-in-None : goal.returns-in-None
unfolding has_other_key
returns-in-None c = rw (← rw c.in-None.is at c.as_table.ensures)
