use Rattle.std.proofs.Common.{length, le-leb, rules, tests, arith, sym, ◌∙◌}
use Rattle.std.proofs.lemmas.Bool.{eqb-false}
use Rattle.std.proofs.lemmas.Iterator.{YieldsList-from_slice}
use Rattle.std.proofs.lemmas.Iterator.Search.{all_from_yields_List}
use Rattle.dine_graph.specs.Plan.{is_name_byte}
use Rattle.dine_ffi.proofs.own_builder.is_name.Goals as goal

pub returns-then-bytes-le-MAX_NAME : goal.returns-then-bytes-le-MAX_NAME
returns-then-bytes-le-MAX_NAME c =
    let text = c.args.text.now in
    let all = all_from_yields_List is_name_byte _ _ c.all.result c.all.ensures.ran (YieldsList-from_slice text cc) (λ x b q k. search (rules, tests)) in
    let some = eqb-false (length text) 0 (rw c.as_bytes-bytes.ensures.value at (sym c.is_empty.ensures ∙ c.if-bytes-le-MAX_NAME.true.0)) in
    let few = rw c.as_bytes-bytes.ensures.value at c.if-bytes-le-MAX_NAME.true.1 in
    rw (le-leb 1 (length text) (omega arith), le-leb (length text) 32 (omega arith)) all
