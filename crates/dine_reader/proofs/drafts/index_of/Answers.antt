use Rattle.std.proofs.Common.{[], cond, Some, None, ap, sym, ◌∙◌, arith}
use Rattle.std.specs.Option.{option_or}
use Rattle.std.specs.Str.{bytes_eq}
use Rattle.dine_reader.proofs.IndexLemmas.{position_name_more}
use Rattle.dine_reader.proofs.ReadLemmas.{names_in, names_in-at, length-names_in}
use Rattle.dine_reader.proofs.drafts.index_of.Goals as goal

pub loop-i-preserved : goal.loop-i-preserved
loop-i-preserved c = λ q.
    let sites = c.args.sites.now in
    let i = c.loop-i.i in
    let long = length-names_in sites in
    let name = c.text_at.result.now in
    let at = names_in-at sites i c.index-sites-i.result c.loop-i-test.true c.index-sites-i.is in
    c.in_ok-add_name.ensures q ∙ ap (λ o. option_or o (cond (bytes_eq q name) (Some i) None)) (c.loop-i.invariant q)
    ∙ sym (position_name_more q name (names_in sites) i [] (omega arith) (at ∙ sym c.text_at.ensures))
