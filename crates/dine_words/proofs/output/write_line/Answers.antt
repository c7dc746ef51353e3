-- What went out of the line, or the line and what went out of its line feed.
use Rattle.std.proofs.Common.{◌∷◌, ◌++◌, [], subst}
use Rattle.dine_words.specs.Output.{WritesPrefix}
use Rattle.dine_words.specs.declared.output.TheConstants.{LINE_FEED}
use Rattle.dine_words.proofs.OutputLemmas.{WritesPrefix-front, WritesPrefix-rest}
use Rattle.dine_words.proofs.output.write_line.Goals as goal

pub returns-in_err-write_whole-clause-prefix : goal.returns-in_err-write_whole-clause-prefix
returns-in_err-write_whole-clause-prefix g c =
    let old = g.W.Write.contents c.args.output.now in
    let new = g.W.Write.contents c.write_whole.new.output in
    subst (λ text. WritesPrefix old new (text ++ LINE_FEED ∷ [])) c.as_bytes.ensures.value (WritesPrefix-front old new c.as_bytes.result.now (LINE_FEED ∷ []) c.in_err-write_whole.ensures.prefix)

pub returns-clause-prefix : goal.returns-clause-prefix
returns-clause-prefix g c =
    let old = g.W.Write.contents c.args.output.now in
    let mid = g.W.Write.contents c.write_whole.new.output in
    let new = g.W.Write.contents c.write_out.new.output in
    subst (λ text. WritesPrefix old new (text ++ LINE_FEED ∷ [])) c.as_bytes.ensures.value (WritesPrefix-rest old mid new c.as_bytes.result.now (LINE_FEED ∷ []) c.in_ok-write_whole.ensures.whole c.write_out.ensures.prefix)
