-- A write takes the next bytes of the text, or leaves the writer as it was.
use Rattle.std.proofs.Common.{◌≡◌, ◌-◌, arith, ap, drop, length, take, length-drop, subst, take_all, rules}
use Rattle.std.specs.Io.KnownBytes.{Appends}
use Rattle.std.proofs.KnownBytes.{Appends-kept}
use Rattle.dine_words.proofs.OutputLemmas.{Appends-next}
use Rattle.dine_words.proofs.output.write_whole.Goals as goal
use Rattle.dine_words.proofs.output.write_whole.Goals.{in-Ok, in-Err+else-ne}

pub loop-preserved : goal.loop-preserved
loop-preserved g c =
    let text = c.args.text.now in
    let at = c.loop.written in
    let rest = length text - at in
    let long = length-drop at text in
    let all : take rest (drop at text) ≡ drop at text = take_all rest (drop at text) (omega (arith, long)) in
    let held = g.W.Write.contents c.loop.output in
    let new = g.W.Write.contents c.write.new.self in
    elim c.match-write.branch [
      | in-Ok w ↦
          let piece : Appends held new (take w.in-Ok.count (drop at text)) = subst (λ xs. Appends held new (take w.in-Ok.count xs)) all w.in-Ok.ensures.bytes in
          record {
            appended = rw w.written-is (Appends-next _ held new text at w.in-Ok.count c.loop.invariant.appended piece);
            within =
                let bound = w.in-Ok.ensures.bound in
                let same = ap length all in
                omega (arith, w.written-is, bound, same, long);
          }
      | in-Err+else-ne w ↦ record {
        appended = rw w.written-is (Appends-kept _ held new _ c.loop.invariant.appended w.in-Err.ensures.bytes);
        within = omega (arith, w.written-is);
      }
    ]

pub returns-then-ne-clause-whole : goal.returns-then-ne-clause-whole
returns-then-ne-clause-whole g c = search rules
