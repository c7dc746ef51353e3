-- The loop goes over all the arguments.
use Rattle.std.proofs.Common.{◌∙◌, ap, sym, map-id}
use Rattle.std.specs.Vec.Iter.{into_iter_items, into_iter_len}
use Rattle.std.proofs.lemmas.Iterator.Adapters.{YieldsList-from_vec}
use Rattle.std.proofs.lemmas.Iterator.Consumers.{YieldsList-end}
use Rattle.dine.proofs.arguments.list_of.Goals as goal

pub returns-clause-items : goal.returns-clause-items
returns-clause-items c =
    let given = c.args.arguments in
    let same = c.into_iter-argument-iterator.ensures.into_iter_gives in
    let all = YieldsList-end (YieldsList-from_vec {s = c.into_iter-argument-iterator.result} (into_iter_items given) (ap into_iter_items same) (ap into_iter_len same ∙ given.rest.ok.0))
    c.loop-argument.yielded _ c.loop-argument.yielded_by _ c.next.new.self c.in-None.is c.next.ensures.steps in
    c.loop-argument.invariant ∙ sym (map-id c.loop-argument.yielded) ∙ all.0
