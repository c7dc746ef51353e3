use Rattle.std.proofs.Common.{None, get_or, set, sym, ap, ◌∙◌, arith}
use Rattle.std.proofs.lemmas.List.{get_or_past, get_or_read}
use Rattle.std.specs.Vec.{with_item}
use Rattle.dine_threads.proofs.lists.Writes.{row_past, row_read, slot_others}
use Rattle.dine_threads.proofs.slots.remove_at.Goals as goal

pub returns-then-site-len-clause-value : goal.returns-then-site-len-clause-value
returns-then-site-len-clause-value g c =
    let rows = c.args.rows.now in
    sym (ap (λ r. get_or r c.args.spot.at None) (row_past rows.items c.args.spot.site (omega (arith, rows.ok.0))))

pub returns-then-at-len-clause-value : goal.returns-then-at-len-clause-value
returns-then-at-len-clause-value g c =
    let rows = c.args.rows.now in
    let row = c.index_mut-row.result.now in
    let read = row_read rows.items c.args.spot.site row (omega (arith, rows.ok.0)) c.index_mut-row.ensures.value in
    sym (ap (λ r. get_or r c.args.spot.at None) read ∙ get_or_past row.items c.args.spot.at None (omega (arith, row.ok.0)))

pub returns-clause-value : goal.returns-clause-value
returns-clause-value g c =
    let rows = c.args.rows.now in
    let row = c.index_mut-row.result.now in
    let read = row_read rows.items c.args.spot.site row (omega (arith, rows.ok.0)) c.index_mut-row.ensures.value in
    c.take.ensures.value
    ∙ get_or_read row.items c.args.spot.at c.index_mut.result.now (omega (arith, row.ok.0)) c.index_mut.ensures.value None
    ∙ sym (ap (λ r. get_or r c.args.spot.at None) read)

pub returns-clause-others : goal.returns-clause-others
returns-clause-others g c =
    let rows = c.args.rows.now in
    let row = c.index_mut-row.result.now in
    let left = c.take.new.self in
    let read = row_read rows.items c.args.spot.site row (omega (arith, rows.ok.0)) c.index_mut-row.ensures.value in
    λ other apart.
    slot_others rows.items c.args.spot other (with_item row c.args.spot.at left) left (omega (arith, rows.ok.0)) (ap (λ r. set r c.args.spot.at left) (sym read)) apart
