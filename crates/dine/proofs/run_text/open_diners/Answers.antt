-- One diner more. Each has the room that its site needs.
use Rattle.std.proofs.Common.{◌≡◌, ◌∙◌, ℕ, ap, arith, map}
use Rattle.std.specs.List.{range_with_len}
use Rattle.std.proofs.lemmas.List.FromFn.{map-range_with_len_more}
use Rattle.dine_graph.specs.Plan.{site_count}
use Rattle.dine.specs.Run.{diner_of, diners_of}
use Rattle.dine.proofs.RunLemmas.{diner_expects, diner_has_room, diner_is}
use Rattle.dine.proofs.run_text.open_diners.Goals as goal

pub loop-site-preserved : goal.loop-site-preserved
loop-site-preserved c =
    let plan = c.args.plan.now in
    let site = c.loop-site.site in
    let same : c.in_ok-open.field-0 ≡ diner_of plan site = diner_is plan site c.in_ok-open.field-0 c.in_ok-open.ensures.site c.in_ok-open.ensures.calls c.in_ok-open.ensures.marks c.in_ok-open.ensures.room c.in_ok-open.ensures.word in
    let more = map-range_with_len_more (diner_of plan) 0 site site (omega arith) in
    let grown = c.push_reserved.ensures.items in
    let was = c.loop-site.invariant.diners in
    record {
      len = omega (arith, c.loop-site.invariant.len, c.push_reserved.ensures.len);
      room = omega (arith, c.loop-site.invariant.room, c.push_reserved.ensures.capacity);
      diners = cc;
    }

pub returns-clause-room : goal.returns-clause-room
returns-clause-room c s diner at =
    let plan = c.args.plan.now in
    let end : c.loop-site.site ≡ site_count plan = omega (arith, c.loop-site.auto.site-end, c.loop-site-test.false, c.sites-site-end.ensures.count) in
    let are : c.loop-site.diners.items ≡ diners_of plan = c.loop-site.invariant.diners ∙ ap (λ (n : ℕ). map (diner_of plan) (range_with_len 0 n)) end in
    diner_has_room plan c.loop-site.diners.items are s diner at

pub returns-clause-sites : goal.returns-clause-sites
returns-clause-sites c s diner at =
    let plan = c.args.plan.now in
    let end : c.loop-site.site ≡ site_count plan = omega (arith, c.loop-site.auto.site-end, c.loop-site-test.false, c.sites-site-end.ensures.count) in
    let are : c.loop-site.diners.items ≡ diners_of plan = c.loop-site.invariant.diners ∙ ap (λ (n : ℕ). map (diner_of plan) (range_with_len 0 n)) end in
    diner_expects plan c.loop-site.diners.items are s diner at
