use Rattle.std.proofs.Common.{◌≡◌, ℕ, ◌<◌, Bool, List, [], ◌∷◌, ◌++◌, length, get_or, sym, ◌∙◌, ap, ap₂, arith, map}
use Rattle.std.specs.Global.{Vec}
use Rattle.std.proofs.lemmas.List.{get_or-map, map-append}
use Rattle.std.proofs.lemmas.List.FromFn.{map-range_with_len_more}
use Rattle.dine_graph.specs.Plan.{job_count}
use Rattle.dine_rules.specs.declared.events.EventKind.{EventKind}
use Rattle.dine_rules.specs.Journals.{journal_of}
use Rattle.dine_world.specs.Worlds.{lists_of}
use Rattle.dine_rules.specs.Shown.{shown_in}
use Rattle.dine_order.proofs.orders.outcomes.shown_by.Goals as goal

-- the journal that is read is that of the site
journal_at : {J : Type 0} (events : J → List EventKind) (journals : List J) (s : ℕ) (journal past : J) → s < length journals → journal ≡ get_or journals s past → events journal ≡ journal_of (map events journals) s
journal_at events journals s journal past within is = ap events is ∙ sym (get_or-map events journals s past [] within)

pub loop-site-preserved : goal.loop-site-preserved
loop-site-preserved g c =
    let kept = c.loop-site.invariant in
    let plan = c.args.plan.now in
    let lists = map g.J.AsSlice.items c.args.journals.now in
    let s = c.loop-site.site in
    let within : s < length c.args.journals.now = omega (arith, c.loop-site-test.true, c.requires, c.sites-site-end.ensures.count) in
    let journal = c.as_slice-journal.ensures ∙ journal_at g.J.AsSlice.items c.args.journals.now s c.index-journals-site.result _ within c.index-journals-site.is in
    record {
      so_far = ap lists_of c.push_reserved.ensures.items ∙ map-append (λ (own : Vec Bool). own.items) c.loop-site.fails.items (c.in_ok-shown_in.field-0 ∷ [])
          ∙ ap₂ (λ (xs : List (List Bool)) (x : List Bool). xs ++ x ∷ []) kept.so_far (c.in_ok-shown_in.ensures ∙ ap₂ shown_in c.jobs.ensures.count journal)
          ∙ sym (map-range_with_len_more (λ t. shown_in (job_count plan t) (journal_of lists t)) 0 s s (omega arith));
      len = omega (arith, kept.len, c.push_reserved.ensures.len);
      room = omega (arith, kept.room, c.push_reserved.ensures.capacity);
    }
