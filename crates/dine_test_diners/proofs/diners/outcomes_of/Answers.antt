use Rattle.std.proofs.Common.{◌≡◌, ℕ, ◌<◌, ◌∙◌, Bool, List, [], ◌∷◌, Vec, Global, length, map, get_or, ap, sym, arith, vec_items}
use Rattle.std.specs.List.{range_with_len}
use Rattle.std.proofs.lemmas.List.{get_or-map, length-map, map-append, nil_from_length}
use Rattle.std.proofs.lemmas.List.FromFn.{get_or-map-range_with_len, length-map-range_with_len, map-range_with_len_more}
use Rattle.dine_graph.specs.Plan.{job_count, site_count}
use Rattle.dine_site_thread.proofs.shared.lists.Seen.{there_is}
use Rattle.dine_test_diners.proofs.diners.outcomes_of.Goals as goal

abbrev long : Vec Bool Global → ℕ
long own = length own.items

pub loop-site-init : goal.loop-site-init
loop-site-init c = ap (map long) (nil_from_length (vec_items c.new-fails.result) (ap length c.new-fails.ensures.items))

pub loop-site-preserved : goal.loop-site-preserved
loop-site-preserved c =
    let plan = c.args.plan.now in
    let site = c.loop-site.site in
    let old = vec_items c.loop-site.fails in
    let own = c.in_ok-outcomes_at.field-0 in
    let here : long own ≡ job_count plan site = c.in_ok-outcomes_at.ensures ∙ c.jobs.ensures.count in
    let more = map-range_with_len_more (job_count plan) 0 site site (omega arith) in
    let split = map-append long old (own ∷ []) in
    let grown = c.in_ok-push.ensures.items in
    let was = c.loop-site.invariant in
    cc

pub returns : goal.returns
returns c =
    let plan = c.args.plan.now in
    let fails = vec_items c.loop-site.fails in
    let n : c.loop-site.site ≡ site_count plan = omega (arith, c.loop-site-test.false, c.sites-site-end.ensures.count) in
    let lens : map long fails ≡ map (job_count plan) (range_with_len 0 (site_count plan)) = c.loop-site.invariant ∙ ap (λ (k : ℕ). map (job_count plan) (range_with_len 0 k)) n in
    let many : length fails ≡ site_count plan = sym (length-map fails long) ∙ ap length lens ∙ length-map-range_with_len (job_count plan) 0 (site_count plan) in
    record {
      sites = length-map fails (λ (own : Vec Bool Global). own.items) ∙ many;
      jobs = λ s past h.
          let within : s < length fails = omega (arith, h, many) in
          let own = (there_is fails s within).0 in
          ap length (get_or-map (λ (v : Vec Bool Global). v.items) fails s own past within) ∙ sym (get_or-map long fails s own 0 within)
          ∙ ap (λ (ks : List ℕ). get_or ks s 0) lens ∙ get_or-map-range_with_len (job_count plan) 0 (site_count plan) s s 0 h (omega arith);
    }
