use Rattle.std.proofs.Common.{◌≡◌, ℕ, ◌≤◌, ◌<◌, ◌∙◌, length, map, slice_index_or, vec_items, ap, subst, sym, arith}
use Rattle.std.specs.List.{range_with_len}
use Rattle.std.proofs.lemmas.Grind.{common_steps}
use Rattle.std.proofs.lemmas.Option.{slice_get-get_or}
use Rattle.dine_graph.specs.Plan.{job_count, site_count}
use Rattle.dine_tellers.specs.Balances.{before, balance_of}
use Rattle.dine_tellers.specs.declared.TheConstants.{START}
use Rattle.dine_tellers.proofs.Sums.{before_next, before_some, next_balances}
use Rattle.dine_tellers.proofs.books_of.Goals as goal

pub loop-site-preserved : goal.loop-site-preserved
loop-site-preserved c =
    let was = c.loop-site.invariant in
    let plan = c.args.plan.now in
    let s = c.loop-site.site in
    let within : s < site_count plan = omega (arith, c.loop-site-test.true, c.sites-site-end.ensures.count) in
    let out = slice_index_or c.args.outs.now s c.index-outs-site.result in
    let within_outs : s < length c.args.outs.now = omega (arith, within, c.requires.count) in
    let sent = c.requires.sent s out (slice_get-get_or c.args.outs.now s c.index-outs-site.result within_outs) in
    let few : out.diner.sent ≤ START = omega (arith, sent, c.requires.can_pay s within) in
    let pushed = c.in_ok-push.ensures.items in
    record {
      balances = next_balances plan (vec_items c.loop-site.balances) (vec_items c.push.new.self) s c.loop-site.came out.diner.sent was.balances was.came sent pushed;
      total = grind (arith, common_steps, was.total, pushed);
      came = sent ∙ ap (job_count plan) (sym (before_next plan s));
      kept = omega (arith, was.kept, few);
    }

pub returns : goal.returns
returns c =
    let was = c.loop-site.invariant in
    let plan = c.args.plan.now in
    let all : c.loop-site.site ≡ site_count plan = omega (arith, c.loop-site-test.false, c.loop-site.auto.site-end, c.sites-site-end.ensures.count) in
    let last = ap (job_count plan) (ap (before plan) all ∙ before_some plan (site_count plan) (omega (arith, c.sites.ensures.plan.has_site))) in
    record {
      balances = subst (λ (n : ℕ). vec_items c.loop-site.balances ≡ map (balance_of plan) (range_with_len 0 n)) all was.balances;
      total = was.total;
      kept = omega (arith, was.kept, was.came, last, all);
    }
