use Rattle.std.proofs.Common.{◌≡◌, ℕ, ◌<◌, Bool, List, Vec, Global, length, get_or, sym, ◌∙◌, ap, subst, inl, inr, arith}
use Rattle.std.proofs.lemmas.Bool.{cases_eq}
use Rattle.std.proofs.lemmas.List.{get_or-map, length-map}
use Rattle.dine_graph.specs.Plan.{job_count}
use Rattle.dine_world.specs.Worlds.{lists_of}
use Rattle.dine_world_tests.proofs.worlds.outcomes.fits_the_jobs.Goals as goal

pub loop-site-init : goal.loop-site-init
loop-site-init c = record { fits = λ s past h. absurd (omega (arith, h)) }

pub loop-site-preserved : goal.loop-site-preserved
loop-site-preserved c =
    let items : Vec Bool Global → List Bool = λ (own : Vec Bool Global). own.items in
    let fails = c.args.fails.now in
    let own = c.index-fails-site.result in
    let within : c.loop-site.site < length fails = omega (arith, c.loop-site-test.true, c.if-fails-sites.false, c.sites.ensures.count, c.sites-site-end.ensures.count) in
    let long : length own.items ≡ job_count c.args.plan.now c.loop-site.site = omega (arith, own.ok.0, c.len.ensures, c.if-len-jobs.false, c.jobs.ensures.count) in
    let here : (past : List Bool) → length (get_or (lists_of fails) c.loop-site.site past) ≡ job_count c.args.plan.now c.loop-site.site
    = λ past. ap length (get_or-map items fails c.loop-site.site own past within ∙ ap items (sym c.index-fails-site.is)) ∙ long in
    record {
      fits = λ s past h. elim (cases_eq s c.loop-site.site) [
        | inl same ↦ subst (λ (t : ℕ). length (get_or (lists_of fails) t past) ≡ job_count c.args.plan.now t) (sym same) (here past)
        | inr other ↦ c.loop-site.invariant.fits s past (omega (arith, h, other))
      ];
    }

pub returns : goal.returns
returns c _ =
    record {
      sites = length-map c.args.fails.now (λ (own : Vec Bool Global). own.items) ∙ c.if-fails-sites.false ∙ c.sites.ensures.count;
      jobs = λ s past h. c.loop-site.invariant.fits s past (omega (arith, h, c.loop-site-test.false, c.sites-site-end.ensures.count));
    }
