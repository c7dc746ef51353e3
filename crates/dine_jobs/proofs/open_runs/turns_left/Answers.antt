-- The turn of one worker more.
use Rattle.std.proofs.Common.{◌++◌, ◌∷◌, [], List, ℕ, map, take, ap, ◌∙◌, sym, arith}
use Rattle.std.proofs.lemmas.List.{map-append, take_more}
use Rattle.dine_jobs.specs.Workers.{turn_of}
use Rattle.dine_jobs.proofs.open_runs.turns_left.Goals as goal

pub loop-site-preserved : goal.loop-site-preserved
loop-site-preserved g c =
    let was = c.loop-site.invariant in
    let sites = c.args.sites.now in
    let next = c.index-sites-site.result in (
      omega (arith, was.0, c.push_reserved.ensures.len),
      omega (arith, was.1, c.push_reserved.ensures.capacity),
      c.push_reserved.ensures.items ∙ ap (λ (l : List ℕ). l ++ c.turn.result ∷ []) was.2
          ∙ ap (λ (n : ℕ). map (λ site. turn_of site.job) (take c.loop-site.site sites) ++ n ∷ []) c.turn.ensures
          ∙ sym (map-append (λ site. turn_of site.job) (take c.loop-site.site sites) _)
          ∙ ap (map (λ site. turn_of site.job)) (sym (take_more sites c.loop-site.site next (omega (arith, c.loop-site-test.true)))),
    )
