-- One site more.
use Rattle.std.proofs.Common.{◌++◌, ◌∷◌, [], List, ℕ, map, take, ap, ◌∙◌, sym, arith}
use Rattle.std.proofs.lemmas.List.{map-append, take_more}
use Rattle.dine_jobs.specs.Queues.{done_of}
use Rattle.dine_jobs.proofs.executor.Executor.served.Goals as goal

pub loop-site-preserved : goal.loop-site-preserved
loop-site-preserved g c =
    ap (map done_of) c.in_ok-push-in-Some.ensures.items ∙ map-append done_of c.loop-site.all.items _
    ∙ ap (λ (l : List ℕ). l ++ done_of c.in-Some.served ∷ []) c.loop-site.invariant
    ∙ ap (λ (n : ℕ). take c.loop-site.site c.args.turns.now ++ n ∷ []) c.in-Some.ensures
    ∙ sym (take_more c.args.turns.now c.loop-site.site 0 (omega (arith, c.loop-site-test.true)))
