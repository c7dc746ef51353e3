-- One worker more, which begins with the next turn.
use Rattle.std.proofs.Common.{◌++◌, ◌∷◌, [], List, ℕ, map, take, ap, ◌∙◌, sym, refl, subst, All, arith}
use Rattle.std.proofs.lemmas.List.{map-append, take_more}
use Rattle.std.proofs.lemmas.List.Elements.{All-push}
use Rattle.dine_jobs.specs.Workers.{IsFreshWorker, turn_of}
use Rattle.dine_jobs.proofs.executor.Executor.workers.Goals as goal

pub loop-site-preserved : goal.loop-site-preserved
loop-site-preserved g c = (
  subst (All (IsFreshWorker c.args.most)) (sym c.in_ok-push.ensures.items)
      (All-push (IsFreshWorker c.args.most) c.loop-site.workers.items _ c.loop-site.invariant.0 (record { most_is = refl; none = sym c.before-in-loop-site.ensures })),
  ap (map turn_of) c.in_ok-push.ensures.items ∙ map-append turn_of c.loop-site.workers.items _
      ∙ ap (λ (l : List ℕ). l ++ c.before-in-loop-site.result.count ∷ []) c.loop-site.invariant.1
      ∙ ap (λ (n : ℕ). take c.loop-site.site c.args.turns.now ++ n ∷ []) c.before-in-loop-site.ensures
      ∙ sym (take_more c.args.turns.now c.loop-site.site 0 (omega (arith, c.requires.many, c.loop-site-test.true, c.sites-site-end.ensures.count))),
)
