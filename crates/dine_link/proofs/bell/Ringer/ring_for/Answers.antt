use Rattle.std.proofs.Common.{◌++◌, ◌∷◌, [], List, ap, ◌∙◌}
use Rattle.std.proofs.lemmas.List.{append_assoc}
use Rattle.dine_link.specs.declared.deed.Deed.{Deed}
use Rattle.dine_link.specs.declared.deed.Deed.TheVariants.{Rang}
use Rattle.dine_link.specs.Deeds.{waking}
use Rattle.dine_link.proofs.bell.Ringer.ring_for.Goals as goal

pub returns-clause-noted : goal.returns-clause-noted
returns-clause-noted g c =
    let woken = c.in_ok-woken.woken in
    record {
      woken = woken;
      deeds = c.wake_if.ensures.noted ∙ ap (λ (ds : List Deed). ds ++ waking c.args.place woken) c.in_ok-woken.ensures.noted ∙ append_assoc c.args.log.now.deeds (Rang c.args.place c.args.kind woken ∷ []) (waking c.args.place woken);
    }
