use Rattle.std.proofs.Common.{Vec, ap, ◌∙◌}
use Rattle.std.specs.declared.alloc.Global.{Global}
use Rattle.std.proofs.lemmas.Result.{IfErr-weaker}
use Rattle.dine_states.proofs.Replays.{set_same}
use Rattle.dine_states.proofs.schedule.Past.note_failed.Goals as goal

pub returns-in-Some-clause-same : goal.returns-in-Some-clause-same
returns-in-Some-clause-same c =
    IfErr-weaker c.push.result _ _ (λ fault same. set_same (λ (own : Vec _ Global). own.items) c.args.self.now.failed.items c.args.site c.push.new.numbers c.in-Some.failed.now (same ∙ ap (λ own. own.items) c.in-Some.ensures.value)) c.push.ensures
