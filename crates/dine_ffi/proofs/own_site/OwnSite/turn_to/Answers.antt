use mir.Syntax.{w64}
use mir.Val.{SFits}
use Rattle.std.proofs.Common.{rules, ℤ, Some, sym, ◌∙◌, ap, subst}
use Rattle.std.proofs.lemmas.Int.{to_z-of_z}
use Rattle.dine_ffi.specs.OwnSites.{ActsAs, SeenOwnSite}
use Rattle.dine_ffi.proofs.Turns.{acted_as}
use Rattle.dine_ffi.proofs.own_site.OwnSite.turn_to.Goals as goal

pub returns-then-answer-ge0-clause-acts : goal.returns-then-answer-ge0-clause-acts
returns-then-answer-ge0-clause-acts c =
    let fits : SFits w64 c.act-answer.result = search rules in
    subst (λ (r : ℤ). ActsAs (Some c.args.kind) c.args.out.now c.act-answer.new.out r c.args.self.now c.act-answer.new.self) (sym (to_z-of_z w64 c.act-answer.result fits))
    (acted_as c.args.kind c.event_of-next.result c.site.result c.args.out.now c.act-answer.new.out c.act-answer.result c.args.self.now c.act-answer.new.self
    c.event_of-next.ensures (c.site.ensures ∙ ap (λ (site : SeenOwnSite). site.core.site) c.self.view_is) c.act-answer.ensures.acts)
