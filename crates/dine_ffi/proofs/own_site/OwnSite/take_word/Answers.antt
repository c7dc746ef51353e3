use mir.Syntax.{w64}
use mir.Val.{SFits}
use Rattle.std.proofs.Common.{rules, ◌≡◌, sym, ◌∙◌, subst}
use Rattle.std.proofs.lemmas.Int.{to_z-of_z}
use Rattle.dine_rules.specs.Steps as step
use Rattle.dine_ffi.specs.OwnSites.{SeenOwnSite, SiteSteps}
use Rattle.dine_ffi.specs.private.OwnSiteFields.{seen_own_site}
use Rattle.dine_ffi.proofs.Words.{word_done, word_keeps_meal, word_refused}
use Rattle.dine_ffi.proofs.own_site.OwnSite.take_word.Goals as goal

-- the site afterwards
abbrev new : goal.After-status_of → SeenOwnSite
new c = record { plan = c.self.inside.plan; run = c.self.inside.run; core = c.take.new.core; meal = c.self.inside.meal; shelf = c.self.inside.shelf.items }

pub returns-clause-done : goal.returns-clause-done
returns-clause-done c = λ done.
    let fits : SFits w64 c.status_of.result = search rules in
    subst (λ (old : SeenOwnSite). SiteSteps (step.Take c.args.i c.args.letter) old (new c)) c.self.view_is
    (word_done (seen_own_site c.self.inside) c.take.new.core c.args.i c.args.letter c.take.result c.status_of.result c.status_of.ensures c.take.ensures.step (sym (to_z-of_z w64 c.status_of.result fits) ∙ done))

pub returns-clause-refused : goal.returns-clause-refused
returns-clause-refused c = λ refused.
    let fits : SFits w64 c.status_of.result = search rules in
    subst (λ (old : SeenOwnSite). new c ≡ old) c.self.view_is
    (word_refused (seen_own_site c.self.inside) c.take.new.core c.args.i c.args.letter c.take.result c.status_of.result c.status_of.ensures c.take.ensures.step (λ zero. refused (to_z-of_z w64 c.status_of.result fits ∙ zero)))

pub invariant_of-self : goal.invariant_of-self
invariant_of-self c = word_keeps_meal c.self.inside.meal c.self.inside.core c.take.new.core c.args.i c.args.letter c.requires c.take.result c.take.ensures.core c.take.ensures.step c.self.invariant
