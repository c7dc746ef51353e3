use Rattle.std.proofs.Common.{rules, tests, refl, sym, ◌∙◌}
use Rattle.toml.specs.View.{view}
use Rattle.dine_draft.proofs.shared.Searches.{position_seen}
use Rattle.dine_reader.specs.Document.{has_other_policy}
use Rattle.dine_reader.proofs.acts.first_other_policy.Goals as goal

pub returns-in-Some : goal.returns-in-Some
returns-in-Some c =
    sym c.in-Some.is ∙ position_seen view has_other_policy c.args.sites.now _ c.position.result c.position.ensures.ran (cc) (λ x b q k. search (rules, tests)) refl

pub returns-in-None : goal.returns-in-None
returns-in-None c =
    sym c.in-None.is ∙ position_seen view has_other_policy c.args.sites.now _ c.position.result c.position.ensures.ran (cc) (λ x b q k. search (rules, tests)) refl
