-- The option is added to what `clap` sees of `replay`.
use Rattle.std.proofs.Common.{◌≡◌, ◌∙◌, ap, ap₂, rules}
use Rattle.std.proofs.lemmas.Result.{IfOk-weaker}
use Rattle.clap.specs.Words.{App, app_of, rule_of, with_rule, with_subcommand}
use Rattle.dine_words.specs.Words.{choices_rule}
use Rattle.dine_words.proofs.words.replay_command.Goals as goal

pub returns : goal.returns
returns c =
    let rule_is : rule_of c.text_option.result ≡ choices_rule = search rules in
    IfOk-weaker c.arg.result _ _
    (λ replay adds program more added. added.shape (search rules) ∙ ap (λ (a : App). with_subcommand (app_of program) a.top) (adds.shape (search rules) ∙ ap₂ with_rule c.new.ensures.app rule_is))
    c.arg.ensures
