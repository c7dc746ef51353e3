-- Each option is added to what `clap` sees of `run`.
use Rattle.std.proofs.Common.{◌≡◌, ◌∙◌, ap, ap₂, codes, rules}
use Rattle.std.proofs.lemmas.Result.{IfOk-weaker}
use Rattle.clap.specs.Words.{App, app_of, new_app, rule_of, with_rule, with_subcommand}
use Rattle.dine_words.specs.Words.{links_rule, table_rule}
use Rattle.dine_words.proofs.words.run_command.Goals as goal

pub returns : goal.returns
returns c =
    let table_is : rule_of c.text_option.result ≡ table_rule = search rules in
    let links_is : rule_of c.text_option-2.result ≡ links_rule = search rules in
    let first_is : app_of c.in_ok-arg.field-0 ≡ with_rule (new_app (codes "run")) table_rule = c.in_ok-arg.ensures.shape (search rules) ∙ ap₂ with_rule c.new.ensures.app table_is in
    IfOk-weaker c.arg-2.result _ _
    (λ run adds program more added. added.shape (search rules) ∙ ap (λ (a : App). with_subcommand (app_of program) a.top) (adds.shape (search rules) ∙ ap₂ with_rule first_is links_is))
    c.arg-2.ensures
