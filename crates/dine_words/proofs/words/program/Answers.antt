-- Each call adds what it is handed to what `clap` sees.
use Rattle.std.proofs.Common.{◌≡◌, ◌∙◌, ap, ap₂, rules}
use Rattle.std.proofs.lemmas.Result.{IfOk-weaker}
use Rattle.clap.specs.Words.{App, app_of, with_subcommand}
use Rattle.dine_words.specs.Words.{program_alone, replay_app, run_app}
use Rattle.dine_words.proofs.words.program.Goals as goal

pub returns : goal.returns
returns c =
    let first_is : app_of c.in_ok-subcommand.field-0 ≡ with_subcommand program_alone run_app.top
    = c.in_ok-run_command.ensures _ _ c.in_ok-subcommand.ensures ∙ ap (λ (alone : App). with_subcommand alone run_app.top) c.program_alone.ensures in
    let second_is : app_of c.in_ok-subcommand-2.field-0 ≡ with_subcommand (with_subcommand program_alone run_app.top) replay_app.top
    = c.in_ok-replay_command.ensures _ _ c.in_ok-subcommand-2.ensures ∙ ap (λ (before : App). with_subcommand before replay_app.top) first_is in
    IfOk-weaker c.subcommand-3.result _ _ (λ program adds. adds.shape (search rules) ∙ ap₂ with_subcommand second_is (ap (λ (a : App). a.top) c.new.ensures.app)) c.subcommand-3.ensures
