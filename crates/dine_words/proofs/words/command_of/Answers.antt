-- Arguments that are refused as a fault of usage are refused by `clap`, or have a bad LIST or no table's name.
use Rattle.std.proofs.Common.{◌≡◌, ◌∙◌, ap, refl, subst, sym, None, true, is_some, map, string_bytes}
use Rattle.std.proofs.lemmas.Result.{IfOk-weaker}
use Rattle.clap.specs.Words.{App, HasMatchesOf, app_of, kind_of, subcommand_of, subcommand_rows_of, takes}
use Rattle.clap.specs.declared.error.kind.ErrorKind.TheVariants.{OutOfMemory}
use Rattle.dine_words.specs.Words.{command_found, command_in, dine_app}
use Rattle.dine_words.proofs.WordsLemmas.{false_behind, false_first, usage_is_refused}
use Rattle.dine_words.proofs.words.command_of.Goals as goal

pub returns-in_err-matches-clause-usage : goal.returns-in_err-matches-clause-usage
returns-in_err-matches-clause-usage c reported =
    let words = map string_bytes c.args.words.now in
    let same : app_of c.in_ok-program.field-0 ≡ dine_app = c.in_ok-program.ensures in
    let error = c.in_err-matches.field-0.0 in
    let passes : takes dine_app words ≡ true → kind_of error ≡ OutOfMemory = λ yes. c.in_err-matches.ensures.passes (ap (λ (a : App). takes a words) same ∙ yes) in
    false_first (takes dine_app words) (is_some (command_in dine_app words))
    (usage_is_refused c.from_residual-in_err-matches.result (kind_of error) (takes dine_app words) c.from_residual-in_err-matches.ensures.1 passes reported)

pub returns-clause-ok : goal.returns-clause-ok
returns-clause-ok c =
    let words = map string_bytes c.args.words.now in
    let matches = c.in_ok-matches.matches in
    let same : subcommand_rows_of matches ≡ subcommand_of dine_app words
    = (subst (λ (a : App). HasMatchesOf a words matches) c.in_ok-program.ensures c.in_ok-matches.ensures.matches refl).1 in
    IfOk-weaker c.command_met.result _ _ (λ command is. ap command_found (sym same) ∙ is) c.command_met.ensures.ok

pub returns-clause-usage : goal.returns-clause-usage
returns-clause-usage c reported =
    let words = map string_bytes c.args.words.now in
    let matches = c.in_ok-matches.matches in
    let same : subcommand_rows_of matches ≡ subcommand_of dine_app words
    = (subst (λ (a : App). HasMatchesOf a words matches) c.in_ok-program.ensures c.in_ok-matches.ensures.matches refl).1 in
    let none : command_in dine_app words ≡ None = ap command_found (sym same) ∙ c.command_met.ensures.refused reported in
    false_behind (takes dine_app words) (is_some (command_in dine_app words)) (ap is_some none)

pub returns-clause-fault : goal.returns-clause-fault
returns-clause-fault c reported fits =
    let words = map string_bytes c.args.words.now in
    let matches = c.in_ok-matches.matches in
    let same : subcommand_rows_of matches ≡ subcommand_of dine_app words
    = (subst (λ (a : App). HasMatchesOf a words matches) c.in_ok-program.ensures c.in_ok-matches.ensures.matches refl).1 in
    ap command_found (sym same) ∙ c.command_met.ensures.refused reported
