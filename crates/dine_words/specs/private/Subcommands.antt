-- What it means for a command of `clap` to be a subcommand.
use Rattle.std.specs.Prelude.{◌≡◌}
use Rattle.clap.specs.Words.{AddsSubcommand, App, app_of, with_subcommand}
use Rattle.clap.specs.declared.builder.command.Command.{Command as ClapCommand}

-- a command that, added to a program, is a subcommand of this app there
abbrev pub IsSubcommand : App → ClapCommand → Type 0
IsSubcommand app command = (program more : ClapCommand) → AddsSubcommand program command more → app_of more ≡ with_subcommand (app_of program) app.top
