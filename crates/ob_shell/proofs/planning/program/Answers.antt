-- Each subcommand is added to the app, and that it has a version. The texts are not part of the app.
use Rattle.std.proofs.Common.{◌≡◌, ◌∙◌, ap, false}
use Rattle.clap.specs.Built.{AddsSubcommand}
use Rattle.clap.specs.Simple.{app_of_fields, shape_of}
use Rattle.clap.specs.Words.{App, app_of, with_subcommand}
use Rattle.clap.specs.declared.builder.command.Command.{Command}
use Rattle.clap.specs.declared.builder.command.Command.TheViews.{out-Command}
use Rattle.clap.specs.declared.builder.command.Command.TheOpen.{Command-F}
use Rattle.ob_shell.specs.Plan.{text_of, with_version}
use Rattle.ob_shell.proofs.planning.program.Goals as goal

-- an app to which a subcommand without arguments for all is added
added : (old sub new : Command) (had app : App) → AddsSubcommand old sub new → app_of old ≡ had → app_of sub ≡ app → (out-Command sub).has_globals ≡ false
    → app_of new ≡ with_subcommand had app.top
added old sub new had app adds is own local =
    adds.shape local ∙ (ap (λ a. with_subcommand a (shape_of sub)) is ∙ ap (λ a. with_subcommand had a.top) own)

pub returns-clause-app : goal.returns-clause-app
returns-clause-app c =
    let run = added _ _ _ _ _ c.in_ok-subcommand.ensures c.new.ensures.app c.in_ok-run.ensures.app c.in_ok-run.ensures.local in
    let threads = added _ _ _ _ _ c.in_ok-subcommand-2.ensures run c.in_ok-threads.ensures.app c.in_ok-threads.ensures.local in
    let replay = added _ _ _ _ _ c.in_ok-subcommand-3.ensures threads c.in_ok-replay.ensures.app c.in_ok-replay.ensures.local in
    let check = added _ _ _ _ _ c.in_ok-subcommand-4.ensures replay c.in_ok-check.ensures.app c.in_ok-check.ensures.local in
    let session = added _ _ _ _ _ c.in_ok-subcommand-5.ensures check c.session_command-session.ensures.app c.session_command-session.ensures.local in
    let tree = added _ _ _ _ _ c.in_ok-program.ensures session c.in_ok-tree.ensures.app c.in_ok-tree.ensures.local in
    ap app_of_fields c.after_help.ensures ∙ (ap app_of_fields c.version.ensures ∙ ap with_version (ap app_of_fields c.about.ensures ∙ tree))

pub returns-clause-examples : goal.returns-clause-examples
returns-clause-examples c = ap (λ (fields : Command-F Command). text_of fields.after_help) c.after_help.ensures
