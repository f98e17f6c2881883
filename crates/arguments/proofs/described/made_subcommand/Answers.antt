use Rattle.std.proofs.Common.{◌∙◌, ap}
use Rattle.clap.specs.Words.{App}
use Rattle.arguments.{specs.Tables.described_app, specs.Tables.with_arguments, proofs.Tables.grown}
use Rattle.arguments.proofs.described.made_subcommand.Goals as goal

pub returns : goal.returns
unfolding described_app
returns c =
    let described = c.args.described.now in
    let first : App → App = λ app. with_arguments app described.common.now in
    let last : App → App = λ app. with_arguments app described.own.now in
    grown c.with_arguments-2.result c.in_ok-command.command _ last (
      c.in_ok-command.ensures.app ∙ ap first c.plain_command-command.ensures.0,
      c.in_ok-command.ensures.local ∙ c.plain_command-command.ensures.1,
    ) c.with_arguments-2.ensures.app c.with_arguments-2.ensures.local
