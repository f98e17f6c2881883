use Rattle.std.proofs.{Common.◌∙◌, Common.ap, lemmas.Result.IfOk-weaker}
use Rattle.replay_arguments.proofs.Building.{subbed}
use Rattle.arguments.specs.Asking.{export_arguments, hall_arguments, hall_file_arguments}
use Rattle.arguments.specs.Asking.{key_arguments, results_arguments, serve_arguments}
use Rattle.arguments.specs.Tables.{described_app, with_arguments}
use Rattle.arguments.proofs.Tables.{on}
use Rattle.arguments.proofs.parsing.first_half.Goals as goal

pub with_subcommand-requires : goal.with_subcommand-requires
with_subcommand-requires c = c.in_ok-replay.ensures.1.1

pub with_subcommand-requires-2 : goal.with_subcommand-requires-2
with_subcommand-requires-2 c = c.in_ok-import.ensures.1.1

pub returns : goal.returns
unfolding described_app with_arguments
returns c =
    let replay = c.in_ok-replay.ensures in
    let imported = c.in_ok-import.ensures in
    let one = subbed _ _ _ _ _ c.desk_command.ensures replay.1.0 c.in_ok-command.ensures in
    let two = subbed _ _ _ _ _ one imported.1.0 c.in_ok-command-2.ensures in
    let three = c.in_ok-command-3.ensures ∙ ap (on export_arguments) two in
    let four = c.in_ok-command-4.ensures ∙ ap (on results_arguments) three in
    let five = c.in_ok-command-5.ensures ∙ ap (on hall_arguments) four in
    let six = c.in_ok-command-6.ensures ∙ ap (on hall_file_arguments) five in
    let seven = c.in_ok-command-7.ensures ∙ ap (on key_arguments) six in
    IfOk-weaker c.with_described-6.result _ _
    (λ command made. (replay.0, imported.0, made ∙ ap (on serve_arguments) seven))
    c.with_described-6.ensures
