use Rattle.std.proofs.{Common.◌∙◌, Common.ap, Common.codes, lemmas.Result.IfOk-weaker}
use Rattle.replay_arguments.proofs.Building.{subbed}
use Rattle.arguments.specs.{Arguments.errand_arguments, Asking.ask_arguments}
use Rattle.arguments.specs.Asking.{enter_arguments}
use Rattle.arguments.specs.{Asking.lines_arguments, Asking.log_arguments, Asking.status_arguments}
use Rattle.arguments.specs.Tables.{described_app, with_arguments}
use Rattle.arguments.proofs.Tables.{on}
use Rattle.arguments.proofs.parsing.command.Goals as goal

pub with_subcommand-requires : goal.with_subcommand-requires
with_subcommand-requires c = c.in_ok-sheet.ensures.1.1

pub returns : goal.returns
unfolding described_app with_arguments
returns c =
    let half = c.in_ok-command.ensures in
    let sheet = c.in_ok-sheet.ensures in
    let one = c.in_ok-command-2.ensures ∙ ap (on status_arguments) half.2 in
    let two = c.in_ok-command-3.ensures ∙ ap (on log_arguments) one in
    let three = c.in_ok-command-4.ensures ∙ ap (on enter_arguments) two in
    let four = c.in_ok-command-5.ensures ∙ ap (on lines_arguments) three in
    let five = c.in_ok-command-6.ensures ∙ ap (on ask_arguments) four in
    let six = subbed _ _ _ _ _ five sheet.1.0 c.in_ok-command-7.ensures in
    let seven = c.in_ok-command-8.ensures ∙ ap (on (errand_arguments (codes "tick"))) six in
    IfOk-weaker c.with_described-7.result _ _ (λ command made. (
      record { replay = half.0; sheet = sheet.0; imported = half.1 },
      made ∙ ap (on (errand_arguments (codes "stop"))) seven,
    )) c.with_described-7.ensures
