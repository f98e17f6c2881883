use Rattle.std.proofs.{Common.codes, lemmas.Result.IfOk-weaker}
use Rattle.replay_arguments.proofs.Building.{added}
use Rattle.clap.specs.Words.{App, with_rule}
use Rattle.arguments.specs.Arguments.{csv_rule, last_value_rule, numbers}
use Rattle.arguments.{specs.Tables.described_app, specs.Tables.with_arguments, proofs.Tables.grown}
use Rattle.arguments.proofs.sheet.sheet_command.Goals as goal

pub returns : goal.returns
unfolding described_app with_arguments
returns c =
    let event = c.event_value.ensures.rule in
    let round = c.round_value.ensures.rule in
    let one =
    added c.in_ok-command.command c.in_ok-command-2.command _ c.event_value.result _
    c.in_ok-command.ensures event.2 c.in_ok-command-2.ensures.app c.in_ok-command-2.ensures.local in
    let two =
    added c.in_ok-command-2.command c.in_ok-command-3.command _ c.round_value.result _ one round.2
    c.in_ok-command-3.ensures.app c.in_ok-command-3.ensures.local in
    let last : App → App =
    λ app. with_rule (with_rule app (last_value_rule (codes "position") (numbers 0 4294967295)))
    csv_rule in
    IfOk-weaker c.with_arguments.result _ _ (λ command made. (
      record { events = event.0; rounds = round.0; named = event.1; numbered = round.1 },
      made,
    )) (grown c.with_arguments.result c.in_ok-command-3.command _ last two
    c.with_arguments.ensures.app c.with_arguments.ensures.local)
