use Rattle.std.proofs.lemmas.Result.{IfOk-weaker}
use Rattle.replay_arguments.proofs.Building.{added, added_last}
use Rattle.replay_arguments.proofs.replay.replay_command.Goals as goal

pub returns : goal.returns
returns c =
    let event = c.event_value.ensures.rule in
    let round = c.round_value.ensures.rule in
    let one =
    added c.plain_command-command.result c.in_ok-command.command _ c.event_value.result _
    c.plain_command-command.ensures event.2 c.in_ok-command.ensures.app
    c.in_ok-command.ensures.local in
    let two =
    added c.in_ok-command.command c.in_ok-command-2.command _ c.round_value.result _ one round.2
    c.in_ok-command-2.ensures.app c.in_ok-command-2.ensures.local in
    let three =
    added c.in_ok-command-2.command c.in_ok-command-3.command _ c.csv_flag.result _ two
    c.csv_flag.ensures.rule c.in_ok-command-3.ensures.app c.in_ok-command-3.ensures.local in
    IfOk-weaker c.with_argument-4.result _ _ (λ command made. (
      record { events = event.0; rounds = round.0; named = event.1; numbered = round.1 },
      made,
    )) (added_last c.with_argument-4.result c.in_ok-command-3.command _ c.flag-only_sheet.result _
    three c.flag-only_sheet.ensures.rule c.with_argument-4.ensures.app
    c.with_argument-4.ensures.local)
