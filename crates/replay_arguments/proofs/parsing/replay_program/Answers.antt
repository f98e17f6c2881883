use Rattle.std.proofs.Common.{◌∙◌, ap}
use Rattle.std.proofs.lemmas.Result.{IfOk-weaker}
use Rattle.clap.specs.Simple.{app_of_fields}
use Rattle.replay_arguments.proofs.Building.{subbed}
use Rattle.replay_arguments.proofs.parsing.replay_program.Goals as goal

pub with_subcommand-requires : goal.with_subcommand-requires
with_subcommand-requires c = c.in_ok-replay_command.ensures.1.1

pub returns : goal.returns
returns c =
    let replay = c.in_ok-replay_command.ensures in
    let named = ap app_of_fields c.in_ok-command.ensures.0 ∙ c.desk_command.ensures in
    IfOk-weaker c.with_subcommand.result _ _
    (λ command made. (replay.0, subbed _ _ _ _ _ named replay.1.0 made)) c.with_subcommand.ensures
