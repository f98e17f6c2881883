use Rattle.std.proofs.Common.{◌∙◌, ap, ap₂, refl}
use Rattle.std.proofs.lemmas.Result.{IfOk-weaker}
use Rattle.clap.specs.Words.{is_simple, subcommand_of}
use Rattle.replay_arguments.proofs.parsing.parse_replay.Goals as goal

pub returns : goal.returns
returns c =
    let made = c.in_ok-command.ensures in
    IfOk-weaker c.try_get_matches_from.result _ _
    (λ matches has. (made.0, (has (ap is_simple made.1)).1 ∙ ap₂ subcommand_of made.1 refl))
    c.try_get_matches_from.ensures.matches
