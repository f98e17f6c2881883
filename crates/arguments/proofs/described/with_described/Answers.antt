use Rattle.std.proofs.Common.{◌∙◌, ap}
use Rattle.std.proofs.lemmas.Result.{IfOk-weaker}
use Rattle.clap.specs.Words.{App, app_of, with_subcommand}
use Rattle.arguments.proofs.described.with_described.Goals as goal

pub returns : goal.returns
returns c =
    IfOk-weaker c.with_subcommand.result _ _ (λ command made. made
    ∙ ap (λ (sub : App). with_subcommand (app_of c.args.command) sub.top) c.in_ok-sub.ensures.0)
    c.with_subcommand.ensures
