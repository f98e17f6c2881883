use Rattle.std.proofs.lemmas.Result.{IfOk-weaker}
use Rattle.hall_file.proofs.hall_options.Building.{needs}
use Rattle.hall_file.proofs.hall_options.options.hall_option.Goals as goal

pub returns : goal.returns
returns c =
    let plain = rw c.unsigned-number.ensures at c.option.ensures in
    IfOk-weaker c.requires_arg.result _ _ (λ r adds. needs _ c.option.result r _ plain adds)
    c.requires_arg.ensures
