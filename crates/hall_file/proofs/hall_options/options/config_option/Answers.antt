use Rattle.std.proofs.lemmas.Result.{IfOk-weaker}
use Rattle.hall_file.proofs.hall_options.Building.{excludes}
use Rattle.hall_file.proofs.hall_options.options.config_option.Goals as goal

pub returns : goal.returns
returns c =
    let plain = rw c.string.ensures at c.option.ensures in
    let one = c.in_ok-conflicts_with in
    let first = excludes _ c.option.result one.field-0 _ plain one.ensures in
    IfOk-weaker c.conflicts_with-2.result _ _ (λ r adds. excludes _ one.field-0 r _ first adds)
    c.conflicts_with-2.ensures
