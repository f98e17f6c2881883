use Rattle.std.proofs.lemmas.Result.{IfOk-weaker}
use Rattle.hall_file.proofs.hall_options.Building.{grows, needs}
use Rattle.hall_file.proofs.hall_options.options.to_option.Goals as goal

pub returns : goal.returns
returns c =
    let plain = rw c.string.ensures at c.option.ensures in
    let five =
    grows _ c.option.result c.num_args.result c.new.result.start c.new.result.end plain
    c.new.ensures.start c.new.ensures.end c.num_args.ensures.0 c.num_args.ensures.1 in
    IfOk-weaker c.requires_arg.result _ _ (λ r adds. needs _ c.num_args.result r _ five adds)
    c.requires_arg.ensures
