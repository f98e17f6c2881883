use Rattle.std.proofs.Common.{◌∙◌, ap}
use Rattle.clap.specs.Words.{with_rule}
use Rattle.arguments.specs.Tables.{with_argument, with_arguments}
use Rattle.arguments.proofs.Tables.{fold_all, fold_on}
use Rattle.arguments.proofs.described.with_arguments.Goals as goal

pub loop-described-preserved : goal.loop-described-preserved
loop-described-preserved c = (
  fold_on with_argument _ _ _ c.args.arguments.now c.loop-described.described-index _
      c.loop-described-test.true c.loop-described.invariant.0
      (c.in_ok-command.ensures.app ∙ ap (with_rule _) c.in_ok-arg.ensures.rule),
  c.in_ok-command.ensures.local ∙ c.loop-described.invariant.1,
)

pub returns : goal.returns
unfolding with_arguments
returns c = record {
  app =
      fold_all with_argument _ _ c.args.arguments.now c.loop-described.described-index
      c.loop-described-test.false c.loop-described.invariant.0;
  local = c.loop-described.invariant.1;
}
