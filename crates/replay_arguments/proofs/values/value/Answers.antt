use Rattle.std.proofs.Common.{◌∙◌, ap, Some}
use Rattle.replay_arguments.specs.Arguments.{value_rule}
use Rattle.replay_arguments.proofs.Building.{value_is, value_is_local}
use Rattle.replay_arguments.proofs.values.value.Goals as goal

pub returns : goal.returns
returns c = record {
  rule =
      value_is c.args.id.now c.new.result c.value_name.result c.help.result c.required.result
      c.action.result c.value_parser.result _ _ c.new.ensures.rule c.value_name.ensures
      c.help.ensures c.required.ensures c.action.ensures c.value_parser.ensures.others
      ∙ ap (value_rule c.args.id.now) c.value_parser.ensures.given.1
      ∙ ap (λ p. value_rule c.args.id.now (Some p)) c.value_parser.ensures.given.2;
  local =
      value_is_local c.new.result c.value_name.result c.help.result c.required.result
      c.action.result c.value_parser.result _ _ c.new.ensures.optional.1 c.value_name.ensures
      c.help.ensures c.required.ensures c.action.ensures c.value_parser.ensures.others;
}
