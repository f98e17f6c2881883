use Rattle.std.proofs.Common.{◌∙◌, ap, false, Some}
use Rattle.clap.specs.{Words.Rule, Words.rule_of, declared.builder.arg.Arg.Arg}
use Rattle.arguments.specs.Arguments.{value_rule}
use Rattle.arguments.proofs.import.way.Goals as goal

pub returns : goal.returns
returns c =
    let id = c.args.id.now in
    record {
      rule =
          ap rule_of c.long.ensures ∙ ap (λ (r : Rule). record r { long = Some id })
          (ap rule_of c.required.ensures ∙ ap (λ (r : Rule). record r { required = false })
          (c.value.ensures.rule ∙ ap (λ p. value_rule id (Some p)) c.from.ensures));
      local =
          ap (λ (a : Arg). a.global) c.long.ensures
          ∙ ap (λ (a : Arg). a.global) c.required.ensures ∙ c.value.ensures.local;
    }
