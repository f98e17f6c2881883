use Rattle.std.proofs.Common.{◌∙◌, ap, Bool, Some, sym}
use Rattle.clap.specs.Words.{Rule, rule_of}
use Rattle.arguments.specs.Tables.{bound_rule, placed_rule, taken_rule}
use Rattle.arguments.proofs.Tables.{bound}
use Rattle.arguments.proofs.described.made_argument.Goals as goal

pub returns-then-described-clause-rule : goal.returns-then-described-clause-rule
returns-then-described-clause-rule c =
    let a = c.args.described.now in
    let r = bound_rule a (taken_rule a.id.now a.takes) in
    bound a _ c.taking.result c.required-plain.result c.in_ok-alone.alone c.in_ok-bound.bound _
    c.taking.ensures.rule c.required-plain.ensures c.in_ok-alone.ensures c.in_ok-bound.ensures
    ∙ ap (λ (by_place : Bool). placed_rule by_place a.id.now r) (sym c.if-described.true)

pub returns-clause-rule : goal.returns-clause-rule
returns-clause-rule c =
    let a = c.args.described.now in
    let r = bound_rule a (taken_rule a.id.now a.takes) in
    ap rule_of c.long.ensures ∙ ap (λ (r : Rule). record r { long = Some a.id.now })
    (bound a _ c.taking.result c.required-plain.result c.in_ok-alone.alone c.in_ok-bound.bound _
    c.taking.ensures.rule c.required-plain.ensures c.in_ok-alone.ensures c.in_ok-bound.ensures)
    ∙ ap (λ (by_place : Bool). placed_rule by_place a.id.now r) (sym c.if-described.false)
