use Rattle.std.proofs.Common.{◌≡◌, ◌≤◌, [], ◌∷◌, ◌++◌, ◌∙◌, map, length, Some, None, ap, arith}
use Rattle.std.{proofs.Common.rules, proofs.Common.length-append, specs.Option.option_copied}
use Rattle.texts.specs.Fields.{all_of, stays_or_of}
use Rattle.texts.proofs.Splits.{front_none, list_ends, list_full, list_more, list_refused, parts}
use Rattle.texts.proofs.fields.outcomes_of.Goals as goal

pub loop-attempt-init : goal.loop-attempt-init
loop-attempt-init c =
    record {
      so_far =
          rw c.new-outcomes.ensures.items
          (front_none (all_of (map stays_or_of (parts 47 c.args.bytes.now))));
      count = ap length c.new-outcomes.ensures.items;
    }

pub loop-attempt-preserved : goal.loop-attempt-preserved
loop-attempt-preserved c =
    let pushed
    : c.push.new.self.items ≡ c.loop-attempt.outcomes.items ++ c.in-Some-2.outcome ∷ [] =
    search rules in
    let read : stays_or_of c.cut.result.0.now ≡ Some c.in-Some-2.outcome = search rules in
    record {
      so_far =
          rw pushed
          (list_more stays_or_of 47 c.args.bytes.now c.loop-attempt.outcomes.items
          (option_copied c.loop-attempt.ahead)
          c.in-Some.left.now (c.cut.result.0.now, option_copied c.cut.result.1)
          c.in-Some-2.outcome c.loop-attempt.invariant.so_far
          (ap option_copied c.in-Some.is) c.cut.ensures read);
      count =
          ap length pushed
          ∙ length-append c.loop-attempt.outcomes.items (c.in-Some-2.outcome ∷ [])
          ∙ (omega arith);
    }

pub returns-in_default : goal.returns-in_default
returns-in_default c =
    let few : length c.loop-attempt.outcomes.items ≤ 5 = omega arith in
    list_ends stays_or_of 47 c.args.bytes.now c.loop-attempt.outcomes.items
    (option_copied c.loop-attempt.ahead) c.loop-attempt.invariant.so_far
    (ap option_copied c.in_default.is) few

pub returns-in_default-2 : goal.returns-in_default-2
returns-in_default-2 c =
    let none : stays_or_of c.cut.result.0.now ≡ None = search rules in
    list_refused stays_or_of 47 c.args.bytes.now c.loop-attempt.outcomes.items
    (option_copied c.loop-attempt.ahead) c.in-Some.left.now
    (c.cut.result.0.now, option_copied c.cut.result.1) c.loop-attempt.invariant.so_far
    (ap option_copied c.in-Some.is) c.cut.ensures none

pub returns-in-Some-ahead : goal.returns-in-Some-ahead
returns-in-Some-ahead c =
    let five : length c.loop-attempt.outcomes.items ≡ 5 = omega arith in
    list_full stays_or_of 47 c.args.bytes.now c.loop-attempt.outcomes.items
    (option_copied c.loop-attempt.ahead)
    c.in-Some-ahead.field-0.now c.loop-attempt.invariant.so_far
    (ap option_copied c.in-Some-ahead.is) five

pub returns-in-None : goal.returns-in-None
returns-in-None c =
    let few : length c.loop-attempt.outcomes.items ≤ 5 = omega arith in
    list_ends stays_or_of 47 c.args.bytes.now c.loop-attempt.outcomes.items
    (option_copied c.loop-attempt.ahead) c.loop-attempt.invariant.so_far
    (ap option_copied c.in-None.is) few
