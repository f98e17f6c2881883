use Rattle.std.proofs.Common.{◌≡◌, ◌≤◌, false, codes, bytes_eq, sym, [], ◌∷◌, ◌++◌, ◌∙◌, map}
use Rattle.std.proofs.Common.{length, Some, None, ap, arith, rules, length-append}
use Rattle.std.specs.Option.{option_copied}
use Rattle.texts.{specs.Fields.all_of, specs.Fields.counted_of, proofs.CardSpellings.was_is}
use Rattle.texts.proofs.Splits.{front_none, list_ends, list_full, list_more, list_refused, parts}
use Rattle.texts.proofs.fields.was_of.Goals as goal

pub loop-attempt-init : goal.loop-attempt-init
loop-attempt-init c =
    record {
      so_far =
          rw c.new-values.ensures.items
          (front_none (all_of (map counted_of (parts 44 c.args.bytes.now))));
      count = ap length c.new-values.ensures.items;
    }

pub loop-attempt-preserved : goal.loop-attempt-preserved
loop-attempt-preserved c =
    let pushed
    : c.push.new.self.items ≡ c.loop-attempt.values.items ++ c.in-Some-counted_of.value ∷ [] =
    search rules in
    let read : counted_of c.cut.result.0.now ≡ Some c.in-Some-counted_of.value = search rules in
    record {
      so_far =
          rw pushed
          (list_more counted_of 44 c.args.bytes.now c.loop-attempt.values.items
          (option_copied c.loop-attempt.ahead)
          c.in-Some.left.now (c.cut.result.0.now, option_copied c.cut.result.1)
          c.in-Some-counted_of.value c.loop-attempt.invariant.so_far
          (ap option_copied c.in-Some.is) c.cut.ensures read);
      count =
          ap length pushed
          ∙ length-append c.loop-attempt.values.items (c.in-Some-counted_of.value ∷ [])
          ∙ (omega arith);
    }

pub returns-in_default : goal.returns-in_default
returns-in_default c =
    let other : bytes_eq c.args.bytes.now (codes "-") ≡ false = search rules in
    let few : length c.loop-attempt.values.items ≤ 5 = omega arith in
    ap Some c.new-in_default.ensures
    ∙ list_ends counted_of 44 c.args.bytes.now c.loop-attempt.values.items
    (option_copied c.loop-attempt.ahead) c.loop-attempt.invariant.so_far
    (ap option_copied c.in_default.is) few
    ∙ sym (was_is c.args.bytes.now other)

pub returns-in_default-counted_of : goal.returns-in_default-counted_of
returns-in_default-counted_of c =
    let other : bytes_eq c.args.bytes.now (codes "-") ≡ false = search rules in
    let none : counted_of c.cut.result.0.now ≡ None = search rules in
    list_refused counted_of 44 c.args.bytes.now c.loop-attempt.values.items
    (option_copied c.loop-attempt.ahead) c.in-Some.left.now
    (c.cut.result.0.now, option_copied c.cut.result.1) c.loop-attempt.invariant.so_far
    (ap option_copied c.in-Some.is) c.cut.ensures none
    ∙ sym (was_is c.args.bytes.now other)

pub returns-in-Some-ahead : goal.returns-in-Some-ahead
returns-in-Some-ahead c =
    let other : bytes_eq c.args.bytes.now (codes "-") ≡ false = search rules in
    let five : length c.loop-attempt.values.items ≡ 5 = omega arith in
    list_full counted_of 44 c.args.bytes.now c.loop-attempt.values.items
    (option_copied c.loop-attempt.ahead)
    c.in-Some-ahead.field-0.now c.loop-attempt.invariant.so_far
    (ap option_copied c.in-Some-ahead.is) five
    ∙ sym (was_is c.args.bytes.now other)

pub returns-in-None : goal.returns-in-None
returns-in-None c =
    let other : bytes_eq c.args.bytes.now (codes "-") ≡ false = search rules in
    let few : length c.loop-attempt.values.items ≤ 5 = omega arith in
    ap Some c.new-in-None.ensures
    ∙ list_ends counted_of 44 c.args.bytes.now c.loop-attempt.values.items
    (option_copied c.loop-attempt.ahead) c.loop-attempt.invariant.so_far
    (ap option_copied c.in-None.is) few
    ∙ sym (was_is c.args.bytes.now other)
