use Rattle.std.proofs.Common.{◌^◌, ◌≤◌, ◌<◌, arith}
use Rattle.std.proofs.Math.Nat.{pow-le-pow_right}
use Rattle.scorecard.proofs.digits.digits_value.Goals as goal

pub overflow_mul-value : goal.overflow_mul-value
overflow_mul-value c =
    let most : c.loop-byte.byte-index ≤ 6 = omega arith in
    let ten : 0 < 10 = omega arith in
    let big : 10 ^ c.loop-byte.byte-index ≤ 10 ^ 6 = pow-le-pow_right ten most in
    omega (arith, big)

pub overflow_add-value : goal.overflow_add-value
overflow_add-value c =
    let most : c.loop-byte.byte-index ≤ 6 = omega arith in
    let ten : 0 < 10 = omega arith in
    let big : 10 ^ c.loop-byte.byte-index ≤ 10 ^ 6 = pow-le-pow_right ten most in
    omega (arith, big)
