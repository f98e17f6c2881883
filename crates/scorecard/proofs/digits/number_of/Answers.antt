use Rattle.std.proofs.Common.{◌^◌, ◌≤◌, ◌<◌, length, arith}
use Rattle.std.proofs.Math.Nat.{pow-le-pow_right}
use Rattle.scorecard.proofs.digits.number_of.Goals as goal

pub returns-then-is_digits-clause-small : goal.returns-then-is_digits-clause-small
returns-then-is_digits-clause-small c =
    let few : length c.args.bytes.now ≤ c.args.most = omega arith in
    let ten : 0 < 10 = omega arith in
    let big : 10 ^ length c.args.bytes.now ≤ 10 ^ c.args.most = pow-le-pow_right ten few in
    omega (arith, big)
