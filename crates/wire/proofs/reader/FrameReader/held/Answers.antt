use Rattle.std.proofs.Common.{◌≤◌, length, ap, arith, rules}
use Rattle.wire.proofs.Finishing.{waits_short}
use Rattle.wire.proofs.reader.FrameReader.held.Goals as goal

pub overflow_cast-result : goal.overflow_cast-result
overflow_cast-result c =
    let short : length c.self.inside.bytes.items ≤ 300003 = waits_short c.self.inside.bytes.items
    c.self.invariant.1 in
    omega (arith, short, c.len.ensures)

pub returns : goal.returns
returns c =
    let short : length c.self.inside.bytes.items ≤ 300003 = waits_short c.self.inside.bytes.items
    c.self.invariant.1 in
    rw (← c.self.view_is) (record {
      counted = search rules;
      unfinished = c.self.invariant.1;
      most = omega (arith, short, c.len.ensures);
      broken = λ some. omega (arith, c.len.ensures, ap length (c.self.invariant.3 some));
    })
