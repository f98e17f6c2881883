use Rattle.std.proofs.Common.{◌≡◌, ◌≤◌, length, drop, None, rules, arith}
use Rattle.std.proofs.lemmas.List.{take_rest}
use Rattle.wire.proofs.Keeping.{short_rest}
use Rattle.wire.proofs.reader.read_on.Goals as goal

pub hold-requires : goal.hold-requires
hold-requires c =
    let none : c.in_ok-taken.taken.fault ≡ None = search rules in
    let short : length (drop c.in_ok-taken.taken.size c.args.bytes.now) ≤ 300003 =
    short_rest c.args.bytes.now c.args.before.items c.in_ok-taken.taken.frames.items
    c.in_ok-taken.taken.size c.in_ok-taken.taken.fault c.in_ok-taken.ensures.taken none in
    rw take_rest (omega (arith, short, c.requires))
