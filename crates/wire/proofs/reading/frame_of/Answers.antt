use Rattle.std.proofs.Common.{rules, arith}
use Rattle.std.proofs.lemmas.{List.take_rest, Result.err_from_is_err_and}
use Rattle.wire.proofs.WhatKind.{IsGood, good_read, good_lacks}
use Rattle.wire.proofs.reading.frame_of.Goals as goal

pub returns-in_err-what : goal.returns-in_err-what
returns-in_err-what c =
    let good : IsGood c.in-Some.version c.args.bytes.now = record {
      eight = omega arith;
      version = search rules;
      kind = search rules;
      goes = search rules;
    } in
    let lacks = rw take_rest at c.in_err-what.ensures in
    let p = err_from_is_err_and c.from_residual.result c.from_residual.ensures.1 in
    rw (p.1, p.2) (good_lacks c.in-Some.version c.args.bytes.now c.in_err-what.field-0.0 good lacks)

pub returns : goal.returns
returns c =
    let good : IsGood c.in-Some.version c.args.bytes.now = record {
      eight = omega arith;
      version = search rules;
      kind = search rules;
      goes = search rules;
    } in
    let read = rw take_rest at c.in_ok-what.ensures in
    rw c.from_be_bytes-hall.ensures
    (good_read c.in-Some.version c.args.bytes.now c.in_ok-what.what good read)
