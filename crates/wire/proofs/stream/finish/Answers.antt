use Rattle.std.proofs.Common.{◌+◌, drop, Result, ap, ◌∙◌, arith}
use Rattle.std.proofs.lemmas.{List.take_rest, Result.err_from_is_err_and}
use Rattle.wire.specs.declared.{fault.WireFault.WireFault, frame.Frame.Frame}
use Rattle.wire.{specs.Reading.frame_of, specs.Stream.by_frame, proofs.Finishing.not_finished}
use Rattle.wire.proofs.Finishing.{no_length, bad_length, filled, still_waits, whole_at}
use Rattle.wire.proofs.stream.finish.Goals as goal

pub returns-in_err-len-clause-finished : goal.returns-in_err-len-clause-finished
returns-in_err-len-clause-finished c =
    let gives = rw c.deref.ensures.value at c.in_err-len.ensures in
    let p = err_from_is_err_and c.from_residual.result c.from_residual.ensures.1 in
    rw (p.1, p.2) (bad_length c.args.piece.now c.args.held.now.items c.top_up-first.new.held.items
    c.top_up-first.result c.in_err-len.field-0.0 c.top_up-first.ensures.held gives)

pub returns-in_default-clause-finished : goal.returns-in_default-clause-finished
returns-in_default-clause-finished c =
    let gives = rw (c.in_default.is, c.deref.ensures.value) at c.in_ok-len.ensures in
    no_length c.args.piece.now c.args.held.now.items c.top_up-first.new.held.items
    c.top_up-first.result c.top_up-first.ensures.held gives

pub returns-then-len-size-clause-finished : goal.returns-then-len-size-clause-finished
returns-then-len-size-clause-finished c =
    let gives = rw (c.in-Some.is, c.deref.ensures.value) at c.in_ok-len.ensures in
    let more = rw take_rest at c.top_up.ensures.held in
    let full = filled c.args.held.now.items c.args.piece.now c.top_up-first.new.held.items
    c.top_up.new.held.items c.in-Some.len c.top_up-first.result c.top_up.result c.requires.waits
    c.top_up-first.ensures.held gives more in
    still_waits c.args.held.now.items c.args.piece.now c.top_up.new.held.items c.in-Some.len
    (c.top_up-first.result + c.top_up.result) full (omega (arith, c.len.ensures))

pub returns-in_err-frame-clause-finished : goal.returns-in_err-frame-clause-finished
returns-in_err-frame-clause-finished c =
    let gives = rw (c.in-Some.is, c.deref.ensures.value) at c.in_ok-len.ensures in
    let more = rw take_rest at c.top_up.ensures.held in
    let full = filled c.args.held.now.items c.args.piece.now c.top_up-first.new.held.items
    c.top_up.new.held.items c.in-Some.len c.top_up-first.result c.top_up.result c.requires.waits
    c.top_up-first.ensures.held gives more in
    let at = whole_at c.args.held.now.items c.args.piece.now c.top_up.new.held.items c.in-Some.len
    (c.top_up-first.result + c.top_up.result) full (omega (arith, c.len.ensures)) in
    let lacks = rw (take_rest, c.deref-2.ensures.value) at c.in_err-frame.ensures in
    let p = err_from_is_err_and c.from_residual-in_err-frame.result
    c.from_residual-in_err-frame.ensures.1 in
    rw (p.1, p.2) (not_finished c.args.held.now.items c.args.piece.now c.top_up.new.held.items
    c.in_err-frame.field-0.0 (frame_of (drop 4 c.top_up.new.held.items))
    (drop (c.top_up-first.result + c.top_up.result) c.args.piece.now) lacks at)

pub returns-clause-finished : goal.returns-clause-finished
returns-clause-finished c =
    let gives = rw (c.in-Some.is, c.deref.ensures.value) at c.in_ok-len.ensures in
    let more = rw take_rest at c.top_up.ensures.held in
    let full = filled c.args.held.now.items c.args.piece.now c.top_up-first.new.held.items
    c.top_up.new.held.items c.in-Some.len c.top_up-first.result c.top_up.result c.requires.waits
    c.top_up-first.ensures.held gives more in
    let at = whole_at c.args.held.now.items c.args.piece.now c.top_up.new.held.items c.in-Some.len
    (c.top_up-first.result + c.top_up.result) full (omega (arith, c.len.ensures)) in
    let given = rw (take_rest, c.deref-2.ensures.value) at c.in_ok-frame.ensures in (
      at ∙ ap (λ (x : Result Frame WireFault). by_frame x
          (drop (c.top_up-first.result + c.top_up.result) c.args.piece.now)) given,
      full.within,
    )
