use Rattle.std.proofs.Common.{◌∙◌, ◌+◌, ◌<◌, ◌++◌, List, ap, refl, sym, arith, length}
use Rattle.desk_sockets.specs.Wires.{address_of}
use Rattle.mio_sockets.{specs.Wiring.Line, specs.Wiring.lines_at, proofs.Linings.one_more}
use Rattle.mio_sockets.proofs.desk_links.neighbours.Goals as goal

pub loop-place-preserved : goal.loop-place-preserved
loop-place-preserved g c =
    let addresses = c.args.addresses.now in
    let place = c.loop-place.place in
    let within : place < length addresses =
    omega (arith, c.loop-place-test.true, c.min-place-end.ensures) in
    record {
      lines = c.in_ok-push_desk.ensures.lines
          ∙ ap (λ (ls : List Line). ls ++ lines_at (place + 1) (address_of addresses (place + 1)))
          c.loop-place.invariant.lines ∙ sym (one_more addresses place (place + 1) refl within);
      keys = c.in_ok-push_desk.ensures.keys c.loop-place.invariant.keys;
    }
