use Rattle.std.proofs.Common.{◌<◌, length, arith}
use Rattle.mio_sockets.proofs.Each.{one_more}
use Rattle.mio_sockets.proofs.desk_links.keep_each.Goals as goal

pub loop-place-preserved : goal.loop-place-preserved
loop-place-preserved g c =
    let low : c.loop-place.place < length c.loop-place.desks =
    omega (arith, c.loop-place.auto.desks, c.loop-place-test.true) in
    one_more g.W.DeskConnection.wired c.args.now _
    c.keep-due.new.self c.loop-place-test.true low c.loop-place.invariant c.keep-due.ensures
