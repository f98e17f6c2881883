use Rattle.std.proofs.Common.{◌∙◌, List, Option, ap, sym}
use Rattle.std.specs.declared.net.SocketAddr.{SocketAddr}
use Rattle.desk_sockets.specs.Wires.{address_of}
use Rattle.mio_sockets.proofs.desk_links.push_desk.Goals as goal

pub new-requires : goal.new-requires
new-requires g c =
    ap (λ (xs : List (Option SocketAddr)). address_of xs c.args.desk) c.in_ok-copy.ensures.items
    ∙ sym c.in-Some.ensures
