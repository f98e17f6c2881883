-- Under which keys the connections to the other desks are (the project's own).
use Rattle.std.specs.Prelude.{◌≡◌, List}
use Rattle.std.specs.List.{AllByRecursion}
use Rattle.desk_sockets.specs.{Connections.ConnectionOf, Keying.KeysOf}
use Rattle.mio_sockets.specs.Wiring.{NeighbourOf}

-- each of them is under these keys
abbrev pub AreUnder : KeysOf → List (NeighbourOf ConnectionOf) → Type 0
AreUnder keys desks = AllByRecursion (λ n. n.wire.keys ≡ keys) desks
