-- The sockets of peers, and the poll that tells which of them is ready (the project's own).
use Rattle.std.specs.Prelude.{◌≡◌, ◌≢◌, ℕ, Bool, false, true, is_some, nat_eq, nat_le, List, []}
use Rattle.std.specs.{Prelude.length, Map.lookup}
use Rattle.mio.specs.declared.net.stream.TcpStream.{TcpStream}
use Rattle.polled.specs.declared.answers.AcceptedPeer.{AcceptedPeer}
use Rattle.polled.specs.sockets.Agendas.{RoundOf, agenda, round}
use Rattle.polled.specs.declared.answers.AcceptedPeer.TheVariants as accepted_is

-- how many connections may be open at once, which ones are, each by its peer's number, and what is
-- still to be named of a round
pub record SocketsOf : Type 0 where
  pub most : ℕ
  pub connections : List (ℕ × TcpStream)
  pub round : RoundOf

abbrev pub sockets : ℕ → List (ℕ × TcpStream) → RoundOf → SocketsOf
sockets most connections round =
    record { most = most; connections = connections; round = round }

-- the connection of the peer with this number is open
abbrev pub stays : SocketsOf → ℕ → Bool
stays s k = is_some (lookup (nat_eq k) s.connections)

-- as many connections are open as may be
abbrev pub is_full : SocketsOf → Bool
is_full s = nat_le s.most (length s.connections)

-- no connection is open, and no round was begun
pub record IsFresh (limit : ℕ) (s : SocketsOf) : Type 0 where
  pub most : s.most ≡ limit
  pub none : s.connections ≡ []
  pub idle : s.round ≡ round false (agenda false [])

-- as many may be open, and of a round the same is still to be named
pub record SameElse (old new : SocketsOf) : Type 0 where
  pub most : new.most ≡ old.most
  pub round : new.round ≡ old.round

-- the connections that are open are the same
abbrev pub SameStay : SocketsOf → SocketsOf → Type 0
SameStay old new = (k : ℕ) → stays new k ≡ stays old k

-- those of all others are
abbrev pub OthersStay : ℕ → SocketsOf → SocketsOf → Type 0
OthersStay k old new = (j : ℕ) → j ≢ k → stays new j ≡ stays old j

-- whether the connection of a peer that is accepted was open, and is: that of one that came is, and
-- nobody else is let in
abbrev pub LetsIn : AcceptedPeer → Bool → Bool → Type 0
LetsIn (accepted_is.Came random) was is = is ≡ true
LetsIn accepted_is.Nobody was is = is ≡ was
LetsIn accepted_is.Full was is = is ≡ was
