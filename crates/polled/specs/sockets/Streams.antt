-- The peers' sockets (the project's own).
use Rattle.std.specs.Prelude.{◌≡◌, ◌≢◌, ◌==◌, ◌-◌, ℕ, Bool, false, is_some, nat_eq, nat_le, nat_lt}
use Rattle.std.specs.Prelude.{not, if◌then◌else◌, List, [], ◌∷◌}
use Rattle.indexmap.specs.IndexMap.{get, index_map_len}
use Rattle.polled.specs.declared.sockets.streams.{EndingStream.EndingStream, Streams.Streams}

-- the connection of the peer with this number is open
abbrev pub is_open : Streams → ℕ → Bool
is_open s k = is_some (get nat_eq s.staying k)

-- no connection is open
abbrev pub is_empty : Streams → Bool
is_empty s = index_map_len s.staying == 0

-- as many connections are open as may be
abbrev pub is_full : Streams → Bool
is_full s = nat_le s.most (index_map_len s.staying)

-- a connection is ending
abbrev pub some_end : Streams → Bool
some_end s = not (index_map_len s.ending == 0)

-- the connection of each other peer is open where it was
abbrev pub OthersStay : ℕ → Streams → Streams → Type 0
OthersStay k old new = (j : ℕ) → j ≢ k → is_open new j ≡ is_open old j

-- the connections that are open are the same
abbrev pub SameOpen : Streams → Streams → Type 0
SameOpen old new = (k : ℕ) → is_open new k ≡ is_open old k

-- ---- connections that are ending, in the order in which their ends began

-- the first one is ending for longer than two seconds
abbrev pub has_late : ℕ → List (ℕ × EndingStream) → Bool
has_late now [] = false
has_late now (e ∷ es) = nat_lt 2000 (now - e.1.since)

-- without those in front that are
abbrev pub without_late : ℕ → List (ℕ × EndingStream) → List (ℕ × EndingStream)
without_late now [] = []
without_late now (e ∷ es) = if nat_lt 2000 (now - e.1.since) then without_late now es else e ∷ es
