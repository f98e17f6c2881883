-- Which socket a token names (the project's own).
use Rattle.std.specs.Prelude.{ℕ, ◌-◌, ◌^◌, nat_lt, if◌then◌else◌}
use Rattle.polled.specs.declared.sockets.tokens.PolledSocket.{PolledSocket}
use Rattle.polled.specs.declared.sockets.tokens.PolledSocket.TheVariants as source

-- the greatest 257 tokens are the program's own and the listener's, which has the last one; each
-- other token is the number of a peer
abbrev pub source_of : ℕ → PolledSocket
source_of token =
    if nat_lt token (2 ^ 64 - 257) then source.Peer token
    else (if nat_lt token (2 ^ 64 - 1) then source.Other else source.Listener)
