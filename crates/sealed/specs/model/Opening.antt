-- How the caller of a desk begins to read a sealed stream.
use Rattle.std.specs.Prelude.{◌≡◌, ℕ, List, Some}
use Rattle.seal.specs.{declared.channel.Direction.TheVariants.ToClient, Records.key_of}
use Rattle.sealed.specs.ClientSeals.{ClientSealOf, first_sealing}
use Rattle.sealed.specs.{Trials.ReadsAll, Trials.comes_by, Tunnels.TunnelOf, Tunnels.channel_of}

-- the connection is open, and this is the stream so far
abbrev pub OpensTo : List ℕ → List ℕ → ClientSealOf → ClientSealOf → List ℕ → Type 0
OpensTo server rest old new more =
    (t : TunnelOf) × (new ≡ record old { tunnel = Some t })
    × (comes_by t ≡ channel_of (key_of old.key old.random server) ToClient) × ReadsAll t rest more
    × (t.sealer ≡ first_sealing t)
