-- What a caller's end of a connection has sent of what it was given (the project's own).
use Rattle.std.specs.Prelude.{◌≡◌, ℕ, List, [], ◌++◌, Option, None, Some}
use Rattle.seal.specs.declared.channel.Direction.TheVariants.{ToServer}
use Rattle.seal.specs.Records.{key_of, preface_of}
use Rattle.sealed.specs.{ClientSeals.ClientSealOf, Fronts.IsPrefaced, Sent.SentOver, Trials.goes_by}
use Rattle.sealed.specs.{Tunnels.TunnelOf, Tunnels.channel_of, ends.ClientStreams.ClientStreamOf}

-- the desk's preface came, and after the caller's own the records of what was given were sent,
-- numbered from 0
pub record SentSealed (t : TunnelOf) (s : ClientSealOf) (came given sent : List ℕ) : Type 0 where
  pub server : List ℕ
  pub stream : List ℕ
  pub prefaced : IsPrefaced came server stream
  pub goes : goes_by t ≡ channel_of (key_of s.key s.random server) ToServer
  pub sealed : List ℕ
  pub over : SentOver t given sealed
  pub whole : sent ≡ preface_of s.random ++ sealed

-- before that the caller's preface alone
abbrev pub SentAs : Option TunnelOf → ClientSealOf → List ℕ → List ℕ → List ℕ → Type 0
SentAs None s came given sent = (given ≡ []) × (sent ≡ preface_of s.random)
SentAs (Some t) s came given sent = SentSealed t s came given sent

-- and without a key what was given
abbrev pub SentBy : Option ClientSealOf → List ℕ → List ℕ → List ℕ → Type 0
SentBy None came given sent = sent ≡ given
SentBy (Some s) came given sent = SentAs s.tunnel s came given sent

-- of what came, these bytes were given so far, and those were sent: what is still to be sent goes
-- after them
abbrev pub HasSent : ClientStreamOf → List ℕ → List ℕ → List ℕ → Type 0
HasSent c came given sent = SentBy c.calling came given (sent ++ c.output)
