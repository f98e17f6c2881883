-- What comes of many peers, where it is known (the project's own).
use Rattle.std.specs.Prelude.{ℕ, Bool, true, false, List, [], ◌∷◌, take}
use Rattle.polled.specs.declared.answers.{Ready.Ready, AcceptedPeer.AcceptedPeer}
use Rattle.polled.specs.declared.answers.{ReadOutcome.ReadOutcome, WriteOutcome.WriteOutcome}
use Rattle.polled.specs.declared.answers.Ready.TheVariants as ready_is
use Rattle.polled.specs.declared.answers.AcceptedPeer.TheVariants as accepted_is
use Rattle.polled.specs.declared.answers.ReadOutcome.TheVariants as given_is
use Rattle.polled.specs.declared.answers.WriteOutcome.TheVariants as taken_is

-- A peer is named by the number under which it was accepted.
pub data Happened : Type 0 where
  -- a round is over, this many milliseconds after the first one
  Round : ℕ → Happened
  -- a peer came, and has this number; these random bytes were drawn for it
  Came : ℕ → List ℕ → Happened
  -- none could be accepted, since the system has no more sockets
  Full : Happened
  -- this peer was named as ready
  Named : ℕ → Happened
  -- it gave these bytes; it took these bytes
  Gave : ℕ → List ℕ → Happened
  Took : ℕ → List ℕ → Happened
  -- it had nothing more to give; a read or a write failed
  Ended : ℕ → Happened
  Broke : ℕ → Happened
  -- its connection was ended on this side
  Closed : ℕ → Happened
  -- the system doesn't tell what is ready any more
  Failed : Happened

abbrev pub ready : Ready → List Happened
ready ready_is.Waits = []
ready (ready_is.Peer k) = Named k ∷ []
ready (ready_is.Round now) = Round now ∷ []
ready ready_is.Failed = Failed ∷ []

abbrev pub accepted : ℕ → AcceptedPeer → List Happened
accepted k (accepted_is.Came random) = Came k random ∷ []
accepted k accepted_is.Nobody = []
accepted k accepted_is.Full = Full ∷ []

-- the bytes that were read are first in the buffer
abbrev pub given : ℕ → ReadOutcome → List ℕ → List Happened
given k (given_is.Bytes count) buffer = Gave k (take count buffer) ∷ []
given k given_is.Later buffer = []
given k given_is.Ended buffer = Ended k ∷ []
given k given_is.Broke buffer = Broke k ∷ []

-- the bytes that were taken are first among those that were given
abbrev pub taken : ℕ → WriteOutcome → List ℕ → List Happened
taken k (taken_is.Bytes count) bytes = Took k (take count bytes) ∷ []
taken k taken_is.Later bytes = []
taken k taken_is.Broke bytes = Broke k ∷ []

-- what is told of a peer that is to be named again, or that the system refuses to name
abbrev pub watched : ℕ → Bool → List Happened
watched k true = []
watched k false = Broke k ∷ []

abbrev pub closed : ℕ → List Happened
closed k = Closed k ∷ []
