-- What is asked of sockets, and what comes of it, where that is known (the project's own).
use Rattle.std.specs.Prelude.{ℕ, Bool, List, Option}
use Rattle.polled.specs.Telling.{Tells}
use Rattle.polled.specs.declared.answers.{AcceptedPeer.AcceptedPeer, Ready.Ready}
use Rattle.polled.specs.declared.answers.{ReadOutcome.ReadOutcome, WriteOutcome.WriteOutcome}

-- A peer is named by the number under which it is accepted.
pub data Request : Type 0 where
  -- what is ready next, for which it is waited this many milliseconds at most
  Waited : ℕ → Ready → Request
  -- the peer that waits, to be accepted under this number
  Accepting : ℕ → AcceptedPeer → Request
  -- bytes of this peer
  Reading : ℕ → ReadOutcome → Request
  -- that this peer take this many bytes
  Writing : ℕ → ℕ → WriteOutcome → Request
  -- that this peer be named when it can take bytes (true), or be read from (false); the system does
  -- so, or refuses
  Watching : ℕ → Bool → Bool → Request
  -- that this peer's connection be ended
  Closing : ℕ → Request

-- these were asked, in order, and are such as is said
abbrev pub Asks : {C : Type 0} → (C → Option (List Request)) → C → C → (List Request → Type 0)
    → Type 0
Asks requests c later P =
    (asked : List Request) × Tells (requests c) (requests later) asked × P asked
