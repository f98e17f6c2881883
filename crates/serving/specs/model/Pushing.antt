-- What was pushed of messages.
use Rattle.std.specs.Prelude.{◌≡◌, ℕ, List, ◌++◌, map, Option}
use Rattle.acceptor.specs.declared.message.Message.{Message}
use Rattle.wire.specs.declared.values.Version.{Version}
use Rattle.serving.specs.{Adding.Push, Adding.Hands, Serving.pushed}

-- a front part of the messages was pushed
pub record PushesFront (version : Version) (hall : ℕ) (ms front rest : List Message)
    (old new : Option (List Push)) : Type 0 where
  pub parts : ms ≡ front ++ rest
  pub handed : Hands old new (map (pushed version hall) front)

abbrev pub PushesPart : Version → ℕ → List Message → Option (List Push) → Option (List Push)
    → Type 0
PushesPart version hall ms old new =
    (front : List Message) × (rest : List Message) × PushesFront version hall ms front rest old new
