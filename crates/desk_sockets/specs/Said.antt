-- What is said on a connection: what was read of it there, as the caller's end reads it (the
-- project's own).
use Rattle.std.specs.Prelude.{◌≡◌, ◌⊎◌, ℕ, List, [], ◌++◌, Option, None, Some}
use Rattle.std.specs.Io.KnownBytes.{Consumes}
use Rattle.sealed.specs.ends.ClientStreams.{ClientStreamOf, Stands}

-- between two moments of a connection these bytes were read of it, and by them this was said
pub record Reads {S : Type 0} (remaining : S → Option (List ℕ)) (from to : S)
    (old new : ClientStreamOf) (said : List ℕ) : Type 0 where
  pub read : List ℕ
  pub consumed : Consumes (remaining from) (remaining to) read
  pub stands : (came handed : List ℕ) → Stands old came handed
      → Stands new (came ++ read) (handed ++ said)

-- this was said on a connection whose caller's end was this one before; where there is none,
-- nothing is
abbrev pub IsSaid : {S : Type 0} → (S → Option (List ℕ)) → Option ClientStreamOf → List ℕ → Type 0
IsSaid remaining None said = said ≡ []
IsSaid {S} remaining (Some old) said =
    (said ≡ []) ⊎ ((from : S) × (to : S) × (new : ClientStreamOf)
    × Reads remaining from to old new said)
