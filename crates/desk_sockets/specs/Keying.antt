-- Under which keys the connections to a desk are (the project's own).
use Rattle.std.specs.Prelude.{◌≡◌, ◌⊎◌, ℕ, Bool, true, false, not, List, Option, None, Some, IsSome}
use Rattle.desk_sockets.specs.declared.desk_connection.ConnectionOutcome.{ConnectionOutcome}
use Rattle.desk_sockets.specs.declared.desk_connection.Opening.{Opening}
use Rattle.desk_sockets.specs.declared.desk_connection.ConnectionTrouble.{ConnectionTrouble}
use Rattle.desk_sockets.specs.declared.desk_connection.ConnectionOutcome.TheVariants as heard_is
use Rattle.desk_sockets.specs.declared.desk_connection.Opening.TheVariants as opening_is
use Rattle.desk_sockets.specs.declared.desk_connection.ConnectionTrouble.TheVariants as trouble_is

-- the key, if there is one, and the one before it, while it is changed
pub record KeysOf : Type 0 where
  pub key : Option (List ℕ)
  pub former : Option (List ℕ)

abbrev pub keys_of : (key former : Option (List ℕ)) → KeysOf
keys_of key former = record { key = key; former = former }

-- a connection is under the key, or under none where there is none, or under the one before it
abbrev pub IsKeyOf : KeysOf → Option (List ℕ) → Type 0
IsKeyOf k own = (own ≡ k.key) ⊎ (IsSome k.former × (own ≡ k.former))

abbrev pub next_of : (turned : Bool) → (key former : Option (List ℕ)) → Option (List ℕ)
next_of turned key None = key
next_of false key (Some former) = key
next_of true key (Some former) = Some former

-- the key of the next connection: the first one, or where it is turned, and there is one, the one
-- before it
abbrev pub next_key : (turned : Bool) → KeysOf → Option (List ℕ)
next_key turned k = next_of turned k.key k.former

-- whether it is turned after this went wrong: by its keys it turns each time, and else it stays
abbrev pub turned_by : ConnectionTrouble → (turned : Bool) → Bool
turned_by (trouble_is.Key trouble) turned = not turned
turned_by (trouble_is.System kind) turned = turned

-- after this came of a connection that was begun, and was heard on one that is open, where this
-- went wrong last
abbrev pub turned_at : Opening → ConnectionTrouble → (turned : Bool) → Bool
turned_at opening_is.Failed trouble turned = turned_by trouble turned
turned_at opening_is.Later trouble turned = turned
turned_at opening_is.Open trouble turned = turned

abbrev pub turned_in : ConnectionOutcome → ConnectionTrouble → (turned : Bool) → Bool
turned_in heard_is.Broke trouble turned = turned_by trouble turned
turned_in heard_is.Nothing trouble turned = turned
turned_in heard_is.Ended trouble turned = turned
