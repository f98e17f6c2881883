-- Who answers at the address of a desk, by what is said there first (the project's own).
use Rattle.std.specs.Prelude.{◌≡◌, ◌⊎◌, ℕ, ◌==◌, ◌||◌, not, nat_lt, Bool, false, if◌then◌else◌}
use Rattle.std.specs.Prelude.{List, [], ◌∷◌, ◌++◌, length, take, slice_index, Option, None, Some}
use Rattle.std.specs.Int.{w32, from_be_bytes}
use Rattle.sealed.specs.ends.ClientStreams.{ClientStreamOf, Receives}
use Rattle.desk_sockets.specs.{Said.IsSaid, declared.asking.AskedPeer.AskedPeer}

-- who is asked, if somebody is; the first bytes that were said on the connection, at most ten;
-- whether the right desk has answered since it could not be reached; and whether another hall or
-- desk has, since that was asked last
pub record AnsweringOf : Type 0 where
  pub asked : Option AskedPeer
  pub front : List ℕ
  pub known : Bool
  pub foreign : Bool

abbrev pub answering : Option AskedPeer → (front : List ℕ) → (known foreign : Bool) → AnsweringOf
answering asked front known foreign =
    record { asked = asked; front = front; known = known; foreign = foreign }

-- nothing was said yet
abbrev pub unknown : Option AskedPeer → AnsweringOf
unknown asked = answering asked [] false false

-- the hall that a frame names, by its first ten bytes
abbrev pub hall_in : List ℕ → ℕ
hall_in front =
    from_be_bytes w32 (slice_index front 5 ∷ slice_index front 6 ∷ slice_index front 7
    ∷ slice_index front 8 ∷ [])

-- it names another hall, or another sender
abbrev pub is_foreign : AskedPeer → List ℕ → Bool
is_foreign p front = not (hall_in front == p.hall) || not (slice_index front 9 == p.desk)

-- these ten bytes tell who answers, where somebody was asked
abbrev pub judged : Option AskedPeer → AnsweringOf → AnsweringOf
judged None a = a
judged (Some p) a = record a {
  known = not (is_foreign p a.front);
  foreign = is_foreign p a.front || a.foreign;
}

-- the first bytes that were said are these: ten of them tell who answers
abbrev pub fronted : List ℕ → AnsweringOf → AnsweringOf
fronted front a =
    if nat_lt (length front) 10 then record a { front = front }
    else judged a.asked (record a { front = front })

-- after this was said: what comes after the first ten bytes tells nothing
abbrev pub heard : List ℕ → AnsweringOf → AnsweringOf
heard said a = if nat_lt (length a.front) 10 then fronted (take 10 (a.front ++ said)) a else a

-- it is known who answers, or somebody has answered
abbrev pub is_told : AnsweringOf → Bool
is_told a = a.known || not (nat_lt (length a.front) 10)

-- it isn't known any more who answers
abbrev pub forgotten : AnsweringOf → AnsweringOf
forgotten a = record a { known = false }

-- this was said, and handed on after what was handed on before
pub record Hands {S : Type 0} (remaining : S → Option (List ℕ)) (call : Option ClientStreamOf)
    (before after : List ℕ) (old new : AnsweringOf) : Type 0 where
  pub said : List ℕ
  pub read : IsSaid remaining call said
  pub handed : after ≡ before ++ said
  pub who : new ≡ heard said old

-- this was said, which nobody is told
pub record Hears {S : Type 0} (remaining : S → Option (List ℕ)) (call : Option ClientStreamOf)
    (old new : AnsweringOf) : Type 0 where
  pub said : List ℕ
  pub read : IsSaid remaining call said
  pub who : new ≡ heard said old

-- a piece came, and this was said by it, and handed on
pub record Says (piece : List ℕ) (call later : ClientStreamOf) (before after : List ℕ)
    (old new : AnsweringOf) : Type 0 where
  pub said : List ℕ
  pub receives : Receives piece call later said
  pub handed : after ≡ before ++ said
  pub who : new ≡ heard said old

-- so it was, or nothing is handed on
abbrev pub SaysOrNot : List ℕ → (call later : ClientStreamOf) → (before after : List ℕ)
    → (old new : AnsweringOf) → Type 0
SaysOrNot piece call later before after old new =
    Says piece call later before after old new ⊎ ((after ≡ before) × (new ≡ old))
