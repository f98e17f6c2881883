-- The addresses at which a desk finds the other desks of its hall (the project's own).
use Rattle.std.specs.Prelude.{◌≡◌, ◌<◌, ◌+◌, ℕ, List, [], ◌∷◌, take, Option, Some, IsSomeAnd}
use Rattle.std.specs.{Prelude.slice_get, Net.Grammar.IsSocketText}
use Rattle.std.specs.declared.net.SocketAddr.{SocketAddr}
use Rattle.mio_sockets.specs.Wiring.{Line, lines_from}

-- an address that was found for a text, or none: where the text spells an address, an IP address
-- and a port, that one. What a host's name stands for, the system says.
abbrev pub IsFoundFor : List ℕ → Option SocketAddr → Type 0
IsFoundFor text found = (a : SocketAddr) → IsSocketText text a → IsSomeAnd found (IsSocketText text)

-- for each of the texts, in their order
abbrev pub AreFoundFor : List (List ℕ) → List (Option SocketAddr) → Type 0
AreFoundFor [] [] = Unit {0}
AreFoundFor (text ∷ texts) (found ∷ founds) = IsFoundFor text found × AreFoundFor texts founds
AreFoundFor _ _ = ⊥

-- the same text is at both places, counted from 0
abbrev pub AreTwins : List (List ℕ) → ℕ → ℕ → Type 0
AreTwins texts first second =
    (first < second) × (text : List ℕ) × (slice_get texts first ≡ Some text)
    × (slice_get texts second ≡ Some text)

abbrev pub HasTwins : List (List ℕ) → Type 0
HasTwins texts = (first second : ℕ) × AreTwins texts first second

-- no text is at two places
abbrev pub AreApart : List (List ℕ) → Type 0
AreApart texts = (first second : ℕ) → ¬ AreTwins texts first second

-- the text of the desk of this number is no IP address with a port: what it stands for, if
-- anything, the system says
abbrev pub IsNoAddress : List (List ℕ) → ℕ → Type 0
IsNoAddress texts desk =
    (place : ℕ) × (desk ≡ place + 1) × (text : List ℕ) × (slice_get texts place ≡ Some text)
    × ((a : SocketAddr) → ¬ IsSocketText text a)

-- the links lead to what was found for the texts: that to desk 1 for the first one, and so on
abbrev pub LeadTo : List (List ℕ) → List Line → Type 0
LeadTo texts links =
    (founds : List (Option SocketAddr)) × AreFoundFor texts founds
    × (links ≡ lines_from 1 (take 5 founds))
