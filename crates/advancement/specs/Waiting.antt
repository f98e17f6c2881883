-- Who takes the place of one who withdraws from a later round, which is the best of the round
-- before who did not advance. That the best attempt has to be a number, and that those of one place
-- come in the order of their entry, are the project's own.
use Rattle.std.specs.Prelude.{◌≡◌, ℕ, ◌&&◌, ◌==◌, Bool, not, List, filter, find, take, slice_get}
use Rattle.std.specs.{Prelude.Option, List.list_any}
use Rattle.formats.specs.declared.advance.Advance.{Advance}
use Rattle.rounds.specs.Tables.{Entrant, Table, entrant, standings}
use Rattle.advancement.specs.Advancing.{has_result, advances, holds_of, is_before}

-- an entrant who did not advance waits for a place, where the best attempt is a number
abbrev pub waits : Table → Advance → Entrant → Bool
waits t advance e = has_result e && not (advances t advance e)

-- the entrant with a number waits
abbrev pub stays_out : Table → Advance → ℕ → Bool
stays_out t advance n = holds_of (waits t advance) (entrant t n)

-- the numbers of those who wait, in order of standings: the best of them first
abbrev pub waiting : Table → Advance → List ℕ
waiting t advance = filter (stays_out t advance) (standings t)

-- these and no others wait
abbrev pub AreThoseWhoWait : Table → Advance → List ℕ → Type 0
AreThoseWhoWait t advance ns =
    (n : ℕ) → list_any (λ other. other == n) ns ≡ stays_out t advance n

-- the first of those who wait who was not taken in yet
abbrev pub next_of : List ℕ → List ℕ → Option ℕ
next_of waiting taken = find (λ n. not (list_any (λ other. other == n) taken)) waiting

-- Who takes a place as the first who was not taken in yet: after this many who were, it is the one
-- at that index of those who wait, and after all of them it is nobody.
abbrev pub IsTakenInTurn : List ℕ → Type 0
IsTakenInTurn waiting =
    (count : ℕ) → next_of waiting (take count waiting) ≡ slice_get waiting count

-- the best attempt is a number, and the place is not before another one
abbrev pub is_behind : Table → ℕ → Entrant → Bool
is_behind t border e = has_result e && not (is_before t border e)

-- those of these numbers whose entrants are not placed before a border, with a result
abbrev pub those_behind : Table → ℕ → List ℕ → List ℕ
those_behind t border ns = filter (λ n. holds_of (is_behind t border) (entrant t n)) ns
