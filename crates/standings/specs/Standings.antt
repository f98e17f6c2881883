-- What the answers of a hall's desks come to (the project's own).
use Rattle.std.specs.Prelude.{ℕ, ◌+◌, ◌-◌, ◌*◌, ◌/◌, ◌==◌, Bool, false, not, List, [], ◌∷◌}
use Rattle.std.specs.Prelude.{count_by, fold, if◌then◌else◌, length, map, max, nat_lt, ◌||◌, Option}
use Rattle.std.specs.{Prelude.None, Prelude.Some, Prelude.is_some, List.list_any}
use Rattle.wire.specs.declared.standing.Difference.{Difference, TheVariants.OtherEntry}
use Rattle.wire.specs.declared.standing.Lengths.{Lengths, TheVariants.OfThree, TheVariants.OfFive}
use Rattle.wire.specs.Spelling.{lengths_of}
use Rattle.standings.specs.declared.polled.{PolledDesk.PolledDesk, StatusReply.StatusReply}
use Rattle.standings.specs.declared.polled.StatusReply.TheVariants.{Stands, Earlier}

-- the numbers that a desk can have
abbrev pub every_desk : List ℕ
every_desk = 1 ∷ 2 ∷ 3 ∷ 4 ∷ 5 ∷ []

-- the greatest of these numbers, 0 where there is none
abbrev pub greatest : List ℕ → ℕ
greatest ns = fold max 0 ns

-- ---- one answer

abbrev pub desks_of : Lengths → ℕ
desks_of (OfThree lengths) = 3
desks_of (OfFive lengths) = 5

-- how many desks the hall has, as a reply says, or 0
abbrev pub desks_told : StatusReply → ℕ
desks_told (Stands desk standing) = desks_of standing.told
desks_told _ = 0

-- the desk of this number answered, and said how it is or not
abbrev pub is_from : ℕ → StatusReply → Bool
is_from desk (Stands other standing) = other == desk
is_from desk (Earlier other) = other == desk
is_from desk _ = false

-- the desk of this number said how it is
abbrev pub stands_as : ℕ → StatusReply → Bool
stands_as desk (Stands other standing) = other == desk
stands_as desk _ = false

-- the length of the log of the desk of this number, where it said how it is, or 0
abbrev pub length_as : ℕ → StatusReply → ℕ
length_as desk (Stands other standing) = if other == desk then standing.length else 0
length_as desk _ = 0

-- the greatest length of a log that a reply tells, of the desk's own or of another's
abbrev pub newest_told : StatusReply → ℕ
newest_told (Stands desk standing) = max standing.length (greatest (lengths_of standing.told))
newest_told _ = 0

-- ---- all answers

-- the greatest number of desks that one of them says the hall has, or 0
abbrev pub most_told : List PolledDesk → ℕ
most_told polled = greatest (map (λ p. desks_told p.reply) polled)

-- how many desks the hall has: as one of them says, and where none does, as many as were asked
abbrev pub size_of : List PolledDesk → ℕ
size_of polled = if most_told polled == 0 then length polled else most_told polled

-- the desk of this number answered, at whichever address
abbrev pub answers : List PolledDesk → ℕ → Bool
answers polled desk = list_any (λ p. is_from desk p.reply) polled

-- it said how it is
abbrev pub stands : List PolledDesk → ℕ → Bool
stands polled desk = list_any (λ p. stands_as desk p.reply) polled

-- how many desks answered, and how many said how they are, each counted once
abbrev pub answered : List PolledDesk → ℕ
answered polled = count_by (answers polled) every_desk

abbrev pub standing_count : List PolledDesk → ℕ
standing_count polled = count_by (stands polled) every_desk

-- the length of the log of the desk of this number, as it said
abbrev pub length_at : List PolledDesk → ℕ → ℕ
length_at polled desk = greatest (map (λ p. length_as desk p.reply) polled)

-- the length of the longest log that is known
abbrev pub newest : List PolledDesk → ℕ
newest polled = greatest (map (λ p. newest_told p.reply) polled)

-- how many commands a desk that said how it is lacks of that log
abbrev pub behind_by : List PolledDesk → ℕ → ℕ
behind_by polled desk =
    if stands polled desk then newest polled - length_at polled desk else 0

abbrev pub is_behind : List PolledDesk → ℕ → Bool
is_behind polled desk = not (behind_by polled desk == 0)

-- a desk that said how it is lacks commands
abbrev pub some_behind : List PolledDesk → Bool
some_behind polled = list_any (is_behind polled) every_desk

-- more than half of the desks answered
abbrev pub is_majority : List PolledDesk → Bool
is_majority polled = nat_lt (size_of polled) (answered polled * 2)

-- how many more desks have to answer for a majority
abbrev pub missing : List PolledDesk → ℕ
missing polled = size_of polled / 2 + 1 - answered polled

-- how many desks of the hall were not asked
abbrev pub unasked : List PolledDesk → ℕ
unasked polled = size_of polled - length polled

-- how a desk differs: by its own entries, or as it has heard of another one
abbrev pub by_entries : ℕ → Option ℕ → Option Difference → Option Difference
by_entries desk None heard = heard
by_entries desk (Some position) heard = Some (OtherEntry desk position)

abbrev pub difference_by : StatusReply → Option ℕ → Option Difference
difference_by (Stands desk standing) other = by_entries desk other standing.differs
difference_by _ other = None

abbrev pub first_of : Option Difference → Option Difference → Option Difference
first_of None later = later
first_of (Some d) later = Some d

-- how a desk differs from others, if one does: the first that is known of
abbrev pub difference : List PolledDesk → Option Difference
difference [] = None
difference (p ∷ ps) = first_of (difference_by p.reply p.other) (difference ps)

-- the exit status: 0 where a majority answered, no desk is known to lack commands and none differs,
-- 1 where a majority answered and none differs, else 3
abbrev pub status_of : List PolledDesk → ℕ
status_of polled =
    if is_some (difference polled) || not (is_majority polled) then 3
    else (if some_behind polled then 1 else 0)
