-- What is kept of who goes on from a round, so that it is known of each entrant in one step (the
-- project's own).
use Rattle.std.specs.Prelude.{◌≡◌, ℕ, Bool, List, Option, Some, nat_eq}
use Rattle.std.specs.HashSet.{contains}
use Rattle.formats.specs.declared.events.Event.{Event}
use Rattle.rounds.specs.Tables.{Table, entrant}
use Rattle.advancement.specs.Advancing.{holds_of, is_before}
use Rattle.texts.specs.declared.command.{Command.Command, Settings.Settings}
use Rattle.commands.specs.Accepted.{round_of, seen_of}
use Rattle.sheets.specs.{declared.going_on.AdvancingEntrants.AdvancingEntrants, Sheet.goes_through}
use Rattle.sheets.specs.declared.going_on.AdvancingEntrants.TheVariants.{PlacedBefore, These}

-- what is kept tells of a number in this table
abbrev pub is_told : AdvancingEntrants → Table → ℕ → Bool
is_told (PlacedBefore border) t n = holds_of (is_before t border) (entrant t n)
is_told (These numbers) t n = contains nat_eq numbers n

-- of each number it tells whether it goes on from the round
abbrev pub Tells : AdvancingEntrants → Table → Option (Settings × Table) → Type 0
Tells going t seen = (n : ℕ) → is_told going t n ≡ goes_through seen n

-- so it does of a round of these commands, where that is opened
abbrev pub TellsOf : AdvancingEntrants → List Command → Event → ℕ → Type 0
TellsOf going cs event round =
    (r : Settings × Table) → round_of cs event round ≡ Some r
    → Tells going r.1 (seen_of cs event round)
