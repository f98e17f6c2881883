-- What opening a round again leaves of a sheet (the project's own).
use Rattle.std.specs.Prelude.{◌≡◌, ℕ, List, [], ◌∷◌, ◌++◌, None}
use Rattle.formats.specs.declared.{events.Event.Event, styles.SheetStyle.SheetStyle as Style}
use Rattle.texts.specs.declared.command.{Command.Command, RoundId.RoundId}
use Rattle.texts.specs.declared.command.Command.TheVariants.{Close, Reopen}
use Rattle.commands.specs.Accepted.{refusal}
use Rattle.sheets.specs.Sheet.{sheet}

-- a round that may be opened again, and is closed with nothing between, has the sheet that it had,
-- and so has each other round; the position is that of the sheet and no part of the commands
abbrev pub PrintsAsBefore : Type 0
PrintsAsBefore =
    (cs : List Command) (id : RoundId) (style : Style) (event : Event) (round position : ℕ)
    → refusal cs (Reopen id) ≡ None
    → sheet style (cs ++ Reopen id ∷ Close id ∷ []) event round position
    ≡ sheet style cs event round position
