-- The law of the editions: a later one changes no sheet before it is set (the project's own). It
-- says nothing of what an edition prints, as the one of `commands` says nothing of what it answers.
use Rattle.std.specs.Prelude.{◌≡◌, ◌≤◌, ℕ, List}
use Rattle.formats.specs.declared.{events.Event.Event, styles.SheetStyle.SheetStyle as Style}
use Rattle.commands.specs.{History.history_in, EditionLaws.AreWithout}
use Rattle.sheets.specs.Sheet.{sheet}

-- of entries that set no edition after k, up to `later`, a program that knows the editions up to
-- `later` prints the sheets of one that knows those up to k, of every event, or both have none
abbrev pub PrintsAsEarlier : Type 0
PrintsAsEarlier =
    (k later : ℕ) (entries : List (ℕ × List ℕ)) (style : Style) (event : Event) (round position : ℕ)
    → k ≤ later → AreWithout k later entries
    → sheet style (history_in later entries).accepted event round position
    ≡ sheet style (history_in k entries).accepted event round position
