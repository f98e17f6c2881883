-- Every sheet of a desk fits into a frame.
use Rattle.std.proofs.Common.{◌≡◌, ◌^◌, ◌<◌, ◌≤◌, ℕ, List, length, take, Some}
use Rattle.acceptor.specs.declared.entry.Entry.{Entry}
use Rattle.formats.specs.declared.{events.Event.Event, styles.SheetStyle.SheetStyle as Style}
use Rattle.answers.specs.Answers.{texts, sheet_at}
use Rattle.sheets.specs.FrameLaw.{FitsInAFrame}
use Rattle.formats.specs.declared.styles.SheetStyle.TheVariants.{Text, Table}

pub fits : FitsInAFrame
    → (style : Style) (log : List Entry) (position : ℕ) (event : Event) (round : ℕ) (text : List ℕ)
    → position < 2 ^ 32 → sheet_at style log position event round ≡ Some text → length text ≤ 299992
fits law Text log position event round text low is =
    law (texts (take position log)) Text event round position text low is
fits law Table log position event round text low is =
    law (texts (take position log)) Table event round position text low is
