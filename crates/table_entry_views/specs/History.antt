-- The page of the history of one result: the rows of the log that changed it (the project's own).
use Rattle.std.specs.Prelude.{ℕ, List, [], ◌∷◌, ◌++◌, codes, decimal}
use Rattle.acceptor.specs.declared.entry.Entry.{Entry}
use Rattle.log_rows.specs.{Rows.rows, declared.writing.ShownEntries.TheVariants.ChangesOf}
use Rattle.markup.specs.{Pieces.fill, board_page.Escaped.escaped}
use Rattle.round_words.specs.Words.{event_words}
use Rattle.table_views.specs.{declared.around.PageContext.PageContext, Frame.top, Frame.bottom}
use Rattle.texts.specs.declared.command.RoundId.{RoundId}
use Rattle.table_entry_views.specs.declared.history.TheConstants.{SECTION}

-- as `desk log --who` prints them
abbrev pub changes_of : List Entry → RoundId → ℕ → List ℕ
changes_of log id number =
    rows 0 (ChangesOf record { event = id.event; round = id.round; number = number }) log

abbrev pub changes_section : RoundId → ℕ → List ℕ → List ℕ
changes_section id number text =
    fill SECTION.now (event_words id.event ∷ decimal id.round ∷ decimal number ∷ escaped text ∷ [])

unfoldable pub history_page : PageContext → RoundId → ℕ → List ℕ
history_page around id number =
    top (codes "hall") (codes "History of a result") around
    ++ changes_section id number (changes_of around.mirror.now id number) ++ bottom
