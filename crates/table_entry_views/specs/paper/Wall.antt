-- The sheet of a round for the wall: the round as the board shows it (the project's own).
use Rattle.std.specs.Prelude.{◌≡◌, ℕ, List, [], ◌∷◌, ◌++◌, codes, length, Option, None, Some}
use Rattle.acceptor.specs.declared.entry.Entry.{Entry}
use Rattle.answers.specs.Answers.{texts}
use Rattle.board_rounds.specs.Rounds.{section}
use Rattle.markup.specs.{board_page.Escaped.escaped, Pieces.fill}
use Rattle.commands.specs.History.{history}
use Rattle.rounds.specs.Tables.{Table}
use Rattle.texts.specs.declared.command.{Command.Command, RoundId.RoundId, Settings.Settings}
use Rattle.table_entry_views.specs.{paper.Frame.top, declared.paper.frame.TheConstants.BOTTOM}
use Rattle.table_entry_views.specs.declared.paper.wall.TheConstants.{HALL, SIGNATURE}

-- the accepted commands of a log
abbrev pub accepted_in : List Entry → List Command
accepted_in log = (history (texts log)).accepted

abbrev pub hall_line : List ℕ → List ℕ
hall_line hall = fill HALL.now (escaped hall ∷ [])

-- the sheet of a round at the log's length
unfoldable pub wall_page : List ℕ → List Entry → RoundId → List ℕ
wall_page hall log id =
    top (codes "wall") hall ++ hall_line hall ++ section (accepted_in log) (length log) id
    ++ SIGNATURE.now ++ BOTTOM.now

-- the sheet, where the round was opened
abbrev pub IsWallSheet : List ℕ → List Entry → RoundId → Option (Settings × Table)
    → Option (List ℕ) → Type 0
IsWallSheet hall log id None page = page ≡ None
IsWallSheet hall log id (Some round) page = page ≡ Some (wall_page hall log id)
