-- Links to the history of a result, and to the page that withdraws a competitor (the project's
-- own).
use Rattle.std.specs.Prelude.{ℕ, if◌then◌else◌, List, [], ◌∷◌, ◌++◌, decimal, Option, None, Some}
use Rattle.formats.specs.Events.{event_name}
use Rattle.rounds.specs.Tables.{Table}
use Rattle.markup.specs.Pieces.{fill}
use Rattle.table_views.specs.Leaving.{may_leave}
use Rattle.texts.specs.declared.command.RoundId.{RoundId}
use Rattle.table_entry_views.specs.{declared.draft.Draft.Draft, Fields.competitor_of}
use Rattle.table_entry_views.specs.declared.leaving.TheConstants.{HISTORY, WORDS}

abbrev pub history_words : RoundId → ℕ → List ℕ
history_words id number =
    fill HISTORY.now (event_name id.event ∷ decimal id.round ∷ decimal number ∷ [])

abbrev pub leaving_words : ℕ → List ℕ
leaving_words number = fill WORDS.now (decimal number ∷ decimal number ∷ [])

abbrev pub leaving_if : Table → ℕ → List ℕ
leaving_if t number = if may_leave t number then leaving_words number else []

abbrev pub leaving_of : RoundId → Table → Option ℕ → List ℕ
leaving_of id t None = []
leaving_of id t (Some number) = history_words id number ++ leaving_if t number

-- for the competitor whose card it is: the history of the result; and a link to the withdrawal, if
-- the round is open and no attempt counts
abbrev pub leaving_line : RoundId → Table → Draft → List ℕ
leaving_line id t draft = leaving_of id t (competitor_of draft)
