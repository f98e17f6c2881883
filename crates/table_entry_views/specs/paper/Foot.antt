-- What is below the rules of a scorecard (the project's own).
use Rattle.std.specs.Prelude.{ℕ, List, [], ◌++◌, codes, Option, None, Some}
use Rattle.competition_file.specs.Files.{data_of}
use Rattle.formats.specs.declared.advance.Advance.{Advance}
use Rattle.formats.specs.declared.advance.Advance.TheVariants.{Final, Top, Percent}
use Rattle.record_views.specs.Together.{together}
use Rattle.texts.specs.declared.command.RoundId.{RoundId}
use Rattle.table_entry_views.specs.declared.paper.card_foot.TheConstants.{NEXT}

-- what the file says of the limit of a round
abbrev pub file_words : Option (List ℕ) → RoundId → List ℕ
file_words None id = []
file_words (Some file) id = together (data_of file) id

-- the place for the seat in the next round
abbrev pub next_words : Advance → List ℕ
next_words Final = []
next_words (Top count) = NEXT.now
next_words (Percent count) = NEXT.now

-- what is below the rules of each card of a round
unfoldable pub foot : Option (List ℕ) → RoundId → Advance → List ℕ
foot file id advance =
    codes "</p>\n" ++ file_words file id ++ next_words advance ++ codes "</section>\n"
