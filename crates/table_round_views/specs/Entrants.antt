-- Lists of entrants (the project's own).
use Rattle.std.specs.Prelude.{ℕ, List, [], ◌∷◌, ◌++◌, codes, decimal, filter, flat_map}
use Rattle.markup.specs.{board_page.Escaped.escaped, Pieces.fill}
use Rattle.rounds.specs.Tables.{Table, standings}
use Rattle.round_counts.specs.{Counts.has_progress, declared.progress.Progress.Progress}
use Rattle.round_counts.specs.declared.progress.Progress.TheVariants.{Absent, Begun}
use Rattle.round_words.specs.Words.{round_name}
use Rattle.texts.specs.declared.command.{Command.Command, RoundId.RoundId, Settings.Settings}
use Rattle.table_views.specs.People.{name_in}
use Rattle.table_round_views.specs.declared.unfinished.TheConstants.{ENTRANT}

abbrev pub link_middle : ℕ → List ℕ
link_middle number = fill ENTRANT.now (decimal number ∷ decimal number ∷ [])

-- an entrant, with a link to the entrant's card
unfoldable pub entrant_line : List Command → RoundId → ℕ → List ℕ
entrant_line accepted id number =
    codes "<li><a href=\"/card/" ++ round_name id ++ link_middle number
    ++ escaped (name_in accepted number) ++ codes "</bdi></a></li>\n"

-- entrants under a heading, where there is somebody
abbrev pub list_of : List Command → RoundId → List ℕ → List ℕ → List ℕ
list_of accepted id heading [] = []
list_of accepted id heading (number ∷ numbers) =
    heading ++ flat_map (entrant_line accepted id) (number ∷ numbers) ++ codes "</ul>\n"

-- the entrants who have come so far, in order of place
abbrev pub with_progress : Settings × Table → Progress → List ℕ
with_progress round progress =
    filter (has_progress round.0.format round.1 progress) (standings round.1)

-- who is in the middle, and who has no attempt
unfoldable pub unfinished : List Command → RoundId → Settings × Table → List ℕ
unfinished accepted id round =
    list_of accepted id (codes "<h2>In the middle</h2>\n<ul>\n") (with_progress round Begun)
    ++ list_of accepted id (codes "<h2>Without an attempt</h2>\n<ul>\n")
    (with_progress round Absent)
