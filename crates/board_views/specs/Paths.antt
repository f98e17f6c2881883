-- What is at the paths of the board (the project's own).
use Rattle.std.specs.Prelude.{◌≡◌, ℕ, ◌≤◌, List, ◌++◌, codes, decimal}
use Rattle.formats.specs.Events.{last_round}
use Rattle.texts.specs.declared.command.RoundId.{RoundId}
use Rattle.round_words.specs.Words.{round_name}
use Rattle.board_views.specs.declared.paths.View.{View}
use Rattle.board_views.specs.declared.paths.View.TheVariants.{Overview, Hall, HallRound, Round}
use Rattle.board_views.specs.declared.paths.View.TheVariants.{Table, RoundAt, TableAt, Person}
use Rattle.board_views.specs.declared.paths.View.TheVariants.{Podiums, People, Log, Style, Script}

-- a round's table in a path, as 333-1.csv
abbrev pub table_name : RoundId → List ℕ
table_name id = round_name id ++ codes ".csv"

-- where a view is
abbrev pub path_of : View → List ℕ
path_of Overview = codes "/"
path_of Hall = codes "/hall"
path_of (HallRound id) = codes "/hall/" ++ round_name id
path_of (Round id) = codes "/" ++ round_name id
path_of (Table id) = codes "/" ++ table_name id
path_of (RoundAt position id) = codes "/at/" ++ decimal position ++ codes "/" ++ round_name id
path_of (TableAt position id) = codes "/at/" ++ decimal position ++ codes "/" ++ table_name id
path_of (Person number) = codes "/person/" ++ decimal number
path_of Podiums = codes "/podiums"
path_of People = codes "/people"
path_of Log = codes "/log.txt"
path_of Style = codes "/style.css"
path_of Script = codes "/update.js"

-- an event has at most four rounds
abbrev pub IsRound : RoundId → Type 0
IsRound id = (1 ≤ id.round) × (id.round ≤ last_round)

-- a log has at most 65,536 entries, and the numbers of competitors are 1 to 9999
abbrev pub IsView : View → Type 0
IsView (HallRound id) = IsRound id
IsView (Round id) = IsRound id
IsView (Table id) = IsRound id
IsView (RoundAt position id) = (position ≤ 65536) × IsRound id
IsView (TableAt position id) = (position ≤ 65536) × IsRound id
IsView (Person number) = (1 ≤ number) × (number ≤ 9999)
IsView _ = Unit {0}

-- this text is the name of a round, and that of its table
abbrev pub IsNameOf : RoundId → List ℕ → Type 0
IsNameOf id text = IsRound id × (text ≡ round_name id)

abbrev pub IsTableNameOf : RoundId → List ℕ → Type 0
IsTableNameOf id text = IsRound id × (text ≡ table_name id)

-- a view is at this path
abbrev pub StandsAt : View → List ℕ → Type 0
StandsAt view path = IsView view × (path ≡ path_of view)

-- a path with a position, as `/at/17/`, and what is after it
abbrev pub IsPastOf : ℕ → List ℕ → List ℕ → Type 0
IsPastOf position name path =
    (position ≤ 65536) × (path ≡ codes "/at/" ++ decimal position ++ codes "/" ++ name)

-- it has no number
abbrev pub IsFixed : View → Type 0
IsFixed Overview = Unit {0}
IsFixed Hall = Unit {0}
IsFixed Podiums = Unit {0}
IsFixed People = Unit {0}
IsFixed Log = Unit {0}
IsFixed Style = Unit {0}
IsFixed Script = Unit {0}
IsFixed _ = ⊥
