-- The pages of the views (the project's own).
use Rattle.std.specs.Prelude.{◌≡◌, ◌⊎◌, ℕ, List, [], ◌++◌, length, flat_map, codes, nat_le}
use Rattle.std.specs.Prelude.{option_map, if◌then◌else◌, Option, None, Some}
use Rattle.acceptor.specs.declared.entry.Entry.{Entry}
use Rattle.http_header.specs.FieldValue.{plain_value}
use Rattle.markup.specs.{board_page.Escaped.escaped, declared.replies.page.Page.Page}
use Rattle.markup.specs.replies.Tags.{tag_text}
use Rattle.commands.specs.Accepted.{name_of, round_of}
use Rattle.texts.specs.declared.command.{Command.Command, RoundId.RoundId}
use Rattle.round_words.specs.Words.{round_words}
use Rattle.archive.specs.Archive.{archive_text}
use Rattle.board_rounds.specs.Persons.{people, person_of}
use Rattle.board_rounds.specs.Rounds.{link, podium, section}
use Rattle.board_views.specs.{declared.paths.View.View, Frame.framed, Paths.StandsAt}
use Rattle.board_views.specs.declared.paths.View.TheVariants.{Overview, Hall, HallRound, Round}
use Rattle.board_views.specs.declared.paths.View.TheVariants.{Table, RoundAt, TableAt, Person}
use Rattle.board_views.specs.declared.paths.View.TheVariants.{Podiums, People, Log, Style, Script}
use Rattle.board_views.specs.Looks.{style, script}
use Rattle.board_views.specs.Rounds.{accepted_at, accepted_in, all_rounds, table_at}

-- ---- bodies

-- all rounds that were opened, and links to them, at the log's length
unfoldable pub all_page : List ℕ → List ℕ → List ℕ → List Entry → List ℕ
all_page class shows title log =
    framed class shows title (flat_map (link (accepted_in log)) all_rounds)
    (flat_map (section (accepted_in log) (length log)) all_rounds)

-- a round under its name, where it was opened
unfoldable pub round_page_of : List ℕ → List ℕ → List Command → ℕ → RoundId → Option (List ℕ)
round_page_of class title cs position id =
    option_map (λ r. framed class (round_words id r.0.advance) title [] (section cs position id))
    (round_of cs id.event id.round)

-- a round after the first entries of a log, where there are this many and it was opened in them
unfoldable pub round_page : List ℕ → List ℕ → List Entry → ℕ → RoundId → Option (List ℕ)
round_page class title log position id =
    if nat_le position (length log)
    then round_page_of class title (accepted_at log position) position id else None

-- a competitor in all rounds under the name, where the number is registered
unfoldable pub person_page : List ℕ → List Entry → ℕ → Option (List ℕ)
person_page title log number =
    option_map (λ name. framed (codes "one") (escaped name) title []
    (person_of (accepted_in log) (length log) number all_rounds)) (name_of (accepted_in log) number)

-- the podiums of those of these rounds that are finals
unfoldable pub podiums : List Command → ℕ → List RoundId → List ℕ
podiums cs position ids =
    codes "<p class=\"told\">The first three of each final.</p>\n"
    ++ flat_map (podium cs position) ids

-- the podiums of all finals
unfoldable pub podiums_page : List ℕ → List Entry → List ℕ
podiums_page title log =
    framed (codes "one") (codes "Podiums") title []
    (podiums (accepted_in log) (length log) all_rounds)

-- all competitors
unfoldable pub people_page : List ℕ → List Entry → List ℕ
people_page title log =
    framed (codes "one") (codes "Competitors") title [] (people (accepted_in log) (length log))

-- the body of a view, if it has one
abbrev pub body : List ℕ → List Entry → View → Option (List ℕ)
body title log Overview = Some (all_page (codes "all") (codes "All rounds") title log)
body title log Hall = Some (all_page (codes "hall") (codes "Projector") title log)
body title log (HallRound id) = round_page (codes "hall") title log (length log) id
body title log (Round id) = round_page (codes "one") title log (length log) id
body title log (Table id) = table_at log (length log) id
body title log (RoundAt position id) = round_page (codes "one") title log position id
body title log (TableAt position id) = table_at log position id
body title log (Person number) = person_page title log number
body title log Podiums = Some (podiums_page title log)
body title log People = Some (people_page title log)
body title log Log = Some (archive_text log)
body title log Style = Some style
body title log Script = Some script

-- ---- what is said of a body

abbrev pub kind_of : View → List ℕ
kind_of (Table id) = codes "text/csv; charset=utf-8"
kind_of (TableAt position id) = codes "text/csv; charset=utf-8"
kind_of Log = codes "text/plain; charset=utf-8"
kind_of Style = codes "text/css; charset=utf-8"
kind_of Script = codes "text/javascript; charset=utf-8"
kind_of _ = codes "text/html; charset=utf-8"

-- what is at a position of the log never changes; of all else a browser asks each time whether it
-- has changed
abbrev pub keeping_of : View → List ℕ
keeping_of (RoundAt position id) = codes "public, max-age=31536000, immutable"
keeping_of (TableAt position id) = codes "public, max-age=31536000, immutable"
keeping_of _ = codes "no-cache"

-- the position of the log that a view is of: its length, where the path names none
abbrev pub position_of : List Entry → View → ℕ
position_of log (RoundAt position id) = position
position_of log (TableAt position id) = position
position_of log _ = length log

-- ---- pages

-- the page of a view at its path; none where the view has no body
abbrev pub IsPageOf : List ℕ → List Entry → List ℕ → View → Option Page → Type 0
IsPageOf title log path view None = body title log view ≡ None
IsPageOf title log path view (Some p) =
    (p.content_type ≡ plain_value (kind_of view))
    × (p.cache_control ≡ plain_value (keeping_of view))
    × (p.tag ≡ plain_value (tag_text (position_of log view) path))
    × (body title log view ≡ Some p.body)

-- the page at a path: that of the view that is there, and none where no view is there
abbrev pub IsPageAt : List ℕ → List Entry → List ℕ → Option Page → Type 0
IsPageAt title log path page =
    ((view : View) × StandsAt view path × IsPageOf title log path view page)
    ⊎ (((view : View) → ¬ (StandsAt view path)) × (page ≡ None))
