-- A round in HTML.
use Rattle.std.specs.Prelude.{ℕ, ◌+◌, Bool, true, false, List, [], ◌∷◌, ◌++◌, codes, decimal}
use Rattle.std.specs.{Prelude.flat_map, Prelude.option_map, Prelude.unwrap_or, List.range_with_len}
use Rattle.commands.specs.Accepted.{round_of, seen_of}
use Rattle.formats.specs.{declared.advance.Advance.Advance, Events.attempts_of, Events.unit_of}
use Rattle.formats.specs.declared.advance.Advance.TheVariants.{Final, Top, Percent}
use Rattle.rounds.specs.Tables.{Table, standings}
use Rattle.sheets.specs.Sheet.{goes_through}
use Rattle.texts.specs.declared.command.{Command.Command, RoundId.RoundId, Settings.Settings}
use Rattle.markup.specs.Pieces.{fill}
use Rattle.board_rounds.specs.{Absent.absent, Rows.listed}
use Rattle.board_rounds.specs.declared.rounds_shown.TheConstants.{BELOW, HEADING}
use Rattle.round_words.specs.Words.{round_name, round_words, settings_words, state_words}

-- ---- above the lines

unfoldable pub heading : List ℕ → List ℕ
heading text = fill HEADING.now (text ∷ [])

-- attempts are counted from 1
abbrev pub attempt_heading : ℕ → List ℕ
attempt_heading k = heading (decimal (k + 1))

abbrev pub attempt_headings : ℕ → List ℕ
attempt_headings count = flat_map attempt_heading (range_with_len 0 count)

-- title, settings, and how far it is, in one line
unfoldable pub said : RoundId → Settings → Bool → List ℕ
said id settings closed =
    round_words id settings.advance ++ codes ": " ++ settings_words id.event settings ++ codes ", "
    ++ state_words closed settings.advance

-- the name of the first column; above it this line is on each page of paper
unfoldable pub place_heading : List ℕ → List ℕ
place_heading text = codes "<th scope=\"col\" data-title=\"" ++ text ++ codes "\">place</th>"

-- the names of the columns, of which one is for each attempt
abbrev pub headings : List ℕ → ℕ → List ℕ
headings text count =
    place_heading text ++ heading (codes "number") ++ heading (codes "name")
    ++ heading (codes "average") ++ heading (codes "best")
    ++ attempt_headings count ++ heading (codes "advances")

-- the round's name, by which pages refer to it, and its title
unfoldable pub title : List ℕ → List ℕ → List ℕ
title name words =
    codes "<section id=\"" ++ name ++ codes "\"><table><caption><h2>" ++ words ++ codes "</h2>\n"

-- its settings, and how far it is
unfoldable pub conditions : List ℕ → List ℕ → List ℕ
conditions settings state =
    codes "<p class=\"told\">" ++ settings ++ codes ", <strong>" ++ state
    ++ codes "</strong></p></caption>\n"

unfoldable pub table_start : List ℕ → ℕ → List ℕ
table_start text count =
    codes "<thead><tr>" ++ headings text count ++ codes "</tr></thead><tbody>\n"

-- the position that it is at, as people read it
unfoldable pub below : ℕ → List ℕ
below position = fill BELOW.now (decimal position ∷ [])

-- ---- a round

abbrev pub above : RoundId → Settings × Table → List ℕ
above id r =
    title (round_name id) (round_words id r.0.advance)
    ++ conditions (settings_words id.event r.0) (state_words r.1.is_closed r.0.advance)
    ++ table_start (said id r.0 r.1.is_closed) (attempts_of r.0.format)

-- all its entrants, or its podium alone
unfoldable pub section_of : Bool → List Command → RoundId → ℕ → Settings × Table → List ℕ
section_of podium cs id position r =
    above id r
    ++ flat_map (listed podium (unit_of id.event) cs r.0 r.1
    (goes_through (seen_of cs id.event id.round))) (standings r.1)
    ++ below position

-- a round, where it was opened
abbrev pub section : List Command → ℕ → RoundId → List ℕ
section cs position id =
    unwrap_or (option_map (section_of false cs id position) (round_of cs id.event id.round)) []

-- the podium of a round from which nobody goes on, and who is absent
abbrev pub podium_by : Advance → List Command → RoundId → ℕ → Settings × Table → List ℕ
podium_by Final cs id position r = section_of true cs id position r ++ absent cs r.1
podium_by (Top number) cs id position r = []
podium_by (Percent percent) cs id position r = []

abbrev pub podium_of : List Command → RoundId → ℕ → Settings × Table → List ℕ
podium_of cs id position r = podium_by r.0.advance cs id position r

-- the podium of a final, where it was opened
abbrev pub podium : List Command → ℕ → RoundId → List ℕ
podium cs position id =
    unwrap_or (option_map (podium_of cs id position) (round_of cs id.event id.round)) []

-- ---- a link to a round's own page

unfoldable pub link_of : RoundId → Settings × Table → List ℕ
link_of id r =
    codes "<a href=\"/" ++ round_name id ++ codes "\">" ++ round_words id r.0.advance
    ++ codes "</a>\n"

-- a link, where the round was opened
abbrev pub link : List Command → RoundId → List ℕ
link cs id = unwrap_or (option_map (link_of id) (round_of cs id.event id.round)) []
