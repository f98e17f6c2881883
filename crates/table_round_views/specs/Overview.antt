-- The page of all rounds (the project's own).
use Rattle.std.specs.Prelude.{ℕ, Bool, true, false, List, [], ◌∷◌, ◌++◌, codes, decimal, flat_map}
use Rattle.std.specs.Prelude.{Option, None, Some}
use Rattle.commands.specs.Accepted.{round_by}
use Rattle.formats.specs.declared.{advance.Advance.Advance, events.Event.Event}
use Rattle.formats.specs.Events.{all_events}
use Rattle.rounds.specs.Tables.{Table}
use Rattle.round_counts.specs.{Counts.counts, declared.counts.Counts.Counts}
use Rattle.round_words.specs.Words.{round_name, round_words}
use Rattle.texts.specs.declared.command.{Command.Command, RoundId.RoundId, Settings.Settings}
use Rattle.markup.specs.Pieces.{fill}
use Rattle.table_views.specs.{declared.around.PageContext.PageContext, Logs.accepted_in}
use Rattle.table_views.specs.{Frame.top, Frame.bottom, Recent.recent_section}
use Rattle.table_round_views.specs.declared.all_rounds.TheConstants.{BEFORE, LINK, ROW}
use Rattle.table_round_views.specs.declared.all_rounds.TheConstants.{SECTION_HEAD, SECTION_END}

abbrev pub link_end : List ℕ → List ℕ
link_end words = fill LINK.now (words ∷ [])

-- a link to what there is of a round under a path
unfoldable pub link_cell : List ℕ → RoundId → List ℕ → List ℕ
link_cell path id words = codes "<td><a href=\"" ++ path ++ round_name id ++ link_end words

abbrev pub state_cell : Bool → List ℕ
state_cell true = codes "<td>closed</td>"
state_cell false = codes "<td>open</td>"

abbrev pub count_cells : Counts → List ℕ
count_cells counted =
    fill ROW.now (decimal counted.done ∷ decimal counted.entrants ∷ decimal counted.begun ∷ [])

-- a link to a round's cards
unfoldable pub row_head : RoundId → Advance → List ℕ
row_head id advance =
    codes "<tr><th scope=\"row\"><a href=\"/card/" ++ round_name id ++ codes "\">"
    ++ round_words id advance ++ codes "</a></th>"

-- whether a round is open, how far its entrants have come, and links to what there is of it
unfoldable pub round_line : RoundId → Settings × Table → List ℕ
round_line id round =
    row_head id round.0.advance ++ state_cell round.1.is_closed
    ++ count_cells (counts round.0.format round.1)
    ++ link_cell (codes "/rounds?round=") id (codes "open and close")
    ++ link_cell (codes "/wall/") id (codes "sheet for the wall")
    ++ link_cell (codes "/scorecards/") id (codes "scorecards") ++ codes "</tr>\n"

abbrev pub row_if : RoundId → Option (Settings × Table) → List ℕ
row_if id None = []
row_if id (Some round) = round_line id round

-- the line of a round, where it was opened
abbrev pub round_in : List Command → Event → ℕ → List ℕ
round_in accepted event round =
    let id : RoundId = record { event = event; round = round } in
    row_if id (round_by accepted id)

abbrev pub event_lines : List Command → Event → List ℕ
event_lines accepted event = flat_map (round_in accepted event) (1 ∷ 2 ∷ 3 ∷ 4 ∷ [])

unfoldable pub section : List Command → List ℕ
section accepted =
    SECTION_HEAD.now ++ flat_map (event_lines accepted) all_events ++ SECTION_END.now

-- the link to what is open before the results are sent in, where a competition's file is beside the
-- list
abbrev pub before_link : Bool → List ℕ
before_link true = BEFORE.now
before_link false = []

-- the page of all rounds, with the cards and commands of late
unfoldable pub overview : PageContext → Bool → List ℕ
overview around beside =
    top (codes "hall") (codes "Score table") around
    ++ section (accepted_in around.mirror.now)
    ++ before_link beside
    ++ recent_section around
    ++ bottom
