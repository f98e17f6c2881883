-- Which results of a round are personal records by a competition's file in the WCA Competition
-- Interchange Format (its PersonalBest), and the section of a page that says it (the project's
-- own).
use Rattle.std.specs.Prelude.{ℕ, Bool, true, false, nat_le, List, [], ◌∷◌, ◌++◌, codes, decimal}
use Rattle.std.specs.Prelude.{find, flat_map, unwrap_or, Option, Some, None}
use Rattle.std.specs.Option.{option_map}
use Rattle.serde_json.specs.Data.{Data}
use Rattle.attempts.specs.declared.Value.{Value}
use Rattle.commands.specs.Accepted.{round_by}
use Rattle.competition_file.specs.{Bests.best_of, Files.persons}
use Rattle.competition_file.specs.declared.bests.ResultKind.{ResultKind}
use Rattle.competition_file.specs.declared.bests.ResultKind.TheVariants.{Single, Average}
use Rattle.formats.specs.declared.advance.Advance.{Advance}
use Rattle.formats.specs.{declared.events.Event.Event, declared.results.Averaged.Averaged}
use Rattle.formats.specs.{Events.unit_of, Results.average_of, Results.average_text}
use Rattle.formats.specs.Results.{averaged_number, best_of as least_of, number_of}
use Rattle.markup.specs.{board_page.Escaped.escaped, Pieces.fill}
use Rattle.round_words.specs.Words.{round_words}
use Rattle.rounds.specs.Tables.{Entrant, Table, entrant, standings}
use Rattle.sheets.specs.Sheet.{best_text, name_text}
use Rattle.texts.specs.declared.command.{Command.Command, RoundId.RoundId, Settings.Settings}
use Rattle.wcif.specs.Persons.{has_number, text_under}
use Rattle.record_views.specs.Together.{together}
use Rattle.record_views.specs.declared.lines.TheConstants.{LINE}
use Rattle.record_views.specs.declared.records.TheConstants.{START, HEAD, END, NOT_OPENED}

-- ---- records

-- a result is not worse than a best, where there is one
abbrev pub reaches : Option ℕ → ℕ → Bool
reaches None n = true
reaches (Some best) n = nat_le n best

-- a result of this kind in an event is a personal record of a person of the file: the person's best
-- of this kind before the competition is not better, or there is none. One that ties with the best
-- is a record too, as on the results pages of the WCA. Nobody has a record who is not in the file,
-- and DNF, DNS and what is not done yet are no results.
abbrev pub is_record : Event → ResultKind → Option Data → Option ℕ → Bool
is_record e k None number = false
is_record e k (Some p) None = false
is_record e k (Some p) (Some n) = reaches (best_of e k p) n

-- ---- the section

abbrev pub mark : Bool → List ℕ
mark true = codes " class=\"pr\""
mark false = []

abbrev pub country : Option Data → List ℕ
country None = []
country (Some p) = text_under (codes "countryIso2") p

-- the number, for scripts and as a cell; the country; the name; and the best single and the average
-- as the sheet has them, each marked where it is a record
abbrev pub line : Event → ℕ → (name : List ℕ) → Option Data → Averaged → List Value → List ℕ
line e n name p average vs =
    fill LINE.now (decimal n ∷ decimal n ∷ escaped (country p) ∷ escaped name
    ∷ mark (is_record e Single p (number_of (least_of vs))) ∷ best_text (unit_of e) vs
    ∷ mark (is_record e Average p (averaged_number average)) ∷ average_text (unit_of e) average
    ∷ [])

-- the first accepted person of the file with a number
abbrev pub person : ℕ → Data → Option Data
person n file = find (has_number n) (persons file)

abbrev pub entrant_line : Data → List Command → RoundId → Table → ℕ → Entrant → List ℕ
entrant_line file cs id t n e =
    line id.event n (name_text cs n) (person n file) (average_of t.format t.unit e.values) e.values

-- the line of the entrant with a number
abbrev pub line_of : Data → List Command → RoundId → Table → ℕ → List ℕ
line_of file cs id t n =
    unwrap_or (option_map (entrant_line file cs id t n) (entrant t n)) []

-- the words of a round, and below them the file's limit for several attempts together, if it is one
unfoldable pub title : Data → RoundId → Advance → List ℕ
title file id advance = round_words id advance ++ codes "</h2>\n" ++ together file id

-- a round, and its entrants in the order of the sheet
unfoldable pub records_of : Data → List Command → RoundId → Settings × Table → List ℕ
records_of file cs id r =
    START.now ++ title file id r.0.advance ++ HEAD.now
    ++ flat_map (line_of file cs id r.1) (standings r.1) ++ END.now

-- a round, or that it was not opened
abbrev pub records : Data → List Command → RoundId → List ℕ
records file cs id = unwrap_or (option_map (records_of file cs id) (round_by cs id)) NOT_OPENED.now
