-- Events, rounds and their settings in people's words (the project's own).
use Rattle.std.specs.Prelude.{ℕ, Bool, true, false, List, [], ◌++◌, codes, decimal, Option, None}
use Rattle.std.specs.Prelude.{Some}
use Rattle.attempts.specs.{Texts.number_text, Texts.time_text, declared.Unit.Unit as Measure}
use Rattle.formats.specs.{declared.advance.Advance.Advance, Events.event_name, Events.unit_of}
use Rattle.formats.specs.declared.advance.Advance.TheVariants.{Final, Top, Percent}
use Rattle.formats.specs.declared.events.{Event.Event, Format.Format}
use Rattle.formats.specs.declared.events.Event.TheVariants.{Cube3, Cube2, Cube4, Cube5, Cube6}
use Rattle.formats.specs.declared.events.Event.TheVariants.{Cube7, Blind3, FewestMoves, OneHanded}
use Rattle.formats.specs.declared.events.Event.TheVariants.{Clock, Megaminx, Pyraminx, Skewb}
use Rattle.formats.specs.declared.events.Event.TheVariants.{Square1, Blind4, Blind5, MultiBlind}
use Rattle.formats.specs.declared.events.Format.TheVariants.{Ao5, Mo3, Bo1, Bo2, Bo3}
use Rattle.texts.specs.declared.command.{RoundId.RoundId, Settings.Settings}

-- the names of the events (WCA Regulations, article 9b)
abbrev pub event_words : Event → List ℕ
event_words Cube3 = codes "3x3x3 Cube"
event_words Cube2 = codes "2x2x2 Cube"
event_words Cube4 = codes "4x4x4 Cube"
event_words Cube5 = codes "5x5x5 Cube"
event_words Cube6 = codes "6x6x6 Cube"
event_words Cube7 = codes "7x7x7 Cube"
event_words Blind3 = codes "3x3x3 Blindfolded"
event_words FewestMoves = codes "3x3x3 Fewest Moves"
event_words OneHanded = codes "3x3x3 One-Handed"
event_words Clock = codes "Clock"
event_words Megaminx = codes "Megaminx"
event_words Pyraminx = codes "Pyraminx"
event_words Skewb = codes "Skewb"
event_words Square1 = codes "Square-1"
event_words Blind4 = codes "4x4x4 Blindfolded"
event_words Blind5 = codes "5x5x5 Blindfolded"
event_words MultiBlind = codes "3x3x3 Multi-Blind"

-- what pages refer to a round by, as 333-1
abbrev pub round_name : RoundId → List ℕ
round_name id = event_name id.event ++ codes "-" ++ decimal id.round

-- the round from which nobody goes on is the final of its event
abbrev pub round_part : ℕ → Advance → List ℕ
round_part round Final = codes "Final"
round_part round (Top number) = codes "Round " ++ decimal round
round_part round (Percent percent) = codes "Round " ++ decimal round

-- as `3x3x3 Cube, Round 1`, or `3x3x3 Cube, Final`
abbrev pub round_words : RoundId → Advance → List ℕ
round_words id advance = event_words id.event ++ codes ", " ++ round_part id.round advance

-- how many attempts there are, and what counts of them
abbrev pub format_words : Format → List ℕ
format_words Ao5 = codes "average of 5"
format_words Mo3 = codes "mean of 3"
format_words Bo1 = codes "best of 1"
format_words Bo2 = codes "best of 2"
format_words Bo3 = codes "best of 3"

-- as `, cutoff 15.00 in 2`: a result below 15.00 in the first two attempts
abbrev pub cutoff_words : Measure → Option (ℕ × ℕ) → List ℕ
cutoff_words unit None = []
cutoff_words unit (Some cutoff) =
    codes ", cutoff " ++ number_text unit cutoff.1 ++ codes " in " ++ decimal cutoff.0

-- as `, limit 10:00.00`: a time
abbrev pub limit_words : Option ℕ → List ℕ
limit_words None = []
limit_words (Some limit) = codes ", limit " ++ time_text limit

-- who goes on, as `, top 12 advance`
abbrev pub advance_words : Advance → List ℕ
advance_words Final = []
advance_words (Top number) = codes ", top " ++ decimal number ++ codes " advance"
advance_words (Percent percent) = codes ", top " ++ decimal percent ++ codes "% advance"

abbrev pub settings_words : Event → Settings → List ℕ
settings_words event settings =
    format_words settings.format ++ cutoff_words (unit_of event) settings.cutoff
    ++ limit_words settings.limit ++ advance_words settings.advance

-- how far a round is
abbrev pub state_words : Bool → Advance → List ℕ
state_words false advance = codes "running"
state_words true Final = codes "final result"
state_words true (Top number) = codes "closed"
state_words true (Percent percent) = codes "closed"
