-- What the arguments of `replay` ask for, as the program's parser reads them: `clap` says which
-- argument is the value of which name.
use Rattle.std.specs.Prelude.{◌≡◌, Bool, true, false, ℕ, List, codes, decimal, map, Option, Some}
use Rattle.std.specs.Prelude.{option_and_then}
use Rattle.clap.specs.Words.{App, Row, Text, first_of, new_app, subcommand_of, with_rule}
use Rattle.clap.specs.{Words.with_subcommand, declared.builder.value_parser.ValueParser.ValueParser}
use Rattle.formats.specs.declared.{events.Event.Event, styles.SheetStyle.SheetStyle as Style}
use Rattle.formats.specs.Events.{all_events, event_name, event_of_name}
use Rattle.replay_arguments.specs.Arguments.{IsFlag, IsOneOf, csv_rule, flag_rule, round_numbers}
use Rattle.replay_arguments.specs.{Arguments.value_rule, declared.replay.ReplayTask.ReplayTask}
use Rattle.formats.specs.declared.styles.SheetStyle.TheVariants as printed

-- the texts that are accepted as an event, and those that are accepted as a round
pub record RoundParsers : Type 0 where
  pub events : Option ValueParser
  pub rounds : Option ValueParser
  pub named : IsOneOf events (map event_name all_events)
  pub numbered : IsOneOf rounds round_numbers

abbrev pub replay_arguments : RoundParsers → App
replay_arguments p =
    with_rule (with_rule (with_rule (with_rule (new_app (codes "replay"))
    (value_rule (codes "event") p.events)) (value_rule (codes "round") p.rounds)) csv_rule)
    (flag_rule (codes "only-sheet"))

-- the program: it requires a subcommand, and has a version
abbrev pub named_app : App
named_app =
    record (new_app (codes "desk")) {
      top =
          record (new_app (codes "desk")).top { has_version = true; subcommand_required = true };
    }

-- the program with the one subcommand `replay`
abbrev pub replay_program : RoundParsers → App
replay_program p = with_subcommand named_app (replay_arguments p).top

-- an event by its name, and a round as it prints in decimal
pub record IsRound (rows : List Row) (event : Event) (round : ℕ) : Type 0 where
  pub named : option_and_then event_of_name (first_of (codes "event") rows) ≡ Some event
  pub numbered : first_of (codes "round") rows ≡ Some (decimal round)

-- whether a sheet is printed as a table
abbrev pub is_table : Style → Bool
is_table printed.Table = true
is_table printed.Text = false

-- whether `--csv` is there
abbrev pub IsPrinted : List Row → Style → Type 0
IsPrinted rows style = IsFlag (codes "csv") rows (is_table style)

-- the values ask for this sheet, alone or after the refused lines
abbrev pub IsReplay : ReplayTask → List Row → Type 0
IsReplay t rows =
    IsRound rows t.event t.round × IsPrinted rows t.style
    × IsFlag (codes "only-sheet") rows t.only_sheet

abbrev pub Finds : Option (Text × List Row) → ReplayTask → Type 0
Finds found t =
    (name : Text) × (rows : List Row) × (found ≡ Some (name, rows)) × (name ≡ codes "replay")
    × IsReplay t rows

-- these arguments are parsed as a subcommand and the rows of its values, or as none
abbrev pub Parses : List Text → Option (Text × List Row) → Type 0
Parses given found = (p : RoundParsers) × (found ≡ subcommand_of (replay_program p) given)

-- the arguments, of which the first is the program's own name, ask for this
abbrev pub Asks : List Text → ReplayTask → Type 0
Asks given t = (p : RoundParsers) × Finds (subcommand_of (replay_program p) given) t
