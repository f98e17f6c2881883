-- A round as a JSON value: an object with these members, in this order (the project's own).
use Rattle.std.specs.Prelude.{ℕ, Bool, List, codes, option_to_list}
use Rattle.std.specs.Option.{option_map}
use Rattle.json.specs.Json.{Json, boolean, string, object, Members, no_members, member}
use Rattle.attempts.specs.declared.Unit.{Unit as Measure}
use Rattle.attempts.specs.declared.Unit.TheVariants.{Time, Moves, Multi}
use Rattle.commands.specs.Accepted.{round_of, seen_of}
use Rattle.sheets.specs.Sheet.{is_marked}
use Rattle.formats.specs.{declared.events.Event.Event, Events.event_name, Events.format_name}
use Rattle.rounds.specs.Tables.{Table}
use Rattle.texts.specs.declared.command.{Command.Command, Settings.Settings}
use Rattle.wcif_results.specs.results_json.Entrants.{entrants_json}
use Rattle.wcif_results.specs.results_json.Values.{advance_json, cutoff_json, limit_json, natural}

-- what the numbers of the round count
abbrev pub unit_name : Measure → List ℕ
unit_name Time = codes "hundredths"
unit_name Moves = codes "moves"
unit_name Multi = codes "multi-blind"

-- the settings and the results, given whom the sheet marks
abbrev pub later_members : List Command → (ℕ → Bool) → Settings × Table → Members
later_members cs marks (settings, t) =
    member (codes "format") (string (format_name settings.format))
    (member (codes "unit") (string (unit_name t.unit))
    (member (codes "closed") (boolean t.is_closed)
    (member (codes "cutoff") (cutoff_json settings.cutoff)
    (member (codes "limit") (limit_json settings.limit)
    (member (codes "advance") (advance_json settings.advance)
    (member (codes "results") (entrants_json cs settings t marks) no_members))))))

abbrev pub round_members : List Command → Event → ℕ → Settings × Table → Members
round_members cs event n round =
    member (codes "event") (string (event_name event)) (member (codes "round") (natural n)
    (later_members cs (is_marked round.1 (seen_of cs event n)) round))

unfoldable pub round_json : List Command → Event → ℕ → Settings × Table → Json
round_json cs event n round = object (round_members cs event n round)

-- the round of an event with a number, where it was opened
abbrev pub round_list : List Command → Event → ℕ → List Json
round_list cs event n = option_to_list (option_map (round_json cs event n) (round_of cs event n))
