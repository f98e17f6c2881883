use Rattle.std.proofs.Common.{◌≡◌, map, take, flat_map}
use Rattle.serde_json.specs.View.{view}
use Rattle.file_views.specs.Psych.{line_of}
use Rattle.file_views.proofs.psych.lines.Given as goal

abbrev pub invariant-loop-row : goal.invariant-loop-row
invariant-loop-row l =
    l.text.items ≡ flat_map (line_of l.event (map view l.persons) l.rows) (take l.row-index l.rows)
