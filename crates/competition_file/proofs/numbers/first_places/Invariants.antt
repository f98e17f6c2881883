use Rattle.std.proofs.Common.{take, map}
use Rattle.serde_json.specs.View.{view}
use Rattle.competition_file.specs.Numbers.{AreFirsts}
use Rattle.competition_file.proofs.numbers.first_places.Given as goal

abbrev pub invariant-loop-place : goal.invariant-loop-place
invariant-loop-place l = AreFirsts l.places (map view (take l.place l.persons))
