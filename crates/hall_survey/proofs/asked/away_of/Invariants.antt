use Rattle.std.proofs.Common.{◌≡◌, ◌++◌, drop, flat_map}
use Rattle.hall_survey.specs.Halls.{away_one}
use Rattle.hall_survey.proofs.asked.away_of.Given as goal

-- those that are away so far, with those of the desks that are left
abbrev pub invariant-loop-one : goal.invariant-loop-one
invariant-loop-one l =
    l.away.items ++ flat_map (away_one l.now) (drop l.one-index l.asked)
    ≡ flat_map (away_one l.now) l.asked
