use Rattle.std.proofs.Common.{◌≡◌, ◌++◌, drop, flat_map}
use Rattle.hall_survey.specs.Halls.{age_of}
use Rattle.hall_survey.proofs.asked.ages_of.Given as goal

-- the lines so far, with those of the desks that are left
abbrev pub invariant-loop-one : goal.invariant-loop-one
invariant-loop-one l =
    l.ages.items ++ flat_map (age_of l.now) (drop l.one-index l.asked)
    ≡ flat_map (age_of l.now) l.asked
