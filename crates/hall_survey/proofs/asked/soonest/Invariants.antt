use Rattle.std.proofs.Common.{◌≡◌, drop}
use Rattle.hall_survey.specs.Halls.{least_of, waits_of}
use Rattle.hall_survey.proofs.asked.soonest.Given as goal

-- the least of what was met and of what is left is the least of all
abbrev pub invariant-loop-one : goal.invariant-loop-one
invariant-loop-one l =
    least_of l.wait (waits_of (drop l.one-index l.asked) l.now)
    ≡ least_of 1000 (waits_of l.asked l.now)
