use Rattle.std.proofs.Common.{◌≡◌, drop}
use Rattle.hall_survey.specs.Halls.{first_other}
use Rattle.hall_survey.proofs.asked.first_other.Given as goal

-- none of the desks so far says that it is of another hall
abbrev pub invariant-loop-one : goal.invariant-loop-one
invariant-loop-one l = first_other l.asked ≡ first_other (drop l.one-index l.asked)
