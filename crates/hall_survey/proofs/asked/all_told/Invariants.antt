use Rattle.std.proofs.Common.{◌≡◌, drop, length}
use Rattle.hall_survey.specs.Told.{Begins}
use Rattle.hall_survey.proofs.asked.all_told.Given as goal

-- what is told of the desks so far
abbrev pub invariant-loop-one : goal.invariant-loop-one
invariant-loop-one l = record {
  told : Begins l.asked (drop l.one-index l.asked) l.told.items;
  length : length l.told.items ≡ l.one-index;
}
