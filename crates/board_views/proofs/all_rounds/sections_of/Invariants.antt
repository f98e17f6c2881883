use Rattle.std.proofs.Common.{◌≡◌, ◌++◌, drop, flat_map}
use Rattle.board_rounds.specs.Rounds.{section}
use Rattle.board_views.proofs.all_rounds.sections_of.Given as goal

-- what was written, and what is written for the rounds that are left, is the whole
abbrev pub invariant-loop-id : goal.invariant-loop-id
invariant-loop-id l =
    l.text.items ++ flat_map (section l.meet.accepted l.position) (drop l.id-index l.rounds)
    ≡ flat_map (section l.meet.accepted l.position) l.rounds
