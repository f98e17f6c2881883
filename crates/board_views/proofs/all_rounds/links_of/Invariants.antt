use Rattle.std.proofs.Common.{◌≡◌, ◌++◌, drop, flat_map}
use Rattle.board_rounds.specs.Rounds.{link}
use Rattle.board_views.proofs.all_rounds.links_of.Given as goal

-- what was written, and what is written for the rounds that are left, is the whole
abbrev pub invariant-loop-id : goal.invariant-loop-id
invariant-loop-id l =
    l.text.items ++ flat_map (link l.meet.accepted) (drop l.id-index l.rounds)
    ≡ flat_map (link l.meet.accepted) l.rounds
