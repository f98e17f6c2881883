use Rattle.std.proofs.Common.{◌≡◌, ◌++◌, codes, drop, flat_map}
use Rattle.board_rounds.specs.Rounds.{podium}
use Rattle.board_views.proofs.all_rounds.podiums_of.Given as goal

-- what was written, and what is written for the rounds that are left, is the whole
abbrev pub invariant-loop-id : goal.invariant-loop-id
invariant-loop-id l =
    l.text.items ++ flat_map (podium l.meet.accepted l.position) (drop l.id-index l.rounds)
    ≡ codes "<p class=\"told\">The first three of each final.</p>\n"
    ++ flat_map (podium l.meet.accepted l.position) l.rounds
