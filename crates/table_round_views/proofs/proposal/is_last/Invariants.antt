use Rattle.std.proofs.Common.{◌≡◌, ◌-◌}
use Rattle.std.specs.List.{list_any, range_with_len}
use Rattle.commands.specs.Accepted.{competitors_seen, has_too_few}
use Rattle.table_round_views.proofs.proposal.is_last.Given as goal

-- what is left to be looked at decides
abbrev pub invariant-loop-earlier : goal.invariant-loop-earlier
invariant-loop-earlier l =
    list_any (has_too_few (competitors_seen l.meet.accepted l.id.event) l.id.round)
    (range_with_len 1 (l.id.round - 1))
    ≡ list_any (has_too_few (competitors_seen l.meet.accepted l.id.event) l.id.round)
    (range_with_len l.earlier (l.id.round - l.earlier))
