use Rattle.std.proofs.Common.{◌≡◌, ◌++◌, drop, flat_map}
use Rattle.table_round_views.specs.Overview.{round_in}
use Rattle.table_round_views.proofs.all_rounds.push_event.Given as goal

-- what was written, and what is written for those that are left, is the whole
abbrev pub invariant-loop-round : goal.invariant-loop-round
invariant-loop-round l =
    l.out.items ++ flat_map (round_in l.meet.accepted l.event) (drop l.round-index l.rounds)
    ≡ l.initial.out.items ++ flat_map (round_in l.meet.accepted l.event) l.rounds
