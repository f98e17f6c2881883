use Rattle.std.proofs.Common.{map, drop, codes}
use Rattle.json.specs.{Tree.members_tokens, Tree.MembersHaveNumbers, Value.members_view}
use Rattle.wcif_results.specs.Filled.{each, members_with, filled_round}
use Rattle.wcif_results.{specs.model.Opened.round_view, proofs.Adding.Leads}
use Rattle.wcif_results.proofs.filling.write_event.Given as goal

abbrev pub invariant-loop-member : goal.invariant-loop-member
invariant-loop-member l =
    Leads l.initial.out l.out
    (members_tokens (members_with (codes "rounds") (each (filled_round (map round_view l.rounds)))
    (members_view (drop l.member-index l.member-items))))
    (members_tokens (members_with (codes "rounds") (each (filled_round (map round_view l.rounds)))
    (members_view l.member-items)))
    × MembersHaveNumbers (members_view (drop l.member-index l.member-items))
