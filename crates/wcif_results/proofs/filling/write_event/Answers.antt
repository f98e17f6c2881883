use Rattle.std.proofs.Common.{map, codes}
use Rattle.wcif_results.specs.{Filled.each, Filled.filled_round, model.Opened.round_view}
use Rattle.wcif_results.proofs.Adding.{one_more, members_left, member_numbers}
use Rattle.wcif_results.proofs.filling.write_event.Goals as goal

pub write_event_member-requires : goal.write_event_member-requires
write_event_member-requires c =
    (member_numbers _ c.loop-member.member-index _ _ c.loop-member-test.true c.member-item.is
    c.loop-member.invariant.1).0

pub loop-member-preserved : goal.loop-member-preserved
loop-member-preserved c = (
  one_more _ _
      (members_left (codes "rounds") (each (filled_round (map round_view c.args.rounds.now))) _
      c.loop-member.member-index _ _ c.loop-member-test.true c.member-item.is)
      c.loop-member.invariant.0 c.in_ok-write_event_member.ensures,
  (member_numbers _ c.loop-member.member-index _ _ c.loop-member-test.true c.member-item.is
      c.loop-member.invariant.1).1,
)
