use Rattle.std.proofs.Common.{refl}
use Rattle.wcif_results.specs.MeetRounds.{event_rounds, meet_rounds}
use Rattle.wcif_results.proofs.Adding.{lists_of, lists_done}
use Rattle.wcif_results.proofs.meet_rounds.meet_rounds.Goals as goal

pub loop-event-preserved : goal.loop-event-preserved
loop-event-preserved c =
    lists_of _ _ _ (event_rounds c.args.meet.now.accepted) _ c.loop-event.event-index _ _
    c.loop-event-test.true refl c.loop-event.invariant c.in_ok-push_event_rounds.ensures

pub returns : goal.returns
unfolding meet_rounds
returns c =
    lists_done _ _ (event_rounds c.args.meet.now.accepted) _ c.loop-event.event-index
    c.loop-event-test.false c.loop-event.invariant
