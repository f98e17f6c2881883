use Rattle.std.proofs.Common.{arith, map}
use Rattle.serde_json.specs.View.{view}
use Rattle.wcif.{specs.Events.event_faults, proofs.Listed.adds_next, proofs.Listed.adds_none}
use Rattle.wcif.proofs.events.push_events.Goals as goal

pub loop-index-init : goal.loop-index-init
loop-index-init c =
    adds_none (event_faults c.args.how (map view c.args.persons.now)) c.args.faults.now.items

pub loop-index-preserved : goal.loop-index-preserved
loop-index-preserved c =
    adds_next (event_faults c.args.how (map view c.args.persons.now)) c.args.events.now
    c.loop-index.index c.index-events-index.result c.args.faults.now.items
    c.loop-index.faults.items c.push_event.new.faults.items (omega arith)
    c.index-events-index.is c.loop-index.invariant c.in_ok-push_event.ensures
