use Rattle.std.proofs.Common.{Ok, ap}
use Rattle.learner.specs.declared.event.DeskEvent.TheVariants.{Submit, Start, Tick, Deliver}
use Rattle.learner.specs.Steps.{step}
use Rattle.replica.specs.roles.model.RunningDesks.{RunningDesk}
use Rattle.replica.proofs.Taking.{left_as, planned_ok, takes_as, takes_refused}
use Rattle.replica.proofs.handling.take_event.Goals as goal

pub returns-in-Submit-clause-takes : goal.returns-in-Submit-clause-takes
returns-in-Submit-clause-takes g c =
    let x = c.args.desk.now in
    rw c.in-Submit.is
    (takes_refused (Unit {0}) (step x.desks x.number x.desk (Submit c.in-Submit.entry)) x.desks
    x.number x.desk c.submit.new.self.desk c.in-Err.fault c.from.result
    (ap (λ (r : RunningDesk). r.desk) c.in-Err.ensures.err) c.from.ensures c.in-Err.ensures.refused)

pub returns-in-Start-clause-takes : goal.returns-in-Start-clause-takes
returns-in-Start-clause-takes g c =
    let x = c.args.desk.now in
    let s = c.start-planned.ensures in
    rw c.in-Start.is
    (takes_as x c.start-planned.new.self c.start-planned.result (step x.desks x.number x.desk Start)
    _ _ s.same (record { plan = s.plan; refused = s.refused }) c.carry_out.ensures.takes)

pub returns-in-Start-clause-left : goal.returns-in-Start-clause-left
returns-in-Start-clause-left g c down honest =
    let x = c.args.desk.now in
    let s = c.start-planned.ensures in
    rw c.in-Start.is
    (left_as x c.start-planned.new.self c.start-planned.result (step x.desks x.number x.desk Start)
    _ _ s.same (record { plan = s.plan; refused = s.refused })
    (λ t p. c.carry_out.ensures.left down t p honest))

pub returns-in-Tick-clause-takes : goal.returns-in-Tick-clause-takes
returns-in-Tick-clause-takes g c =
    let x = c.args.desk.now in
    let s = c.tick-planned.ensures in
    rw c.in-Tick.is
    (takes_as x c.tick-planned.new.self c.tick-planned.result (step x.desks x.number x.desk Tick) _
    _ s.same (record { plan = s.plan; refused = s.refused }) c.carry_out-in-Tick.ensures.takes)

pub returns-in-Tick-clause-left : goal.returns-in-Tick-clause-left
returns-in-Tick-clause-left g c down honest =
    let x = c.args.desk.now in
    let s = c.tick-planned.ensures in
    rw c.in-Tick.is
    (left_as x c.tick-planned.new.self c.tick-planned.result (step x.desks x.number x.desk Tick) _ _
    s.same (record { plan = s.plan; refused = s.refused })
    (λ t p. c.carry_out-in-Tick.ensures.left down t p honest))

pub returns-in-Ok-deliver-clause-takes : goal.returns-in-Ok-deliver-clause-takes
returns-in-Ok-deliver-clause-takes g c =
    let x = c.args.desk.now in
    let plan = c.in-Ok-deliver.plan in
    let s = c.in-Ok-deliver.ensures in
    rw c.in-Deliver.is (takes_as x c.deliver.new.self (Ok plan)
    (step x.desks x.number x.desk (Deliver c.in-Deliver.message)) _ _ s.same
    (planned_ok x.desk plan _ s.plan) c.carry_out-in-Ok-deliver.ensures.takes)
