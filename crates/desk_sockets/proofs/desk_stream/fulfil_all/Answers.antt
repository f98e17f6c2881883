use Rattle.std.proofs.Common.{rules}
use Rattle.desk_sockets.specs.Asking.{AsksLast}
use Rattle.desk_sockets.proofs.Driving.{both, earlier, plain}
use Rattle.desk_sockets.proofs.desk_stream.fulfil_all.Goals as goal

pub returns-in-Rest-clause-went : goal.returns-in-Rest-clause-went
returns-in-Rest-clause-went g c = both c.loop-wish.invariant.went c.fulfil_next.ensures.went

pub returns-in-Rest-clause-asked : goal.returns-in-Rest-clause-asked
returns-in-Rest-clause-asked g c =
    earlier (plain c.loop-wish.invariant.went) c.fulfil_next.ensures.asked

pub returns-in-Stop-clause-went : goal.returns-in-Stop-clause-went
returns-in-Stop-clause-went g c = both c.loop-wish.invariant.went c.fulfil_next.ensures.went

pub returns-in-Stop-clause-asked : goal.returns-in-Stop-clause-asked
returns-in-Stop-clause-asked g c =
    earlier (plain c.loop-wish.invariant.went) c.fulfil_next.ensures.asked

pub loop-wish-preserved : goal.loop-wish-preserved
loop-wish-preserved g c =
    let went = both c.loop-wish.invariant.went c.fulfil_next.ensures.went in
    let asked : AsksLast g.D.Dialogue.leads c.args.now c.args.dialogue.now
    c.fulfil_next.new.dialogue =
    earlier (plain c.loop-wish.invariant.went) c.fulfil_next.ensures.asked in
    search rules
