use Rattle.std.proofs.Common.{inl, inr}
use Rattle.desk_file.proofs.uses.judge.Goals as goal

pub returns-in-Free-clause-ok : goal.returns-in-Free-clause-ok
returns-in-Free-clause-ok g c log db = inl (rw c.in-Free.is at (c.in-Ok.ensures.ok log db))

pub returns-in-InUse-clause-ok : goal.returns-in-InUse-clause-ok
returns-in-InUse-clause-ok g c log db = inr (inl (rw c.in-InUse.is at (c.in-Ok.ensures.ok log db)))

pub returns-in-Emptied-clause-ok : goal.returns-in-Emptied-clause-ok
returns-in-Emptied-clause-ok g c log db =
    inr (inr (rw c.in-Emptied.is at (c.in-Ok.ensures.ok log db)))

pub returns-in-LogLost-clause-damaged : goal.returns-in-LogLost-clause-damaged
returns-in-LogLost-clause-damaged g c is log db =
    inl (rw c.in-LogLost.is at (c.in-Ok.ensures.ok log db))

pub returns-in-StrangeLog-clause-damaged : goal.returns-in-StrangeLog-clause-damaged
returns-in-StrangeLog-clause-damaged g c is log db =
    inr (rw c.in-StrangeLog.is at (c.in-Ok.ensures.ok log db))
