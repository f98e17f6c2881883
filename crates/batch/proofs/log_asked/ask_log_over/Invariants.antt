use Rattle.std.proofs.Common.{◌≤◌, ◌-◌, length}
use Rattle.batch.specs.Dialing.{Asks, place_of}
use Rattle.batch.{specs.model.Keeping.standing, proofs.Parts.IsGoing}
use Rattle.batch.proofs.log_asked.ask_log_over.Given as goal

-- what has come is a front part of a log of the length that was told last
abbrev pub invariant-loop-told : goal.invariant-loop-told
invariant-loop-told g l =
    (length l.log.entries ≤ l.told) × (l.told ≤ 65536)
    × Asks (place_of l.contact) (standing g.D.Dial.dialed l.fn.dial l.fn.made)
    (standing g.D.Dial.dialed l.dial l.made) (IsGoing l.receiver l.log.entries l.told)

abbrev pub decreases-loop-told : goal.decreases-loop-told
decreases-loop-told g l = 65536 - length l.log.entries
