use Rattle.std.proofs.Common.{refl}
use Rattle.seal.proofs.Feeding.{takes_waits, takes_one}
use Rattle.seal.proofs.opener.Opener.take.Goals as goal

pub returns-in-Waits-clause-taken : goal.returns-in-Waits-clause-taken
returns-in-Waits-clause-taken c =
    let none = rw (← c.self.view_is) at c.requires.unbroken in
    rw (← c.self.view_is)
    (takes_waits _ _ _ _ _ _ c.hold-added.ensures.held refl refl none
    (rw c.deref.ensures.value at c.in-Waits.ensures) refl)

pub returns-in-Fits-clause-taken : goal.returns-in-Fits-clause-taken
returns-in-Fits-clause-taken c =
    let none = rw (← c.self.view_is) at c.requires.unbroken in
    rw (← c.self.view_is)
    (takes_one _ _ _ _ _ _ _ c.hold-added.ensures.held
    (rw c.deref.ensures.value at c.in-Fits.ensures)
    (rw c.deref-in-Fits.ensures.value at c.hand_on.ensures.handed) refl refl none
    c.clear.ensures.items)
