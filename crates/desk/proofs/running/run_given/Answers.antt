use Rattle.std.proofs.{Common.inr, KnownBytes.Keeps-refl}
use Rattle.desk.proofs.running.run_given.Goals as goal

pub returns-in_default : goal.returns-in_default
returns-in_default g c = inr (Keeps-refl _, inr (inr (c.tell_fault.ensures, Keeps-refl _)))

pub returns : goal.returns
returns g c = rw (c.deref.ensures.value, c.in-Ok.ensures) at c.run_arguments.ensures
