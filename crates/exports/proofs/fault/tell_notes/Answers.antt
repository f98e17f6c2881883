use Rattle.std.proofs.KnownBytes.{Keeps-refl}
use Rattle.exports.proofs.fault.tell_notes.Goals as goal

pub returns-then-is_empty-clause-quiet : goal.returns-then-is_empty-clause-quiet
returns-then-is_empty-clause-quiet g c = λ zero. Keeps-refl _
