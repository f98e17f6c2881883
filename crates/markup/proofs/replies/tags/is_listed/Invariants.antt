use Rattle.std.proofs.Common.{◌≡◌, drop, false}
use Rattle.markup.specs.replies.Tags.{is_listed}
use Rattle.markup.proofs.replies.tags.is_listed.Given as goal

abbrev pub invariant-loop-i : goal.invariant-loop-i
invariant-loop-i l = is_listed l.quoted (drop l.i l.value) l.tag ≡ is_listed false l.value l.tag
