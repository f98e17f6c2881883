use Rattle.std.proofs.Common.{sym, arith, rules}
use Rattle.store.proofs.Copies.{one_more, all_copied, there}
use Rattle.store.proofs.copying.copy_log.Goals.{else-loop-pos-test, then-loop-pos-test+in_default}
use Rattle.store.proofs.copying.copy_log.Goals as goal

pub loop-pos-preserved : goal.loop-pos-preserved
loop-pos-preserved c =
    let at = sym (rw c.in-Some.is at c.entry.ensures) in
    rw (c.append.ensures, c.in-Ok.ensures.ok, c.in_ok-entry.ensures)
    (one_more c.loop-pos.copy.entries c.args.log.now.entries c.loop-pos.pos c.in-Some.entry.now
    c.loop-pos.invariant at)

pub returns-clause-copy : goal.returns-clause-copy
returns-clause-copy c = elim c.loop-pos-test.branch [
  | else-loop-pos-test w ↦ all_copied c.loop-pos.copy.entries c.args.log.now.entries c.loop-pos.pos
      c.loop-pos.invariant (omega (arith, w.loop-pos-test, c.len-len.ensures.len))
  | then-loop-pos-test+in_default w ↦ absurd
      (there c.args.log.now.entries c.loop-pos.pos
      (omega (arith, w.loop-pos-test, c.len-len.ensures.len)) (search rules))
]
