use Rattle.std.proofs.Common.{◌≡◌, ◌≤◌, ◌-◌, None, slice_get, take, drop, ap, sym, ◌∙◌, arith}
use Rattle.learner.{specs.Learning.told, proofs.Told.told_step, proofs.Told.told_end}
use Rattle.learner.proofs.learning.tell.Goals.{in-Some+in_ok-entry+in_ok-push, in_default}
use Rattle.learner.proofs.learning.tell.Goals as goal

pub loop-pos-preserved : goal.loop-pos-preserved
loop-pos-preserved c =
    let le : c.args.first ≤ c.loop-pos.pos = omega arith in
    elim c.match-entry.branch [
      | in-Some+in_ok-entry+in_ok-push w ↦
          let s = told_step c.args.from c.args.to c.args.first c.loop-pos.pos c.args.log.now.entries
          _ le (sym w.in-Some.ensures) in
          cc (
            s,
            w.in_ok-push.ensures.items,
            w.in_ok-entry.ensures,
            c.loop-pos.invariant,
            w.messages-is,
          )
      | in_default w ↦
          let none : slice_get c.args.log.now.entries c.loop-pos.pos ≡ None =
          cc w.in_default.ensures in
          let s = told_end c.args.from c.args.to c.args.first c.loop-pos.pos
          c.args.log.now.entries le none in
          cc (s, c.loop-pos.invariant, w.messages-is)
    ]

pub returns : goal.returns
returns c =
    let all : c.loop-pos.pos - c.args.first ≡ 16 = omega arith in
    let rest = drop c.args.first c.args.log.now.entries in
    c.from_vec.ensures ∙ c.loop-pos.invariant
    ∙ ap (λ m. told c.args.from c.args.to c.args.first (take m rest)) all
