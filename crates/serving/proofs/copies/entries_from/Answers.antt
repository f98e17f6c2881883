use Rattle.std.proofs.Common.{◌≡◌, Some, None, slice_get, sym, ap, ◌∙◌, ◌-◌, take, drop, arith}
use Rattle.std.proofs.Common.{[], ◌∷◌, ◌++◌}
use Rattle.serving.proofs.Prefixes.{copies_next, copies_end}
use Rattle.serving.proofs.copies.entries_from.Goals as goal
use Rattle.serving.proofs.copies.entries_from.Goals.{in-Some+in_ok-copy_in+in_ok-push, in_default}

pub loop-pos-preserved : goal.loop-pos-preserved
loop-pos-preserved c =
    let log = c.args.log.now.entries in
    let p = c.args.position in
    let k = c.loop-pos.pos in
    elim c.match-entry.branch [
      | in-Some+in_ok-copy_in+in_ok-push w ↦
          let there : slice_get log k ≡ Some w.in-Some.entry.now = sym w.in-Some.ensures in
          let next = copies_next log p k w.in-Some.entry.now c.loop-pos.auto.pos there in
          rw w.entries-is
          (w.in_ok-push.ensures.pushed ∙ ap (λ es. es ++ w.in_ok-copy_in.field-0 ∷ [])
          c.loop-pos.invariant
          ∙ ap (λ e. take (k - p) (drop p log) ++ e ∷ []) w.in_ok-copy_in.ensures ∙ sym next)
      | in_default w ↦
          let none : slice_get log k ≡ None = cc w.in_default.ensures in
          rw w.entries-is
          (c.loop-pos.invariant ∙ sym (copies_end log p k c.loop-pos.auto.pos none))
    ]

pub returns : goal.returns
returns c =
    let all : c.loop-pos.pos - c.args.position ≡ 400 =
    omega (arith, c.loop-pos-test.false, c.loop-pos.auto.pos, c.loop-pos.auto.pos-end) in
    c.loop-pos.invariant ∙ ap (λ j. take j (drop c.args.position c.args.log.now.entries)) all
