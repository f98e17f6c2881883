use Rattle.std.proofs.Common.{◌≡◌, drop, take}
use Rattle.texts.{specs.Fields.cut_remark, proofs.Remarks.with_front}
use Rattle.texts.proofs.fields.cut_remark.Given as goal

-- no ` # ` begins before the place
abbrev pub invariant-loop-place : goal.invariant-loop-place
invariant-loop-place l =
    cut_remark l.bytes ≡ with_front (take l.place l.bytes) (cut_remark (drop l.place l.bytes))
