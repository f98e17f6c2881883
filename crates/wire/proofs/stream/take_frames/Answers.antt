use Rattle.std.proofs.Common.{◌≡◌, ◌∷◌, [], ◌++◌, sym, ap, subst, ◌∙◌, append_assoc, arith}
use Rattle.std.proofs.lemmas.List.{take_rest}
use Rattle.wire.specs.Stream.{Front, IsBegun}
use Rattle.wire.proofs.{Feeding.first_more, Feeding.first_begun, Keeping.on_err}
use Rattle.wire.proofs.stream.take_frames.Goals as goal

pub loop-frame-preserved : goal.loop-frame-preserved
loop-frame-preserved c =
    let begun = rw (c.in-Ok-Some.field-0-is, take_rest) at c.in-Ok-Some.ensures in
    let inv = c.loop-frame.invariant in
    let more = first_more c.args.bytes.now inv.0 c.loop-frame.size c.in-Ok-Some.frame
    c.in-Ok-Some.more (λ i. omega (arith, c.type_inv.bytes i)) inv.2 begun.0 begun.2 in
    let added : c.push.new.self.items ≡ c.args.before.items ++ (inv.0 ++ c.in-Ok-Some.frame ∷ []) =
    c.in_ok-push-in-Ok-Some.ensures.items ∙ ap (λ fs. fs ++ c.in-Ok-Some.frame ∷ []) inv.1
    ∙ append_assoc c.args.before.items inv.0 (c.in-Ok-Some.frame ∷ []) in
    (inv.0 ++ c.in-Ok-Some.frame ∷ [], added, more)

pub returns-in_err-push-in-Ok-Some-clause-refused :
    goal.returns-in_err-push-in-Ok-Some-clause-refused
returns-in_err-push-in-Ok-Some-clause-refused c =
    let begun = rw (c.in-Ok-Some.field-0-is, take_rest) at c.in-Ok-Some.ensures in
    let inv = c.loop-frame.invariant in
    on_err c.from_residual.result (first_begun c.args.bytes.now inv.0 c.loop-frame.size inv.2
    (subst (λ (x : Front). IsBegun x) (sym begun.0) tt))

pub returns-in-Err-NoMemory-clause-refused : goal.returns-in-Err-NoMemory-clause-refused
returns-in-Err-NoMemory-clause-refused c =
    let begun = rw (c.in-Err-NoMemory.field-0-is, take_rest) at c.in-Err-NoMemory.ensures in
    let inv = c.loop-frame.invariant in
    first_begun c.args.bytes.now inv.0 c.loop-frame.size inv.2 begun
