use Rattle.std.proofs.Common.{◌≡◌, ℕ, ◌<◌, ◌∷◌, [], ◌++◌, length, get_or, drop, ap, ◌∙◌, arith}
use Rattle.std.proofs.lemmas.{List.take_rest, Result.IfOk-weaker}
use Rattle.wire.proofs.Keeping.{read_from_one, bytes_append}
use Rattle.wire.proofs.reader.read.Goals as goal

pub returns-in_ok-push-in-Ok-Some-clause-read : goal.returns-in_ok-push-in-Ok-Some-clause-read
returns-in_ok-push-in-Ok-Some-clause-read c =
    let fits : (i : ℕ) → i < length c.args.held.now.items → get_or c.args.held.now.items i 0 < 256 =
    λ i lt. omega (arith, lt) in
    let begins = rw c.in-Ok-Some.field-0-is at c.in-Ok-Some.ensures.finished in
    let pushed : c.push.new.self.items ≡ c.in-Ok-Some.frame ∷ [] =
    c.in_ok-push-in-Ok-Some.ensures.items ∙ ap (λ fs. fs ++ c.in-Ok-Some.frame ∷ [])
    c.new-frames.ensures.items in
    IfOk-weaker c.read_on-in-Ok-Some.result _ _ (λ r on.
    let from_one = rw (take_rest, pushed) at on in
    read_from_one (c.args.held.now.items ++ c.args.piece.now)
    (drop c.in-Ok-Some.size c.args.piece.now) c.in-Ok-Some.frame r.frames.items _
    (bytes_append c.args.held.now.items c.args.piece.now fits
    (λ i. omega (arith, c.type_inv.piece i))) begins.0 from_one) c.read_on-in-Ok-Some.ensures.read
