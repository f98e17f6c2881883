use Rattle.std.proofs.Common.{◌≡◌, ◌++◌, ◌∷◌, [], true, false, get_or, take, sym, ap, ◌∙◌, arith}
use Rattle.std.proofs.{Common.drop, Common.bytes_eq, Common.refl, lemmas.List.take_rest}
use Rattle.scorecard.specs.Spelling.{mended_after, apostrophe}
use Rattle.scorecard.proofs.Apostrophes.{after_skip, after_push, mended_quote, mended_plain}
use Rattle.scorecard.proofs.solutions.mended.Goals.{then-skipped-gt0}
use Rattle.scorecard.proofs.solutions.mended.Goals.{else-skipped-gt0+then-starts_with+in_ok-push}
use Rattle.scorecard.proofs.solutions.mended.Goals.{else-skipped-gt0+else-starts_with+in_ok-push-2}
use Rattle.scorecard.proofs.solutions.mended.Goals as goal

pub loop-place-preserved : goal.loop-place-preserved
loop-place-preserved c =
    elim c.if-skipped-gt0.branch [
      | then-skipped-gt0 w ↦ record {
        done = let same : c.if-skipped-gt0.text.items ≡ c.loop-place.text.items =
            rw w.text-is refl in
            rw same
            (after_skip c.loop-place.text.items c.args.bytes.now (mended_after 0 c.args.bytes.now)
            c.loop-place.skipped c.if-skipped-gt0.skipped c.loop-place.place (omega arith)
            (omega arith) (omega arith) c.loop-place.invariant.done);
        few = omega arith;
      }
      | else-skipped-gt0+then-starts_with+in_ok-push w ↦ record {
        done =
            let two : c.if-skipped-gt0.skipped ≡ 2 = omega arith in
            let is : bytes_eq apostrophe (take 3 (drop c.loop-place.place c.args.bytes.now))
            ≡ true =
            ap (λ x. bytes_eq apostrophe (take 3 x))
            (sym (take_rest c.args.bytes.now c.loop-place.place))
            ∙ sym w.starts_with.ensures.value ∙ w.if-starts_with.true in
            let pushed : c.if-skipped-gt0.text.items ≡ c.loop-place.text.items ++ 39 ∷ [] =
            rw w.text-is w.in_ok-push.ensures.items in
            after_push c.loop-place.text.items c.if-skipped-gt0.text.items c.args.bytes.now
            (mended_after 0 c.args.bytes.now) 39 c.loop-place.skipped c.if-skipped-gt0.skipped
            c.loop-place.place (omega arith) pushed (rw two
            (mended_quote c.loop-place.place c.args.bytes.now (omega arith) is))
            c.loop-place.invariant.done;
        few = omega arith;
      }
      | else-skipped-gt0+else-starts_with+in_ok-push-2 w ↦ record {
        done =
            let none : c.if-skipped-gt0.skipped ≡ 0 = omega arith in
            let is : bytes_eq apostrophe (take 3 (drop c.loop-place.place c.args.bytes.now))
            ≡ false =
            ap (λ x. bytes_eq apostrophe (take 3 x))
            (sym (take_rest c.args.bytes.now c.loop-place.place))
            ∙ sym w.starts_with.ensures.value ∙ w.if-starts_with.false in
            let pushed : c.if-skipped-gt0.text.items ≡ c.loop-place.text.items
            ++ get_or c.args.bytes.now c.loop-place.place 0 ∷ [] =
            rw w.text-is w.in_ok-push-2.ensures.items in
            after_push c.loop-place.text.items c.if-skipped-gt0.text.items c.args.bytes.now
            (mended_after 0 c.args.bytes.now) (get_or c.args.bytes.now c.loop-place.place 0)
            c.loop-place.skipped c.if-skipped-gt0.skipped c.loop-place.place (omega arith) pushed
            (rw none (mended_plain c.loop-place.place c.args.bytes.now (omega arith) is))
            c.loop-place.invariant.done;
        few = omega arith;
      }
    ]
