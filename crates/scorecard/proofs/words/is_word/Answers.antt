use Rattle.std.proofs.{Common.sym, Common.arith, lemmas.Bool.Decides.nat_tests}
use Rattle.scorecard.proofs.Letters.{word-differs, word-same}
use Rattle.scorecard.proofs.words.is_word.Goals as goal

pub returns-then-to_ascii_lowercase-word : goal.returns-then-to_ascii_lowercase-word
returns-then-to_ascii_lowercase-word c =
    sym (word-differs c.args.bytes.now c.args.word.now c.loop-place.place (omega arith)
    (λ same. grind (arith, nat_tests)))

pub returns : goal.returns
returns c =
    sym (word-same c.args.bytes.now c.args.word.now (omega arith)
    (λ k within. c.loop-place.invariant k (omega arith)))
