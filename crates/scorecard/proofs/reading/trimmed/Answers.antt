use Rattle.std.proofs.{Common.refl, lemmas.Str.Ascii.trim_ascii_is}
use Rattle.scorecard.specs.Spelling.{trimmed, without_front}
use Rattle.scorecard.proofs.reading.trimmed.Goals as goal

pub returns : goal.returns
unfolding trimmed
returns c =
    trim_ascii_is c.args.bytes.now c.trim_ascii.result.now (without_front c.args.bytes.now) refl
    c.trim_ascii.ensures.value
