use Rattle.std.proofs.{Common.refl, Common.arith, lemmas.List.append-nil}
use Rattle.seal.specs.Records.{tag}
use Rattle.seal.proofs.record.tag.Goals as goal

pub returns : goal.returns
unfolding tag
returns c =
    rw (
      c.hmac_of_parts.ensures,
      c.byte.ensures,
      c.to_be_bytes-number.ensures,
      c.to_be_bytes-length.ensures,
      append-nil,
    ) refl
