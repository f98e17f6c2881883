use Rattle.std.proofs.Common.{ap, ◌∙◌, arith}
use Rattle.wire.{specs.Stream.front, proofs.Keeping.nothing_waits}
use Rattle.wire.proofs.reader.FrameReader.new.Goals as goal

pub invariant_of-result : goal.invariant_of-result
invariant_of-result c = (
  omega (arith, c.in_ok-with_capacity.ensures.exact),
  ap front
      c.in_ok-with_capacity.ensures.items ∙ nothing_waits,
  tt,
  λ some. absurd cc,
)
