use Rattle.std.proofs.Common.{◌≡◌, ◌<◌, ◌^◌, take}
use Rattle.texts.specs.Numerals.{digits_value}
use Rattle.scorecard.proofs.digits.digits_value.Given as goal

abbrev pub invariant-loop-byte : goal.invariant-loop-byte
invariant-loop-byte l = record {
  value : l.value ≡ digits_value (take l.byte-index l.bytes);
  small : l.value < 10 ^ l.byte-index;
}
