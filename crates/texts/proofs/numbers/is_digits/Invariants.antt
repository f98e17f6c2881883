use Rattle.std.proofs.Common.{◌≡◌, drop}
use Rattle.std.specs.{Char.is_ascii_digit, List.list_all}
use Rattle.texts.proofs.numbers.is_digits.Given as goal

-- all bytes so far are digits
abbrev pub invariant-loop-byte : goal.invariant-loop-byte
invariant-loop-byte l =
    list_all is_ascii_digit (drop l.byte-index l.bytes) ≡ list_all is_ascii_digit l.bytes
