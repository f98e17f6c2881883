use Rattle.std.proofs.Common.{◌≡◌, ◌++◌, map, take}
use Rattle.lines.specs.command_file.Faults.{shown_byte}
use Rattle.lines.proofs.command_file.wording.push_bytes.Given as goal

-- the bytes so far are added as they are shown
abbrev pub invariant-loop-byte : goal.invariant-loop-byte
invariant-loop-byte l =
    l.out.items ≡ l.initial.out.items ++ map shown_byte (take l.byte-index l.bytes)
