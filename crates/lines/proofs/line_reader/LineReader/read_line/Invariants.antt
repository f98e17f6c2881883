use Rattle.std.proofs.Common.{◌≡◌, List, ℕ, Option, length, false, ◌-◌, ◌<◌}
use Rattle.lines.{specs.Reading.HasGiven, proofs.Given.Midway}
use Rattle.lines.proofs.line_reader.LineReader.read_line.Given as goal

-- the bytes after the lines that were given are those of the line so far
abbrev pub invariant-loop-self : goal.invariant-loop-self
invariant-loop-self g l = record {
  midway : (given : List ℕ) (start : Option (List ℕ))
      → HasGiven l.initial.self given start (g.R.Read.remaining l.initial.reader)
      → Midway l.self l.line.items given start (g.R.Read.remaining l.reader);
  going : l.self.over ≡ false;
  few : 0 < length l.line.items → l.self.lines < 65536;
}

abbrev pub decreases-loop-self : goal.decreases-loop-self
decreases-loop-self g l = 39387137 - l.self.bytes
