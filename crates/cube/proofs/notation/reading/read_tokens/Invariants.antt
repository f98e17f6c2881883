use Rattle.std.proofs.Common.{◌≡◌, ◌≤◌, ◌-◌, length}
use Rattle.cube.{specs.notation.model.Scan.scan, proofs.notation.Joined.with_moves}
use Rattle.cube.proofs.notation.reading.read_tokens.Given as goal

-- the moves so far, and what is read of the rest, are what is read of the text
abbrev pub invariant-loop-taken : goal.invariant-loop-taken
invariant-loop-taken l = record {
  within : length l.rest ≤ length l.text;
  told : with_moves l.moves.items (scan (length l.text) (400 - l._taken) l.rest)
      ≡ scan (length l.text) 400 l.text;
}
