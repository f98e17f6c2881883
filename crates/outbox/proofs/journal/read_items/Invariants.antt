use Rattle.std.proofs.Common.{◌≡◌, ◌+◌, ◌≤◌, length}
use Rattle.outbox.specs.{Items.no_items, Journals.after_lines, Lines.cut_line, Lines.whole_lines}
use Rattle.outbox.proofs.journal.read_items.Given as goal

abbrev pub invariant-loop-line : goal.invariant-loop-line
invariant-loop-line l = record {
  lines : after_lines l.items l.now (l.number + 1) (whole_lines l.left)
      ≡ after_lines no_items l.now 2 (whole_lines l.bytes);
  cut : cut_line l.left ≡ cut_line l.bytes;
  fits : l.number + length l.left ≤ 1 + length l.bytes;
  least : 1 ≤ l.number;
}

abbrev pub decreases-loop-line : goal.decreases-loop-line
decreases-loop-line l = length l.left
