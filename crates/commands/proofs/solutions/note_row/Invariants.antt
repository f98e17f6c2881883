use Rattle.std.proofs.Common.{◌≡◌, ◌<◌, ◌≤◌, ℕ, false, get_or, slice_get, unwrap_or, option_map}
use Rattle.std.specs.Option.{option_and_then}
use Rattle.commands.specs.Accepted.{is_solution}
use Rattle.commands.proofs.solutions.note_row.Given as goal

abbrev pub invariant-loop-at : goal.invariant-loop-at
invariant-loop-at l = record {
  noted : (k : ℕ) → k < l.at → get_or l.row k false
      ≡ unwrap_or (option_and_then (option_map is_solution) (slice_get l.now k))
      (get_or l.fn.row k false);
  others : (k : ℕ) → l.at ≤ k → get_or l.row k false ≡ get_or l.fn.row k false;
}
