use Rattle.std.proofs.Common.{append_assoc}
use Rattle.board_rounds.specs.Rounds.{table_start}
use Rattle.board_rounds.proofs.rounds_shown.push_table_start.Goals as goal

pub returns : goal.returns
unfolding table_start
returns c =
    simp (
      c.in_ok-extend_from_slice.ensures.items,
      c.in_ok-push_headings.ensures,
      c.in_ok-extend_from_slice-2.ensures.items,
      append_assoc,
    )
