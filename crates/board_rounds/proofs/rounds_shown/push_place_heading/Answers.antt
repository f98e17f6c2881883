use Rattle.std.proofs.Common.{append_assoc}
use Rattle.board_rounds.specs.Rounds.{place_heading}
use Rattle.board_rounds.proofs.rounds_shown.push_place_heading.Goals as goal

pub returns : goal.returns
unfolding place_heading
returns c =
    simp (
      c.in_ok-extend_from_slice.ensures.items,
      c.in_ok-push_said.ensures,
      c.in_ok-extend_from_slice-2.ensures.items,
      append_assoc,
    )
