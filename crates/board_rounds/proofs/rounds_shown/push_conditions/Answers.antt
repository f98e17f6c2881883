use Rattle.std.proofs.Common.{append_assoc}
use Rattle.board_rounds.specs.Rounds.{conditions}
use Rattle.board_rounds.proofs.rounds_shown.push_conditions.Goals as goal

pub returns : goal.returns
unfolding conditions
returns c =
    simp (
      c.in_ok-extend_from_slice.ensures.items,
      c.in_ok-push_settings.ensures,
      c.in_ok-extend_from_slice-2.ensures.items,
      c.in_ok-push_state_words.ensures,
      c.in_ok-extend_from_slice-3.ensures.items,
      append_assoc,
    )
