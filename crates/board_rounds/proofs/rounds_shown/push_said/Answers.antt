use Rattle.std.proofs.Common.{append_assoc}
use Rattle.board_rounds.specs.Rounds.{said}
use Rattle.board_rounds.proofs.rounds_shown.push_said.Goals as goal

pub returns : goal.returns
unfolding said
returns c =
    simp (
      c.in_ok-push_round_words.ensures,
      c.in_ok-extend_from_slice.ensures.items,
      c.in_ok-push_settings.ensures,
      c.in_ok-extend_from_slice-2.ensures.items,
      c.in_ok-push_state_words.ensures,
      append_assoc,
    )
