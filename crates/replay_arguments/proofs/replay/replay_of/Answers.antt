use Rattle.replay_arguments.proofs.replay.replay_of.Goals as goal

pub returns : goal.returns
returns c = (
  record { named = c.in_ok-event.ensures; numbered = c.in_ok-round.ensures },
  c.style_at-style.ensures,
  c.flag_at-only_sheet.ensures,
)
