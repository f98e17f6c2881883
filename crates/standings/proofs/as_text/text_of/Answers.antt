use Rattle.std.proofs.Common.{append_assoc}
use Rattle.standings.proofs.as_text.text_of.Goals as goal

pub returns : goal.returns
returns c =
    simp (
      c.new-out.ensures.items,
      c.in_ok-push_lines.ensures,
      c.size_of.ensures,
      c.in_ok-push_order.ensures,
      c.in_ok-push_state.ensures,
      c.in_ok-extend_from_slice.ensures.items,
      append_assoc,
    )
