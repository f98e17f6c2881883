use Rattle.std.proofs.Common.{inr}
use Rattle.subcommands.proofs.entering.enter_words_at.Goals as goal

pub returns : goal.returns
returns g c =
    inr (inr (
      rw (c.as_bytes.ensures.value, c.in-Ok.ensures.ok) at c.in-Ok-fit.ensures.ok,
      g.F.Write.contents c.fit.new.faults,
      rw (c.as_str-text.ensures.value, c.in-Ok.ensures.ok) at c.enter_at.ensures,
    ))
