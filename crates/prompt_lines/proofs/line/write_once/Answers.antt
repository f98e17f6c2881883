use Rattle.std.proofs.{Common.take, Common.drop, Common.sym, lemmas.List.take-append-drop}
use Rattle.prompt_lines.proofs.line.write_once.Goals as goal

pub returns-in-Ok-clause-part : goal.returns-in-Ok-clause-part
returns-in-Ok-clause-part g c part = (
  take c.in-Ok.count c.args.text.now,
  drop c.in-Ok.count c.args.text.now,
  record {
    parts = sym (take-append-drop c.in-Ok.count c.args.text.now);
    written = c.in-Ok.ensures.bytes;
  },
)
