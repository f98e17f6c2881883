use Rattle.std.proofs.Common.{◌∙◌, ◌++◌, ap₂}
use Rattle.lines.specs.command_file.Commands.{command_in, text_of}
use Rattle.lines.proofs.command_file.Commands.{few, gives_true, one_more}
use Rattle.lines.proofs.command_file.reading.read_commands.Goals as goal

pub loop-commands-preserved : goal.loop-commands-preserved
loop-commands-preserved g c =
    let i = c.loop-commands.invariant in
    let line = gives_true c.in_ok-read_line.field-0 c.read_line.new.self c.read_line.new.line.items
    i.0 (g.R.Read.remaining c.args.reader.now) (g.R.Read.remaining c.read_line.new.reader)
    c.if-branch.true (c.in_ok-read_line.ensures i.0 _ i.1) in (
      i.0 ++ line.more,
      line.read,
      one_more c.read_line.new.self c.read_line.new.line.items i.0
          (g.R.Read.remaining c.args.reader.now) (g.R.Read.remaining c.read_line.new.reader)
          c.loop-commands.commands.items c.push_command.new.commands.items line i.2
          (c.in_ok-push_command.ensures
          ∙ ap₂ (λ n text. c.loop-commands.commands.items ++ command_in n (text_of n text))
          c.count-number.ensures c.deref.ensures.value),
    )

pub returns-clause-few : goal.returns-clause-few
returns-clause-few g c =
    let i = c.loop-commands.invariant in
    few i.0 c.loop-commands.commands.items i.1.within i.2
