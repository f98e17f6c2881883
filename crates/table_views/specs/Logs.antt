-- What a log comes to (the project's own).
use Rattle.std.specs.Prelude.{List}
use Rattle.acceptor.specs.declared.entry.Entry.{Entry}
use Rattle.answers.specs.Answers.{texts}
use Rattle.commands.specs.History.{history}
use Rattle.texts.specs.declared.command.Command.{Command}

-- the accepted commands of a log
abbrev pub accepted_in : List Entry → List Command
accepted_in log = (history (texts log)).accepted
