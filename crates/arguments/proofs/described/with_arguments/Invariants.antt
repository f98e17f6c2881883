use Rattle.std.proofs.Common.{◌≡◌, drop}
use Rattle.std.specs.List.{fold}
use Rattle.clap.specs.Words.{app_of}
use Rattle.clap.specs.declared.builder.command.Command.TheViews.{out-Command as fields_of}
use Rattle.arguments.specs.Tables.{with_argument}
use Rattle.arguments.proofs.described.with_arguments.Given as goal

-- what is left makes of the command what all would have made of the first one
abbrev pub invariant-loop-described : goal.invariant-loop-described
invariant-loop-described l =
    (fold with_argument (app_of l.command) (drop l.described-index l.arguments)
    ≡ fold with_argument (app_of l.initial.command) l.arguments)
    × ((fields_of l.command).has_globals ≡ (fields_of l.initial.command).has_globals)
