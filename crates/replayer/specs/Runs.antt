-- What an exit status says of the run (the project's own).
use Rattle.std.specs.Prelude.{◌⊎◌, ℕ, List}
use Rattle.std.specs.Io.KnownBytes.{Keeps}
use Rattle.clap.specs.Words.{Text}
use Rattle.fault_lines.specs.Statuses.{EndsTask, RunsNothing}
use Rattle.lines.specs.Bytes.{Sides}
use Rattle.replay.specs.Apart.{Told}
use Rattle.replay_arguments.specs.{Asking.Asks, declared.replay.ReplayTask.ReplayTask}

-- what a status says of the arguments, and of what was read, written and told
abbrev pub Ran : List Text → ℕ → Sides → Told → Type 0
Ran given status s told =
    ((t : ReplayTask) × Asks given t × EndsTask t status s told)
    ⊎ (Keeps s.had s.left × RunsNothing status s.old s.new)
