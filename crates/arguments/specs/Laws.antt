-- The law of the two programs that have the subcommand `replay` (the project's own).
use Rattle.std.specs.Prelude.{◌∷◌, List, codes}
use Rattle.clap.specs.Words.{Text}
use Rattle.arguments.specs.Asking.{Asks}
use Rattle.replay_arguments.specs.{Asking.Asks as AsksReplay, declared.replay.ReplayTask.ReplayTask}
use Rattle.arguments.specs.declared.task.Task.TheVariants as task

-- arguments, of which the first is the program's own name and the second is `replay`, ask for a
-- sheet where they ask the program that has no other subcommand for it, and only there
abbrev pub ReplayIsAskedAlike : Type 0
ReplayIsAskedAlike =
    (own : Text) → (rest : List Text) → (t : ReplayTask)
    → (AsksReplay (own ∷ codes "replay" ∷ rest) t
    → Asks (own ∷ codes "replay" ∷ rest) (task.Replay t))
    × (Asks (own ∷ codes "replay" ∷ rest) (task.Replay t)
    → AsksReplay (own ∷ codes "replay" ∷ rest) t)
