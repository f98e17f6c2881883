-- What an exit status says of a run over lines, of a replay, and of arguments of which nothing is
-- run (the project's own).
use Rattle.std.specs.Prelude.{◌≡◌, ◌⊎◌, true, false, Bool, ℕ, List, Option}
use Rattle.std.specs.Io.KnownBytes.{Keeps, Appends}
use Rattle.lines.specs.Bytes.{AppendsPart, HasLeft, Sides}
use Rattle.lines.specs.declared.fault.RunFault.{RunFault}
use Rattle.lines.specs.declared.fault.RunFault.TheVariants as run
use Rattle.replay.specs.Apart.{FailsApart, ReplaysApart, Told}
use Rattle.replay.specs.Replay.{Run, Replays, ReplayFails, run_of}
use Rattle.replay.specs.declared.fault.ReplayFault.{ReplayFault}
use Rattle.replay.specs.declared.fault.ReplayFault.TheVariants as replay
use Rattle.replay_arguments.specs.declared.replay.ReplayTask.{ReplayTask}

-- the status of a fault of a run over lines: 3 for a named refusal, 4 for a device, 5 for memory
abbrev pub status_of_run : RunFault → ℕ
status_of_run run.Read = 4
status_of_run run.Write = 4
status_of_run run.NoMemory = 5
status_of_run _ = 3

-- the status of a fault of a replay
abbrev pub status_of_replay : ReplayFault → ℕ
status_of_replay replay.NoSuchRound = 3
status_of_replay (replay.Lines e) = status_of_run e

-- a round was replayed to its end, or to a fault
abbrev pub EndsReplay : ℕ → Run → Type 0
EndsReplay status r =
    ((status ≡ 0) × Replays r)
    ⊎ ((e : ReplayFault) × (status ≡ status_of_replay e) × ReplayFails e r)

-- the refused lines were written and the sheet alone was written; or there was a fault, and its
-- line was told after such refused lines as it left
abbrev pub EndsApart : ℕ → Run → Told → Type 0
EndsApart status r t =
    ((status ≡ 0) × ReplaysApart r t) ⊎ ((e : ReplayFault) × (status ≡ status_of_replay e)
    × (mid : Option (List ℕ)) × FailsApart e r (record { before = t.before; now = mid }))

-- the sheet alone was asked for, or not; then nothing is told but a fault
abbrev pub EndsBy : Bool → ℕ → Run → Told → Type 0
EndsBy true status r t = EndsApart status r t
EndsBy false status r t = EndsReplay status r × (status ≡ 0 → Keeps t.before t.now)

-- how a replay ended: by a status, with what was read, written and told
abbrev pub EndsTask : ReplayTask → ℕ → Sides → Told → Type 0
EndsTask task status s t =
    (input : List ℕ) × HasLeft s.had input
    × EndsBy task.only_sheet status (run_of task.style task.event task.round input s) t

-- nothing was run: the arguments were refused or asked for help, and that text was written; or
-- writing it failed, or memory ran out
abbrev pub RunsNothing : ℕ → Option (List ℕ) → Option (List ℕ) → Type 0
RunsNothing status old new =
    ((status ≡ 2) × (text : List ℕ) × Appends old new text)
    ⊎ ((status ≡ 4) × (text : List ℕ) × AppendsPart old new text) ⊎ ((status ≡ 5) × Keeps old new)
