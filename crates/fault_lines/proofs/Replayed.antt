-- How a replay ended, by its status.
use Rattle.std.proofs.Common.{◌≡◌, ℕ, List, inl, inr, OnOk, IfErr, Option, Result, Ok, Err, Bool}
use Rattle.std.proofs.{Common.true, Common.false, KnownBytes.Appends-kept}
use Rattle.std.specs.Io.KnownBytes.{Keeps}
use Rattle.fault_lines.specs.Statuses.{EndsBy, EndsTask, status_of_replay}
use Rattle.lines.specs.Bytes.{HasLeft, Sides}
use Rattle.replay.specs.Apart.{ReplaysAllApart, ReplaysPartApart, Told}
use Rattle.replay.specs.Replay.{ReplaysAll, ReplaysPart, run_of}
use Rattle.replay.specs.declared.fault.ReplayFault.{ReplayFault}
use Rattle.replay_arguments.specs.declared.replay.ReplayTask.{ReplayTask}

-- what is said where the sheet alone was asked for, or not, is said of the task
asked_so : (task : ReplayTask) (alone : Bool) (status : ℕ) (s : Sides) (t : Told)
    → task.only_sheet ≡ alone → ((input : List ℕ) × HasLeft s.had input
    × EndsBy alone status (run_of task.style task.event task.round input s) t)
    → EndsTask task status s t
asked_so task alone status s t is ends = rw is ends

pub ends_whole : {T : Type 0} (ran : Result T ReplayFault) (task : ReplayTask) (status : ℕ)
    (s : Sides) (t : Told) → task.only_sheet ≡ false
    → OnOk ran (ReplaysAll task.style task.event task.round s)
    → IfErr ran (ReplaysPart task.style task.event task.round s)
    → OnOk ran (status ≡ 0) → IfErr ran (λ e. status ≡ status_of_replay e)
    → (status ≡ 0 → Keeps t.before t.now) → EndsTask task status s t
ends_whole (Ok done) task status s t is all part zero told quiet =
    asked_so task false status s t is (all.0, all.1, (inl (zero, all.2), quiet))
ends_whole (Err e) task status s t is all part zero told quiet =
    asked_so task false status s t is (part.0, part.1, (inr (e, told, part.2), quiet))

-- after the replay the fault stream had this, and then the line of the fault was told
pub ends_apart : {T : Type 0} (ran : Result T ReplayFault) (task : ReplayTask) (status : ℕ)
    (s : Sides) (old mid new : Option (List ℕ)) → task.only_sheet ≡ true
    → OnOk ran (ReplaysAllApart task.style task.event task.round s
    (record { before = old; now = mid })) → IfErr ran
    (ReplaysPartApart task.style task.event task.round s (record { before = old; now = mid }))
    → OnOk ran (status ≡ 0) → IfErr ran (λ e. status ≡ status_of_replay e)
    → (status ≡ 0 → Keeps mid new) → EndsTask task status s (record { before = old; now = new })
ends_apart (Ok done) task status s old mid new is all part zero told quiet =
    asked_so task true status s (record { before = old; now = new }) is (
      all.0,
      all.1,
      inl (
        zero,
        record {
          end = all.2.end;
          within = all.2.within;
          round_there = all.2.round_there;
          told = Appends-kept old mid new _ all.2.told (quiet zero);
          written = all.2.written;
        },
      ),
    )
ends_apart (Err e) task status s old mid new is all part zero told quiet =
    asked_so task true status s (record { before = old; now = new }) is
    (part.0, part.1, inr (e, told, mid, part.2))
