-- What the program's loop does between the answers (the project's own).
use Rattle.std.specs.Prelude.{◌≡◌, ℕ, take, Some, Bool, true, false}
use Rattle.desk_sockets.specs.Asking.{AsksNow}
use Rattle.desk_talks.specs.Dialogues.{Reaches}
use Rattle.desk_talks.specs.declared.kept_connection.ConnectionStage.{ConnectionStage}
use Rattle.desk_talks.specs.declared.kept_connection.ConnectionStage.TheVariants as stage
use Rattle.log_follower.specs.declared.stages.AnswerWorth.{AnswerWorth}
use Rattle.log_follower.specs.declared.stages.AnswerWorth.TheVariants as worth
use Rattle.kept_mirror.specs.Mirrorings.{DialogueLeads as MirrorLeads, MirroringOf, awaiting}
use Rattle.kept_mirror.specs.Mirrorings.{hurried}
use Rattle.outbox.specs.Outboxes.{DialogueLeads, aimed, looked}
use Rattle.table_views.specs.declared.desks.HallStatus.{HallStatus}
use Rattle.table_service.specs.Services.{IsKeptBut, IsSentBut, ServiceOf}

-- a call of a service: the mirror is kept up over a connection, or asks at once; this many entries
-- of its log are looked through; a desk is aimed at; what is under way continues over a connection;
-- or it is said how the desks are doing
pub data Step : Type 0 where
  Mirrors : Step
  Hurries : Step
  Awaits : (id : ℕ) → Step
  Looks : (count : ℕ) → Step
  Aims : (desk : ℕ) → Step
  Submits : (now : ℕ) → Step
  Tells : HallStatus → Step

-- what each call's contract says: the outbox is asked what is to be done at this time, and what it
-- hands out goes over the connection
abbrev pub StepLeads : Step → ServiceOf → ServiceOf → Type 0
StepLeads Mirrors old new =
    IsKeptBut old new × Reaches MirrorLeads old.mirroring new.mirroring
StepLeads Hurries old new = new ≡ record old { mirroring = hurried old.mirroring }
StepLeads (Awaits id) old new = new ≡ record old { mirroring = awaiting old.mirroring id }
StepLeads (Looks count) old new =
    new ≡ record old { outbox = looked old.outbox (take count old.mirroring.entries) }
StepLeads (Aims desk) old new = new ≡ record old { outbox = aimed old.outbox desk }
StepLeads (Submits now) old new =
    IsSentBut old new × AsksNow DialogueLeads now old.outbox new.outbox
StepLeads (Tells desks) old new = new ≡ record old { desks = desks }

-- a service is kept up by such calls alone: nothing is taken, and nothing is put into the journal
abbrev pub IsKeptUp : ServiceOf → ServiceOf → Type 0
IsKeptUp old new = Reaches StepLeads old new

-- over a connection that is open a desk has answered with something of use, and left nothing of
-- its log: the next question waits
abbrev pub has_all_by : AnswerWorth → ConnectionStage → Bool
has_all_by worth.Useful (stage.Answered (Some last)) = true
has_all_by _ _ = false

-- the mirror has all that was in the log of the desk that answered last
abbrev pub has_all : MirroringOf → Bool
has_all m = has_all_by m.follower.worth m.line.stage

-- in between, what is under way continues over its connection: what the outbox hands out at this
-- time is given to the submission
abbrev pub HandsOut : (now : ℕ) → ServiceOf → ServiceOf → Type 0
HandsOut now old new =
    (before : ServiceOf) × (after : ServiceOf) × IsKeptUp old before
    × StepLeads (Submits now) before after × IsKeptUp after new
