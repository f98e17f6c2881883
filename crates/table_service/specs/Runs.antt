-- What holds of all that is asked and done, one after the other, over as many starts (the project's
-- own).
use Rattle.std.specs.Prelude.{◌≡◌, ℕ, ◌++◌, List, Option, None, Some, take}
use Rattle.std.specs.List.{AllByRecursion}
use Rattle.http.specs.declared.request.Request.{Request}
use Rattle.http_server.specs.declared.response.Response.{Response}
use Rattle.desk_talks.specs.Dialogues.{CallsLead}
use Rattle.outbox.specs.Histories.{History, Leads, world}
use Rattle.outbox.specs.{Laws.IsFixed, Lines.HallOf}
use Rattle.table_service.specs.Disks.{DiskOf, IsSynced, lines_in}
use Rattle.table_service.specs.{Laws.IsSentIn, Laws.IsTaken, Openings.IsOver, Steps.IsKeptUp}
use Rattle.table_service.specs.Services.{Answers, IsKept, ServiceOf}

-- a request is answered; the loop keeps a service up with the desks; ids, the time or the clock are
-- given to it; or the program, or its machine, ends, and is started again
pub data Turn : Type 0 where
  Asked : Request (List ℕ) → Response → Turn
  KeptUp : Turn
  Told : Turn
  Restarted : (more : List ℕ) → (desk now : ℕ) → Turn

-- a crash leaves of a file what was synced; of what is there after that nothing is known
abbrev pub StartsOver : HallOf → List ℕ → (desk now : ℕ) → Option DiskOf → ServiceOf → Type 0
StartsOver hall more desk now None new = ⊥
StartsOver hall more desk now (Some d) new =
    IsOver hall desk now (take d.synced d.bytes ++ more) new.outbox new.file

abbrev pub TurnLeads : HallOf → Turn → ServiceOf → ServiceOf → Type 0
TurnLeads hall (Asked request response) old new = Answers old request response new
TurnLeads hall KeptUp old new = IsKeptUp old new
TurnLeads hall Told old new = (new.outbox ≡ old.outbox) × (new.file ≡ old.file)
TurnLeads hall (Restarted more desk now) old new =
    StartsOver hall more desk now old.file.disk new

-- turns, one after the other
abbrev pub TurnsLead : HallOf → ServiceOf → List Turn → ServiceOf → Type 0
TurnsLead hall old turns new = CallsLead (TurnLeads hall) old turns new

-- all turns since the journal of a hall was read first lead to a service
pub record IsReached (hall : HallOf) (s : ServiceOf) : Type 0 where
  pub desk : ℕ
  pub now : ℕ
  pub bytes : List ℕ
  pub first : ServiceOf
  pub begun : IsOver hall desk now bytes first.outbox first.file
  pub turns : List Turn
  pub lead : TurnsLead hall first turns s

-- ---- what is submitted

-- its items and the lines of its journal come from calls of an outbox; so what is to be written to
-- a desk is nothing but the end of a Submit of an entry whose line is in the journal
pub record IsOfTheOutbox (hall : HallOf) (s : ServiceOf) : Type 0 where
  pub history : History
  pub lines : List ℕ
  pub there : lines_in s.file ≡ Some lines
  pub synced : IsSynced s.file
  pub leads : Leads hall history (world s.outbox lines)
  pub fixed : IsFixed hall history (world s.outbox lines)

abbrev pub RunsAreOfTheOutbox : Type 0
RunsAreOfTheOutbox =
    (hall : HallOf) (s : ServiceOf) → IsReached hall s → IsOfTheOutbox hall s

-- ---- what is taken

-- each entry of a form that was answered to be taken is in the list, whatever comes after that
abbrev pub TakenStays : Type 0
TakenStays =
    (hall : HallOf) (old new last : ServiceOf) (request : Request (List ℕ)) (response : Response)
    (turns : List Turn) (taken : IsTaken old request response new) → IsReached hall old
    → Answers old request response new → IsKept new.outbox → TurnsLead hall new turns last
    → AllByRecursion (IsSentIn last.outbox.list) taken.entries
