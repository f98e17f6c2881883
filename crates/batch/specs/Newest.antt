-- The newest sheet of a round: a desk is asked how it is, and then for the sheet at the length that
-- it says its log has (the project's own).
use Rattle.std.specs.Prelude.{◌≡◌, ◌⊎◌, ◌∷◌, [], ℕ, List, Option, None, Some, Ok, Err}
use Rattle.client.specs.{Standings.status_request, Versions.sheet_version}
use Rattle.wire.specs.declared.frame.{Frame.Frame, FrameBody.FrameBody}
use Rattle.wire.specs.declared.standing.DeskStatus.{DeskStatus}
use Rattle.batch.specs.{Asking.IsAnswer, declared.newest_asked.RoundSheet.RoundSheet}
use Rattle.batch.specs.Dialing.{Asked, asked_so}
use Rattle.batch.specs.declared.{asking.Receiver.Receiver, fault.BatchFault.BatchFault}
use Rattle.wire.specs.declared.frame.FrameBody.TheVariants as what

-- the request for how the desk is
abbrev pub standing_asked : Receiver → Frame
standing_asked r = status_request r.hall r.desk

-- the request for the sheet at a position, in the first version that has it
abbrev pub sheet_at : Receiver → RoundSheet → (position : ℕ) → Frame
sheet_at r s position =
    record {
      version = sheet_version s.event;
      hall = r.hall;
      from = 0;
      to = r.desk;
      what = what.Sheet s.event s.round position s.style;
    }

-- how a desk is, where an answer says it
abbrev pub standing_said : FrameBody → Option DeskStatus
standing_said (what.Standing standing) = Some standing
standing_said _ = None

-- the desk said that it is so
abbrev pub said : Receiver → DeskStatus → Asked
said r standing = asked_so (standing_asked r) (Ok (what.Standing standing))

-- The desk was asked how it is, and then for the sheet at the length that it said. This is its
-- answer to that.
pub record GivesNewest (r : Receiver) (s : RoundSheet) (answer : FrameBody) (asked : List Asked)
    : Type 0 where
  pub standing : DeskStatus
  pub stands : IsAnswer (standing_asked r) (what.Standing standing)
  pub answers : IsAnswer (sheet_at r s standing.length) answer
  pub both : asked ≡ said r standing ∷ asked_so (sheet_at r s standing.length) (Ok answer) ∷ []

-- the first request failed, and the second one was not made
abbrev pub FailsFirst : BatchFault → Receiver → List Asked → Type 0
FailsFirst f r asked = asked ≡ asked_so (standing_asked r) (Err f) ∷ []

-- the first one was answered, and the second one failed
pub record FailsSecond (f : BatchFault) (r : Receiver) (s : RoundSheet) (asked : List Asked)
    : Type 0 where
  pub standing : DeskStatus
  pub stands : IsAnswer (standing_asked r) (what.Standing standing)
  pub both : asked ≡ said r standing ∷ asked_so (sheet_at r s standing.length) (Err f) ∷ []

abbrev pub FailsNewest : BatchFault → Receiver → RoundSheet → List Asked → Type 0
FailsNewest f r s asked = FailsFirst f r asked ⊎ FailsSecond f r s asked
