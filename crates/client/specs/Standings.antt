-- How a client asks a desk how it is, for its log, and what becomes of a command (the project's
-- own).
use Rattle.std.specs.Prelude.{◌≡◌, ℕ, true}
use Rattle.wire.specs.{Numbers.IsFromThree, Ranges.IsFrame}
use Rattle.wire.specs.declared.frame.{Frame.Frame, FrameBody.FrameBody}
use Rattle.wire.specs.declared.values.Version.TheVariants.{Three, Five}
use Rattle.client.specs.Answers.{answers}
use Rattle.wire.specs.declared.frame.FrameBody.TheVariants as what

-- a request of a client, which is 0, to a desk of a hall, in version 3
abbrev pub request_in_three : (hall desk : ℕ) → FrameBody → Frame
request_in_three hall desk asked =
    record { version = Three; hall = hall; from = 0; to = desk; what = asked }

-- how is the desk?
abbrev pub status_request : (hall desk : ℕ) → Frame
status_request hall desk = request_in_three hall desk what.Status

-- a request of version 5
abbrev pub request_in_five : (hall desk : ℕ) → FrameBody → Frame
request_in_five hall desk asked =
    record { version = Five; hall = hall; from = 0; to = desk; what = asked }

-- how is the desk, and does another one differ?
abbrev pub status_request_in_five : (hall desk : ℕ) → Frame
status_request_in_five hall desk = request_in_five hall desk what.Status

-- what becomes of this id, once that is known, or after this many seconds?
abbrev pub await_request : (hall desk id seconds : ℕ) → Frame
await_request hall desk id seconds = request_in_five hall desk (what.Await id seconds)

-- what is in its log from this position on?
abbrev pub log_request : (hall desk position : ℕ) → Frame
log_request hall desk position = request_in_three hall desk (what.Log position)

-- it asks how the desk is, or for its log
abbrev pub IsOfThree : FrameBody → Type 0
IsOfThree what.Status = Unit {0}
IsOfThree (what.Log position) = Unit {0}
IsOfThree _ = ⊥

-- each frame that answers a Status or a Log is in a version from 3 on, as what was asked is
abbrev pub AnswersFromThree : Type 0
AnswersFromThree =
    (asked given : Frame) → IsFrame asked → IsFrame given → IsOfThree asked.what
    → answers asked given ≡ true → IsFromThree asked.version × IsFromThree given.version
