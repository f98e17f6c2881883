-- Which frame answers a client's, and what the client makes of a frame (the project's own).
use Rattle.std.specs.Prelude.{ℕ, Bool, false, true, ◌==◌, ◌&&◌, if◌then◌else◌, Result, Ok, Err}
use Rattle.wire.specs.declared.frame.{Frame.Frame, FrameBody.FrameBody}
use Rattle.client.specs.declared.fault.ClientFault.{ClientFault}
use Rattle.wire.specs.declared.frame.FrameBody.TheVariants as what
use Rattle.client.specs.declared.fault.ClientFault.TheVariants as fault

abbrev pub is_taken : ℕ → FrameBody → Bool
is_taken id (what.Taken other) = other == id
is_taken id _ = false

abbrev pub is_told : ℕ → FrameBody → Bool
is_told id (what.Told other state) = other == id
is_told id _ = false

abbrev pub is_sheet_text : FrameBody → Bool
is_sheet_text (what.SheetText text) = true
is_sheet_text _ = false

abbrev pub is_fine : FrameBody → Bool
is_fine what.Fine = true
is_fine _ = false

abbrev pub is_standing : FrameBody → Bool
is_standing (what.Standing standing) = true
is_standing _ = false

-- entries of the log from this position on
abbrev pub is_entries : ℕ → FrameBody → Bool
is_entries position (what.Entries from len entries) = from == position
is_entries position _ = false

-- a Submit is answered by Taken of its id, an Ask and an Await by Told of its id, a Sheet by the
-- text of a sheet, a Tick and a Stop by Fine, a Status by Standing, a Log by Entries from its
-- position on; no other kind has an answer
abbrev pub fits : FrameBody → FrameBody → Bool
fits (what.Submit entry) given = is_taken entry.id given
fits (what.Ask id) given = is_told id given
fits (what.Await id seconds) given = is_told id given
fits (what.Sheet event round position style) given = is_sheet_text given
fits what.Tick given = is_fine given
fits what.Stop given = is_fine given
fits what.Status given = is_standing given
fits (what.Log position) given = is_entries position given
fits _ given = false

-- the answer comes from the desk that was asked, of the hall that was meant, and its kind and id
-- fit what was asked
abbrev pub answers : Frame → Frame → Bool
answers asked given =
    given.hall == asked.hall && given.from == asked.to && fits asked.what given.what

abbrev pub judged_what : FrameBody → Bool → Result FrameBody ClientFault
judged_what (what.Refused refusal) own = Err (fault.Refused refusal)
judged_what given own = if own then Ok given else Err fault.NoAnswer

-- A refusal counts whatever hall and desk it comes from, since a desk that was not meant names
-- itself; another frame counts where it is the answer.
abbrev pub judged : Frame → Frame → Result FrameBody ClientFault
judged asked given = judged_what given.what (answers asked given)
