-- How another desk of the hall differs, by what it says, and what follows of it (the project's
-- own).
use Rattle.std.specs.Prelude.{ℕ, ◌+◌, ◌-◌, max, Bool, true, false, not, nat_lt, ◌&&◌, List, [], ◌∷◌}
use Rattle.std.specs.Prelude.{if◌then◌else◌, length, Option, None, Some, slice_get, slice_index}
use Rattle.std.specs.Prelude.{slice_set}
use Rattle.acceptor.specs.{Entries.is_same_entry, declared.entry.Entry.Entry}
use Rattle.learner.specs.Steps.{is_desk}
use Rattle.store.specs.declared.home.Home.{Home}
use Rattle.wire.specs.declared.frame.{Frame.Frame, FrameBody.FrameBody}
use Rattle.wire.specs.declared.standing.Difference.{Difference}
use Rattle.wire.specs.declared.standing.Difference.TheVariants.{OtherEntry, Shorter}
use Rattle.serving.specs.{Asking.is_ours, declared.permission.Permission.Permission}
use Rattle.serving.specs.declared.{differing.AwaitRequest.AwaitRequest, request.Request.Request}
use Rattle.serving.specs.declared.request.Request.TheVariants.{Entered, Inspected, Withheld}
use Rattle.wire.specs.declared.frame.FrameBody.TheVariants as what
use Rattle.serving.specs.declared.permission.Permission.TheVariants as permission

-- ---- what is seen of a frame before it is begun

abbrev pub first_frame : List Frame → Option Frame
first_frame [] = None
first_frame (f ∷ fs) = Some f

abbrev pub awaited_what : FrameBody → Option AwaitRequest
awaited_what (what.Await id seconds) = Some (record { id = id; seconds = seconds })
awaited_what _ = None

-- what it waits for, where it is an Await that is for this desk
abbrev pub awaited_by : Home → Frame → Option AwaitRequest
awaited_by home f = if is_ours home f then awaited_what f.what else None

-- ---- what a desk says

abbrev pub is_all : Permission → Bool
is_all permission.All = true
is_all _ = false

-- a desk of the hall says it to this one, on a connection that may ask so much
abbrev pub hears : Home → Permission → Frame → Bool
hears home may f = is_ours home f && (is_all may && is_desk home.desks f.from)

-- an entry is told where another one is
abbrev pub is_other : Entry → Option Entry → Bool
is_other told None = false
is_other told (Some there) = not (is_same_entry there told)

-- the first of the entries that are told from a position on where another one is
unfoldable pub other_from : ℕ → ℕ → List Entry → List Entry → Option Difference
other_from desk pos [] log = None
other_from desk pos (e ∷ es) log =
    if is_other e (slice_get log pos) then Some (OtherEntry desk pos)
    else other_from desk (pos + 1) es log

-- a length is reported that is below one that was reported before
abbrev pub shorter : ℕ → ℕ → List ℕ → Option Difference
shorter desk len known =
    if nat_lt len (slice_index known (desk - 1)) then Some (Shorter desk len) else None

abbrev pub what_differs : ℕ → FrameBody → List Entry → List ℕ → Option Difference
what_differs desk (what.Decided pos es) log known = other_from desk pos es log
what_differs desk (what.Behind len) log known = shorter desk len known
what_differs desk _ log known = None

-- How the sender of a frame differs, where this is the log, and these are the lengths that the
-- hall's desks reported before: before the frame's connection was opened, or before it on the same
-- one.
abbrev pub differs_by : Home → Permission → List Entry → List ℕ → Frame → Option Difference
differs_by home may log known f =
    if hears home may f then what_differs f.from f.what log known else None

-- how many entries the sender's log has at least, by what it says
abbrev pub length_said : FrameBody → ℕ
length_said (what.Decided pos es) = pos + length es
length_said (what.Behind len) = len
length_said _ = 0

abbrev pub raised : ℕ → ℕ → List ℕ → List ℕ
raised desk len known = slice_set known (desk - 1) (max (slice_index known (desk - 1)) len)

-- the lengths that were reported, after this frame of the same connection
abbrev pub known_after : Home → Permission → List ℕ → Frame → List ℕ
known_after home may known f =
    if hears home may f then raised f.from (length_said f.what) known else known

-- the first one that was heard stays
abbrev pub first_difference : Option Difference → Option Difference → Option Difference
first_difference None new = new
first_difference (Some d) new = Some d

-- ---- what follows

-- where a desk differs no command is accepted, and the answer to a Status says it
abbrev pub withheld_by : Difference → Request → Request
withheld_by d (Entered e) = Withheld
withheld_by d (Inspected differs) = Inspected (Some d)
withheld_by d r = r

abbrev pub withheld : Option Difference → Request → Request
withheld None r = r
withheld (Some d) r = withheld_by d r
