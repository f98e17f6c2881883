-- What the answers of the system say of a peer (the project's own).
use Rattle.std.specs.Prelude.{ℕ, ℤ, pos, ◌==◌, ◌||◌, if◌then◌else◌, Bool, true, false, Option, None}
use Rattle.std.specs.{Prelude.Some, Prelude.Result, Prelude.Ok, Prelude.Err, IoError.raw_os_error}
use Rattle.std.specs.{IoError.error_kind, declared.io.Error.Error, declared.io.ErrorKind.ErrorKind}
use Rattle.polled.specs.declared.answers.{AcceptedPeer.AcceptedPeer, ReadOutcome.ReadOutcome}
use Rattle.polled.specs.declared.answers.WriteOutcome.{WriteOutcome}
use Rattle.std.specs.declared.io.ErrorKind.TheVariants as kind
use Rattle.polled.specs.declared.answers.AcceptedPeer.TheVariants as accepted
use Rattle.polled.specs.declared.answers.ReadOutcome.TheVariants as given
use Rattle.polled.specs.declared.answers.WriteOutcome.TheVariants as taken

-- a call that would wait, or was interrupted, is to be made again once the socket is ready
abbrev pub waits : ErrorKind → Bool
waits kind.WouldBlock = true
waits kind.Interrupted = true
waits _ = false

abbrev pub is_waiting : Error → Bool
is_waiting e = waits (error_kind e)

-- a read of no byte is the end of what the peer sends
abbrev pub given_by : Result ℕ Error → ReadOutcome
given_by (Ok count) = if count == 0 then given.Ended else given.Bytes count
given_by (Err e) = if is_waiting e then given.Later else given.Broke

abbrev pub taken_by : Result ℕ Error → WriteOutcome
taken_by (Ok count) = if count == 0 then taken.Later else taken.Bytes count
taken_by (Err e) = if is_waiting e then taken.Later else taken.Broke

-- the error numbers of Linux for no more files in the whole system or in this program, for no room
-- in the system's buffers, and for no memory
abbrev pub is_full : Option ℕ → Bool
is_full None = false
is_full (Some code) = code == 23 || code == 24 || code == 105 || code == 12

-- the number of an error, where the system gave one that is not negative
abbrev pub number_of : Option ℤ → Option ℕ
number_of None = None
number_of (Some (pos n)) = Some n
number_of (Some _) = None

abbrev pub accepted_by : Error → AcceptedPeer
accepted_by e =
    if is_full (number_of (raw_os_error e)) then accepted.Full else accepted.Nobody
