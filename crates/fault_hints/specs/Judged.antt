-- What is made of the answers of the system and of a desk (the project's own).
use Rattle.std.specs.Prelude.{◌==◌, ◌&&◌, ◌||◌, if◌then◌else◌, nat_le, bytes_eq, ℕ, Bool, List, []}
use Rattle.std.specs.Prelude.{◌∷◌, ◌++◌, codes, length, Option, Some, None}
use Rattle.std.specs.{List.list_all, declared.io.ErrorKind.ErrorKind}
use Rattle.desk_requests.specs.declared.fault.DeskFault.{DeskFault}
use Rattle.wire.specs.declared.frame.{Frame.Frame, FrameBody.FrameBody}
use Rattle.fault_hints.specs.declared.findings.{AddressFinding.AddressFinding, Finding.Finding}
use Rattle.fault_hints.specs.declared.findings.{FileFinding.FileFinding, KeyFinding.KeyFinding}
use Rattle.std.specs.declared.io.ErrorKind.TheVariants as kind
use Rattle.desk_requests.specs.declared.fault.DeskFault.TheVariants as fault
use Rattle.keys.specs.declared.key_file.fault.KeyFileFault.TheVariants as key_file
use Rattle.wire.specs.declared.frame.FrameBody.TheVariants as what
use Rattle.wire.specs.declared.values.ClientRefusal.TheVariants as refusal
use Rattle.fault_hints.specs.declared.findings.AddressFinding.TheVariants as address
use Rattle.fault_hints.specs.declared.findings.FileFinding.TheVariants as file
use Rattle.fault_hints.specs.declared.findings.KeyFinding.TheVariants as key
use Rattle.fault_hints.specs.declared.findings.Finding.TheVariants as finding

-- a file that cannot be opened, read or written
abbrev pub of_opening : ErrorKind → Option FileFinding
of_opening kind.PermissionDenied = Some file.NotAllowed
of_opening kind.ReadOnlyFilesystem = Some file.ReadOnly
of_opening kind.StorageFull = Some file.Full
of_opening kind.QuotaExceeded = Some file.Full
of_opening kind.NotFound = Some file.NoFolder
of_opening kind.NotADirectory = Some file.NoFolder
of_opening kind.IsADirectory = Some file.IsFolder
of_opening kind.Unsupported = Some file.NotPlain
of_opening _ = None

-- an address to which no connection is accepted
abbrev pub of_connecting : ErrorKind → Option AddressFinding
of_connecting kind.ConnectionRefused = Some address.NobodyListens
of_connecting kind.TimedOut = Some address.Silent
of_connecting kind.WouldBlock = Some address.Silent
of_connecting kind.HostUnreachable = Some address.NoWay
of_connecting kind.NetworkUnreachable = Some address.NoWay
of_connecting kind.NetworkDown = Some address.NoWay
of_connecting _ = None

-- an address that cannot be had
abbrev pub of_listening : ErrorKind → Option AddressFinding
of_listening kind.AddrInUse = Some address.Taken
of_listening kind.AddrNotAvailable = Some address.NotOurs
of_listening kind.PermissionDenied = Some address.NotAllowed
of_listening _ = None

-- what a fault says of a key
abbrev pub of_key : DeskFault → Option KeyFinding
of_key fault.NoKey = Some key.NoKey
of_key fault.OtherKey = Some key.OtherKey
of_key fault.HasKey = Some key.HasKey
of_key (fault.Refused refusal.NotAllowed) = Some key.NotAllowed
of_key (fault.KeyFile key_file.NotThere) = Some key.NotThere
of_key (fault.KeyFile key_file.Unreadable) = Some key.Unreadable
of_key (fault.KeyFile key_file.Open) = Some key.Open
of_key (fault.KeyFile key_file.NoKey) = Some key.NotOne
of_key fault.KeyThere = Some key.IsThere
of_key fault.SameKeys = Some key.TwoAreOne
of_key fault.NoHallKey = Some key.NoHallKey
of_key _ = None

-- what an SQLite database begins with
abbrev pub database_header : List ℕ
database_header = codes "SQLite format 3" ++ 0 ∷ []

-- no control character, but for a tab and the ends of lines
abbrev pub is_of_text : ℕ → Bool
is_of_text b = nat_le 32 b || b == 9 || b == 10 || b == 13

-- the first 16 bytes of a file, or all where it has fewer: a database's, none, a text's or none of
-- these
abbrev pub of_beginning : List ℕ → Option FileFinding
of_beginning bytes =
    if bytes_eq bytes database_header then None else if length bytes == 0 then Some file.Empty
    else if list_all is_of_text bytes then Some file.Text else Some file.NoDatabase

-- the desk that sent a frame, where it is not the one that was asked
abbrev pub other_desk : Frame → ℕ → ℕ → Option Finding
other_desk given hall desk =
    if given.hall == hall && given.from == desk then None else Some (finding.Other (record {
      met = record { hall = given.hall; desk = given.from };
      asked = record { hall = hall; desk = desk };
    }))

abbrev pub length_of : FrameBody → Option Finding
length_of (what.Standing standing) = Some (finding.Length (record { commands = standing.length }))
length_of _ = None

-- how many commands the desk has that says how it is
abbrev pub length_in : Frame → Option Finding
length_in given = length_of given.what
