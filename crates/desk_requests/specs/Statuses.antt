-- The faults of the program: the status of each, and by which name a library's fault goes (the
-- project's own).
use Rattle.std.specs.Prelude.{◌++◌, ℕ, List, codes, decimal}
use Rattle.client.specs.declared.fault.ClientFault.{ClientFault}
use Rattle.fault_lines.specs.Statuses.{status_of_run}
use Rattle.batch.specs.declared.{dialing.Contact.Contact, fault.BatchFault.BatchFault}
use Rattle.desk_requests.specs.declared.fault.DeskFault.{DeskFault}
use Rattle.client.specs.declared.fault.ClientFault.TheVariants as client
pub use Rattle.hall_file.specs.hall_options.Mistakes.{key_status}
use Rattle.lines.specs.declared.fault.RunFault.TheVariants as run
use Rattle.batch.specs.declared.fault.BatchFault.TheVariants as batch
use Rattle.desk_requests.specs.declared.fault.DeskFault.TheVariants as fault

abbrev pub status_of : DeskFault → ℕ
status_of (fault.Run e) = status_of_run e
status_of (fault.KeyFile e) = key_status e
status_of fault.CannotConnect = 4
status_of fault.NoAnswer = 4
status_of fault.Late = 4
status_of fault.StoreDevice = 4
status_of fault.StoreDown = 4
status_of fault.CannotListen = 4
status_of _ = 3

-- what is said of a desk that was waited for in vain: its address, and for how many seconds
abbrev pub in_vain_text : Contact → List ℕ
in_vain_text c =
    codes "no answer from " ++ c.address.now ++ codes " (waited " ++ decimal c.patience
    ++ codes " s)"

-- what is before and after the path of a store that is not there, or is there
abbrev pub store_front : DeskFault → List ℕ
store_front fault.StoreThere = codes "store "
store_front _ = codes "no store "

abbrev pub store_back : DeskFault → List ℕ
store_back fault.StoreThere = codes " is there already: start without --new"
store_back _ = codes ": lost? see HALL, 'A disk died'; --new makes one, once, before the day"

-- what is said of a store that has to be there and is not, or has to be made and is there
abbrev pub store_text : DeskFault → List ℕ → List ℕ
store_text f path = store_front f ++ path ++ store_back f

-- what is said of a desk of which no address can be found
abbrev pub unknown_host_text : ℕ → List ℕ → List ℕ
unknown_host_text desk address =
    codes "unknown host: desk " ++ decimal desk ++ codes " at " ++ address

-- the fault of a request to a desk
abbrev pub fault_of_client : ClientFault → DeskFault
fault_of_client (client.Refused refusal) = fault.Refused refusal
fault_of_client client.NoAnswer = fault.NoAnswer
fault_of_client client.Write = fault.NoAnswer
fault_of_client client.NoMemory = fault.Run run.NoMemory

-- the fault of lines that are entered
abbrev pub fault_of_batch : BatchFault → DeskFault
fault_of_batch batch.TextTooLong = fault.TextTooLong
fault_of_batch batch.NoMoreIds = fault.NoMoreIds
fault_of_batch batch.CannotConnect = fault.CannotConnect
fault_of_batch (batch.Asking e) = fault_of_client e
fault_of_batch batch.Late = fault.Late
fault_of_batch batch.NoKey = fault.NoKey
fault_of_batch batch.OtherKey = fault.OtherKey
fault_of_batch batch.HasKey = fault.HasKey
fault_of_batch batch.StillPending = fault.StillPending
fault_of_batch batch.Lost = fault.Lost
fault_of_batch batch.AnotherCommand = fault.AnotherCommand
fault_of_batch batch.AtRefusal = fault.AtRefusal
fault_of_batch batch.Write = fault.Run run.Write
fault_of_batch batch.NoMemory = fault.Run run.NoMemory
