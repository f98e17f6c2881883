-- The lines that say what was met (the project's own).
use Rattle.std.specs.Prelude.{◌++◌, ℕ, List, codes, decimal}
use Rattle.fault_hints.specs.declared.findings.{AddressFinding.AddressFinding, DeskName.DeskName}
use Rattle.fault_hints.specs.declared.findings.{CommandCount.CommandCount, FileFinding.FileFinding}
use Rattle.fault_hints.specs.declared.findings.{KeyFinding.KeyFinding, OtherDesk.OtherDesk}
use Rattle.fault_hints.specs.declared.findings.Finding.{Finding}
use Rattle.fault_hints.specs.declared.findings.AddressFinding.TheVariants as address
use Rattle.fault_hints.specs.declared.findings.FileFinding.TheVariants as file
use Rattle.fault_hints.specs.declared.findings.KeyFinding.TheVariants as key
use Rattle.fault_hints.specs.declared.findings.Finding.TheVariants as finding

-- what is said of a desk's file, after its path
abbrev pub file_text : FileFinding → List ℕ
file_text file.NoFolder = codes "there is no such folder; make it, or name another path"
file_text file.NotThere = codes "there is no such file; compare the path"
file_text file.IsFolder = codes "it is a folder; name a file"
file_text file.NotPlain = codes "it is a link or a device, or has a second name; name the file"
file_text file.NotAllowed = codes "this user may not read and write it; look at its rights"
file_text file.ReadOnly = codes "its disk is mounted for reading only; look at the disk"
file_text file.FolderClosed = codes "this user may not write in its folder; look at its rights"
file_text file.HeldOpen = codes "another program has it open; end that one first"
file_text file.LogHeldOpen = codes "a desk has it open; ask that one: desk log --to ADDR"
file_text file.Full = codes "the disk is full; make room first"
file_text file.HasJournal = codes "a rollback journal lies beside it; open it with sqlite3 once"
file_text file.OpensNow = codes "it can be opened now; try again"
file_text file.Empty = codes "it is empty"
file_text file.Text = codes "it is a text; compare the path"
file_text file.NoDatabase = codes "it is no database; compare the path"
file_text file.LogMissing = codes "its -wal is missing or not its own; the two belong together"
file_text file.NotWhole = codes "the file is incomplete: keep it, and do not start this desk again"
file_text file.OtherDesk = codes "another desk's store is in it; compare the path and the numbers"

-- what is said of an address, after it
abbrev pub address_text : AddressFinding → List ℕ
address_text address.NotAddress = codes "this is no HOST:PORT, as 192.168.50.11:7001"
address_text address.UnknownHost = codes "nobody knows this host; write its IP address"
address_text address.NobodyListens = codes "no desk runs there; start it, or compare the port"
address_text address.Silent = codes "no answer; look at the machine, its cable and its firewall"
address_text address.NoWay = codes "the network does not lead there; look at the cables"
address_text address.ListensNow = codes "somebody listens there now; ask again"
address_text address.Taken = codes "another program listens there; end that one first"
address_text address.NotOurs = codes "this machine has no such address; compare the addresses"
address_text address.NotAllowed = codes "this user may not listen there; take a port from 1024 on"
address_text address.FreeNow = codes "the address is free now; start it again"

-- what is said of a key
abbrev pub key_text : KeyFinding → List ℕ
key_text key.NoKey = codes "ask without --key, or start the desk with --key"
key_text key.OtherKey = codes "all desks of a hall have one key file; copy it from one of them"
key_text key.HasKey = codes "name the file with the hall's key: --key FILE"
key_text key.NotAllowed = codes "this needs the hall's key: name its file with --key FILE"
key_text key.NotThere = codes "compare the path, or copy the file from a desk of the hall"
key_text key.Unreadable = codes "look at its rights, and whether it is a file"
key_text key.Open = codes "take their rights from it: chmod 600 FILE"
key_text key.NotOne = codes "a key is 64 hexadecimal digits; desk key --file FILE makes one"
key_text key.IsThere = codes "it is left as it is; name another file"
key_text key.TwoAreOne = codes "make another one for entries: desk key --file FILE"
key_text key.NoHallKey = codes "name the file with the hall's key: --key FILE"

-- desk 3 of hall 7, say
unfoldable pub name_text : DeskName → List ℕ
name_text name = codes "desk " ++ decimal name.desk ++ codes " of hall " ++ decimal name.hall

unfoldable pub this_is : List ℕ
this_is = codes "this is "

unfoldable pub you_asked : List ℕ
you_asked = codes ", you asked "

unfoldable pub who_differs : List ℕ
who_differs =
    codes "enter nothing more; desk status says which one, and HALL, 'Two desks differ', what to do"

-- this is desk 3 of hall 7, you asked desk 2 of hall 7, say
abbrev pub other_text : OtherDesk → List ℕ
other_text other = this_is ++ name_text other.met ++ you_asked ++ name_text other.asked

abbrev pub count_text : CommandCount → List ℕ
count_text count = codes "the desk has " ++ decimal count.commands ++ codes " commands"

abbrev pub finding_text : Finding → List ℕ
finding_text (finding.File path what) = path.now ++ codes ": " ++ file_text what
finding_text (finding.Address place what) = place.now ++ codes ": " ++ address_text what
finding_text (finding.Key what) = key_text what
finding_text (finding.Other desk) = other_text desk
finding_text (finding.Length count) = count_text count
finding_text finding.Differs = who_differs
