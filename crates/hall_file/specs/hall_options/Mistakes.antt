-- Exit statuses (the project's own).
use Rattle.std.specs.{Prelude.ℕ, declared.io.ErrorKind.ErrorKind}
use Rattle.keys.specs.declared.key_file.fault.KeyFileFault.{KeyFileFault}
use Rattle.hall_file.specs.declared.hall_options.mistakes.Mistake.{Mistake}
use Rattle.std.specs.declared.io.ErrorKind.TheVariants as kind
use Rattle.keys.specs.declared.key_file.fault.KeyFileFault.TheVariants as key_fault
use Rattle.hall_file.specs.declared.hall_options.mistakes.Mistake.TheVariants as mistake

-- 3 for a file that gives no key, 5 for memory
abbrev pub key_status : KeyFileFault → ℕ
key_status key_fault.NoMemory = 5
key_status _ = 3

-- 2 for arguments, 3 for a file that describes no hall or gives no key, 4 for an address, 5 for
-- memory
abbrev pub status_of : Mistake → ℕ
status_of (mistake.Number id) = 2
status_of (mistake.Address id) = 4
status_of (mistake.File fault) = 3
status_of (mistake.Key fault) = key_status fault
status_of (mistake.Unknown desk) = 4
status_of mistake.NoMemory = 5

-- where the system did not do something: 5 for memory, 4 for all else
abbrev pub system_status : ErrorKind → ℕ
system_status kind.OutOfMemory = 5
system_status _ = 4

-- where there are no arguments: 5 for memory, 2 where they are not text
abbrev pub arguments_status : ErrorKind → ℕ
arguments_status kind.OutOfMemory = 5
arguments_status _ = 2
