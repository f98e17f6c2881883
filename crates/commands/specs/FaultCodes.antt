-- The codes for what a table refuses (the project's own).
use Rattle.std.specs.Prelude.{Option, None, Some}
use Rattle.texts.specs.declared.answer.Code.{Code}
use Rattle.rounds.specs.declared.fault.{WithdrawFault.WithdrawFault, RulesFault.RulesFault}
use Rattle.rounds.specs.declared.fault.{ReopenFault.ReopenFault, EnterFault.EnterFault}
use Rattle.rounds.specs.declared.fault.{PutFault.PutFault, CorrectFault.CorrectFault}
use Rattle.rounds.specs.declared.fault.{SetFault.SetFault, FixFault.FixFault, CloseFault.CloseFault}
use Rattle.rounds.specs.declared.fault.StrikeFault.{StrikeFault}
use Rattle.texts.specs.declared.answer.Code.TheVariants as code
use Rattle.rounds.specs.declared.fault.WithdrawFault.TheVariants as withdraw
use Rattle.rounds.specs.declared.fault.RulesFault.TheVariants as rules
use Rattle.rounds.specs.declared.fault.ReopenFault.TheVariants as reopen
use Rattle.rounds.specs.declared.fault.EnterFault.TheVariants as enter
use Rattle.rounds.specs.declared.fault.PutFault.TheVariants as put
use Rattle.rounds.specs.declared.fault.CorrectFault.TheVariants as correct
use Rattle.rounds.specs.declared.fault.SetFault.TheVariants as set
use Rattle.rounds.specs.declared.fault.FixFault.TheVariants as fix
use Rattle.rounds.specs.declared.fault.StrikeFault.TheVariants as strike
use Rattle.rounds.specs.declared.fault.CloseFault.TheVariants as close

-- the code for a table's refusal of an entry; want of memory is no answer to a command
abbrev pub enter_code : EnterFault → Option Code
enter_code enter.Closed = Some code.Closed
enter_code enter.Already = Some code.Already
enter_code enter.Full = Some code.Full
enter_code enter.NoMemory = None

-- the code for a table's refusal of an attempt
abbrev pub put_code : PutFault → Code
put_code put.Closed = code.Closed
put_code put.NotEntered = code.NotEntered
put_code put.OutOfOrder = code.OutOfOrder
put_code put.NoMoreAttempts = code.NoMoreAttempts

-- the code for a table's refusal of a correction
abbrev pub correct_code : CorrectFault → Code
correct_code correct.Closed = code.Closed
correct_code correct.NotEntered = code.NotEntered
correct_code correct.NoSuchAttempt = code.NoSuchAttempt
correct_code correct.CutoffLost = code.CutoffLost

-- the code for a table's refusal of other values
abbrev pub set_code : SetFault → Code
set_code set.Closed = code.Closed
set_code set.NotEntered = code.NotEntered
set_code set.NoMoreAttempts = code.NoMoreAttempts

-- the code for the refusal of a closed table
abbrev pub fix_code : FixFault → Code
fix_code fix.NotClosed = code.NotClosed
fix_code fix.NotEntered = code.NotEntered
fix_code fix.NoMoreAttempts = code.NoMoreAttempts
fix_code fix.Unfinished = code.Unfinished

-- the code for a table's refusal to strike an attempt
abbrev pub strike_code : StrikeFault → Code
strike_code strike.Closed = code.Closed
strike_code strike.NotEntered = code.NotEntered
strike_code strike.NoSuchAttempt = code.NoSuchAttempt

-- the code for a table's refusal to be closed
abbrev pub close_code : CloseFault → Code
close_code close.Closed = code.Closed
close_code close.Unfinished = code.Unfinished

-- the code for a table's refusal that an entrant leaves; want of memory is no answer to a command
abbrev pub withdraw_code : WithdrawFault → Option Code
withdraw_code withdraw.Closed = Some code.Closed
withdraw_code withdraw.NotEntered = Some code.NotEntered
withdraw_code withdraw.HasAttempts = Some code.HasAttempts
withdraw_code withdraw.NoMemory = None

-- the code for a table's refusal of other rules
abbrev pub rules_code : RulesFault → Code
rules_code rules.Closed = code.Closed
rules_code rules.HasAttempts = code.HasAttempts

-- the code for a table's refusal to be opened again
abbrev pub reopen_code : ReopenFault → Code
reopen_code reopen.NotClosed = code.NotClosed
