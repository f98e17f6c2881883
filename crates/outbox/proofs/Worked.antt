-- The worked journal and states, computed.
use Rattle.std.{proofs.Common.None, proofs.Common.refl, proofs.Common.arith, specs.Fmt.digits}
use Rattle.commands.specs.History.{after_in, entry_refusal_in}
use Rattle.texts.specs.{Fields.cut, Names.is_clear_name, Reading.command_of, Table.rows}
use Rattle.texts.specs.{Fields.number_between, declared.command.Command.TheVariants.SetEdition}
use Rattle.outbox.specs.Worked.{WorkedJournal, WorkedStates}

pub worked_journal : WorkedJournal
unfolding cut digits number_between
worked_journal = record {
  reads = refl;
  other = refl;
  empty = refl;
  earlier = refl;
  zero = refl;
  again = refl;
  none = refl;
}

pub worked_states : WorkedStates
unfolding after_in command_of cut digits entry_refusal_in is_clear_name number_between rows
worked_states = record {
  says = record {
    told = record { command = SetEdition 2; remark = None };
    reads = refl;
    is = refl;
  };
  stands = record { there = refl; answered = refl };
  named = (omega arith, (refl, (refl, tt)));
  waits = refl;
  saved = refl;
  refused = refl;
  other = refl;
}
