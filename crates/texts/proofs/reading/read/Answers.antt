use Rattle.std.proofs.Common.{Err, sym, ◌∙◌}
use Rattle.texts.specs.{Fields.cut, Reading.kept_field}
use Rattle.texts.proofs.Words.{gives_too_long, gives_word, gives_found, gives_only}
use Rattle.texts.proofs.Faults.{gives_too_long_alone, gives_not_a_command}
use Rattle.texts.specs.declared.reading.CommandFault.TheVariants as fault
use Rattle.texts.proofs.reading.read.Goals as goal

pub returns-then-is_too_long-clause-value : goal.returns-then-is_too_long-clause-value
returns-then-is_too_long-clause-value c =
    gives_too_long (kept_field (cut 32 c.args.text.now).0) c.args.text.now
    (sym c.is_too_long.ensures ∙ c.if-is_too_long.true)

pub returns-then-is_too_long-clause-found : goal.returns-then-is_too_long-clause-found
returns-then-is_too_long-clause-found c =
    gives_found (kept_field (cut 32 c.args.text.now).0) (Err fault.TooLong) c.args.text.now
    (returns-then-is_too_long-clause-value c)

pub returns-clause-value : goal.returns-clause-value
returns-clause-value c =
    gives_word c.command_of_word.result c.args.text.now _
    (sym c.is_too_long.ensures ∙ c.if-is_too_long.false) c.cut.ensures c.command_of_word.ensures

pub returns-clause-found : goal.returns-clause-found
returns-clause-found c =
    gives_found (kept_field (cut 32 c.args.text.now).0) c.command_of_word.result c.args.text.now
    (returns-clause-value c)

pub returns-clause-only : goal.returns-clause-only
returns-clause-only c =
    gives_only (kept_field (cut 32 c.args.text.now).0) c.command_of_word.result c.args.text.now
    (returns-clause-value c)

pub returns-clause-too_long : goal.returns-clause-too_long
returns-clause-too_long c =
    gives_too_long_alone (kept_field (cut 32 c.args.text.now).0) c.command_of_word.result
    c.args.text.now (returns-clause-value c)

pub returns-clause-not_a_command : goal.returns-clause-not_a_command
returns-clause-not_a_command c =
    gives_not_a_command (kept_field (cut 32 c.args.text.now).0) c.command_of_word.result
    c.args.text.now (returns-clause-value c)

pub returns-then-is_too_long-clause-too_long : goal.returns-then-is_too_long-clause-too_long
returns-then-is_too_long-clause-too_long c =
    gives_too_long_alone (kept_field (cut 32 c.args.text.now).0) (Err fault.TooLong)
    c.args.text.now (returns-then-is_too_long-clause-value c)

pub returns-then-is_too_long-clause-not_a_command
    : goal.returns-then-is_too_long-clause-not_a_command
returns-then-is_too_long-clause-not_a_command c =
    gives_not_a_command (kept_field (cut 32 c.args.text.now).0) (Err fault.TooLong) c.args.text.now
    (returns-then-is_too_long-clause-value c)
