use Rattle.std.proofs.Common.{sym, ◌∙◌, arith}
use Rattle.std.proofs.lemmas.Fmt.{decimal_digit}
use Rattle.replay_arguments.proofs.round.round_of.Goals as goal

pub returns-in-text : goal.returns-in-text
returns-in-text c = c.in-text.is ∙ sym (decimal_digit 1 (omega arith))

pub returns-in-text-2 : goal.returns-in-text-2
returns-in-text-2 c = c.in-text-2.is ∙ sym (decimal_digit 2 (omega arith))

pub returns-in-text-3 : goal.returns-in-text-3
returns-in-text-3 c = c.in-text-3.is ∙ sym (decimal_digit 3 (omega arith))

pub returns-in-text-4 : goal.returns-in-text-4
returns-in-text-4 c = c.in-text-4.is ∙ sym (decimal_digit 4 (omega arith))
