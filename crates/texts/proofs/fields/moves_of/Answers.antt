use Rattle.std.proofs.Common.{sym, ◌∙◌, refl}
use Rattle.texts.proofs.MoveSpellings.{no_moves_unless_single, moves_read, no_moves_where_refused}
use Rattle.texts.proofs.fields.moves_of.Goals as goal

pub returns-else-has_single_spaces : goal.returns-else-has_single_spaces
returns-else-has_single_spaces c =
    no_moves_unless_single c.args.bytes.now
    (sym c.has_single_spaces.ensures ∙ c.if-has_single_spaces.false)

pub returns-in-Ok : goal.returns-in-Ok
returns-in-Ok c =
    let read = c.in-Ok.ensures.found c.in-Ok.moves refl in
    moves_read c.args.bytes.now c.in-Ok.moves read.0 read.1
    (sym c.has_single_spaces.ensures ∙ c.if-has_single_spaces.true)

pub returns-in_default : goal.returns-in_default
returns-in_default c =
    no_moves_where_refused c.in-Err.fault c.args.bytes.now c.in_default.not-NoMemory
    c.in-Err.ensures.only c.printed_is_spelled.ensures
