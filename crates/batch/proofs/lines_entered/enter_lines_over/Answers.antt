use Rattle.std.proofs.Common.{[], rules}
use Rattle.batch.{specs.Dialing.place_of, specs.Entering.texts_of, proofs.Asked.stops_to}
use Rattle.batch.proofs.Entered.{next_entered, none_entered, stops_at, whole_list}
use Rattle.batch.proofs.lines_entered.enter_lines_over.Goals as goal

pub loop-number-init : goal.loop-number-init
loop-number-init g c =
    ([], [], [], none_entered (place_of c.args.contact) c.args.batch _ _ _)

pub loop-number-preserved : goal.loop-number-preserved
loop-number-preserved g c =
    let command = c.index-commands-number in
    next_entered c.args.batch c.args.commands.now c.loop-number.number command.result _ _ _ _ _ _ _
    _ _ c.loop-number-test.true command.is c.loop-number.invariant c.in_ok-enter_line.ensures.ok

pub returns-in_err-enter_line : goal.returns-in_err-enter_line
returns-in_err-enter_line g c =
    let f = c.in_err-enter_line.field-0.0 in
    let command = c.index-commands-number in
    stops_to c.from_residual.result f c.args.batch (texts_of c.args.commands.now) _ _ _ _
    (search rules)
    (stops_at f c.args.batch c.args.commands.now c.loop-number.number command.result _ _ _ _ _ _ _ _
    _ c.loop-number-test.true command.is c.loop-number.invariant c.in_err-enter_line.ensures.err)

pub returns : goal.returns
returns g c =
    whole_list c.args.batch c.args.commands.now c.loop-number.number _ _ _ _ _ _ (search rules)
    c.loop-number.invariant
