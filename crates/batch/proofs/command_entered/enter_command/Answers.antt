use Rattle.batch.{specs.Dialing.place_of, proofs.EachLine.if_adds_err, proofs.EachLine.if_adds_ok}
use Rattle.batch.proofs.command_entered.enter_command.Goals as goal

pub returns-clause-asked : goal.returns-clause-asked
returns-clause-asked g c =
    if_adds_ok (place_of c.args.contact) _ _ _ c.entered-last.result _
    c.entered-last.ensures.ok c.let_go.ensures

pub returns-clause-err : goal.returns-clause-err
returns-clause-err g c =
    if_adds_err (place_of c.args.contact) _ _ _ c.entered-last.result _
    c.entered-last.ensures.err c.let_go.ensures
