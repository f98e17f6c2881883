use Rattle.std.proofs.Common.{ap, ◌∙◌}
use Rattle.commands.specs.Accepted.{scramble_of, is_wrong}
use Rattle.std.specs.List.{list_any}
use Rattle.attempts.specs.declared.Unit.{Unit as Measure}
use Rattle.table_service.specs.Checks.{enters}
use Rattle.table_service.proofs.Mirrored.{unfit_lacks, unfit_none, unfit_wrong}
use Rattle.table_service.proofs.refusing.unfit.Goals as goal

pub returns-then-has_wrong : goal.returns-then-has_wrong
returns-then-has_wrong c =
    unfit_wrong c.args.id.event
    (scramble_of c.args.meet.now.accepted c.args.id.event c.args.id.round) c.args.now.now
    c.has_wrong.result (c.has_wrong.ensures
    ∙ ap (λ (unit : Measure). list_any (enters (is_wrong unit)) c.args.now.now) c.unit_of.ensures)
    c.if-has_wrong.true

pub returns-then-lacks_some : goal.returns-then-lacks_some
returns-then-lacks_some c =
    unfit_lacks c.args.id.event
    (scramble_of c.args.meet.now.accepted c.args.id.event c.args.id.round) c.args.now.now
    c.has_wrong.result c.lacks_some.result (c.has_wrong.ensures
    ∙ ap (λ (unit : Measure). list_any (enters (is_wrong unit)) c.args.now.now) c.unit_of.ensures)
    c.if-has_wrong.false c.lacks_some.ensures c.if-lacks_some.true

pub returns : goal.returns
returns c =
    unfit_none c.args.id.event
    (scramble_of c.args.meet.now.accepted c.args.id.event c.args.id.round) c.args.now.now
    c.has_wrong.result c.lacks_some.result (c.has_wrong.ensures
    ∙ ap (λ (unit : Measure). list_any (enters (is_wrong unit)) c.args.now.now) c.unit_of.ensures)
    c.if-has_wrong.false c.lacks_some.ensures c.if-lacks_some.false
