use Rattle.batch.specs.Dialing.{place_of}
use Rattle.batch.proofs.{Asked.asks_so, Asked.asks_some_so, Going.adds_by}
use Rattle.batch.proofs.lines_entered.enter_lines.Goals as goal

pub returns-clause-ok : goal.returns-clause-ok
returns-clause-ok g c =
    asks_so _ c.enter_lines_over-ended.result c.args.batch _ _ _ _ _
    (λ asked h. adds_by (place_of c.args.contact) _ _ _ asked h c.let_go.ensures)
    c.enter_lines_over-ended.ensures

pub returns-clause-err : goal.returns-clause-err
returns-clause-err g c =
    asks_some_so _ c.enter_lines_over-ended.result c.args.batch _ _ _ _ _
    (λ asked h. adds_by (place_of c.args.contact) _ _ _ asked h c.let_go.ensures)
    c.enter_lines_over-ended.ensures
