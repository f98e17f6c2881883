use Rattle.std.proofs.Common.{◌++◌, List, true, ap, ◌∙◌}
use Rattle.http_server.{specs.Exchange.Call, proofs.StreamLemmas.Calls-then}
use Rattle.pages.proofs.Moving.{Moved-same}
use Rattle.pages.proofs.turns.answer.Goals as goal

pub returns-then-not-wants_write-clause-moved : goal.returns-then-not-wants_write-clause-moved
returns-then-not-wants_write-clause-moved g c =
    let quiet = c.advance.ensures.quiet in
    Moved-same c.args.number true _ _ _ quiet.0 quiet.2

pub returns-clause-calls : goal.returns-clause-calls
returns-clause-calls g c =
    let later = c.advance-2.ensures.calls in
    Calls-then g.S.Service.answers _ _ _ _ _ _ c.advance.ensures.calls
    (later.0, later.1 ∙ ap (λ (t : List Call). t ++ later.0) c.send.ensures.calls, later.2)
