use Rattle.std.proofs.Common.{ℕ, ◌++◌, List, true, false, take, ap, sym, ◌∙◌}
use Rattle.http_server.specs.{Connection.history, History.History}
use Rattle.pages.proofs.Moving.{Moved-broke, Moved-took, take_of_chunk}
use Rattle.pages.proofs.turns.send.Goals as goal

pub returns-in-Bytes-clause-moved : goal.returns-in-Bytes-clause-moved
returns-in-Bytes-clause-moved g c =
    let old = history c.args.connection.now in
    let went = c.sent.ensures.history in
    let bytes = take c.in-Bytes.count c.output.result.now in
    Moved-took c.args.number true _ _ _ _ bytes c.in-Bytes.ensures.told
    (ap (λ (h : History). h.received) went) (ap (λ (h : History). h.sent) went
    ∙ ap (λ (t : List ℕ). old.sent ++ t) (sym (take_of_chunk c.in-Bytes.count c.output.result.now
    old.pending c.output.ensures.front c.in-Bytes.ensures.count.1)))

pub returns-in-Broke-clause-moved : goal.returns-in-Broke-clause-moved
returns-in-Broke-clause-moved g c =
    Moved-broke c.args.number false _ _ (history c.args.connection.now) c.in-Broke.ensures.told
