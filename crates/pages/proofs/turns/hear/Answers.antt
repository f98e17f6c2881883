use Rattle.std.proofs.Common.{false, subst, sym}
use Rattle.http_server.specs.Connection.{history}
use Rattle.pages.{specs.Turns.Hears, proofs.Hearing.Heard-more, proofs.Hearing.Hears-part}
use Rattle.pages.proofs.turns.hear.Goals as goal

pub returns-in_default-clause-hears : goal.returns-in_default-clause-hears
returns-in_default-clause-hears c =
    let bytes = c.args.bytes.now in
    let old = c.args.connection.now in
    subst (λ h. Hears false bytes (history old) h) (sym c.in_default.ensures.err.0)
    (Hears-part bytes c.loop-unheard.unheard.now old c.loop-unheard.connection
    c.loop-unheard.invariant)

pub returns-then-count-eq0-clause-hears : goal.returns-then-count-eq0-clause-hears
returns-then-count-eq0-clause-hears c =
    let bytes = c.args.bytes.now in
    let old = c.args.connection.now in
    let came = c.in-Ok.ensures.ok in
    Hears-part bytes c.read_from.new.reader.now old c.read_from.new.self
    (Heard-more bytes c.loop-unheard.unheard.now c.read_from.new.reader.now old
    c.loop-unheard.connection c.read_from.new.self came.0 c.loop-unheard.invariant came.2 came.3
    c.in-Ok.ensures.config)
