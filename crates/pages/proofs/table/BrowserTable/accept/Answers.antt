use Rattle.std.proofs.Common.{inr, refl}
use Rattle.polled.specs.{Happenings.accepted, Requests.Accepting}
use Rattle.pages.{specs.Musts.Accepts, proofs.Asked.asks_after}
use Rattle.pages.proofs.Tables.{holds_on, quiet_accepted}
use Rattle.polled.specs.declared.answers.AcceptedPeer.TheVariants as accepted_is
use Rattle.pages.proofs.table.BrowserTable.accept.Goals as goal

pub returns-in-Came-clause-kept : goal.returns-in-Came-clause-kept
returns-in-Came-clause-kept g c = λ held.
    let t = c.args.self.now in
    let came = accepted_is.Came c.in-Came.random in
    c.welcome.ensures.kept (holds_on g.C.Sockets.happened t c.accept.new.self (accepted t.next came)
    c.in-Came.ensures.told (quiet_accepted t.next came) held)

pub returns-in-Nobody-clause-kept : goal.returns-in-Nobody-clause-kept
returns-in-Nobody-clause-kept g c = λ held.
    let t = c.args.self.now in
    holds_on g.C.Sockets.happened t c.accept.new.self (accepted t.next accepted_is.Nobody)
    c.in-Nobody.ensures.told (quiet_accepted t.next accepted_is.Nobody) held

pub returns-in-Full-clause-kept : goal.returns-in-Full-clause-kept
returns-in-Full-clause-kept g c = λ held.
    let t = c.args.self.now in
    c.let_longest_go.ensures.kept
    (holds_on g.C.Sockets.happened t c.accept.new.self (accepted t.next accepted_is.Full)
    c.in-Full.ensures.told (quiet_accepted t.next accepted_is.Full) held)

pub returns-in-Came-clause-asks : goal.returns-in-Came-clause-asks
returns-in-Came-clause-asks g c =
    let t = c.args.self.now in
    asks_after g.C.Sockets.requests t.sockets c.accept.new.self c.welcome.new.self.sockets
    (Accepting t.next (accepted_is.Came c.in-Came.random)) _ (Accepts t c.welcome.new.self)
    (λ ys h. inr (accepted_is.Came c.in-Came.random, ys, refl, h)) c.in-Came.ensures.requests
    c.welcome.ensures.asks

pub returns-in-Full-clause-asks : goal.returns-in-Full-clause-asks
returns-in-Full-clause-asks g c =
    let t = c.args.self.now in
    asks_after g.C.Sockets.requests t.sockets c.accept.new.self c.let_longest_go.new.self.sockets
    (Accepting t.next accepted_is.Full) _ (Accepts t c.let_longest_go.new.self)
    (λ ys h. inr (accepted_is.Full, ys, refl, (c.let_longest_go.ensures.same.next, h)))
    c.in-Full.ensures.requests c.let_longest_go.ensures.asks
