use Rattle.std.proofs.Common.{ap, refl}
use Rattle.pages.{specs.Asking.StepsBy, proofs.Asked.asks_after, proofs.Answering.Answers-same}
use Rattle.polled.specs.{Requests.Waited, Happenings.ready}
use Rattle.pages.proofs.Placing.{admits_from, attends_from, ends_from}
use Rattle.pages.proofs.Tables.{holds_on, quiet_ready}
use Rattle.polled.specs.declared.answers.Ready.TheVariants as ready_is
use Rattle.pages.specs.declared.table.Step.TheVariants as step_is
use Rattle.pages.proofs.table.BrowserTable.step.Goals as goal

pub returns-in-Waits-clause-kept : goal.returns-in-Waits-clause-kept
returns-in-Waits-clause-kept g c = λ held.
    c.admit.ensures.kept (holds_on g.C.Sockets.happened c.args.self.now c.ready.new.self
    (ready c.ready.result) c.ready.ensures.told (quiet_ready c.ready.result) held)

pub returns-in-Waits-clause-answers : goal.returns-in-Waits-clause-answers
returns-in-Waits-clause-answers g c = λ held.
    Answers-same g.S.Service.answers _ _ _ _ refl (ap (λ log. log.items) c.admit.ensures.turns)

pub returns-in-Peer-clause-kept : goal.returns-in-Peer-clause-kept
returns-in-Peer-clause-kept g c = λ held.
    c.visit.ensures.kept (holds_on g.C.Sockets.happened c.args.self.now c.ready.new.self
    (ready c.ready.result) c.ready.ensures.told (quiet_ready c.ready.result) held)

pub returns-in-Peer-clause-answers : goal.returns-in-Peer-clause-answers
returns-in-Peer-clause-answers g c = λ held.
    c.visit.ensures.answers (holds_on g.C.Sockets.happened c.args.self.now c.ready.new.self
    (ready c.ready.result) c.ready.ensures.told (quiet_ready c.ready.result) held)

pub returns-in-Round-clause-kept : goal.returns-in-Round-clause-kept
returns-in-Round-clause-kept g c = λ held.
    c.end_round.ensures.kept (holds_on g.C.Sockets.happened c.args.self.now c.ready.new.self
    (ready c.ready.result) c.ready.ensures.told (quiet_ready c.ready.result) held)

pub returns-in-Round-clause-answers : goal.returns-in-Round-clause-answers
returns-in-Round-clause-answers g c = λ held.
    Answers-same g.S.Service.answers _ _ _ _ refl (ap (λ log. log.items) c.end_round.ensures.turns)

pub returns-in-Failed-clause-kept : goal.returns-in-Failed-clause-kept
returns-in-Failed-clause-kept g c = λ held.
    holds_on g.C.Sockets.happened c.args.self.now c.ready.new.self (ready c.ready.result)
    c.ready.ensures.told (quiet_ready c.ready.result) held

pub returns-in-Failed-clause-answers : goal.returns-in-Failed-clause-answers
returns-in-Failed-clause-answers g c = λ held.
    Answers-same g.S.Service.answers _ _ _ _ refl refl

pub returns-in-Waits-clause-asks : goal.returns-in-Waits-clause-asks
returns-in-Waits-clause-asks g c =
    let t = c.args.self.now in
    let new = c.admit.new.self in
    let wait = c.args.wait in
    asks_after g.C.Sockets.requests t.sockets c.ready.new.self new.sockets
    (Waited wait ready_is.Waits) _ (StepsBy wait step_is.GoesOn t new) (λ ys h. (
      ready_is.Waits,
      refl,
      record {
        terms = c.admit.ensures.terms;
        more = ys;
        all = refl;
        follows = (admits_from t new c.ready.new.self ys h, c.admit.ensures.time);
      },
    ))
    c.in-Waits.ensures.requests c.admit.ensures.asks

pub returns-in-Peer-clause-asks : goal.returns-in-Peer-clause-asks
returns-in-Peer-clause-asks g c =
    let t = c.args.self.now in
    let new = c.visit.new.self in
    let wait = c.args.wait in
    let k = c.in-Peer.number in
    asks_after g.C.Sockets.requests t.sockets c.ready.new.self new.sockets
    (Waited wait (ready_is.Peer k)) _ (StepsBy wait step_is.GoesOn t new) (λ ys h. (
      ready_is.Peer k,
      refl,
      record {
        terms = c.visit.ensures.terms;
        more = ys;
        all = refl;
        follows = (
          attends_from t new c.ready.new.self ys k h,
          c.visit.ensures.time,
          c.visit.ensures.next,
        );
      },
    ))
    c.in-Peer.ensures.requests c.visit.ensures.asks

pub returns-in-Round-clause-asks : goal.returns-in-Round-clause-asks
returns-in-Round-clause-asks g c =
    let t = c.args.self.now in
    let new = c.end_round.new.self in
    let wait = c.args.wait in
    let now = c.in-Round.now in
    asks_after g.C.Sockets.requests t.sockets c.ready.new.self new.sockets
    (Waited wait (ready_is.Round now)) _ (StepsBy wait (step_is.Over now) t new) (λ ys h. record {
      terms = c.end_round.ensures.terms;
      more = ys;
      all = refl;
      follows = (ends_from t new c.ready.new.self ys now h, c.end_round.ensures.next);
    }) c.in-Round.ensures.requests c.end_round.ensures.asks
