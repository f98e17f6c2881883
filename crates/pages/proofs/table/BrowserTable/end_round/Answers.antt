use Rattle.std.proofs.Common.{◌≡◌, true, refl, subst, ◌∙◌}
use Rattle.pages.specs.{Asking.EndsSome, Asking.LetsGo, Waiting.is_late}
use Rattle.pages.proofs.{Asked.asks_both, Asked.asks_none, Ending.ends_more, Ending.ends_none}
use Rattle.pages.proofs.table.BrowserTable.end_round.Goals as goal

pub loop-number-init : goal.loop-number-init
loop-number-init g c =
    let t = c.args.self.now in
    let now = c.args.now in
    record {
      kept = λ held. held;
      terms = refl;
      turns = refl;
      next = refl;
      time = refl;
      asks = asks_none g.C.Sockets.requests t.sockets (EndsSome now t (record t { now = now }))
          (ends_none now t t (record t { now = now }) (λ j. refl));
    }

pub loop-number-preserved : goal.loop-number-preserved
loop-number-preserved g c =
    let t = c.args.self.now in
    let now = c.args.now in
    let at = c.loop-number in
    let before = at.invariant in
    let went = c.let_go.ensures in
    let late = c.in-Some.ensures in
    let new = c.let_go.new.self in
    record {
      kept = λ held. went.kept (before.kept held);
      terms = went.same.terms ∙ before.terms;
      turns = went.same.turns ∙ before.turns;
      next = went.same.next ∙ before.next;
      time = went.time ∙ before.time;
      asks =
          asks_both g.C.Sockets.requests t.sockets at.self.sockets new.sockets
          (EndsSome now t at.self) (LetsGo c.in-Some.number at.self new) (EndsSome now t new)
          (λ xs ys h k. ends_more now t at.self new c.in-Some.number late.0 xs ys h late.1
          (subst (λ time. is_late time t.terms.patience late.0.waiting ≡ true) before.time
          (subst (λ terms. is_late at.self.now terms.patience late.0.waiting ≡ true) before.terms
          late.2)) k) before.asks went.asks;
    }
