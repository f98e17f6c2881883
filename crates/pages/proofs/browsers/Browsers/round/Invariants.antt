use Rattle.std.proofs.Common.{◌≡◌}
use Rattle.pages.specs.{Asking.AsksSteps, Browsers.turns_of, Turns.Answers}
use Rattle.polled.specs.Requests.{Asks}
use Rattle.pages.proofs.browsers.Browsers.round.Given as goal

abbrev pub invariant-loop-turn : goal.invariant-loop-turn
invariant-loop-turn g l = record {
  terms : l.self.table.terms ≡ l.fn.self.table.terms;
  answers : ∥ Answers g.S.Service.answers l.fn.service l.service (turns_of l.fn.self)
      (turns_of l.self) ∥₁;
  asks : Asks g.C.Sockets.requests l.fn.self.table.sockets l.self.table.sockets
      (AsksSteps l.fn.wait l._turn l.fn.self.table l.self.table);
}
