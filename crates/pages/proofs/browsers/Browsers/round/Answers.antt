use Rattle.std.proofs.Common.{◌+◌, arith, append-nil, inl, inr, refl, subst, ◌∙◌, None, Some, []}
use Rattle.std.proofs.Math.Logic.{∥∥₁_map, ∥∥₁_map₂}
use Rattle.pages.specs.{Asking.AsksSteps, Asking.StepsBy, Musts.AsksRound}
use Rattle.pages.proofs.Answering.{Answers-same, Answers-then}
use Rattle.pages.proofs.Asked.{asks_as, asks_both, asks_none, round_ends, steps_more, steps_none}
use Rattle.pages.specs.declared.table.Step.TheVariants as step_is
use Rattle.pages.proofs.browsers.Browsers.round.Goals as goal

pub invariant_of-self : goal.invariant_of-self
invariant_of-self g c =
    record { kept = ∥∥₁_map c.loop-turn.self.kept (λ x. c.step.ensures.kept x) }

pub loop-turn-init : goal.loop-turn-init
loop-turn-init g c = record {
  terms = refl;
  answers =
      ∥∥₁_map c.args.self.now.kept
      (λ held. Answers-same g.S.Service.answers _ _ _ _ refl refl);
  asks =
      asks_none g.C.Sockets.requests c.args.self.now.table.sockets
      (AsksSteps c.args.wait 0 c.args.self.now.table c.args.self.now.table)
      (steps_none c.args.wait c.args.self.now.table);
}

pub loop-turn-preserved : goal.loop-turn-preserved
loop-turn-preserved g c =
    let before = c.loop-turn.invariant in
    let t = c.args.self.now.table in
    let at = c.loop-turn.self.table in
    record {
      terms = c.step.ensures.terms ∙ before.terms;
      answers =
          ∥∥₁_map₂ before.answers c.loop-turn.self.kept (λ so_far held.
          Answers-then g.S.Service.answers _ _ _ _ _ _ so_far (c.step.ensures.answers held));
      asks =
          asks_both g.C.Sockets.requests t.sockets at.sockets c.step.new.self.sockets
          (AsksSteps c.args.wait c.loop-turn._turn t at)
          (StepsBy c.args.wait step_is.GoesOn at c.step.new.self)
          (AsksSteps c.args.wait (c.loop-turn._turn + 1) t c.step.new.self)
          (λ xs ys h k. steps_more c.args.wait c.loop-turn._turn t at c.step.new.self xs ys h k)
          before.asks c.in-GoesOn.ensures.asks;
    }

pub returns-in-Over-clause-served : goal.returns-in-Over-clause-served
returns-in-Over-clause-served g c = record {
  terms = c.step.ensures.terms ∙ c.loop-turn.invariant.terms;
  answered =
      ∥∥₁_map₂ c.loop-turn.invariant.answers c.loop-turn.self.kept (λ so_far held.
      Answers-then g.S.Service.answers _ _ _ _ _ _ so_far (c.step.ensures.answers held));
}

pub returns-in-Failed-clause-served : goal.returns-in-Failed-clause-served
returns-in-Failed-clause-served g c = record {
  terms = c.step.ensures.terms ∙ c.loop-turn.invariant.terms;
  answered =
      ∥∥₁_map₂ c.loop-turn.invariant.answers c.loop-turn.self.kept (λ so_far held.
      Answers-then g.S.Service.answers _ _ _ _ _ _ so_far (c.step.ensures.answers held));
}

pub returns-clause-served : goal.returns-clause-served
returns-clause-served g c = record {
  terms = c.loop-turn.invariant.terms;
  answered = c.loop-turn.invariant.answers;
}

pub returns-in-Over-clause-asks : goal.returns-in-Over-clause-asks
returns-in-Over-clause-asks g c =
    let t = c.args.self.now.table in
    let at = c.loop-turn.self.table in
    let turn = c.loop-turn._turn in
    let new = c.step.new.self in
    let wait = c.args.wait in
    let now = c.in-Over.now in
    asks_both g.C.Sockets.requests t.sockets at.sockets new.sockets
    (AsksSteps wait turn t at) (StepsBy wait (step_is.Over now) at new)
    (AsksRound wait (Some now) t new)
    (λ xs ys h k. round_ends wait turn (Some now) t at new xs ys h (λ n is. k))
    c.loop-turn.invariant.asks c.in-Over.ensures.asks

pub returns-in-Failed-clause-asks : goal.returns-in-Failed-clause-asks
returns-in-Failed-clause-asks g c =
    let t = c.args.self.now.table in
    let at = c.loop-turn.self.table in
    let turn = c.loop-turn._turn in
    let new = c.step.new.self in
    let wait = c.args.wait in
    asks_both g.C.Sockets.requests t.sockets at.sockets new.sockets
    (AsksSteps wait turn t at) (StepsBy wait step_is.Failed at new)
    (AsksRound wait None t new)
    (λ xs ys h k. round_ends wait turn None t at new xs ys h (λ n is. inl k))
    c.loop-turn.invariant.asks c.in-Failed.ensures.asks

pub returns-clause-asks : goal.returns-clause-asks
returns-clause-asks g c =
    let t = c.args.self.now.table in
    let at = c.loop-turn.self.table in
    let turn = c.loop-turn._turn in
    let wait = c.args.wait in
    asks_as g.C.Sockets.requests t.sockets at.sockets (AsksSteps wait turn t at)
    (AsksRound wait None t at) (λ xs h. subst (λ z. AsksRound wait None t at z)
    (append-nil xs) (round_ends wait turn None t at at xs [] h (λ n is.
    inr (omega (arith, is, c.loop-turn-test.false, c.loop-turn.auto._turn-end), refl, refl))))
    c.loop-turn.invariant.asks
