use Rattle.std.proofs.Common.{◌≡◌, ◌-◌, None, length, drop, arith}
use Rattle.std.proofs.lemmas.Grind.{common_steps}
use Rattle.std.proofs.lemmas.List.{take_rest, length-take, length-drop}
use Rattle.seal.proofs.Feeding.{step_fed, step_least, all_fed, rest_fed}
use Rattle.seal.proofs.opener.Opener.feed.Goals.{then-loop-taken-test+else-is_none}
use Rattle.seal.proofs.opener.Opener.feed.Goals.{else-loop-taken-test}
use Rattle.seal.proofs.opener.Opener.feed.Goals as goal

pub loop-taken-preserved : goal.loop-taken-preserved
loop-taken-preserved c =
    let piece = c.args.piece.now in let taken = c.loop-taken.taken in
    let before = c.loop-taken.invariant in let step = c.take-taken.ensures.taken in
    let none : c.loop-taken.self.fault ≡ None = grind (arith, common_steps, c.if-is_none.ensures) in
    record {
      fed = step_fed piece _ _ _ taken c.take-taken.result _ _ _ (take_rest piece taken)
          before.fed none step;
      within =
          omega (
            arith,
            step.within,
            length-take (length piece - taken) (drop taken piece),
            length-drop taken piece,
          );
      least = step_least _ _ _ taken c.take-taken.result _ _ _ before.least step;
      room = omega (arith, before.room, c.take-taken.ensures.room);
    }

pub returns-clause-fed : goal.returns-clause-fed
returns-clause-fed c =
    let before = c.loop-taken.invariant in
    elim c.loop-taken-test.branch [
      | then-loop-taken-test+else-is_none w ↦
          rest_fed c.args.piece.now c.loop-taken.handed.items c.loop-taken.taken c.args.self.now
          c.loop-taken.self (λ none. grind (arith, common_steps, w.is_none.ensures, none))
          before.fed
      | else-loop-taken-test w ↦
          all_fed c.args.piece.now c.loop-taken.handed.items c.loop-taken.taken c.args.self.now
          c.loop-taken.self (omega (arith, w)) before.fed
    ]
