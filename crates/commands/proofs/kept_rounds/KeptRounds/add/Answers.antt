use Rattle.std.proofs.Common.{refl, subst, nat_eq}
use Rattle.std.specs.List.{IsDistinct}
use Rattle.commands.specs.{Accepted.who_advance, model.Kept.before_in, model.Kept.AreOthers}
use Rattle.commands.proofs.KeptLemmas.{round_pushed, all_free}
use Rattle.commands.proofs.kept_rounds.KeptRounds.add.Goals as goal

pub returns-clause-ok : goal.returns-clause-ok
returns-clause-ok c =
    let before = before_in c.args.id c.args.self.now in
    let waits = rw c.round_before-2.ensures at c.in_ok-waiting.ensures.order in
    record {
      adds =
          rw c.in_ok-push.ensures.items
          (round_pushed c.args.self.now.opened.items _ c.args.id.event c.args.id.round _ _ _ refl
          refl (rw (
            c.in_ok-table.ensures,
            c.deref.ensures.value,
            c.in_ok-numbers.ensures.order,
            c.round_before.ensures,
          )
          refl)
          waits
          (rw (
            c.in_ok-numbers.ensures.order,
            c.round_before.ensures,
            c.started-competitors_before.ensures,
            c.round_before-3.ensures,
          )
          refl)
          all_free c.new.ensures);
      once = subst (IsDistinct nat_eq) waits c.in_ok-waiting.ensures.each_once;
      others =
          subst (AreOthers (who_advance before)) waits
          (rw c.round_before-2.ensures at c.in_ok-waiting.ensures.apart);
    }
