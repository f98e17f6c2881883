use Rattle.std.proofs.Common.{refl, sym, ap, ◌∙◌, ℕ, List, length, min}
use Rattle.mio_sockets.proofs.Linking.{sends_none, sends_some}
use Rattle.mio_sockets.proofs.neighbour.LinkedDeskDialogue.sent.Goals as goal

pub returns-then-taken-eq0-clause-leads : goal.returns-then-taken-eq0-clause-leads
returns-then-taken-eq0-clause-leads c =
    rw (← c.self.view_is) (record {
      desk = refl;
      time = refl;
      answers = tt;
      goes = sends_none c.self.inside.link c.self.inside.now c.args.count
          (ap (λ (xs : List ℕ). min c.args.count (length xs)) (sym c.output.ensures)
          ∙ sym c.min-taken.ensures ∙ c.if-taken-eq0.true);
    })

pub returns-clause-leads : goal.returns-clause-leads
returns-clause-leads c =
    rw (← c.self.view_is) (record {
      desk = refl;
      time = refl;
      answers = tt;
      goes = sends_some c.self.inside.link c.sent.new.self c.self.inside.now c.args.count
          c.min-taken.result (c.min-taken.ensures
          ∙ ap (λ (xs : List ℕ). min c.args.count (length xs)) c.output.ensures)
          c.if-taken-eq0.false c.sent.ensures;
    })
