use Rattle.std.proofs.Common.{Option, Some, ap, refl, subst, sym, ◌∙◌}
use Rattle.sealed.specs.{declared.callers.Holder.Holder, Trials.SealsAs, Trials.TrialOf}
use Rattle.sealed.proofs.trial.Trial.seal.Goals as goal

pub returns-in_ok-sent-in-Some-Hall-clause-seals :
    goal.returns-in_ok-sent-in-Some-Hall-clause-seals
returns-in_ok-sent-in-Some-Hall-clause-seals c =
    let was = c.self.inside in
    let sent = c.in_ok-sent-in-Some-Hall in
    let old : TrialOf = record { hall = was.hall; entry = was.entry; holder = was.holder } in
    let new : TrialOf =
    record { hall = c.seal.new.self; entry = was.entry; holder = was.holder } in
    let holds = rw c.in-Some-Hall.is at c.in-Some-Hall.field-0-is in
    let is = c.in-Some-Hall.is ∙ ap (λ (h : Holder). Some h) holds in
    rw (← c.self.view_is)
    (subst (λ (h : Option Holder). SealsAs h c.args.bytes.now old new sent.sent.items)
    (sym is) (
      c.seal.new.self,
      record { sealed = sent.ensures.sealed; opener = c.seal.ensures.opener },
      refl,
    ))
