use Rattle.std.proofs.Common.{◌∙◌, List, ap, length, sym}
use Rattle.std.proofs.Math.Seq.{take-length}
use Rattle.acceptor.specs.declared.entry.Entry.{Entry}
use Rattle.outbox.specs.Outboxes.{looked}
use Rattle.table_service.specs.Steps.{Looks, Mirrors}
use Rattle.table_service.proofs.Steps.{both, step}
use Rattle.table_service.proofs.desks_side.DesksSide.keep_mirror.Goals as goal

pub returns-then-eq-clause-keeps : goal.returns-then-eq-clause-keeps
returns-then-eq-clause-keeps g c =
    step Mirrors c.args.service.now c.keep.new.self (c.keep.ensures.others, c.keep.ensures.went)

pub returns-in_err-look-clause-keeps : goal.returns-in_err-look-clause-keeps
returns-in_err-look-clause-keeps g c =
    both c.args.service.now c.keep.new.self c.look.new.self
    (step Mirrors c.args.service.now c.keep.new.self (c.keep.ensures.others, c.keep.ensures.went))
    (step (Looks c.in_err-look.ensures.err.0) c.keep.new.self c.look.new.self
    c.in_err-look.ensures.err.1)

pub returns-clause-keeps : goal.returns-clause-keeps
returns-clause-keeps g c =
    both c.args.service.now c.keep.new.self c.look.new.self
    (step Mirrors c.args.service.now c.keep.new.self (c.keep.ensures.others, c.keep.ensures.went))
    (step (Looks (length c.keep.new.self.mirroring.entries)) c.keep.new.self c.look.new.self
    (c.in_ok-look.ensures.ok
    ∙ ap (λ (log : List Entry). record c.keep.new.self {
      outbox = looked c.keep.new.self.outbox log;
    }) (sym (take-length c.keep.new.self.mirroring.entries))))
