use Rattle.std.proofs.Common.{sym, subst}
use Rattle.answers.{specs.Transcripts.IsFront, proofs.Transcripts.front_grows}
use Rattle.node.proofs.Growing.{handled_grows}
use Rattle.node.proofs.node.NodeDesk.handle.Goals as goal

pub catch_up-requires : goal.catch_up-requires
catch_up-requires g c =
    let t = c.self.inside.transcript in
    let x = c.self.inside.replica in
    subst (IsFront t) (sym c.log.ensures.entries) (front_grows t x.desk.log _
    (handled_grows _ _ _ _ _ _ c.in-Ok.is c.handle.ensures) c.self.invariant)
