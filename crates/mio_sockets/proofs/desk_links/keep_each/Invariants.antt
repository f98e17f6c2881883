use Rattle.mio_sockets.proofs.Each.{SoFar}
use Rattle.mio_sockets.proofs.desk_links.keep_each.Given as goal

-- the links so far were kept
abbrev pub invariant-loop-place : goal.invariant-loop-place
invariant-loop-place g l =
    SoFar g.W.DeskConnection.wired l.now l.initial.desks l.desks l.place
