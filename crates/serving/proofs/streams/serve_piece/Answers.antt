use Rattle.std.proofs.Common.{sym, ◌∙◌}
use Rattle.serving.proofs.Waiting.{piece_stopped, piece_waited}
use Rattle.serving.proofs.streams.serve_piece.Goals as goal

pub returns-in-Some-clause-piece : goal.returns-in-Some-clause-piece
returns-in-Some-clause-piece g c =
    piece_stopped g.D.Desk g.P.Peers g.W.Write _ _ _ _ _ c.receive.ensures.0
    (sym c.end.ensures ∙ c.in-Some.is) c.receive.ensures.1 c.requires.open

pub returns-in-None-clause-piece : goal.returns-in-None-clause-piece
returns-in-None-clause-piece g c =
    piece_waited g.D.Desk g.P.Peers g.W.Write _ _ _ _ _ _ _ c.receive.ensures.0
    (sym c.end.ensures ∙ c.in-None.is) c.receive.ensures.1 c.serve_waiting.ensures.waiting
