use Rattle.std.proofs.Common.{◌≡◌, ◌≤◌, length, None}
use Rattle.multiplex.specs.{Musts.stand, Scenes.scene, model.Scenes.Does, model.Tables.AreKept}
use Rattle.multiplex.proofs.Asked.{AsksSteps}
use Rattle.multiplex.proofs.serving_each.serve_rounds.Given as goal

-- steps were taken, and serving goes on
abbrev pub invariant-loop-step : goal.invariant-loop-step
invariant-loop-step g l =
    let d = g.D.Desk in
    record {
      does : Does d g.L.Peers g.C.Sockets.happened (d.home_of l.initial.node) l.terms None
          l.initial.table l.table (scene l.initial.node l.initial.links l.initial.clients)
          (scene l.node l.links l.clients);
      kept : AreKept (d.home_of l.node) l.terms.wire l.table;
      few : length l.table.guests.items ≤ 512;
      home : d.home_of l.node ≡ d.home_of l.initial.node;
      asks : AsksSteps g.C.Sockets.requests g.L.PeerLinks.due g.L.PeerLinks.kept l.terms
          (d.home_of l.initial.node) l._step
          (stand l.initial.table l.initial.links (d.seen l.initial.node))
          (stand l.table l.links (d.seen l.node)) l.initial.clients l.clients;
    }
