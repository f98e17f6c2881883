use Rattle.polled.specs.Requests.{Asks}
use Rattle.multiplex.specs.{declared.ends.ServingEnd.ServingEnd, model.Scenes.Empties}
use Rattle.multiplex.{specs.declared.table.ServingOptions.ServingOptions, proofs.Asked.EndsSome}
use Rattle.store.specs.declared.home.Home.{Home}
use Rattle.multiplex.proofs.steps.let_all_go.Given as goal

-- those so far were ended
abbrev pub invariant-loop-guest : goal.invariant-loop-guest
invariant-loop-guest g l = record {
  told : (home : Home) (t : ServingOptions) (over : ServingEnd)
      → Empties g.C.Sockets.happened home t over l.initial.table l.table l.initial.clients
      l.clients;
  asks : Asks g.C.Sockets.requests l.initial.clients l.clients
      (EndsSome l.initial.table.guests.items l.table.guests.items);
}

abbrev pub decreases-loop-guest : goal.decreases-loop-guest
decreases-loop-guest g l = goal.left-loop-guest g l
