use Rattle.std.proofs.Common.{None, take}
use Rattle.polled.specs.Requests.{Asks}
use Rattle.multiplex.specs.declared.table.ServingOptions.{ServingOptions}
use Rattle.multiplex.specs.model.{Asking.WakesAll, Scenes.AltersSome}
use Rattle.store.specs.declared.home.Home.{Home}
use Rattle.multiplex.proofs.steps.wake.Given as goal

-- those so far were woken
abbrev pub invariant-loop-guest : goal.invariant-loop-guest
invariant-loop-guest g l = record {
  told : (home : Home) (t : ServingOptions)
      → AltersSome g.C.Sockets.happened home t None l.table l.table l.initial.clients l.clients;
  asks : Asks g.C.Sockets.requests l.initial.clients l.clients
      (WakesAll (g.D.Desk.home_of l.node) (g.D.Desk.seen l.node) l.table.time
      (take l.guest-index l.table.guests.items));
}
