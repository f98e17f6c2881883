use Rattle.std.proofs.Common.{◌≡◌, ◌≤◌, length, None}
use Rattle.multiplex.specs.{declared.table.ServingOptions.ServingOptions, model.Asking.KeepsWoken}
use Rattle.polled.specs.Requests.{Asks}
use Rattle.multiplex.specs.model.{Asking.AsksSome, Scenes.AltersSome, Tables.KeepsAll}
use Rattle.store.specs.declared.home.Home.{Home}
use Rattle.multiplex.proofs.steps.let_go.Given as goal

-- those that were let go so far leave serving as it was
abbrev pub invariant-loop-place : goal.invariant-loop-place
invariant-loop-place g l = record {
  alters : (home : Home) (t : ServingOptions) → t.patience ≡ l.patience
      → AltersSome g.C.Sockets.happened home t None l.initial.table l.table l.initial.clients
      l.clients;
  kept : KeepsAll l.initial.table l.table;
  woken : KeepsWoken l.initial.table.guests.items l.table.guests.items;
  fewer : length l.table.guests.items ≤ length l.initial.table.guests.items;
  time : l.table.time ≡ l.initial.table.time;
  asks : Asks g.C.Sockets.requests l.initial.clients l.clients AsksSome;
}

abbrev pub decreases-loop-place : goal.decreases-loop-place
decreases-loop-place g l = length l.table.guests.items
