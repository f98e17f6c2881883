use Rattle.std.proofs.Common.{refl, subst, None}
use Rattle.multiplex.specs.model.{Scenes.lobby_of, Tables.IsLongestAt}
use Rattle.multiplex.proofs.Shutting.{longest_cause, room_cause, shut_keeps, shuts}
use Rattle.multiplex.proofs.steps.crowd_out.Goals as goal

pub returns-clause-alters : goal.returns-clause-alters
returns-clause-alters g c home t w room =
    shuts g.C.Sockets.happened home t w c.in_ok-place.place c.shut.result c.args.table.now
    c.shut.new.table c.args.clients.now c.shut.new.clients (λ before after gone len found.
    room_cause t w (lobby_of c.args.table.now None) gone refl room (longest_cause
    c.args.table.now.guests.items before gone after c.in_ok-place.place len found
    (subst (λ z. IsLongestAt z c.in_ok-place.place) c.deref.ensures.value
    c.in_ok-place.ensures.longest))) c.shut.ensures.shut

pub returns-clause-kept : goal.returns-clause-kept
returns-clause-kept g c home wire =
    shut_keeps g.C.Sockets.happened c.in_ok-place.place c.shut.result c.args.table.now
    c.shut.new.table c.args.clients.now c.shut.new.clients c.shut.ensures.shut home wire
