use Rattle.std.proofs.Common.{◌≡◌, refl, List, [], ◌∷◌, length}
use Rattle.multiplex.specs.{Musts.Accepts, Musts.MakesPlace, model.Asking.MayClose}
use Rattle.polled.specs.Requests.{Accepting, Request}
use Rattle.multiplex.proofs.Asked.{accepts_came, accepts_full, asks_both}
use Rattle.multiplex.proofs.Shutting.{enters, no_socket, welcome_keeps}
use Rattle.multiplex.specs.declared.ends.EndReason.TheVariants as why
use Rattle.polled.specs.declared.answers.AcceptedPeer.TheVariants as accepted_is
use Rattle.multiplex.proofs.steps.enter.Goals as goal

pub returns-in-Came-clause-alters : goal.returns-in-Came-clause-alters
returns-in-Came-clause-alters g c =
    enters _ _ c.args.terms _ _ _ _ _ _ _ c.requires.wanted c.requires.room c.in-Came.ensures.told
    c.welcome.ensures.welcomes

pub returns-in-Came-clause-kept : goal.returns-in-Came-clause-kept
returns-in-Came-clause-kept g c =
    welcome_keeps _ _ c.args.terms _ _ _ _ _ _ c.welcome.ensures.most c.welcome.ensures.welcomes

pub returns-in-Full-clause-alters : goal.returns-in-Full-clause-alters
returns-in-Full-clause-alters g c =
    no_socket _ _ c.args.terms _ _ _ _ _ _ c.in-Full.ensures.told
    (c.crowd_out.ensures.alters _ c.args.terms why.NoSocket tt)

pub returns-in-Full-clause-kept : goal.returns-in-Full-clause-kept
returns-in-Full-clause-kept g c = c.crowd_out.ensures.kept _ _

pub returns-in-Came-clause-asks : goal.returns-in-Came-clause-asks
returns-in-Came-clause-asks g c =
    let next = c.args.table.now.next in
    let count = length c.args.table.now.guests.items in
    let one = Accepting next (accepted_is.Came c.in-Came.random) ∷ [] in
    asks_both g.C.Sockets.requests c.args.clients.now c.accept.new.self c.welcome.new.clients
    (λ (xs : List Request). xs ≡ one) (MayClose next) (Accepts next count)
    (λ xs ys is h. accepts_came next count c.in-Came.random xs ys is h)
    (one, c.in-Came.ensures.requests, refl) c.welcome.ensures.asks

pub returns-in-Full-clause-asks : goal.returns-in-Full-clause-asks
returns-in-Full-clause-asks g c =
    let next = c.args.table.now.next in
    let count = length c.args.table.now.guests.items in
    let one = Accepting next accepted_is.Full ∷ [] in
    asks_both g.C.Sockets.requests c.args.clients.now c.accept.new.self c.crowd_out.new.clients
    (λ (xs : List Request). xs ≡ one) (MakesPlace 0 count accepted_is.Full) (Accepts next count)
    (λ xs ys is h. accepts_full next count xs ys is h)
    (one, c.in-Full.ensures.requests, refl) c.crowd_out.ensures.asks
