use Rattle.std.proofs.Common.{[], ◌∷◌}
use Rattle.polled.proofs.Telling.{Tells-nil, Tells-trans}
use Rattle.desk_sockets.specs.Wires.{Began, closed_in}
use Rattle.desk_sockets.proofs.desk_stream.open.Goals as goal

pub returns-in-Some-clause-told : goal.returns-in-Some-clause-told
returns-in-Some-clause-told g c =
    rw c.in-Some.is (Tells-trans _ _ _ (closed_in c.args.before) (Began c.in-Some.address ∷ [])
    c.clear.ensures.told c.begin.ensures.told)

pub returns-in-None-clause-told : goal.returns-in-None-clause-told
returns-in-None-clause-told g c =
    rw c.in-None.is
    (Tells-trans _ _ _ (closed_in c.args.before) [] c.clear.ensures.told (Tells-nil _))
