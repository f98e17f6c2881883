use Rattle.std.proofs.Common.{refl, ap, [], ◌∷◌, true, false}
use Rattle.polled.proofs.Telling.{Tells-trans}
use Rattle.desk_talks.specs.Dialogues.{Lost, Opened}
use Rattle.desk_sockets.specs.Wires.{Closed, Looked}
use Rattle.desk_sockets.specs.declared.desk_connection.Opening.TheVariants as opening_is
use Rattle.desk_sockets.proofs.Driving.{one, one_as, quiet}
use Rattle.desk_sockets.proofs.desk_stream.look_whether_open.Goals as goal

pub returns-in-Later-clause-went : goal.returns-in-Later-clause-went
returns-in-Later-clause-went g c = λ now. (
  Looked opening_is.Later ∷ [],
  (opening_is.Later, refl, refl),
  λ addresses. quiet c.in-Later.ensures.told,
)

pub returns-then-opened-clause-went : goal.returns-then-opened-clause-went
returns-then-opened-clause-went g c = λ now. (
  Looked opening_is.Open ∷ [],
  (opening_is.Open, refl, (c.opened.result, c.opened.ensures.leads)),
  λ addresses. one_as (Opened true) (ap Opened c.if-opened.true) c.opened.ensures.leads
      c.in-Open.ensures.told,
)

pub returns-else-opened-clause-went : goal.returns-else-opened-clause-went
returns-else-opened-clause-went g c = λ now. (
  Looked opening_is.Open ∷ [],
  (opening_is.Open, refl, (c.opened.result, c.opened.ensures.leads)),
  λ addresses. one_as (Opened false) (ap Opened c.if-opened.false) c.opened.ensures.leads
      (Tells-trans _ _ _ (Looked opening_is.Open ∷ []) (Closed ∷ []) c.in-Open.ensures.told
      c.close.ensures.told),
)

pub returns-in-Failed-clause-went : goal.returns-in-Failed-clause-went
returns-in-Failed-clause-went g c = λ now. (
  Looked opening_is.Failed ∷ [],
  (opening_is.Failed, refl, c.lose.ensures.lost),
  λ addresses. one (Lost false) c.lose.ensures.lost
      (Tells-trans _ _ _ (Looked opening_is.Failed ∷ []) (Closed ∷ []) c.in-Failed.ensures.told
      c.lose.ensures.told),
)
